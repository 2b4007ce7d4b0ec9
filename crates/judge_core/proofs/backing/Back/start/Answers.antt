use Rattle.std.proofs.Common.{refl}
use Rattle.judge_core.specs.declared.backing.Stage.TheVariants as stage
use Rattle.judge_core.proofs.BackLemmas.{starts}
use Rattle.judge_core.proofs.backing.Back.start.Goals as goal

pub returns-clause-stands : goal.returns-clause-stands
returns-clause-stands c =
    λ listed.
    starts listed c.args.judged c.args.reply c.args.at
    (record {
      config = c.args.judged.config;
      at = c.args.at;
      kept = c.args.judged.kept;
      stage = stage.Begins;
      state = c.back_opened-state.result;
    })
    refl refl refl refl c.back_opened-state.ensures

pub returns-clause-told : goal.returns-clause-told
returns-clause-told c = λ listed told. told
