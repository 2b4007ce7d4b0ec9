use Rattle.std.proofs.Common.{None, refl}
use Rattle.judge_core.proofs.StandsLemmas.{starts}
use Rattle.judge_core.proofs.judging.Judge.start.Goals as goal

pub returns-clause-stands : goal.returns-clause-stands
returns-clause-stands c =
    λ listed.
    starts listed c.args.picked c.args.request (record { picked = c.args.picked; asked = None; state = c.opened.result })
    refl refl c.opened.ensures

pub returns-clause-told : goal.returns-clause-told
returns-clause-told c = λ listed told. told
