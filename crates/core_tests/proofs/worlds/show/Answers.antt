use Rattle.ruleset_model.specs.ConfigParts.{ConfigParts}
use Rattle.judge_core.specs.Values.{Listed}
use Rattle.edge_core.specs.World.{opening_world}
use Rattle.gate_run.proofs.MeaningLemmas.{meaning_of, meaning_is}
use Rattle.core_tests.proofs.worlds.show.Goals as goal

pub run-requires : goal.run-requires
run-requires g c lives within =
    let meaning : ConfigParts → Listed = λ config. meaning_of config.lists in (
      within,
      (
        record { told = λ config valid. record { told = (meaning_is config.lists valid.lists_fine).told } },
        (64, 4096, opening_world c.args.callers, c.in_ok-world.ensures meaning 64 4096 c.requires),
      ),
    )
