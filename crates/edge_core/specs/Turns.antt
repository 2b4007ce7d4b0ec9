-- A judging that is kept with its next turn. No public clause cites these words.
use Rattle.std.specs.Prelude.{◌≡◌, true, Option, None, Some, is_some}
use Rattle.std.specs.Arc.{arc_value}
use Rattle.ruleset_model.specs.ConfigParts.{ConfigParts}
use Rattle.judge_core.specs.declared.backing.Back.{Back}
use Rattle.judge_core.specs.declared.backing.Backing.{Backing}
use Rattle.judge_core.specs.declared.judging.Judge.{Judge}
use Rattle.judge_core.specs.declared.judging.Running.{Running}
use Rattle.edge_core.specs.World.{empty_config}

-- it isn't over
abbrev pub IsGoing : Judge → Type 0
IsGoing judge = is_some judge.running ≡ true

abbrev pub IsGoingBack : Back → Type 0
IsGoingBack back = is_some back.backing ≡ true

-- the configuration by which is judged, while it goes on
abbrev pub config_under : Option Running → ConfigParts
config_under None = empty_config
config_under (Some running) = arc_value running.picked.config

abbrev pub config_behind : Option Backing → ConfigParts
config_behind None = empty_config
config_behind (Some backing) = arc_value backing.config
