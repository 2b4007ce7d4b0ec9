use Rattle.std.proofs.Common.{◌≡◌, take}
use Rattle.std.specs.Prelude.{bytes_eq}
use Rattle.override_plan.specs.Speakers.{enabled_by, action_by}
use Rattle.override_plan.proofs.resolution.heard_of_rule.Given as goal

-- what the entries before the next one say
abbrev pub invariant-loop-name : goal.invariant-loop-name
invariant-loop-name l = record {
  enabled : l.said.enabled ≡ enabled_by (bytes_eq l.rule) (take l.name-index l.entries) l.fn.before;
  action : l.said.action ≡ action_by (bytes_eq l.rule) (take l.name-index l.entries) l.fn.before;
}
