use Rattle.std.proofs.Common.{◌≡◌, take}
use Rattle.override_plan.specs.Speakers.{enabled_by, action_by, has_tag}
use Rattle.override_plan.proofs.resolution.heard_of_tags.Given as goal

-- what the entries before the next one say
abbrev pub invariant-loop-name : goal.invariant-loop-name
invariant-loop-name l = record {
  enabled : l.said.enabled ≡ enabled_by (has_tag l.tags) (take l.name-index l.entries) l.fn.before;
  action : l.said.action ≡ action_by (has_tag l.tags) (take l.name-index l.entries) l.fn.before;
}
