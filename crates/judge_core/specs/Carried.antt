-- What is carried from rule to rule, and how a judging ends.
use Rattle.std.specs.Prelude.{ℕ, List, Option}
use Rattle.edge_base.specs.declared.message.Request.{Request}
use Rattle.edge_base.specs.declared.message.Reply.{Reply}
use Rattle.edge_base.specs.declared.rule_name.RuleName.{RuleName}
use Rattle.judge_core.specs.declared.kept.KeptCount.{KeptCount}
use Rattle.override_plan.specs.declared.overrides.Overrides.{Overrides}
use Rattle.rewrite_apply.specs.declared.changes.Changes.{Changes}
use Rattle.ruleset_model.specs.declared.skips.Skips.{Skips}
use Rattle.ruleset_model.specs.declared.verdict.VerdictKind.{VerdictKind}

-- the request and, where it is judged, the reply, as they stood when the phase began; the skips so far; what this phase
-- changes when it ends; the rules that were noted; and those that count by the reply
pub record Carried : Type 0 where
  pub request : Request
  pub reply : Option Reply
  pub skips : List Skips
  pub changes : Changes
  pub noted : List RuleName
  pub kept : List KeptCount

-- a judging passes all its phases, or a rule ends it
pub data End : Type 0 where
  Passed : Carried → End
  Closed : VerdictKind → RuleName → Carried → End

-- what a rule does to the judging: it goes on; the ruleset in which the rule stands ends; the judging ends; or it goes
-- on with a ruleset, by its place, under overrides
pub data Deed : Type 0 where
  Goes : Carried → Deed
  Leaves : Carried → Deed
  Closes : VerdictKind → RuleName → Carried → Deed
  Executes : ℕ → Overrides → Carried → Deed
