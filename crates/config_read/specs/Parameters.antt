-- The member `action_parameters`, by action.
use Rattle.std.specs.Prelude.{List, ℕ, codes}
use Rattle.serde_json.specs.Data.{Data}
use Rattle.serde_json.specs.Find.{as_object}
use Rattle.override_plan.specs.declared.plain.Plain.TheVariants as plain
use Rattle.ruleset_model.specs.declared.phase.Phase.{Phase}
use Rattle.ruleset_model.specs.Data.{ActData, blocks, challenges, logs, skips, executes, rewrites, redirects}
use Rattle.config_read.specs.declared.action.Action.{Action}
use Rattle.config_read.specs.declared.action.Action.TheVariants as action
use Rattle.config_read.specs.Places.{child}
use Rattle.config_read.specs.Refusals.{Table, ◌▸◌, nothing}
use Rattle.config_read.specs.Members.{member, typed, needed_object}
use Rattle.config_read.specs.Judged.{Judgement}
use Rattle.config_read.specs.Blocks.{block_table, block_at}
use Rattle.config_read.specs.Skipped.{skip_table, skips_at}
use Rattle.config_read.specs.Executions.{execute_table, executed_at, overrides_at}
use Rattle.config_read.specs.Rewrites.{rewrite_table, rewrite_at, redirect_table, redirect_at}

-- what the member holds, where it must be there
abbrev pub needed_parameters : (List ℕ → Data → Table) → List ℕ → Data → Table
needed_parameters held place d =
    needed_object place (codes "action_parameters") d
    ▸ held (child place (codes "action_parameters")) (member (codes "action_parameters") d)

-- the same where it may be absent
abbrev pub optional_parameters : (List ℕ → Data → Table) → List ℕ → Data → Table
optional_parameters held place d =
    typed as_object place (codes "action_parameters") d
    ▸ held (child place (codes "action_parameters")) (member (codes "action_parameters") d)

-- what it holds isn't read
abbrev pub unread : List ℕ → Data → Table
unread place d = nothing

-- those of `execute`, `rewrite` and `redirect`
abbrev pub executions_table : List Data → Phase → List ℕ → Data → Table
executions_table all phase = needed_parameters (execute_table all phase)

abbrev pub rewrites_table : Judgement → Phase → List ℕ → Data → Table
rewrites_table judge phase = needed_parameters (rewrite_table judge phase)

abbrev pub redirects_table : Judgement → Phase → List ℕ → Data → Table
redirects_table judge phase = needed_parameters (redirect_table judge phase)

-- of the rule at a place
abbrev pub parameters_table : Judgement → List Data → Phase → Action → List ℕ → Data → Table
parameters_table judge all phase action.Block = optional_parameters block_table
parameters_table judge all phase action.Skip = needed_parameters skip_table
parameters_table judge all phase action.Execute = executions_table all phase
parameters_table judge all phase action.Rewrite = rewrites_table judge phase
parameters_table judge all phase action.Redirect = redirects_table judge phase
parameters_table judge all phase other = optional_parameters unread

-- what the member holds
abbrev pub parameters : Data → Data
parameters d = member (codes "action_parameters") d

-- which ruleset is executed, and with which overrides
abbrev pub execution_at : List Data → Data → ActData
execution_at all d = executes (executed_at all d) (overrides_at (member (codes "overrides") d))

-- what the rule does, by its action and what that member holds
abbrev pub act_of : List Data → Phase → Action → Data → ActData
act_of all phase action.Block d = blocks (block_at phase d)
act_of all phase action.ManagedChallenge d = challenges plain.ManagedChallenge
act_of all phase action.JsChallenge d = challenges plain.JsChallenge
act_of all phase action.Challenge d = challenges plain.Challenge
act_of all phase action.Log d = logs
act_of all phase action.Skip d = skips (skips_at d)
act_of all phase action.Execute d = execution_at all d
act_of all phase action.Rewrite d = rewrites (rewrite_at d)
act_of all phase action.Redirect d = redirects (redirect_at d)

-- the same of the rule that has that member
abbrev pub act_of_rule : List Data → Phase → Action → Data → ActData
act_of_rule all phase a d = act_of all phase a (parameters d)
