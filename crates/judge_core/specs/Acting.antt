-- What a rule does whose condition is true.
use Rattle.std.specs.Prelude.{ℕ, if◌then◌else◌, List, [], ◌∷◌, ◌++◌, Option, None, Some, codes}
use Rattle.std.specs.Option.{unwrap_or}
use Rattle.edge_base.specs.declared.rule_name.RuleName.{RuleName}
use Rattle.override_plan.specs.declared.plain.Plain.{Plain}
use Rattle.override_plan.specs.declared.plain.Plain.TheVariants as plain
use Rattle.rewrite_apply.specs.Rewrites.{location_of}
use Rattle.ruleset_model.specs.declared.act.Act.{Act}
use Rattle.ruleset_model.specs.declared.act.Act.TheVariants as act
use Rattle.ruleset_model.specs.declared.act.Redirect.{Redirect}
use Rattle.ruleset_model.specs.declared.phase.Phase.{Phase}
use Rattle.ruleset_model.specs.declared.ruleset.Rule.{Rule}
use Rattle.ruleset_model.specs.declared.ruleset.Ruleset.{Ruleset}
use Rattle.ruleset_model.specs.declared.skips.Skips.{Skips}
use Rattle.ruleset_model.specs.declared.verdict.Response.{Response}
use Rattle.ruleset_model.specs.declared.verdict.VerdictKind.{VerdictKind}
use Rattle.ruleset_model.specs.declared.verdict.VerdictKind.TheVariants as kind
use Rattle.ruleset_model.specs.Phases.{is_limiting}
use Rattle.judge_core.specs.Carried.{Carried, Deed, Goes, Leaves, Closes, Executes}
use Rattle.judge_core.specs.Changing.{rewriting}
use Rattle.judge_core.specs.Values.{Listed, text_on}

-- the name of a rule: that of the ruleset in which it stands, and its own
abbrev pub name_of : Ruleset → Rule → RuleName
name_of set rule = record { set_id = set.id; rule = rule.id }

-- what an action is, as far as overrides may change it
abbrev pub plain_of : Act → Plain
plain_of (act.Block response) = plain.Block
plain_of (act.Challenge challenge) = challenge
plain_of act.Log = plain.Log
plain_of other = plain.Other

-- what is sent where a rule blocks and has no response of its own
abbrev pub default_response : Phase → Response
default_response phase = record {
  status_code = if is_limiting phase then 429 else 403;
  content = codes "blocked\n";
  content_type = codes "text/plain";
}

-- the rule's own response, where it blocks by itself and has one
abbrev pub own_response : Act → Option Response
own_response (act.Block response) = response
own_response other = None

abbrev pub response_of : Ruleset → Rule → Response
response_of set rule = unwrap_or (own_response rule.act) (default_response set.phase)

-- the judging ends by the rule
abbrev pub closed_by : Ruleset → Rule → VerdictKind → Carried → Deed
closed_by set rule verdict c = Closes verdict (name_of set rule) c

-- a rule that skips the rest of its ruleset ends that
abbrev pub skipping : Skips → Carried → Deed
skipping skips c =
    let more : Carried = record c { skips = c.skips ++ skips ∷ [] } in
    if skips.current then Leaves more else Goes more

-- a redirect whose target is missing lets the request go on
abbrev pub redirected : Ruleset → Rule → Redirect → Option (List ℕ) → Carried → Deed
redirected set rule redirect None c = Goes c
redirected set rule redirect (Some location) c =
    let target = location_of location redirect.preserve_query_string c.request.target in
    closed_by set rule (kind.Redirect redirect.status_code target) c

abbrev pub redirecting : Listed → Ruleset → Rule → Redirect → Carried → Deed
redirecting listed set rule redirect c = redirected set rule redirect (text_on listed redirect.target_url c) c

-- an action that no override reaches; the others are done by what is left of them then
abbrev pub done : Listed → Ruleset → Rule → Act → Carried → Deed
done listed set rule (act.Skip skips) c = skipping skips c
done listed set rule (act.Execute place overrides) c = Executes place overrides c
done listed set rule (act.Rewrite rewrite) c = Goes (rewriting listed rewrite c)
done listed set rule (act.Redirect redirect) c = redirecting listed set rule redirect c
done listed set rule other c = Goes c

-- the rule acts, with the action that overrides have left it
unfoldable pub acted : Listed → Ruleset → Rule → Plain → Carried → Deed
acted listed set rule plain.Block c = closed_by set rule (kind.Block (response_of set rule)) c
acted listed set rule plain.Log c = Goes (record c { noted = c.noted ++ name_of set rule ∷ [] })
acted listed set rule plain.ManagedChallenge c = closed_by set rule kind.Challenge c
acted listed set rule plain.JsChallenge c = closed_by set rule kind.Challenge c
acted listed set rule plain.Challenge c = closed_by set rule kind.Challenge c
acted listed set rule plain.Other c = done listed set rule rule.act c
