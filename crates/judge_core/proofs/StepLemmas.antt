-- What is left of a judging, step by step.
use Rattle.std.proofs.Common.{◌≡◌, ℕ, zero, suc, ◌+◌, Bool, true, false, List, [], ◌∷◌, Option, None, Some, slice_get, drop, Result, Ok, Err, IfOk, OnOk, refl, sym, ap, ◌∙◌, add-one}
use Rattle.override_plan.specs.declared.overrides.Overrides.{Overrides}
use Rattle.override_plan.specs.declared.plain.Effective.{Effective}
use Rattle.override_plan.specs.declared.plain.Plain.{Plain}
use Rattle.rate_plain.specs.declared.entry.Ask.{Ask}
use Rattle.rate_plain.specs.declared.entry.Answer.{Answer}
use Rattle.ruleset_model.specs.ConfigParts.{ConfigParts}
use Rattle.ruleset_model.specs.Entries.{entry_of}
use Rattle.ruleset_model.specs.declared.act.Act.TheVariants as act
use Rattle.ruleset_model.specs.declared.phase.Phase.{Phase}
use Rattle.ruleset_model.specs.declared.ruleset.Rule.{Rule}
use Rattle.ruleset_model.specs.declared.ruleset.Ruleset.{Ruleset}
use Rattle.judge_core.specs.declared.carried.RulePlace.{RulePlace}
use Rattle.judge_core.specs.declared.outcome.Asked.{Asked}
use Rattle.judge_core.specs.declared.outcome.Inner.{Inner}
use Rattle.judge_core.specs.declared.outcome.Outcome.{Outcome}
use Rattle.judge_core.specs.declared.outcome.Reached.{Reached}
use Rattle.judge_core.specs.declared.outcome.Reached.TheVariants as reach
use Rattle.judge_core.specs.declared.outcome.Walk.{Walk}
use Rattle.judge_core.specs.declared.outcome.Where.{Where}
use Rattle.judge_core.specs.declared.outcome.Where.TheVariants as at
use Rattle.judge_core.specs.Carried.{Carried, End, Passed, Deed, Goes, Executes}
use Rattle.judge_core.specs.Changing.{phase_end}
use Rattle.judge_core.specs.Machine.{order, numbered, phase_numbered, until_end, left_between, leaving, rest_of_entry, rest_entered, rest_under, overrides_by, overrides_in, around_entry, around_executed, around_inner, left_entry, left_executed, given, given_at, given_under, answered_at, answered_in, answered_rule, deed_of, reach_seen}
use Rattle.judge_core.specs.Places.{rule_at, Reaches}
use Rattle.judge_core.specs.Judging.{rule_in}
use Rattle.judge_core.specs.Reaching.{own, under, reached, answered}
use Rattle.judge_core.specs.Skipping.{skips_phase, skips_ruleset}
use Rattle.judge_core.specs.Talk.{Talk, Ends, Asks, ◌>>=◌}
use Rattle.judge_core.specs.Values.{Listed}
use Rattle.judge_core.specs.Walk.{then_next, executed, executing, entered, phases}
use Rattle.judge_core.specs.Walks.{place_of, inner_place_of}

-- ---- lists by place
pub drop_found : {X : Type 0} (xs : List X) (n : ℕ) (x : X) → slice_get xs n ≡ Some x → drop n xs ≡ x ∷ drop (suc n) xs
drop_found [] n x there = absurd (cc)
drop_found (y ∷ xs) zero x there = let same : y ≡ x = cc in ap (λ one. one ∷ xs) same
drop_found (y ∷ xs) (suc n) x there = drop_found xs n x there

pub drop_none : {X : Type 0} (xs : List X) (n : ℕ) → slice_get xs n ≡ None → drop n xs ≡ []
drop_none [] zero none = refl
drop_none [] (suc n) none = refl
drop_none (y ∷ xs) zero none = absurd (cc)
drop_none (y ∷ xs) (suc n) none = drop_none xs n none

-- ---- between two phases
phase_found : (xs : List (Option Phase)) (n : ℕ) (phase : Phase) → numbered (slice_get xs n) ≡ Some phase
    → until_end (drop n xs) ≡ phase ∷ until_end (drop (suc n) xs)
phase_found [] n phase there = absurd (cc)
phase_found (None ∷ xs) zero phase there = absurd (cc)
phase_found (Some one ∷ xs) zero phase there = let same : one ≡ phase = cc in ap (λ found. found ∷ until_end xs) same
phase_found (one ∷ xs) (suc n) phase there = phase_found xs n phase there

no_phase : (xs : List (Option Phase)) (n : ℕ) → numbered (slice_get xs n) ≡ None → until_end (drop n xs) ≡ []
no_phase [] zero none = refl
no_phase [] (suc n) none = refl
no_phase (None ∷ xs) zero none = refl
no_phase (Some one ∷ xs) zero none = absurd (cc)
no_phase (one ∷ xs) (suc n) none = no_phase xs n none

pub phases_end : (listed : Listed) (config : ConfigParts) (number : ℕ) (c : Carried) → phase_numbered number ≡ None
    → left_between listed config number c ≡ Ends (Passed c)
unfolding phases
phases_end listed config number c none = rw (no_phase order number none) refl

pub phase_skipped : (listed : Listed) (config : ConfigParts) (number : ℕ) (phase : Phase) (c : Carried)
    → phase_numbered number ≡ Some phase → skips_phase c.skips phase ≡ true
    → left_between listed config number c ≡ left_between listed config (number + 1) c
unfolding phases
phase_skipped listed config number phase c there skipped =
    rw (add-one number, phase_found order number phase there, skipped) refl

pub phase_without : (listed : Listed) (config : ConfigParts) (number : ℕ) (phase : Phase) (c : Carried)
    → phase_numbered number ≡ Some phase → skips_phase c.skips phase ≡ false → entry_of config.rulesets phase ≡ None
    → left_between listed config number c ≡ left_between listed config (number + 1) c
unfolding phases
phase_without listed config number phase c there begins without =
    rw (add-one number, phase_found order number phase there, begins, without) refl

pub phase_no_set : (listed : Listed) (config : ConfigParts) (number : ℕ) (phase : Phase) (holder : ℕ) (c : Carried)
    → phase_numbered number ≡ Some phase → skips_phase c.skips phase ≡ false
    → entry_of config.rulesets phase ≡ Some holder → slice_get config.rulesets holder ≡ None
    → left_between listed config number c ≡ left_between listed config (number + 1) c
unfolding phases
phase_no_set listed config number phase holder c there begins entry none =
    rw (add-one number, phase_found order number phase there, begins, entry, none) refl

pub phase_set_skipped : (listed : Listed) (config : ConfigParts) (number : ℕ) (phase : Phase) (holder : ℕ) (set : Ruleset) (c : Carried)
    → phase_numbered number ≡ Some phase → skips_phase c.skips phase ≡ false
    → entry_of config.rulesets phase ≡ Some holder → slice_get config.rulesets holder ≡ Some set → skips_ruleset c.skips set ≡ true
    → left_between listed config number c ≡ left_between listed config (number + 1) c
unfolding phases
phase_set_skipped listed config number phase holder set c there begins entry found skipped =
    rw (add-one number, phase_found order number phase there, begins, entry, found, skipped) refl

pub phase_enters : (listed : Listed) (config : ConfigParts) (number : ℕ) (phase : Phase) (holder : ℕ) (set : Ruleset) (c : Carried)
    → phase_numbered number ≡ Some phase → skips_phase c.skips phase ≡ false
    → entry_of config.rulesets phase ≡ Some holder → slice_get config.rulesets holder ≡ Some set → skips_ruleset c.skips set ≡ false
    → left_between listed config number c ≡ left_entry listed config (number + 1) (record { set = holder; next = 0 }) c
unfolding phases
phase_enters listed config number phase holder set c there begins entry found goes =
    rw (add-one number, phase_found order number phase there, begins, entry, found, goes) refl

-- ---- in an entry point
rest_next : (listed : Listed) (config : ConfigParts) (holder next : ℕ) (set : Ruleset) → slice_get config.rulesets holder ≡ Some set
    → rest_entered listed config holder (next + 1) ≡ entered listed config holder set (suc next) (drop (suc next) set.rules)
rest_next listed config holder next set found =
    ap (λ at_holder. rest_of_entry listed config holder at_holder (next + 1)) found
    ∙ ap (λ n. entered listed config holder set n (drop n set.rules)) (add-one next)

entered_found : (listed : Listed) (config : ConfigParts) (holder next : ℕ) (set : Ruleset) (rule : Rule) (c : Carried)
    → slice_get config.rulesets holder ≡ Some set → slice_get set.rules next ≡ Some rule
    → rest_entered listed config holder next c
    ≡ (reached listed holder next set rule (own rule) c >>= executing listed config >>= then_next (rest_entered listed config holder (next + 1)))
unfolding entered
entered_found listed config holder next set rule c found there =
    ap (λ at_holder. rest_of_entry listed config holder at_holder next c) found
    ∙ ap (λ rules. entered listed config holder set next rules c) (drop_found set.rules next rule there)
    ∙ ap (λ rest. reached listed holder next set rule (own rule) c >>= executing listed config >>= then_next rest)
    (sym (rest_next listed config holder next set found))

came_in_entry : (listed : Listed) (config : ConfigParts) (number : ℕ) (walk : Walk) (set : Ruleset) (rule : Rule) (talk : Talk Deed)
    (c : Carried) → slice_get config.rulesets walk.set ≡ Some set → slice_get set.rules walk.next ≡ Some rule
    → reached listed walk.set walk.next set rule (own rule) c ≡ talk
    → left_entry listed config number walk c ≡ around_entry listed config number walk talk
came_in_entry listed config number walk set rule talk c found there came =
    ap (leaving listed config number) (entered_found listed config walk.set walk.next set rule c found there)
    ∙ ap (around_entry listed config number walk) came

-- the rule at the place was reached, and did something
pub entry_came : (listed : Listed) (config : ConfigParts) (number : ℕ) (walk : Walk) (place : RulePlace) (set : Ruleset) (rule : Rule)
    (effective : Effective) (r : Reached) (outcome : Outcome) (c now : Carried) (rest : Talk End)
    → place ≡ place_of walk → effective ≡ own rule → Reaches config place set rule
    → reached listed place.set place.rule set rule effective c ≡ reach_seen listed set rule effective.action r now
    → r ≡ reach.Came outcome → around_entry listed config number walk (Ends (deed_of rule outcome now)) ≡ rest
    → left_entry listed config number walk c ≡ rest
entry_came listed config number walk place set rule effective r outcome c now rest is_place is_own there seen is_came next =
    came_in_entry listed config number walk set rule (Ends (deed_of rule outcome now)) c
    (rw is_place at there.set_there) (rw is_place at there.rule_there) (rw (is_place, is_own, is_came) at seen)
    ∙ next

asked_in_entry : (listed : Listed) (config : ConfigParts) (number : ℕ) (walk : Walk) (set : Ruleset) (rule : Rule) (ask : Ask)
    (action : Plain) (holds : Bool) (c : Carried) → slice_get config.rulesets walk.set ≡ Some set → slice_get set.rules walk.next ≡ Some rule
    → around_entry listed config number walk (Asks ask (λ answer. Ends (answered listed set rule action holds c answer)))
    ≡ Asks ask (given listed config (record { place = record { phase = number; at = at.Entry walk }; action = action; holds = holds }) c)
asked_in_entry listed config number walk set rule ask action holds c found there =
    let asked : Asked = record { place = record { phase = number; at = at.Entry walk }; action = action; holds = holds } in
    ap (λ go. Asks ask go)
    (sym (ap (λ at_set answer. around_entry listed config number walk (Ends (answered_in listed at_set walk.next asked c answer))) found
    ∙ ap (λ at_rule answer. around_entry listed config number walk (Ends (answered_rule listed set at_rule asked c answer))) there))

-- the rule at the place was reached, and asks a step
pub entry_asked : (listed : Listed) (config : ConfigParts) (number : ℕ) (walk : Walk) (place : RulePlace) (set : Ruleset) (rule : Rule)
    (effective : Effective) (r : Reached) (ask : Ask) (holds : Bool) (c now : Carried)
    → place ≡ place_of walk → effective ≡ own rule → Reaches config place set rule
    → reached listed place.set place.rule set rule effective c ≡ reach_seen listed set rule effective.action r now
    → r ≡ reach.Asks ask holds
    → left_entry listed config number walk c
    ≡ Asks ask (given listed config (record { place = record { phase = number; at = at.Entry walk }; action = effective.action; holds = holds }) now)
entry_asked listed config number walk place set rule effective r ask holds c now is_place is_own there seen asks =
    let found = rw is_place at there.set_there in
    let rule_there = rw is_place at there.rule_there in
    came_in_entry listed config number walk set rule (Asks ask (λ answer. Ends (answered listed set rule effective.action holds now answer))) c
    found rule_there (rw (is_place, asks) at (ap (λ own_now. reached listed place.set place.rule set rule own_now c) (sym is_own) ∙ seen))
    ∙ asked_in_entry listed config number walk set rule ask effective.action holds now found rule_there

no_rule : (listed : Listed) (config : ConfigParts) (holder next : ℕ) (found : Option Ruleset) (c : Carried) → rule_in found next ≡ None
    → rest_of_entry listed config holder found next c ≡ Ends (Goes c)
unfolding entered
no_rule listed config holder next None c none = refl
no_rule listed config holder next (Some set) c none = rw (drop_none set.rules next none) refl

-- where no rule is left the phase ends
pub entry_ends : (listed : Listed) (config : ConfigParts) (number : ℕ) (walk : Walk) (c : Carried) → rule_at config (place_of walk) ≡ None
    → left_entry listed config number walk c ≡ left_between listed config number (phase_end c)
entry_ends listed config number walk c none =
    ap (leaving listed config number) (no_rule listed config walk.set walk.next (slice_get config.rulesets walk.set) c none)

-- a ruleset is to be executed: it isn't there, it is skipped, or its judging begins
pub executes_none : (listed : Listed) (config : ConfigParts) (number : ℕ) (walk : Walk) (holder : ℕ) (overrides : Overrides) (c : Carried)
    → slice_get config.rulesets holder ≡ None
    → around_entry listed config number walk (Ends (Executes holder overrides c))
    ≡ left_entry listed config number (record { set = walk.set; next = walk.next + 1 }) c
executes_none listed config number walk holder overrides c none = rw none refl

pub executes_skipped : (listed : Listed) (config : ConfigParts) (number : ℕ) (walk : Walk) (holder : ℕ) (overrides : Overrides)
    (set : Ruleset) (c : Carried) → slice_get config.rulesets holder ≡ Some set → skips_ruleset c.skips set ≡ true
    → around_entry listed config number walk (Ends (Executes holder overrides c))
    ≡ left_entry listed config number (record { set = walk.set; next = walk.next + 1 }) c
executes_skipped listed config number walk holder overrides set c found skipped = rw (found, skipped) refl

pub executes : (listed : Listed) (config : ConfigParts) (number : ℕ) (walk : Walk) (holder : ℕ) (overrides : Overrides)
    (set : Ruleset) (c : Carried) → overrides_in (rule_at config (place_of walk)) ≡ Some overrides
    → slice_get config.rulesets holder ≡ Some set → skips_ruleset c.skips set ≡ false
    → around_entry listed config number walk (Ends (Executes holder overrides c))
    ≡ left_executed listed config number walk (record { set = holder; next = 0 }) c
executes listed config number walk holder overrides set c by found goes = rw (by, found, goes) refl

-- ---- in an executed ruleset
executed_found : (listed : Listed) (config : ConfigParts) (overrides : Overrides) (by : Option Overrides) (inner : Inner) (set : Ruleset) (rule : Rule)
    (c : Carried) → by ≡ Some overrides → slice_get config.rulesets inner.set ≡ Some set → slice_get set.rules inner.next ≡ Some rule
    → rest_under listed by inner.set (slice_get config.rulesets inner.set) inner.next c
    ≡ (reached listed inner.set inner.next set rule (under overrides rule) c
    >>= then_next (rest_under listed by inner.set (slice_get config.rulesets inner.set) (inner.next + 1)))
unfolding executed
executed_found listed config overrides by inner set rule c is found there =
    rw (add-one inner.next, is, found, drop_found set.rules inner.next rule there) refl

came_in_executed : (listed : Listed) (config : ConfigParts) (number : ℕ) (walk : Walk) (inner : Inner) (overrides : Overrides)
    (set : Ruleset) (rule : Rule) (talk : Talk Deed) (c : Carried) → overrides_in (rule_at config (place_of walk)) ≡ Some overrides
    → slice_get config.rulesets inner.set ≡ Some set → slice_get set.rules inner.next ≡ Some rule
    → reached listed inner.set inner.next set rule (under overrides rule) c ≡ talk
    → left_executed listed config number walk inner c ≡ around_inner listed config number walk inner talk
came_in_executed listed config number walk inner overrides set rule talk c by found there came =
    ap (around_executed listed config number walk)
    (executed_found listed config overrides (overrides_in (rule_at config (place_of walk))) inner set rule c by found there)
    ∙ ap (around_inner listed config number walk inner) came

pub executed_came : (listed : Listed) (config : ConfigParts) (number : ℕ) (walk : Walk) (inner : Inner) (overrides : Overrides)
    (place : RulePlace) (set : Ruleset) (rule : Rule) (effective : Effective) (r : Reached) (outcome : Outcome) (c now : Carried) (rest : Talk End)
    → overrides_in (rule_at config (place_of walk)) ≡ Some overrides
    → place ≡ inner_place_of inner → effective ≡ under overrides rule → Reaches config place set rule
    → reached listed place.set place.rule set rule effective c ≡ reach_seen listed set rule effective.action r now
    → r ≡ reach.Came outcome → around_inner listed config number walk inner (Ends (deed_of rule outcome now)) ≡ rest
    → left_executed listed config number walk inner c ≡ rest
executed_came listed config number walk inner overrides place set rule effective r outcome c now rest by is_place is_under there seen is_came next =
    came_in_executed listed config number walk inner overrides set rule (Ends (deed_of rule outcome now)) c by
    (rw is_place at there.set_there) (rw is_place at there.rule_there) (rw (is_place, is_under, is_came) at seen)
    ∙ next

asked_in_executed : (listed : Listed) (config : ConfigParts) (number : ℕ) (walk : Walk) (inner : Inner) (overrides : Overrides)
    (set : Ruleset) (rule : Rule) (ask : Ask) (action : Plain) (holds : Bool) (c : Carried)
    → overrides_in (rule_at config (place_of walk)) ≡ Some overrides
    → slice_get config.rulesets inner.set ≡ Some set → slice_get set.rules inner.next ≡ Some rule
    → around_inner listed config number walk inner (Asks ask (λ answer. Ends (answered listed set rule action holds c answer)))
    ≡ Asks ask (given listed config (record { place = record { phase = number; at = at.Executed walk inner }; action = action; holds = holds }) c)
asked_in_executed listed config number walk inner overrides set rule ask action holds c by found there =
    let asked : Asked = record { place = record { phase = number; at = at.Executed walk inner }; action = action; holds = holds } in
    ap (λ go. Asks ask go)
    (sym (ap (λ at_by answer. given_under listed config number walk inner at_by asked c answer) by
    ∙ ap (λ at_set answer. around_inner listed config number walk inner (Ends (answered_in listed at_set inner.next asked c answer))) found
    ∙ ap (λ at_rule answer. around_inner listed config number walk inner (Ends (answered_rule listed set at_rule asked c answer))) there))

pub executed_asked : (listed : Listed) (config : ConfigParts) (number : ℕ) (walk : Walk) (inner : Inner) (overrides : Overrides)
    (place : RulePlace) (set : Ruleset) (rule : Rule) (effective : Effective) (r : Reached) (ask : Ask) (holds : Bool) (c now : Carried)
    → overrides_in (rule_at config (place_of walk)) ≡ Some overrides
    → place ≡ inner_place_of inner → effective ≡ under overrides rule → Reaches config place set rule
    → reached listed place.set place.rule set rule effective c ≡ reach_seen listed set rule effective.action r now
    → r ≡ reach.Asks ask holds
    → left_executed listed config number walk inner c
    ≡ Asks ask (given listed config (record { place = record { phase = number; at = at.Executed walk inner }; action = effective.action; holds = holds }) now)
executed_asked listed config number walk inner overrides place set rule effective r ask holds c now by is_place is_under there seen asks =
    let found = rw is_place at there.set_there in
    let rule_there = rw is_place at there.rule_there in
    came_in_executed listed config number walk inner overrides set rule
    (Asks ask (λ answer. Ends (answered listed set rule effective.action holds now answer))) c by found rule_there
    (rw (is_place, asks) at (ap (λ now_under. reached listed place.set place.rule set rule now_under c) (sym is_under) ∙ seen))
    ∙ asked_in_executed listed config number walk inner overrides set rule ask effective.action holds now by found rule_there

no_rule_under : (listed : Listed) (by : Option Overrides) (inner : Inner) (found : Option Ruleset) (c : Carried) → rule_in found inner.next ≡ None
    → rest_under listed by inner.set found inner.next c ≡ Ends (Goes c)
unfolding executed
no_rule_under listed None inner found c none = refl
no_rule_under listed (Some overrides) inner None c none = refl
no_rule_under listed (Some overrides) inner (Some set) c none = rw (drop_none set.rules inner.next none) refl

-- where no rule is left the executing ruleset goes on
pub executed_ends : (listed : Listed) (config : ConfigParts) (number : ℕ) (walk : Walk) (inner : Inner) (c : Carried)
    → rule_at config (inner_place_of inner) ≡ None
    → left_executed listed config number walk inner c ≡ left_entry listed config number (record { set = walk.set; next = walk.next + 1 }) c
executed_ends listed config number walk inner c none =
    ap (around_executed listed config number walk)
    (no_rule_under listed (overrides_in (rule_at config (place_of walk))) inner (slice_get config.rulesets inner.set) c none)

-- where no rule executes it goes on too
pub executed_without : (listed : Listed) (config : ConfigParts) (number : ℕ) (walk : Walk) (inner : Inner) (c : Carried)
    → overrides_in (rule_at config (place_of walk)) ≡ None
    → left_executed listed config number walk inner c ≡ left_entry listed config number (record { set = walk.set; next = walk.next + 1 }) c
executed_without listed config number walk inner c none = rw none refl

none_after : {X : Type 0} (xs : List X) (n : ℕ) → slice_get xs n ≡ None → slice_get xs (suc n) ≡ None
none_after [] n none = refl
none_after (x ∷ xs) zero none = absurd (cc)
none_after (x ∷ xs) (suc n) none = none_after xs n none

no_rule_after : (found : Option Ruleset) (next : ℕ) → rule_in found next ≡ None → rule_in found (next + 1) ≡ None
no_rule_after None next none = refl
no_rule_after (Some set) next none = rw (add-one next) (none_after set.rules next none)

-- where the executing rule isn't there the phase ends
pub executing_gone : (listed : Listed) (config : ConfigParts) (number : ℕ) (walk : Walk) (inner : Inner) (c : Carried)
    → rule_at config (place_of walk) ≡ None
    → left_executed listed config number walk inner c ≡ left_between listed config number (phase_end c)
executing_gone listed config number walk inner c none =
    executed_without listed config number walk inner c (ap overrides_in none)
    ∙ entry_ends listed config number (record { set = walk.set; next = walk.next + 1 }) c
    (no_rule_after (slice_get config.rulesets walk.set) walk.next none)

-- ---- the answer to a step
answered_here : (listed : Listed) (config : ConfigParts) (place there : RulePlace) (set : Ruleset) (rule : Rule) (asked : Asked) (c : Carried)
    (answer : Answer) → place ≡ there → Reaches config place set rule
    → answered_at listed config there asked c answer ≡ answered listed set rule asked.action asked.holds c answer
answered_here listed config place there set rule asked c answer is_place reaches =
    ap (λ at_place. answered_at listed config at_place asked c answer) (sym is_place)
    ∙ ap (λ at_set. answered_in listed at_set place.rule asked c answer) reaches.set_there
    ∙ ap (λ at_rule. answered_rule listed set at_rule asked c answer) reaches.rule_there

answered_nowhere : (listed : Listed) (found : Option Ruleset) (number : ℕ) (asked : Asked) (c : Carried) (answer : Answer)
    → rule_in found number ≡ None → answered_in listed found number asked c answer ≡ Goes c
answered_nowhere listed None number asked c answer none = refl
answered_nowhere listed (Some set) number asked c answer none = ap (λ at_rule. answered_rule listed set at_rule asked c answer) none

-- the rule at the place is answered, and does something
pub entry_answered : (listed : Listed) (config : ConfigParts) (number : ℕ) (walk : Walk) (place : RulePlace) (set : Ruleset) (rule : Rule)
    (asked : Asked) (answer : Answer) (outcome : Outcome) (c now : Carried) (rest : Talk End)
    → place ≡ place_of walk → Reaches config place set rule
    → answered listed set rule asked.action asked.holds c answer ≡ deed_of rule outcome now
    → around_entry listed config number walk (Ends (deed_of rule outcome now)) ≡ rest
    → given_at listed config number (at.Entry walk) asked c answer ≡ rest
entry_answered listed config number walk place set rule asked answer outcome c now rest is_place there seen next =
    ap (λ deed. around_entry listed config number walk (Ends deed))
    (answered_here listed config place (place_of walk) set rule asked c answer is_place there ∙ seen)
    ∙ next

-- where the rule isn't there the phase ends
pub entry_unanswered : (listed : Listed) (config : ConfigParts) (number : ℕ) (walk : Walk) (asked : Asked) (answer : Answer) (c : Carried)
    → rule_at config (place_of walk) ≡ None
    → given_at listed config number (at.Entry walk) asked c answer ≡ left_between listed config number (phase_end c)
entry_unanswered listed config number walk asked answer c none =
    ap (λ deed. around_entry listed config number walk (Ends deed))
    (answered_nowhere listed (slice_get config.rulesets walk.set) walk.next asked c answer none)
    ∙ entry_ends listed config number (record { set = walk.set; next = walk.next + 1 }) c
    (no_rule_after (slice_get config.rulesets walk.set) walk.next none)

pub executed_answered : (listed : Listed) (config : ConfigParts) (number : ℕ) (walk : Walk) (inner : Inner) (overrides : Overrides)
    (place : RulePlace) (set : Ruleset) (rule : Rule) (asked : Asked) (answer : Answer) (outcome : Outcome) (c now : Carried) (rest : Talk End)
    → overrides_in (rule_at config (place_of walk)) ≡ Some overrides → place ≡ inner_place_of inner → Reaches config place set rule
    → answered listed set rule asked.action asked.holds c answer ≡ deed_of rule outcome now
    → around_inner listed config number walk inner (Ends (deed_of rule outcome now)) ≡ rest
    → given_at listed config number (at.Executed walk inner) asked c answer ≡ rest
executed_answered listed config number walk inner overrides place set rule asked answer outcome c now rest by is_place there seen next =
    ap (λ at_by. given_under listed config number walk inner at_by asked c answer) by
    ∙ ap (λ deed. around_inner listed config number walk inner (Ends deed))
    (answered_here listed config place (inner_place_of inner) set rule asked c answer is_place there ∙ seen)
    ∙ next

-- where it isn't there the executing ruleset goes on
pub executed_unanswered : (listed : Listed) (config : ConfigParts) (number : ℕ) (walk : Walk) (inner : Inner) (overrides : Overrides)
    (asked : Asked) (answer : Answer) (c : Carried)
    → overrides_in (rule_at config (place_of walk)) ≡ Some overrides → rule_at config (inner_place_of inner) ≡ None
    → given_at listed config number (at.Executed walk inner) asked c answer
    ≡ left_entry listed config number (record { set = walk.set; next = walk.next + 1 }) c
executed_unanswered listed config number walk inner overrides asked answer c by none =
    ap (λ at_by. given_under listed config number walk inner at_by asked c answer) by
    ∙ ap (λ deed. around_inner listed config number walk inner (Ends deed))
    (answered_nowhere listed (slice_get config.rulesets inner.set) inner.next asked c answer none)
    ∙ executed_ends listed config number walk (record { set = inner.set; next = inner.next + 1 }) c
    (no_rule_after (slice_get config.rulesets inner.set) inner.next none)

-- where no rule executes the phase ends
pub executing_unanswered : (listed : Listed) (config : ConfigParts) (number : ℕ) (walk : Walk) (inner : Inner) (asked : Asked) (answer : Answer)
    (c : Carried) → overrides_in (rule_at config (place_of walk)) ≡ None
    → given_at listed config number (at.Executed walk inner) asked c answer ≡ left_between listed config number (phase_end c)
executing_unanswered listed config number walk inner asked answer c none =
    ap (λ at_by. given_under listed config number walk inner at_by asked c answer) none

-- what comes of the answer, where the rule that asked stands there
pub given_there : (listed : Listed) (config : ConfigParts) (asked : Asked) (there : Where) (c : Carried) (answer : Answer) (rest : Talk End)
    → asked.place.at ≡ there → given_at listed config asked.place.phase there asked c answer ≡ rest
    → given listed config asked c answer ≡ rest
given_there listed config asked there c answer rest is next =
    ap (λ at_place. given_at listed config asked.place.phase at_place asked c answer) is ∙ next

-- ---- what calls give
pub both_ok : {T E : Type 0} (r : Result T E) (P Q : T → Type 0) (R : Type 0) → ((x : T) → P x → R → Q x) → IfOk r P → OnOk r R → IfOk r Q
both_ok (Ok x) P Q R f p h = f x p h
both_ok (Err e) P Q R f p h = tt

-- the rule at the places executes under these overrides
pub executes_here : (config : ConfigParts) (walk : Walk) (place : RulePlace) (set : Ruleset) (rule : Rule) (holder : ℕ) (overrides : Overrides)
    → place ≡ place_of walk → Reaches config place set rule → rule.act ≡ act.Execute holder overrides
    → overrides_in (rule_at config (place_of walk)) ≡ Some overrides
executes_here config walk place set rule holder overrides is_place there acts =
    ap (λ at_place. overrides_in (rule_at config at_place)) (sym is_place) ∙ rw (there.set_there, there.rule_there, acts) refl

-- the rule at the places executes nothing
pub executes_nothing : (config : ConfigParts) (walk : Walk) (place : RulePlace) (set : Ruleset) (rule : Rule)
    → place ≡ place_of walk → Reaches config place set rule → overrides_by rule.act ≡ None
    → overrides_in (rule_at config (place_of walk)) ≡ None
executes_nothing config walk place set rule is_place there none =
    ap (λ at_place. overrides_in (rule_at config at_place)) (sym is_place) ∙ rw (there.set_there, there.rule_there) none
