-- What holds at each end that a judging may come to: the rules that were kept stand where they are said to and count by
-- the reply, and a reply that is judged stays there.
use Rattle.std.proofs.Common.{◌≡◌, ℕ, zero, suc, Bool, true, false, ◌&&◌, ◌||◌, not, if◌then◌else◌, List, [], ◌∷◌, drop, Option, None, Some, is_some, slice_get, refl, sym, ap, ◌∙◌, subst}
use Rattle.std.specs.List.{All}
use Rattle.std.proofs.lemmas.List.Elements.{All-nil, All-push}
use Rattle.edge_base.specs.declared.message.Reply.{Reply}
use Rattle.edge_base.specs.declared.message.Request.{Request}
use Rattle.override_plan.specs.declared.overrides.Overrides.{Overrides}
use Rattle.override_plan.specs.declared.plain.Effective.{Effective}
use Rattle.override_plan.specs.declared.plain.Plain.{Plain}
use Rattle.override_plan.specs.declared.plain.Plain.TheVariants as plain
use Rattle.rate_plain.specs.KeyParts.{KeyParts}
use Rattle.rate_plain.specs.declared.entry.Answer.{Answer}
use Rattle.ruleset_model.specs.ConfigParts.{ConfigParts}
use Rattle.ruleset_model.specs.Entries.{entry_of}
use Rattle.ruleset_model.specs.Phases.{request_phases}
use Rattle.ruleset_model.specs.declared.act.Act.{Act}
use Rattle.ruleset_model.specs.declared.act.Act.TheVariants as act
use Rattle.ruleset_model.specs.declared.act.Redirect.{Redirect}
use Rattle.ruleset_model.specs.declared.limit.Limit.{Limit}
use Rattle.ruleset_model.specs.declared.phase.Phase.{Phase}
use Rattle.ruleset_model.specs.declared.phase.Phase.TheVariants as phase
use Rattle.ruleset_model.specs.declared.ruleset.Rule.{Rule}
use Rattle.ruleset_model.specs.declared.ruleset.Ruleset.{Ruleset}
use Rattle.judge_core.specs.declared.kept.KeptCount.{KeptCount}
use Rattle.judge_core.specs.Acting.{acted, done, name_of, redirected}
use Rattle.judge_core.specs.Carried.{Carried, End, Passed, Closed, Deed, Goes, Leaves, Closes, Executes}
use Rattle.judge_core.specs.Changing.{phase_end, settled}
use Rattle.judge_core.specs.Judging.{Judgement, backing, came, carried_at, counting_at, counting_in, judge, judge_reply, judgement, judging, kept_then, limit_in, replying, rule_in, seen_as}
use Rattle.judge_core.specs.Ends.{CountsThere}
use Rattle.judge_core.specs.Limits.{adds_on, counts_reply, is_by_reply, key_on}
use Rattle.judge_core.specs.Reaching.{acted_where, answered, by_limit, is_over, keeping, limited, own, reached, under}
use Rattle.judge_core.specs.Skipping.{skips_phase, skips_rule, skips_ruleset}
use Rattle.judge_core.specs.Talk.{Talk, Ends, Asks, ◌>>=◌, Stand, Counts, Done, Overtold, told}
use Rattle.judge_core.specs.Values.{Listed, is_true_on, text_on}
use Rattle.judge_core.specs.Walk.{back, begun, enter, enter_at, entered, executed, executing, phase_ended, phases, then_next}

-- ---- talks
-- the fact holds of each end that a talk may come to
abbrev AllEnds : {A : Type 0} → (A → Type 0) → Talk A → Type 0
AllEnds Fact (Ends a) = Fact a
AllEnds Fact (Asks ask go) = (answer : Answer) → AllEnds Fact (go answer)

all_then : {A B : Type 0} (First : A → Type 0) (Last : B → Type 0) (talk : Talk A) (go : A → Talk B) → AllEnds First talk
    → ((a : A) → First a → AllEnds Last (go a)) → AllEnds Last (talk >>= go)
all_then First Last (Ends a) go first next = next a first
all_then First Last (Asks ask answered) go first next = λ answer. all_then First Last (answered answer) go (first answer) next

at_end : {A : Type 0} (Fact : A → Type 0) (talk : Talk A) (answers : List Answer) (a : A) → AllEnds Fact talk → told talk answers ≡ Done a
    → Fact a
at_end Fact (Ends b) [] a all is = let same : b ≡ a = cc in subst Fact same all
at_end Fact (Ends b) (one ∷ answers) a all is = absurd (cc)
at_end Fact (Asks ask go) [] a all is = absurd (cc)
at_end Fact (Asks ask go) (one ∷ answers) a all is = at_end Fact (go one) answers a (all one) is

seen_done : {A B : Type 0} (f : A → B) (stand : Stand A) (b : B) → seen_as f stand ≡ Done b → (a : A) × (stand ≡ Done a) × (f a ≡ b)
seen_done f (Counts ask) b is = absurd (cc)
seen_done f (Done a) b is = let same : f a ≡ b = cc in (a, refl, same)
seen_done f Overtold b is = absurd (cc)

by_choice : {A : Type 0} (Fact : A → Type 0) (b : Bool) (x y : A) → (b ≡ true → Fact x) → (b ≡ false → Fact y) → Fact (if b then x else y)
by_choice Fact true x y chosen other = chosen refl
by_choice Fact false x y chosen other = other refl

-- ---- what is carried
-- the rules that were kept count where they stand, and there is a reply or none
record Fits (config : ConfigParts) (replies : Bool) (c : Carried) : Type 0 where
  kept : All (CountsThere config) c.kept
  reply : is_some c.reply ≡ replies

abbrev DeedFits : ConfigParts → Bool → Deed → Type 0
DeedFits config replies (Goes c) = Fits config replies c
DeedFits config replies (Leaves c) = Fits config replies c
DeedFits config replies (Closes verdict name c) = Fits config replies c
DeedFits config replies (Executes place overrides c) = Fits config replies c

abbrev EndFits : ConfigParts → Bool → End → Type 0
EndFits config replies (Passed c) = Fits config replies c
EndFits config replies (Closed verdict name c) = Fits config replies c

-- the same rules are kept, and the reply is there as it was
same_fits : (config : ConfigParts) (replies : Bool) (c after : Carried) → after.kept ≡ c.kept → is_some after.reply ≡ is_some c.reply
    → Fits config replies c → Fits config replies after
same_fits config replies c after kept reply fits = record { kept = subst (All (CountsThere config)) (sym kept) fits.kept; reply = reply ∙ fits.reply }

-- ---- what a rule does
redirected_fits : (config : ConfigParts) (replies : Bool) (set : Ruleset) (rule : Rule) (redirect : Redirect) (location : Option (List ℕ))
    (c : Carried) → Fits config replies c → DeedFits config replies (redirected set rule redirect location c)
redirected_fits config replies set rule redirect None c fits = fits
redirected_fits config replies set rule redirect (Some location) c fits = fits

done_fits : (config : ConfigParts) (replies : Bool) (listed : Listed) (set : Ruleset) (rule : Rule) (a : Act) (c : Carried)
    → Fits config replies c → DeedFits config replies (done listed set rule a c)
done_fits config replies listed set rule (act.Block response) c fits = fits
done_fits config replies listed set rule (act.Challenge plain) c fits = fits
done_fits config replies listed set rule act.Log c fits = fits
done_fits config replies listed set rule (act.Skip skips) c fits =
    by_choice (DeedFits config replies) skips.current _ _ (λ chosen. same_fits config replies c _ refl refl fits)
    (λ other. same_fits config replies c _ refl refl fits)
done_fits config replies listed set rule (act.Execute place overrides) c fits = fits
done_fits config replies listed set rule (act.Rewrite rewrite) c fits = same_fits config replies c _ refl refl fits
done_fits config replies listed set rule (act.Redirect redirect) c fits =
    redirected_fits config replies set rule redirect (text_on listed redirect.target_url c) c fits

acted_fits : (config : ConfigParts) (replies : Bool) (listed : Listed) (set : Ruleset) (rule : Rule) (action : Plain) (c : Carried)
    → Fits config replies c → DeedFits config replies (acted listed set rule action c)
unfolding acted
acted_fits config replies listed set rule plain.Block c fits = fits
acted_fits config replies listed set rule plain.Log c fits = same_fits config replies c _ refl refl fits
acted_fits config replies listed set rule plain.ManagedChallenge c fits = fits
acted_fits config replies listed set rule plain.JsChallenge c fits = fits
acted_fits config replies listed set rule plain.Challenge c fits = fits
acted_fits config replies listed set rule plain.Other c fits = done_fits config replies listed set rule rule.act c fits

where_fits : (config : ConfigParts) (replies : Bool) (listed : Listed) (set : Ruleset) (rule : Rule) (action : Plain) (holds : Bool) (c : Carried)
    → Fits config replies c → DeedFits config replies (acted_where listed set rule action holds c)
where_fits config replies listed set rule action holds c fits =
    by_choice (DeedFits config replies) holds _ _ (λ chosen. acted_fits config replies listed set rule action c fits) (λ other. fits)

answered_fits : (config : ConfigParts) (replies : Bool) (listed : Listed) (set : Ruleset) (rule : Rule) (action : Plain) (holds : Bool) (c : Carried)
    (answer : Answer) → Fits config replies c → DeedFits config replies (answered listed set rule action holds c answer)
unfolding answered
answered_fits config replies listed set rule action holds c answer fits =
    where_fits config replies listed set rule action (is_over answer && holds) c fits

-- the rule at the places has this limit
record Limits (config : ConfigParts) (holder number : ℕ) (set : Ruleset) (rule : Rule) : Type 0 where
  set_there : slice_get config.rulesets holder ≡ Some set
  rule_there : slice_get set.rules number ≡ Some rule

counted_there : (config : ConfigParts) (holder number : ℕ) (set : Ruleset) (rule : Rule) (limit : Limit) (key : KeyParts)
    → Limits config holder number set rule → rule.limit ≡ Some limit → is_by_reply limit.counting ≡ true
    → CountsThere config (record { holder = holder; rule = number; key = key })
counted_there config holder number set rule limit key there limited by_reply =
    ap (λ at_set. is_by_reply (counting_in (limit_in (rule_in at_set number)))) there.set_there
    ∙ ap (λ at_rule. is_by_reply (counting_in (limit_in at_rule))) there.rule_there
    ∙ ap (λ at_limit. is_by_reply (counting_in at_limit)) limited
    ∙ by_reply

keeping_fits : (config : ConfigParts) (replies : Bool) (holder number : ℕ) (set : Ruleset) (rule : Rule) (limit : Limit) (key : KeyParts) (c : Carried)
    → Limits config holder number set rule → rule.limit ≡ Some limit → Fits config replies c
    → Fits config replies (keeping holder number limit key c)
keeping_fits config replies holder number set rule limit key c there limited fits =
    by_choice (Fits config replies) (is_by_reply limit.counting) _ _
    (λ chosen. record {
      kept = All-push (CountsThere config) c.kept _ fits.kept (counted_there config holder number set rule limit key there limited chosen);
      reply = fits.reply;
    })
    (λ other. fits)

limited_fits : (config : ConfigParts) (replies : Bool) (listed : Listed) (holder number : ℕ) (set : Ruleset) (rule : Rule) (action : Plain)
    (found : Option Limit) (holds : Bool) (c : Carried) → Limits config holder number set rule → rule.limit ≡ found → Fits config replies c
    → AllEnds (DeedFits config replies) (by_limit listed holder number set rule action found holds c)
limited_fits config replies listed holder number set rule action None holds c there limited fits =
    where_fits config replies listed set rule action holds c fits
limited_fits config replies listed holder number set rule action (Some limit) holds c there limited fits =
    let key : KeyParts = key_on listed (name_of set rule) limit c in
    let after : Fits config replies (keeping holder number limit key c) =
    keeping_fits config replies holder number set rule limit key c there limited fits in
    by_choice (AllEnds (DeedFits config replies)) (holds || adds_on listed limit.counting holds c) _ _
    (λ chosen answer. answered_fits config replies listed set rule action holds (keeping holder number limit key c) answer after) (λ other. after)

reached_fits : (config : ConfigParts) (replies : Bool) (listed : Listed) (holder number : ℕ) (set : Ruleset) (rule : Rule) (effective : Effective)
    (c : Carried) → Limits config holder number set rule → Fits config replies c
    → AllEnds (DeedFits config replies) (reached listed holder number set rule effective c)
unfolding reached
reached_fits config replies listed holder number set rule effective c there fits =
    by_choice (AllEnds (DeedFits config replies)) (effective.enabled && not (skips_rule c.skips set rule)) _ _
    (λ chosen. limited_fits config replies listed holder number set rule effective.action rule.limit (is_true_on listed rule.filter c) c there refl fits)
    (λ other. fits)

-- ---- the walk
next_fits : (config : ConfigParts) (replies : Bool) (next : Carried → Talk Deed)
    → ((c : Carried) → Fits config replies c → AllEnds (DeedFits config replies) (next c))
    → (deed : Deed) → DeedFits config replies deed → AllEnds (DeedFits config replies) (then_next next deed)
next_fits config replies next rest (Goes c) fits = rest c fits
next_fits config replies next rest (Leaves c) fits = fits
next_fits config replies next rest (Closes verdict name c) fits = fits
next_fits config replies next rest (Executes place overrides c) fits = rest c fits

first_there : {X : Type 0} (xs rest : List X) (n : ℕ) (x : X) → drop n xs ≡ x ∷ rest → slice_get xs n ≡ Some x
first_there [] rest zero x is = absurd (cc)
first_there [] rest (suc n) x is = absurd (cc)
first_there (y ∷ xs) rest zero x is = cc
first_there (y ∷ xs) rest (suc n) x is = first_there xs rest n x is

rest_there : {X : Type 0} (xs rest : List X) (n : ℕ) (x : X) → drop n xs ≡ x ∷ rest → drop (suc n) xs ≡ rest
rest_there [] rest zero x is = absurd (cc)
rest_there [] rest (suc n) x is = absurd (cc)
rest_there (y ∷ xs) rest zero x is = cc
rest_there (y ∷ xs) rest (suc n) x is = rest_there xs rest n x is

executed_fits : (config : ConfigParts) (replies : Bool) (listed : Listed) (overrides : Overrides) (holder : ℕ) (set : Ruleset) (number : ℕ)
    (rules : List Rule) (c : Carried) → slice_get config.rulesets holder ≡ Some set → drop number set.rules ≡ rules → Fits config replies c
    → AllEnds (DeedFits config replies) (executed listed overrides holder set number rules c)
unfolding executed
executed_fits config replies listed overrides holder set number [] c found here fits = fits
executed_fits config replies listed overrides holder set number (rule ∷ rules) c found here fits =
    all_then (DeedFits config replies) (DeedFits config replies) (reached listed holder number set rule (under overrides rule) c)
    (then_next (executed listed overrides holder set (suc number) rules))
    (reached_fits config replies listed holder number set rule (under overrides rule) c
    (record { set_there = found; rule_there = first_there set.rules rules number rule here }) fits)
    (next_fits config replies (executed listed overrides holder set (suc number) rules)
    (λ after its. executed_fits config replies listed overrides holder set (suc number) rules after found
    (rest_there set.rules rules number rule here) its))

back_fits : (config : ConfigParts) (replies : Bool) (deed : Deed) → DeedFits config replies deed → AllEnds (DeedFits config replies) (back deed)
back_fits config replies (Goes c) fits = fits
back_fits config replies (Leaves c) fits = fits
back_fits config replies (Closes verdict name c) fits = fits
back_fits config replies (Executes place overrides c) fits = fits

begun_fits : (config : ConfigParts) (replies : Bool) (listed : Listed) (overrides : Overrides) (holder : ℕ) (found : Option Ruleset) (c : Carried)
    → slice_get config.rulesets holder ≡ found → Fits config replies c → AllEnds (DeedFits config replies) (begun listed overrides holder found c)
begun_fits config replies listed overrides holder None c is fits = fits
begun_fits config replies listed overrides holder (Some set) c is fits =
    by_choice (AllEnds (DeedFits config replies)) (skips_ruleset c.skips set) _ _ (λ chosen. fits)
    (λ other. all_then (DeedFits config replies) (DeedFits config replies) (executed listed overrides holder set 0 set.rules c) back
    (executed_fits config replies listed overrides holder set 0 set.rules c is refl fits) (back_fits config replies))

executing_fits : (config : ConfigParts) (replies : Bool) (listed : Listed) (deed : Deed) → DeedFits config replies deed
    → AllEnds (DeedFits config replies) (executing listed config deed)
executing_fits config replies listed (Goes c) fits = fits
executing_fits config replies listed (Leaves c) fits = fits
executing_fits config replies listed (Closes verdict name c) fits = fits
executing_fits config replies listed (Executes place overrides c) fits =
    begun_fits config replies listed overrides place (slice_get config.rulesets place) c refl fits

entered_fits : (config : ConfigParts) (replies : Bool) (listed : Listed) (holder : ℕ) (set : Ruleset) (number : ℕ) (rules : List Rule) (c : Carried)
    → slice_get config.rulesets holder ≡ Some set → drop number set.rules ≡ rules → Fits config replies c
    → AllEnds (DeedFits config replies) (entered listed config holder set number rules c)
unfolding entered
entered_fits config replies listed holder set number [] c found here fits = fits
entered_fits config replies listed holder set number (rule ∷ rules) c found here fits =
    all_then (DeedFits config replies) (DeedFits config replies)
    (reached listed holder number set rule (own rule) c >>= executing listed config)
    (then_next (entered listed config holder set (suc number) rules))
    (all_then (DeedFits config replies) (DeedFits config replies) (reached listed holder number set rule (own rule) c) (executing listed config)
    (reached_fits config replies listed holder number set rule (own rule) c
    (record { set_there = found; rule_there = first_there set.rules rules number rule here }) fits)
    (executing_fits config replies listed))
    (next_fits config replies (entered listed config holder set (suc number) rules)
    (λ after its. entered_fits config replies listed holder set (suc number) rules after found
    (rest_there set.rules rules number rule here) its))

settled_fits : (config : ConfigParts) (replies : Bool) (reply : Option Reply) (c : Carried) → c.reply ≡ reply → Fits config replies c
    → Fits config replies (settled reply c)
settled_fits config replies None c is fits = same_fits config replies c _ refl refl fits
settled_fits config replies (Some reply) c is fits = same_fits config replies c _ refl (sym (ap is_some is)) fits

ended_fits : (config : ConfigParts) (replies : Bool) (next : Carried → Talk End)
    → ((c : Carried) → Fits config replies c → AllEnds (EndFits config replies) (next c))
    → (deed : Deed) → DeedFits config replies deed → AllEnds (EndFits config replies) (phase_ended next deed)
ended_fits config replies next rest (Goes c) fits = rest (phase_end c) (settled_fits config replies c.reply c refl fits)
ended_fits config replies next rest (Leaves c) fits = rest (phase_end c) (settled_fits config replies c.reply c refl fits)
ended_fits config replies next rest (Closes verdict name c) fits = fits
ended_fits config replies next rest (Executes place overrides c) fits = rest (phase_end c) (settled_fits config replies c.reply c refl fits)

enter_at_fits : (config : ConfigParts) (replies : Bool) (listed : Listed) (next : Carried → Talk End) (holder : ℕ) (found : Option Ruleset) (c : Carried)
    → ((after : Carried) → Fits config replies after → AllEnds (EndFits config replies) (next after))
    → slice_get config.rulesets holder ≡ found → Fits config replies c
    → AllEnds (EndFits config replies) (enter_at listed config next holder found c)
enter_at_fits config replies listed next holder None c rest is fits = rest c fits
enter_at_fits config replies listed next holder (Some set) c rest is fits =
    by_choice (AllEnds (EndFits config replies)) (skips_ruleset c.skips set) _ _ (λ chosen. rest c fits)
    (λ other. all_then (DeedFits config replies) (EndFits config replies) (entered listed config holder set 0 set.rules c) (phase_ended next)
    (entered_fits config replies listed holder set 0 set.rules c is refl fits) (ended_fits config replies next rest))

enter_fits : (config : ConfigParts) (replies : Bool) (listed : Listed) (next : Carried → Talk End) (holder : Option ℕ) (c : Carried)
    → ((after : Carried) → Fits config replies after → AllEnds (EndFits config replies) (next after)) → Fits config replies c
    → AllEnds (EndFits config replies) (enter listed config next holder c)
enter_fits config replies listed next None c rest fits = rest c fits
enter_fits config replies listed next (Some holder) c rest fits =
    enter_at_fits config replies listed next holder (slice_get config.rulesets holder) c rest refl fits

phases_fit : (config : ConfigParts) (replies : Bool) (listed : Listed) (order : List Phase) (c : Carried) → Fits config replies c
    → AllEnds (EndFits config replies) (phases listed config order c)
unfolding phases
phases_fit config replies listed [] c fits = fits
phases_fit config replies listed (phase ∷ order) c fits =
    by_choice (AllEnds (EndFits config replies)) (skips_phase c.skips phase) _ _ (λ chosen. phases_fit config replies listed order c fits)
    (λ other. enter_fits config replies listed (phases listed config order) (entry_of config.rulesets phase) c
    (phases_fit config replies listed order) fits)

kept_fits : (config : ConfigParts) (replies : Bool) (listed : Listed) (at : ℕ) (c : Carried) (kept : List KeptCount) → Fits config replies c
    → AllEnds (EndFits config replies) (kept_then listed config at c kept)
unfolding kept_then
kept_fits config replies listed at c [] fits = phases_fit config replies listed (phase.ResponseTransform ∷ []) c fits
kept_fits config replies listed at c (one ∷ kept) fits =
    by_choice (AllEnds (EndFits config replies)) (counts_reply listed (counting_at config one) c) _ _
    (λ chosen answer. kept_fits config replies listed at c kept fits) (λ other. kept_fits config replies listed at c kept fits)

-- ---- ends
end_keeps : (config : ConfigParts) (replies : Bool) (end : End) → EndFits config replies end → All (CountsThere config) (judgement end).kept
end_keeps config replies (Passed c) fits = fits.kept
end_keeps config replies (Closed verdict name c) fits = fits.kept

end_replies : (config : ConfigParts) (replies : Bool) (end : End) → EndFits config replies end → is_some (carried_at end).reply ≡ replies
end_replies config replies (Passed c) fits = fits.reply
end_replies config replies (Closed verdict name c) fits = fits.reply

-- the rules that were kept at the end count by the reply
pub kept_at_end : (listed : Listed) (config : ConfigParts) (request : Request) (answers : List Answer) (judged : Judgement)
    → judge listed config request answers ≡ Done judged → All (CountsThere config) judged.kept
kept_at_end listed config request answers judged is =
    let end = seen_done judgement (told (judging listed config request) answers) judged is in
    let opens : Fits config false (came request) = record { kept = All-nil (CountsThere config); reply = refl } in
    let fits : EndFits config false end.0 =
    at_end (EndFits config false) (judging listed config request) answers end.0
    (phases_fit config false listed request_phases (came request) opens) end.1 in
    subst (λ (one : Judgement). All (CountsThere config) one.kept) end.2 (end_keeps config false end.0 fits)

-- there is a reply at the end of its judging
pub replied_at_end : (listed : Listed) (config : ConfigParts) (judged : Judgement) (reply : Reply) (at : ℕ) (answers : List Answer)
    (after : Option Reply) → judge_reply listed config judged reply at answers ≡ Done after → is_some after ≡ true
replied_at_end listed config judged reply at answers after is =
    let end = seen_done (λ (one : End). (carried_at one).reply) (told (backing listed config judged reply at) answers) after is in
    let opens : Fits config true (replying judged reply) = record { kept = All-nil (CountsThere config); reply = refl } in
    let fits : EndFits config true end.0 =
    at_end (EndFits config true) (backing listed config judged reply at) answers end.0
    (kept_fits config true listed at (replying judged reply) judged.kept opens) end.1 in
    sym (ap is_some end.2) ∙ end_replies config true end.0 fits
