-- The entries of the talks of one thread, as workers show theirs.
use Rattle.std.proofs.Common.{◌≡◌, ℕ, zero, suc, ◌+◌, ◌<◌, ◌≤◌, Bool, true, false, cond, nat_eq, nat_lt, List, [], ◌∷◌, ◌++◌, take, length, Option, None, Some, is_some, slice_get, slice_index_or, refl, sym, ap, subst, ◌∙◌, arith, append_assoc, append-nil, length-append, true≢false, ltb-true, ltb-false}
use Rattle.std.proofs.lemmas.Bool.{eq-eqb, eqb-true}
use Rattle.std.proofs.lemmas.Option.{slice_get-get_or}
use Rattle.std.proofs.Math.Seq.{get_or-append_seam}
use Rattle.edge_base.specs.declared.message.Reply.{Reply}
use Rattle.edge_base.specs.declared.message.Request.{Request}
use Rattle.rate_plain.specs.History.{ask_of, entry_of}
use Rattle.rate_plain.specs.declared.entry.Counted.{Counted}
use Rattle.rate_plain.specs.declared.entry.Entry.{Entry}
use Rattle.ruleset_model.specs.ConfigParts.{ConfigParts}
use Rattle.judge_core.specs.Carried.{End}
use Rattle.judge_core.specs.Judging.{Judgement, judging, judgement, backing, carried_at, judge_reply, seen_as}
use Rattle.judge_core.specs.Talk.{Talk, Ends, Asks, Counts, Done, told}
use Rattle.judge_core.specs.Values.{Listed}
use Rattle.judge_core.proofs.EndLemmas.{replied_at_end}
use Rattle.gate_run.specs.Named.{IsMeaningOf}
use Rattle.gate_run.specs.Went.{Went, answers_of}
use Rattle.edge_main.specs.Answered.{headers_of, reply_backed}
use Rattle.edge_main.specs.Counting.{replied, with_step, talked}
use Rattle.edge_main.specs.Shown.{counting_on}
use Rattle.edge_main.specs.Spread.{AreShown, AreIncreasing, IsFollowed, times}
use Rattle.edge_main.proofs.SpreadLemmas.{get_kept}

-- ---- numbers in order

pub counting_increases : (least from more : ℕ) → least ≤ from → AreIncreasing least (counting_on from more)
counting_increases least from zero order = tt
counting_increases least from (suc more) order = (order, counting_increases (from + 1) (suc from) more (omega arith))

pub times-counting : (number from more : ℕ) → times number (counting_on from more) ≡ cond (nat_lt number from) 0 (cond (nat_lt number (from + more)) 1 0)
times-counting number from zero = by (nat_lt number from) (nat_lt number (from + zero)) refl refl where
  by : (b c : Bool) → nat_lt number from ≡ b → nat_lt number (from + zero) ≡ c → ◌≡◌ {A = ℕ} 0 (cond b 0 (cond c 1 0))
  by true c low high = refl
  by false true low high = absurd (omega (arith, ltb-false number from low, ltb-true number (from + zero) high))
  by false false low high = refl
times-counting number from (suc more) =
    ap (λ (n : ℕ). cond (nat_eq number from) 1 0 + n) (times-counting number (suc from) more)
    ∙ by (nat_eq number from) (nat_lt number from) (nat_lt number (suc from)) (nat_lt number (suc from + more)) (nat_lt number (from + suc more))
    refl refl refl refl refl where
      at_not : number ≡ from → nat_eq number from ≡ false → ⊥
      at_not same at = true≢false (sym (eq-eqb number from same) ∙ at)

      by : (a b c d e : Bool) → nat_eq number from ≡ a → nat_lt number from ≡ b → nat_lt number (suc from) ≡ c → nat_lt number (suc from + more) ≡ d
          → nat_lt number (from + suc more) ≡ e → cond a 1 0 + cond c 0 (cond d 1 0) ≡ cond b 0 (cond e 1 0)
      by true true c d e at low next high top = absurd (omega (arith, eqb-true number from at, ltb-true number from low))
      by true false false d e at low next high top = absurd (omega (arith, eqb-true number from at, ltb-false number (suc from) next))
      by true false true d false at low next high top = absurd (omega (arith, eqb-true number from at, ltb-false number (from + suc more) top))
      by true false true d true at low next high top = refl
      by false true true d e at low next high top = refl
      by false true false d e at low next high top = absurd (omega (arith, ltb-true number from low, ltb-false number (suc from) next))
      by false false true d e at low next high top = absurd (at_not (omega (arith, ltb-false number from low, ltb-true number (suc from) next)) at)
      by false false false true true at low next high top = refl
      by false false false false false at low next high top = refl
      by false false false true false at low next high top = absurd (omega (arith, ltb-true number (suc from + more) high, ltb-false number (from + suc more) top))
      by false false false false true at low next high top = absurd (omega (arith, ltb-false number (suc from + more) high, ltb-true number (from + suc more) top))

-- ---- the entries of a talk

abbrev pub own_entries : {A : Type 0} → Talk A → List Entry → List Entry
own_entries (Ends a) history = []
own_entries (Asks ask answered) history = entry_of 64 4096 history 0 ask ∷ own_entries (answered (replied history ask)) (with_step history ask)

pub talked_history : {A : Type 0} (talk : Talk A) (history : List Entry) → (talked talk history).history ≡ history ++ own_entries talk history
talked_history (Ends a) history = sym (append-nil history)
talked_history (Asks ask answered) history =
    talked_history (answered (replied history ask)) (with_step history ask)
    ∙ append_assoc history (entry_of 64 4096 history 0 ask ∷ []) (own_entries (answered (replied history ask)) (with_step history ask))

last_is : (history : List Entry) (entry : Entry) → slice_get (history ++ entry ∷ []) (length history) ≡ Some entry
last_is history entry =
    slice_get-get_or (history ++ entry ∷ []) (length history) entry (omega (arith, length-append history (entry ∷ [])))
    ∙ ap (λ (found : Entry). Some found) (get_or-append_seam history entry [] entry)

pub talked_shown : {A : Type 0} (talk : Talk A) (history : List Entry)
    → AreShown (talked talk history).history (own_entries talk history) (talked talk history).counts
talked_shown (Ends a) history = tt
talked_shown (Asks ask answered) history =
    let entry = entry_of 64 4096 history 0 ask in
    let rest = answered (replied history ask) in
    let there : slice_get (with_step history ask ++ own_entries rest (with_step history ask)) (length history) ≡ Some entry =
    get_kept (with_step history ask) (own_entries rest (with_step history ask)) (length history) entry (last_is history entry) in (
      subst (λ h. slice_get h (length history) ≡ Some entry) (sym (talked_history rest (with_step history ask))) there,
      refl,
      talked_shown (answered (replied history ask)) (with_step history ask),
    )

talk_asks : {A : Type 0} (talk : Talk A) (history : List Entry) (k : ℕ) (d : Entry) → k < length (own_entries talk history)
    → told talk (answers_of (take k (own_entries talk history))) ≡ Counts (ask_of (slice_index_or (own_entries talk history) k d))
talk_asks (Ends a) history k d below = absurd (omega (arith, below))
talk_asks (Asks ask answered) history zero d below = refl
talk_asks (Asks ask answered) history (suc k) d below = talk_asks (answered (replied history ask)) (with_step history ask) k d (omega (arith, below))

talk_ends : {A : Type 0} (talk : Talk A) (history : List Entry) → told talk (answers_of (own_entries talk history)) ≡ Done (talked talk history).ended
talk_ends (Ends a) history = refl
talk_ends (Asks ask answered) history = talk_ends (answered (replied history ask)) (with_step history ask)

-- ---- a request, and its reply

pub request_went : (listed : Listed) (config : ConfigParts) (request : Request) (history : List Entry)
    → Went listed config request (own_entries (judging listed config request) history) (judgement (talked (judging listed config request) history).ended)
request_went listed config request history = record {
  asked = λ k d below. ap (seen_as judgement) (talk_asks (judging listed config request) history k d below);
  done = ap (seen_as judgement) (talk_ends (judging listed config request) history);
}

-- the reply at an end
abbrev reply_at : End → Option Reply
reply_at end = (carried_at end).reply

reply_there : (o : Option Reply) → is_some o ≡ true → (reply : Reply) × (o ≡ Some reply)
reply_there None some = absurd (true≢false (sym some))
reply_there (Some reply) some = (reply, refl)

-- the entries of the reply that was used
abbrev pub entries_back : Listed → ConfigParts → Judgement → Option (Reply × ℕ) → List Entry → List Entry
entries_back listed config one None history = []
entries_back listed config one (Some used) history = own_entries (backing listed config one used.0 used.1) history

pub reply_followed : (listed : Listed) (config : ConfigParts) (one : Judgement) (used : Option (Reply × ℕ)) (history : List Entry)
    → IsMeaningOf config.lists listed
    → IsFollowed config one used (entries_back listed config one used history) (reply_backed listed config one used history).headers
reply_followed listed config one None history meaning = (refl, refl)
reply_followed listed config one (Some used) history meaning =
    let talk = backing listed config one used.0 used.1 in
    let after = reply_at (talked talk history).ended in
    let done : judge_reply listed config one used.0 used.1 (answers_of (own_entries talk history)) ≡ Done after =
    ap (seen_as reply_at) (talk_ends talk history) in
    let (backed, is) = reply_there after (replied_at_end listed config one used.0 used.1 (answers_of (own_entries talk history)) after done) in
    record {
      listed = listed;
      meaning = meaning;
      backed = backed;
      went = record {
        asked = λ k d below. ap (seen_as reply_at) (talk_asks talk history k d below);
        done = done ∙ ap (λ (o : Option Reply). Done o) is;
      };
      its = ap (λ (o : Option Reply). Some (used.0.headers, headers_of o)) is;
    }

pub history_back : (listed : Listed) (config : ConfigParts) (one : Judgement) (used : Option (Reply × ℕ)) (history : List Entry)
    → (reply_backed listed config one used history).history ≡ history ++ entries_back listed config one used history
history_back listed config one None history = sym (append-nil history)
history_back listed config one (Some used) history = talked_history (backing listed config one used.0 used.1) history

pub shown_back : (listed : Listed) (config : ConfigParts) (one : Judgement) (used : Option (Reply × ℕ)) (history : List Entry)
    → AreShown (reply_backed listed config one used history).history (entries_back listed config one used history)
    (reply_backed listed config one used history).counts
shown_back listed config one None history = tt
shown_back listed config one (Some used) history = talked_shown (backing listed config one used.0 used.1) history

pub shown_both : (history a b : List Entry) (some more : List Counted) → AreShown history a some → AreShown history b more
    → AreShown history (a ++ b) (some ++ more)
shown_both history [] b [] more p q = q
shown_both history [] b (step ∷ some) more p q = absurd p
shown_both history (entry ∷ a) b [] more p q = absurd p
shown_both history (entry ∷ a) b (step ∷ some) more p q = (p.0, p.1, shown_both history a b some more p.2 q)
