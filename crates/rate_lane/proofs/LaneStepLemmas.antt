-- The moment of a lane, and what it stands for after a step.
use Rattle.std.proofs.Common.{◌≡◌, ◌⊎◌, inl, inr, map, ℕ, ◌≤◌, max, Bool, true, false, cond, not, ◌&&◌, nat_lt, List, [], ◌∷◌, ◌++◌, fold, Option, Some, None, refl, sym, ap, ◌∙◌, subst, arith, true≢false, eq-eqb}
use Rattle.std.proofs.lemmas.List.{map-append}
use Rattle.std.proofs.lemmas.List.Sums.{fold_push}
use Rattle.rate_plain.specs.KeyParts.{KeyParts}
use Rattle.rate_plain.specs.Keys.{lane_of_key}
use Rattle.rate_plain.specs.Window.{entries_in, latest_of, moment_of, is_live, answer_at, answer_of}
use Rattle.rate_plain.specs.History.{entry_of}
use Rattle.rate_plain.specs.declared.entry.Ask.{Ask}
use Rattle.rate_plain.specs.declared.entry.Entry.{Entry}
use Rattle.rate_plain.specs.declared.entry.Answer.{Answer}
use Rattle.rate_lane.specs.KeyState.{entry_at}
use Rattle.rate_lane.specs.Index.{Entries, state_of, live_at, IsKept, KeepsAll}
use Rattle.rate_lane.specs.Stepping.{is_roomy, needs_memory, with_step, TakesStep}
use Rattle.rate_lane.specs.declared.key_state.KeyState.{KeyState}
use Rattle.rate_lane.proofs.KeyStateLemmas.{ascends_to}
use Rattle.rate_lane.proofs.LaneLemmas.{only_lane}

-- all entries are of the only lane
all_in : (lane : ℕ) → lane ≡ 0 → (history : List Entry) → entries_in 1 lane history ≡ history
all_in lane only [] = refl
all_in lane only (e ∷ es) =
    ap (λ b. cond b (e ∷ entries_in 1 lane es) (entries_in 1 lane es)) (eq-eqb (lane_of_key 1 e.key) lane (only_lane e.key ∙ sym only))
    ∙ ap (λ t. e ∷ t) (all_in lane only es)

-- the greatest from a number on is the greater of it and the greatest
latest_from : (moment : ℕ) (moments : List ℕ) → fold max moment moments ≡ max moment (fold max 0 moments)
latest_from moment [] = omega arith
latest_from moment (x ∷ xs) =
    let one = latest_from (max moment x) xs in
    let two = latest_from (max 0 x) xs in
    omega (arith, one, two)

-- the later of a lane's moment and another
pub latest_is : (history : List Entry) (asked moment at : ℕ) → moment ≡ latest_of 0 history → at ≡ max moment asked → at ≡ latest_of asked history
latest_is history asked moment at last is =
    let most = latest_from asked (map (λ e. e.at) history) in
    omega (arith, last, is, most)

-- the moment of a step
pub moment_is : (history : List Entry) (key : KeyParts) (asked moment at : ℕ) → moment ≡ latest_of 0 history → at ≡ max moment asked → at ≡ moment_of 1 history key asked
moment_is history key asked moment at last is =
    latest_is history asked moment at last is ∙ sym (ap (latest_of asked) (all_in (lane_of_key 1 key) (only_lane key) history))

-- what is kept stands for the same steps from any later moment on
pub keeps_later : (entries : Entries) (sooner at : ℕ) (history : List Entry) → sooner ≤ at → KeepsAll entries sooner history → KeepsAll entries at history
keeps_later entries sooner at history before was q = by (state_of entries q) (was q)
  where
    by : (s : Option KeyState) → IsKept s q sooner history → IsKept s q at history
    by None gone = λ later h. gone later (omega (arith, before, h))
    by (Some state) its = record {
      counted = λ later h. its.counted later (omega (arith, before, h));
      held = λ later h. its.held later (omega (arith, before, h));
      live = λ later h. its.live later (omega (arith, before, h));
      ascends = ascends_to 0 state.moments.items sooner at before its.ascends;
      some_place = its.some_place;
      places = its.places;
      within = its.within;
    }

-- the lane after a step stands for the list with that step
pub stands_after : (moment at : ℕ) (entries after : Entries) (cap : ℕ) (history : List Entry) (ask : Ask) (answer : Answer) →
    moment ≡ latest_of 0 history → KeepsAll entries moment history → at ≡ max moment ask.asked → TakesStep entries after cap ask at answer →
    (answer ≡ answer_of 1 cap history ask)
    × ((caller : ℕ) → (at ≡ latest_of 0 (history ++ entry_of 1 cap history caller ask ∷ [])) × KeepsAll after at (history ++ entry_of 1 cap history caller ask ∷ []))
stands_after moment at entries after cap history ask answer last was is taken = (told, goes)
  where
    now : at ≡ moment_of 1 history ask.key ask.asked
    now = moment_is history ask.key ask.asked moment at last is

    step : (answer ≡ answer_at 1 cap history ask at) × ((caller : ℕ) → KeepsAll after at (with_step history caller ask at answer))
    step = taken history (keeps_later entries moment at history (omega (arith, is)) was)

    told : answer ≡ answer_of 1 cap history ask
    told = step.0 ∙ ap (answer_at 1 cap history ask) now

    same : (caller : ℕ) → with_step history caller ask at answer ≡ history ++ entry_of 1 cap history caller ask ∷ []
    same caller = λ i. history ++ entry_at caller ask.asked ask.key (now i) ask.adds (told i) ∷ []

    latest : (entry : Entry) → latest_of 0 (history ++ entry ∷ []) ≡ max (latest_of 0 history) entry.at
    latest entry = ap (fold max 0) (map-append (λ e. e.at) history (entry ∷ [])) ∙ fold_push max 0 (map (λ e. e.at) history) entry.at

    goes : (caller : ℕ) → (at ≡ latest_of 0 (history ++ entry_of 1 cap history caller ask ∷ [])) × KeepsAll after at (history ++ entry_of 1 cap history caller ask ∷ [])
    goes caller =
        let whole = latest (entry_of 1 cap history caller ask) in
        (omega (arith, last, is, now, whole), subst (KeepsAll after at) (same caller) (step.1 caller))

-- where the ask doesn't add, or its key is live with room, no memory is needed
pub spares : (moment at : ℕ) (entries : Entries) (history : List Entry) (ask : Ask) → moment ≡ latest_of 0 history → KeepsAll entries moment history → at ≡ max moment ask.asked →
    (ask.adds ≡ false) ⊎ ((is_live ask.key (moment_of 1 history ask.key ask.asked) history ≡ true) × (is_roomy (state_of entries ask.key) ≡ true)) → needs_memory entries ask at ≡ false
spares moment at entries history ask last was is (inl looks) = ap (λ b. b && not (is_roomy (live_at at (state_of entries ask.key)))) looks
spares moment at entries history ask last was is (inr live) = by (state_of entries ask.key) (was ask.key) live.1
  where
    now : is_live ask.key at history ≡ true
    now = ap (λ m. is_live ask.key m history) (moment_is history ask.key ask.asked moment at last is) ∙ live.0

    and_false : (b : Bool) → (b && false) ≡ false
    and_false true = refl
    and_false false = refl

    by : (s : Option KeyState) → IsKept s ask.key moment history → is_roomy s ≡ true → (ask.adds && not (is_roomy (live_at at s))) ≡ false
    by None its roomy = absurd (true≢false (sym roomy))
    by (Some state) its roomy =
        let alive : nat_lt at state.live_until ≡ true = sym (its.live at (omega (arith, is))) ∙ now in
        ap (λ b. ask.adds && not (is_roomy (cond b (Some state) None))) alive ∙ ap (λ b. ask.adds && not b) roomy ∙ and_false ask.adds
