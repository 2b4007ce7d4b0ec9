-- The places of a lane's keys, once one was taken out, and which of them are live.
use Rattle.std.proofs.Common.{◌≡◌, ◌⊎◌, inl, inr, ℕ, zero, suc, ◌+◌, ◌-◌, ◌^◌, ◌<◌, ◌≤◌, ◌≢◌, Bool, true, false, cond, nat_le, List, [], ◌∷◌, length, set, get_or, slice_get, All, Option, Some, None, is_some, IfSome, refl, sym, ap, ◌∙◌, subst, subst₂, ◌++◌, arith, lt-ltb, le-leb, leb-true}
use Rattle.std.specs.List.{IsDistinct, AllByRecursion, swap_remove}
use Rattle.std.specs.Map.{lookup, keys_of, values_of, set_value}
use Rattle.std.proofs.lemmas.Bool.{true≢false, false_from_ne_true, cases_lt}
use Rattle.std.proofs.lemmas.List.{get_or-set_same, get_or-set_other, get_or-take, get_or_default, get_or-map, get_or_append_left, get_or_push, length_push, length-set, length-take}
use Rattle.std.proofs.lemmas.List.Sums.{sum_by-set}
use Rattle.std.proofs.lemmas.Option.{slice_get-get_or, get_or_from_slice_get}
use Rattle.rate_plain.specs.KeyParts.{KeyParts}
use Rattle.rate_plain.specs.Keys.{same_key}
use Rattle.rate_plain.proofs.KeyLemmas.{same_key-refl, same_key-Decides}
use Rattle.rate_lane.specs.Index.{Entries, state_of, IsOrdered, low_count, live_at}
use Rattle.rate_lane.specs.declared.key_state.KeyState.{KeyState}
use Rattle.rate_lane.proofs.KeyStateLemmas.{not_lt}

-- two numbers are the same or not
cases_eq : (a b : ℕ) → (a ≡ b) ⊎ (a ≢ b)
cases_eq a b = by (cases_lt a b) (cases_lt b a)
  where
    by : (a < b) ⊎ (b ≤ a) → (b < a) ⊎ (a ≤ b) → (a ≡ b) ⊎ (a ≢ b)
    by (inl l) r = inr (λ e. omega (arith, e, l))
    by (inr g) (inl l) = inr (λ e. omega (arith, e, l))
    by (inr g) (inr h) = inl (omega (arith, g, h))

-- the state at a place is that of the place's entry
pub value_at : (entries : Entries) (place : ℕ) (state : KeyState) (d : KeyParts × KeyState) → slice_get (values_of entries) place ≡ Some state → place < length entries → (get_or entries place d).1 ≡ state
value_at entries place state d found below =
    sym (get_or-map (λ e. e.1) entries place d d.1 below) ∙ get_or_from_slice_get (values_of entries) place state d.1 found

-- a place with a low number is a key's
pub is_taken : (entries : Entries) (order : List ℕ) (place at : ℕ) → IsOrdered entries order → place < length order → get_or order place 0 ≤ at → at ≤ 2 ^ 53 → place < length entries
is_taken entries order place at ordered within low early = by (cases_lt place (length entries))
  where
    by : (place < length entries) ⊎ (length entries ≤ place) → place < length entries
    by (inl l) = l
    by (inr g) = absurd (none (ordered.free place g within))
      where
        none : 2 ^ 53 < get_or order place 0 → ⊥
        none late = omega (arith, late, low, early)

-- the entry that was taken out, and what is said of it
pub taken_out : (entries : Entries) (place : ℕ) (P : KeyParts × KeyState → Type 0) (r : Option (KeyParts × KeyState)) → r ≡ slice_get entries place → IfSome r P → place < length entries → (p : KeyParts × KeyState) × (slice_get entries place ≡ Some p) × P p
taken_out entries place P (Some p) found said below = (p, sym found, said)
taken_out entries place P None found said below = absurd (no entries place found below)
  where
    no : (es : Entries) (i : ℕ) → None ≡ slice_get es i → i < length es → ⊥
    no [] i e b = omega (arith, b)
    no (x ∷ xs) i e b = true≢false (sym (ap is_some (e ∙ slice_get-get_or (x ∷ xs) i x b)))

module _ (entries : Entries) (order : List ℕ) (place never : ℕ) (ordered : IsOrdered entries order) (below : place < length entries) where
  -- the last place
  abbrev pub last : ℕ
  last = length entries - 1

  -- the numbers once the last has taken the place's
  abbrev pub moved : List ℕ
  moved = set (set order place (get_or order last 0)) last never

  -- a key taken out leaves the others ordered
  pub moved_ordered : (new : Entries) (p : KeyParts × KeyState) → 2 ^ 53 < never → new ≡ swap_remove entries place p → IsOrdered new moved
  moved_ordered new p late out = record {
    within = omega (arith, few, ordered.within, length-set (set order place (get_or order last 0)) last never, length-set order place (get_or order last 0));
    early = early;
    free = free;
  }
    where
      few : length new ≡ length entries - 1
      few = ap length out ∙ length-take (length entries - 1) (set entries place (get_or entries last p)) ∙ omega (arith, length-set entries place (get_or entries last p))

      read : (q : ℕ) → q ≢ last → get_or moved q 0 ≡ get_or (set order place (get_or order last 0)) q 0
      read q other = get_or-set_other (set order place (get_or order last 0)) last q never 0 other

      entry : (q : ℕ) (d : KeyParts × KeyState) → q < last → get_or new q d ≡ get_or (set entries place (get_or entries last p)) q d
      entry q d b = ap (λ es. get_or es q d) out ∙ get_or-take last (set entries place (get_or entries last p)) q d b

      early_at : (q : ℕ) (d : KeyParts × KeyState) → q < last → (q ≡ place) ⊎ (q ≢ place) → get_or moved q 0 ≤ (get_or new q d).1.live_until
      early_at q d b (inl e) =
          let number : get_or moved q 0 ≡ get_or order last 0 = read q (λ f. omega (arith, b, f)) ∙ ap (λ i. get_or (set order place (get_or order last 0)) i 0) e ∙ get_or-set_same order place (get_or order last 0) 0 (omega (arith, below, ordered.within)) in
          let own : get_or new q d ≡ get_or entries last d = entry q d b ∙ ap (λ i. get_or (set entries place (get_or entries last p)) i d) e ∙ get_or-set_same entries place (get_or entries last p) d below ∙ get_or_default entries last p d (omega (arith, below)) in
          omega (arith, number, ap (λ x. x.1.live_until) own, ordered.early last d (omega (arith, below)))
      early_at q d b (inr e) =
          let number : get_or moved q 0 ≡ get_or order q 0 = read q (λ f. omega (arith, b, f)) ∙ get_or-set_other order place q (get_or order last 0) 0 e in
          let own : get_or new q d ≡ get_or entries q d = entry q d b ∙ get_or-set_other entries place q (get_or entries last p) d e in
          omega (arith, number, ap (λ x. x.1.live_until) own, ordered.early q d (omega (arith, b)))

      early : (q : ℕ) (d : KeyParts × KeyState) → q < length new → get_or moved q 0 ≤ (get_or new q d).1.live_until
      early q d b = early_at q d (omega (arith, b, few)) (cases_eq q place)

      free_at : (q : ℕ) → length new ≤ q → q < length order → (q ≡ last) ⊎ (q ≢ last) → 2 ^ 53 < get_or moved q 0
      free_at q past within (inl e) =
          let number : get_or moved q 0 ≡ never = ap (λ i. get_or moved i 0) e ∙ get_or-set_same (set order place (get_or order last 0)) last never 0 (omega (arith, e, within, length-set order place (get_or order last 0))) in
          omega (arith, number, late)
      free_at q past within (inr e) =
          let far : length entries ≤ q = not_last q past e in
          let number : get_or moved q 0 ≡ get_or order q 0 = read q e ∙ get_or-set_other order place q (get_or order last 0) 0 (λ f. omega (arith, far, f, below)) in
          omega (arith, number, ordered.free q far within)
        where
          not_last : (q : ℕ) → length new ≤ q → q ≢ last → length entries ≤ q
          not_last q past e = by (cases_lt q (length entries))
            where
              by : (q < length entries) ⊎ (length entries ≤ q) → length entries ≤ q
              by (inl l) = absurd (e (omega (arith, l, past, few)))
              by (inr g) = g

      free : (q : ℕ) → length new ≤ q → q < length moved → 2 ^ 53 < get_or moved q 0
      free q past within =
          free_at q past (omega (arith, within, length-set (set order place (get_or order last 0)) last never, length-set order place (get_or order last 0))) (cases_eq q last)

  -- and one low number less
  pub moved_fewer : (at : ℕ) → get_or order place 0 ≤ at → at < never → low_count at moved + 1 ≡ low_count at order
  moved_fewer at low late =
      let first = sum_by-set (λ n. cond (nat_le n at) 1 0) order place (get_or order last 0) 0 (omega (arith, below, ordered.within)) in
      let second = sum_by-set (λ n. cond (nat_le n at) 1 0) (set order place (get_or order last 0)) last never 0 (omega (arith, below, ordered.within, length-set order place (get_or order last 0))) in
      let its = ap one (le-leb (get_or order place 0) at low) in
      let none = ap one (not_le never at late) in
      let there = ap (λ n. one (nat_le n at)) (last_moved (cases_eq last place)) in
      omega (arith, first, second, its, none, there)
    where
      one : Bool → ℕ
      one b = cond b 1 0

      not_le : (a b : ℕ) → b < a → nat_le a b ≡ false
      not_le a b l = false_from_ne_true (nat_le a b) (λ e. omega (arith, leb-true a b e, l))

      last_moved : (last ≡ place) ⊎ (last ≢ place) → get_or (set order place (get_or order last 0)) last 0 ≡ get_or order last 0
      last_moved (inl e) = ap (λ i. get_or (set order place (get_or order last 0)) i 0) e ∙ get_or-set_same order place (get_or order last 0) 0 (omega (arith, below, ordered.within))
      last_moved (inr e) = get_or-set_other order place last (get_or order last 0) 0 e

-- a key that stands at a place has the state that stands there
state_at : (entries : Entries) → IsDistinct same_key (keys_of entries) → (place : ℕ) (d : KeyParts × KeyState) → place < length entries → state_of entries (get_or entries place d).0 ≡ Some (get_or entries place d).1
unfolding IsDistinct
state_at [] unique place d below = absurd (none below)
  where
    none : place < 0 → ⊥
    none b = omega (arith, b)
state_at (e ∷ es) unique zero d below = ap (λ b. cond b (Some e.1) (lookup (same_key e.0) es)) (same_key-refl e.0)
state_at (e ∷ es) unique (suc place) d below =
    ap (λ b. cond b (Some e.1) (lookup (same_key (get_or es place d).0) es)) (other es unique.0 place (omega (arith, below)))
    ∙ state_at es unique.1 place d (omega (arith, below))
  where
    other : (es : Entries) → AllByRecursion (λ y. same_key e.0 y ≡ false) (keys_of es) → (place : ℕ) → place < length es → same_key (get_or es place d).0 e.0 ≡ false
    other [] apart place b = absurd (no place b)
      where
        no : (place : ℕ) → place < 0 → ⊥
        no place b = omega (arith, b)
    other (x ∷ xs) apart zero b =
        false_from_ne_true (same_key x.0 e.0) (λ same. true≢false (sym (ap (λ k. same_key e.0 k) ((same_key-Decides x.0 e.0).0 same) ∙ same_key-refl e.0) ∙ apart.0))
    other (x ∷ xs) apart (suc place) b = other xs apart.1 place (omega (arith, b))

-- taking out a dead key leaves the live ones
pub taken_live : (entries new : Entries) (place at : ℕ) (p : KeyParts × KeyState) → IsDistinct same_key (keys_of entries) → place < length entries → slice_get entries place ≡ Some p → p.1.live_until ≤ at →
    ((key : KeyParts) → state_of new key ≡ cond (same_key p.0 key) None (state_of entries key)) → (key : KeyParts) → live_at at (state_of new key) ≡ live_at at (state_of entries key)
taken_live entries new place at p unique below found dead out key =
    ap (live_at at) (out key) ∙ by (same_key p.0 key) refl
  where
    its : state_of entries p.0 ≡ Some p.1
    its = ap (λ e. state_of entries e.0) (sym (get_or_from_slice_get entries place p p found)) ∙ state_at entries unique place p below ∙ ap (λ e. Some e.1) (get_or_from_slice_get entries place p p found)

    by : (b : Bool) → same_key p.0 key ≡ b → live_at at (cond b None (state_of entries key)) ≡ live_at at (state_of entries key)
    by true same =
        sym (ap (live_at at) (ap (state_of entries) (sym ((same_key-Decides p.0 key).0 same)) ∙ its) ∙ ap (λ b. cond b (Some p.1) None) (not_lt at p.1.live_until dead))
    by false other = refl

-- where each number is late, each key is live
pub all_live : (entries : Entries) (order : List ℕ) (at : ℕ) → IsOrdered entries order → All (λ number. at < number) order → (key : KeyParts) → live_at at (state_of entries key) ≡ state_of entries key
all_live entries order at ordered late key = go (same_key key) entries (λ place d b. omega (arith, ordered.early place d b, late place 0 (omega (arith, b, ordered.within))))
  where
    go : (test : KeyParts → Bool) (es : Entries) → ((place : ℕ) (d : KeyParts × KeyState) → place < length es → at < (get_or es place d).1.live_until) → live_at at (lookup test es) ≡ lookup test es
    go test [] h = refl
    go test (e ∷ es) h = by (test e.0) (go test es (λ place d b. h (suc place) d (omega (arith, b))))
      where
        by : (c : Bool) → live_at at (lookup test es) ≡ lookup test es → live_at at (cond c (Some e.1) (lookup test es)) ≡ cond c (Some e.1) (lookup test es)
        by true rest = ap (λ c. cond c (Some e.1) None) (lt-ltb at e.1.live_until (h 0 e (omega arith)))
        by false rest = rest

-- a key added at the first free place
pub added_ordered : (entries after : Entries) (order now : List ℕ) (key : KeyParts) (state : KeyState) → IsOrdered entries order → length entries < length order → after ≡ entries ++ (key, state) ∷ [] → now ≡ set order (length entries) state.live_until → IsOrdered after now
added_ordered entries after order now key state ordered room more written = subst₂ IsOrdered (sym more) (sym written) (record {
  within = omega (arith, room, length_push entries (key, state), length-set order (length entries) state.live_until);
  early = λ place d b. early place d b (cases_eq place (length entries));
  free = λ place past within.
      let apart : place ≢ length entries = λ e. omega (arith, e, past, length_push entries (key, state)) in
      let same = get_or-set_other order (length entries) place state.live_until 0 apart in
      omega (arith, same, ordered.free place (omega (arith, past, length_push entries (key, state))) (omega (arith, within, length-set order (length entries) state.live_until)));
})
  where
    early : (place : ℕ) (d : KeyParts × KeyState) → place < length (entries ++ (key, state) ∷ []) → (place ≡ length entries) ⊎ (place ≢ length entries) → get_or (set order (length entries) state.live_until) place 0 ≤ (get_or (entries ++ (key, state) ∷ []) place d).1.live_until
    early place d b (inl e) =
        let number : get_or (set order (length entries) state.live_until) place 0 ≡ state.live_until = ap (λ i. get_or (set order (length entries) state.live_until) i 0) e ∙ get_or-set_same order (length entries) state.live_until 0 room in
        let own : get_or (entries ++ (key, state) ∷ []) place d ≡ (key, state) = get_or_push entries (key, state) d place (sym e) in
        omega (arith, number, ap (λ x. x.1.live_until) own)
    early place d b (inr e) =
        let sooner : place < length entries = lower place b e in
        let number : get_or (set order (length entries) state.live_until) place 0 ≡ get_or order place 0 = get_or-set_other order (length entries) place state.live_until 0 e in
        let own : get_or (entries ++ (key, state) ∷ []) place d ≡ get_or entries place d = get_or_append_left entries ((key, state) ∷ []) d place sooner in
        omega (arith, number, ap (λ x. x.1.live_until) own, ordered.early place d sooner)
      where
        lower : (place : ℕ) → place < length (entries ++ (key, state) ∷ []) → place ≢ length entries → place < length entries
        lower place b e = by (cases_lt place (length entries))
          where
            by : (place < length entries) ⊎ (length entries ≤ place) → place < length entries
            by (inl l) = l
            by (inr g) = absurd (e (omega (arith, g, b, length_push entries (key, state))))

length-set_value : (test : KeyParts → Bool) (es : Entries) (w : KeyState) → length (set_value test es w) ≡ length es
length-set_value test [] w = refl
length-set_value test (e ∷ es) w = by (test e.0) (length-set_value test es w)
  where
    by : (c : Bool) → length (set_value test es w) ≡ length es → length (cond c ((e.0, w) ∷ es) (e ∷ set_value test es w)) ≡ length (e ∷ es)
    by true rest = refl
    by false rest = omega (arith, rest)

longer : (test : KeyParts → Bool) (es : Entries) (w : KeyState) → ((s : KeyState) → lookup test es ≡ Some s → s.live_until ≤ w.live_until) → (place : ℕ) (d : KeyParts × KeyState) → (get_or es place d).1.live_until ≤ (get_or (set_value test es w) place d).1.live_until
longer test [] w h place d = omega arith
longer test (e ∷ es) w h place d = by (test e.0) h (longer test es w) place
  where
    by : (c : Bool) → ((s : KeyState) → cond c (Some e.1) (lookup test es) ≡ Some s → s.live_until ≤ w.live_until) →
        (((s : KeyState) → lookup test es ≡ Some s → s.live_until ≤ w.live_until) → (place : ℕ) (d : KeyParts × KeyState) → (get_or es place d).1.live_until ≤ (get_or (set_value test es w) place d).1.live_until) →
        (place : ℕ) → (get_or (e ∷ es) place d).1.live_until ≤ (get_or (cond c ((e.0, w) ∷ es) (e ∷ set_value test es w)) place d).1.live_until
    by true h rest zero = h e.1 refl
    by true h rest (suc place) = omega arith
    by false h rest zero = omega arith
    by false h rest (suc place) = rest h place d

-- a key that is live for longer
pub grown_ordered : (entries after : Entries) (order : List ℕ) (key : KeyParts) (old new : KeyState) → IsOrdered entries order → state_of entries key ≡ Some old → old.live_until ≤ new.live_until → after ≡ set_value (same_key key) entries new → IsOrdered after order
grown_ordered entries after order key old new ordered found grown written = subst (λ es. IsOrdered es order) (sym written) (record {
  within = omega (arith, ordered.within, length-set_value (same_key key) entries new);
  early = λ place d b.
      let more = longer (same_key key) entries new (λ s e. no_less s (sym found ∙ e)) place d in
      omega (arith, more, ordered.early place d (omega (arith, b, length-set_value (same_key key) entries new)));
  free = λ place past within. ordered.free place (omega (arith, past, length-set_value (same_key key) entries new)) within;
})
  where
    no_less : (s : KeyState) → Some old ≡ Some s → s.live_until ≤ new.live_until
    no_less s e = let same = ap (λ o. until o) e in omega (arith, same, grown)
      where
        until : Option KeyState → ℕ
        until None = 0
        until (Some state) = state.live_until
