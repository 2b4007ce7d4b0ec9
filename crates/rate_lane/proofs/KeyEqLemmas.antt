-- The test by which the index tells keys apart is the one of the window rule.
use Rattle.std.proofs.Common.{◌≡◌, Bool, true, false, cond, ◌&&◌, bytes_eq, ◌==◌, [], ◌∷◌, ◌++◌, Option, Some, None, is_some, true≢false, refl, ap, ◌∙◌, subst}
use Rattle.std.specs.List.{IsDistinct}
use Rattle.std.specs.Map.{lookup, keys_of, set_value}
use Rattle.indexmap.specs.IndexMap.{insert_entry}
use Rattle.rate_plain.specs.KeyParts.{KeyParts}
use Rattle.rate_plain.specs.Keys.{same_key}
use Rattle.rate_plain.specs.contracts.key.KeyPartialEq.TheImpl.{eq-value}
use Rattle.rate_lane.specs.Index.{Entries, state_of}
use Rattle.rate_lane.specs.declared.key_state.KeyState.{KeyState}

assoc : (rule period threshold timeout values : Bool) → (rule && (period && (threshold && (timeout && values)))) ≡ (rule && period && threshold && timeout && values)
assoc false period threshold timeout values = refl
assoc true false threshold timeout values = refl
assoc true true false timeout values = refl
assoc true true true false values = refl
assoc true true true true values = refl

-- the test of the keys' type
pub key_eq-is : eq-value.it ≡ same_key
key_eq-is = λ i a b. assoc (bytes_eq a.rule.set_id b.rule.set_id && bytes_eq a.rule.rule b.rule.rule) (a.period == b.period) (a.threshold == b.threshold) (a.timeout == b.timeout) (bytes_eq a.values b.values) i

-- what a look-up by it finds
pub state_of-is : (entries : Entries) (key : KeyParts) (state : Option KeyState) → state ≡ lookup (eq-value.it key) entries → state ≡ state_of entries key
state_of-is entries key state found = subst (λ eq. state ≡ lookup (eq key) entries) key_eq-is found

-- what it changes
pub updates-is : (before after : Entries) (key : KeyParts) (state : Option KeyState) → ((q : KeyParts) → lookup (eq-value.it q) after ≡ cond (eq-value.it key q) state (lookup (eq-value.it q) before)) → (q : KeyParts) → state_of after q ≡ cond (same_key key q) state (state_of before q)
updates-is before after key state said = subst (λ eq. (q : KeyParts) → lookup (eq q) after ≡ cond (eq key q) state (lookup (eq q) before)) key_eq-is said

-- and which keys it keeps apart
pub unique-is : (entries : Entries) → IsDistinct eq-value.it (keys_of entries) → IsDistinct same_key (keys_of entries)
unique-is entries said = subst (λ eq. IsDistinct eq (keys_of entries)) key_eq-is said

-- what is written through it
pub written-is : (entries after : Entries) (key : KeyParts) (state : KeyState) → after ≡ set_value (eq-value.it key) entries state → after ≡ set_value (same_key key) entries state
written-is entries after key state said = subst (λ eq. after ≡ set_value (eq key) entries state) key_eq-is said

-- and what is put last
pub inserted-is : (entries after : Entries) (key : KeyParts) (state : KeyState) → after ≡ insert_entry eq-value.it entries key state → state_of entries key ≡ None → after ≡ entries ++ (key, state) ∷ []
inserted-is entries after key state said absent = subst (λ eq. after ≡ insert_entry eq entries key state) key_eq-is said ∙ last entries absent
  where
    last : (es : Entries) → state_of es key ≡ None → insert_entry same_key es key state ≡ es ++ (key, state) ∷ []
    last [] none = refl
    last (e ∷ es) none = by (same_key key e.0) none (last es)
      where
        by : (b : Bool) → cond b (Some e.1) (state_of es key) ≡ None → (state_of es key ≡ None → insert_entry same_key es key state ≡ es ++ (key, state) ∷ []) → cond b ((e.0, state) ∷ es) (e ∷ insert_entry same_key es key state) ≡ e ∷ (es ++ (key, state) ∷ [])
        by true none rest = absurd (true≢false (ap is_some none))
        by false none rest = ap (λ t. e ∷ t) (rest none)
