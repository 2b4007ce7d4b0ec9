-- Members in a map whose keys are the lower case of their names with the names as written.
use Rattle.std.proofs.Common.{◌≡◌, List, [], ◌∷◌, ℕ, ◌+◌, ◌<◌, map, length, drop, get_or, Vec, Global, Ordering, Less, Equal, Greater, refl, sym, ap, ◌∙◌, subst}
use Rattle.std.specs.Borrow.{Bor}
use Rattle.std.specs.BTreeMap.{insert_entry}
use Rattle.std.specs.List.{AllByRecursion}
use Rattle.std.specs.Ordering.{nat_cmp, ordering_then, match_ordering}
use Rattle.std.specs.Cmp.Lexicographic.{slice_cmp}
use Rattle.std.proofs.lemmas.List.{drop_more}
use Rattle.std.proofs.lemmas.Map.Lookups.{exact_bytes}
use Rattle.serde_json.specs.Data.{Data}
use Rattle.serde_json.specs.declared.value.Value.{Value}
use Rattle.config_read.specs.Members.{shown, kept}
use Rattle.config_read.specs.Rewrites.{lower, name_cmp, put_by_name, put_in_order, in_order}

abbrev pub Key : Type 0
Key = Vec ℕ Global × Vec ℕ Global

abbrev pub Member : Type 0
Member = Bor (List ℕ) × Bor Value

-- the key is that of the member's name
pub record IsKeyed (entry : Key × Member) : Type 0 where
  pub lowered : entry.0.0.items ≡ lower entry.1.0.now
  pub written : entry.0.1.items ≡ entry.1.0.now

abbrev pub AreKeyed : List (Key × Member) → Type 0
AreKeyed entries = AllByRecursion IsKeyed entries

-- keys are compared as the names are
abbrev pub ComparesNames : (Key → Key → Ordering) → Type 0
ComparesNames cmp = (x y : Key × Member) → IsKeyed x → IsKeyed y → cmp x.0 y.0 ≡ name_cmp x.1.0.now y.1.0.now

second : (o p : Ordering) → ordering_then o p ≡ Equal → p ≡ Equal
second Less p h = absurd cc
second Equal p h = h
second Greater p h = absurd cc

same_name : (name other : List ℕ) → name_cmp name other ≡ Equal → name ≡ other
same_name name other h = exact_bytes name other (second _ _ h)

-- the member of an equal key has its name
takes_over : (e : Key × Member) (v : Member) → IsKeyed e → name_cmp v.0.now e.1.0.now ≡ Equal → IsKeyed (e.0, v)
takes_over e v keyed h =
    let same = sym (same_name v.0.now e.1.0.now h) in
    record { lowered = keyed.lowered ∙ ap lower same; written = keyed.written ∙ same }

step : (o : Ordering) (e : Key × Member) (es put : List (Key × Member)) (k : Key) (v : Member) (members : List (List ℕ × Data))
    → IsKeyed e → AreKeyed es → IsKeyed (k, v) → (o ≡ Equal → IsKeyed (e.0, v)) → AreKeyed put → map kept put ≡ members
    → AreKeyed (match_ordering o ((k, v) ∷ e ∷ es) ((e.0, v) ∷ es) (e ∷ put))
    × (map kept (match_ordering o ((k, v) ∷ e ∷ es) ((e.0, v) ∷ es) (e ∷ put)) ≡ match_ordering o (shown v ∷ kept e ∷ map kept es) (shown v ∷ map kept es) (kept e ∷ members))
step Less e es put k v members here keyed new again more same = ((new, (here, keyed)), refl)
step Equal e es put k v members here keyed new again more same = ((again refl, keyed), refl)
step Greater e es put k v members here keyed new again more same = ((here, more), ap (λ rest. kept e ∷ rest) same)

pub put_kept : (cmp : Key → Key → Ordering) → ComparesNames cmp → (es : List (Key × Member)) (k : Key) (v : Member) → AreKeyed es → IsKeyed (k, v)
    → AreKeyed (insert_entry cmp es k v) × (map kept (insert_entry cmp es k v) ≡ put_by_name (map kept es) (shown v))
put_kept cmp names [] k v keyed new = ((new, tt), refl)
put_kept cmp names (e ∷ es) k v keyed new =
    let same : cmp k e.0 ≡ name_cmp v.0.now e.1.0.now = names (k, v) e new keyed.0 in
    let rest = put_kept cmp names es k v keyed.1 new in
    let made = step (cmp k e.0) e es (insert_entry cmp es k v) k v (put_by_name (map kept es) (shown v)) keyed.0 keyed.1 new (λ h. takes_over e v keyed.0 (sym same ∙ h)) rest.0 rest.1 in
    (made.0, made.1 ∙ ap (λ o. match_ordering o (shown v ∷ kept e ∷ map kept es) (shown v ∷ map kept es) (kept e ∷ put_by_name (map kept es) (shown v))) same)

-- the order of the keys in the map
abbrev key_cmp : Key → Key → Ordering
key_cmp a b = ordering_then (slice_cmp nat_cmp a.0.items b.0.items) (slice_cmp nat_cmp a.1.items b.1.items)

keys_compare : ComparesNames key_cmp
keys_compare x y first other =
    ap (λ name. ordering_then (slice_cmp nat_cmp name y.0.0.items) (slice_cmp nat_cmp x.0.1.items y.0.1.items)) first.lowered
    ∙ ap (λ name. ordering_then (slice_cmp nat_cmp (lower x.1.0.now) name) (slice_cmp nat_cmp x.0.1.items y.0.1.items)) other.lowered
    ∙ ap (λ name. ordering_then (slice_cmp nat_cmp (lower x.1.0.now) (lower y.1.0.now)) (slice_cmp nat_cmp name y.0.1.items)) first.written
    ∙ ap (λ name. ordering_then (slice_cmp nat_cmp (lower x.1.0.now) (lower y.1.0.now)) (slice_cmp nat_cmp x.1.0.now name)) other.written

-- one more member is put in order
pub put_step : (all : List Member) (i : ℕ) (es put : List (Key × Member)) (k : Key) (v : Member) → AreKeyed es → i < length all
    → v ≡ get_or all i v → k.0.items ≡ lower v.0.now → k.1.items ≡ v.0.now → put ≡ insert_entry key_cmp es k v
    → put_in_order (map kept es) (map shown (drop i all)) ≡ in_order (map shown all)
    → AreKeyed put × (put_in_order (map kept put) (map shown (drop (i + 1) all)) ≡ in_order (map shown all))
put_step all i es put k v keyed below is low written h order =
    let made = put_kept key_cmp keys_compare es k v keyed (record { lowered = low; written = written }) in (
      subst AreKeyed (sym h) made.0,
      ap (λ new. put_in_order (map kept new) (map shown (drop (i + 1) all))) h
          ∙ ap (λ new. put_in_order new (map shown (drop (i + 1) all))) made.1
          ∙ ap (λ one. put_in_order (put_by_name (map kept es) (shown one)) (map shown (drop (i + 1) all))) is
          ∙ sym (ap (λ left. put_in_order (map kept es) (map shown left)) (drop_more all i v below))
          ∙ order,
    )
