-- A test that tells which values the named lists of a configuration have, and that there is only one.
use Rattle.std.proofs.Common.{◌≡◌, ◌↔◌, ℕ, zero, suc, ◌<◌, Bool, true, false, ◌||◌, cond, IsTrue, List, [], ◌∷◌, length, get_or, take, inl, inr, refl, sym, ap, subst, ◌∙◌, arith, bytes_eq}
use Rattle.std.specs.List.{list_any, Any}
use Rattle.std.proofs.lemmas.Bool.{false≢true, cases_Bool}
use Rattle.std.proofs.lemmas.List.Folds.{Any-from_list_any, list_any-from_Any}
use Rattle.std.proofs.lemmas.Slice.Eq.{bytes_eq-Decides}
use Rattle.edge_base.specs.declared.address.Addr.{Addr}
use Rattle.edge_base.specs.declared.expression.Item.{Item}
use Rattle.edge_base.proofs.FoundLemmas.{Found}
use Rattle.edge_fields.specs.declared.kind.Basic.{Basic}
use Rattle.edge_fields.specs.declared.kind.Basic.TheVariants as basic
use Rattle.edge_fields.specs.declared.value.Value.{Value, out-Value}
use Rattle.edge_fields.specs.declared.value.Value.TheOpen as open_value
use Rattle.addr_set.specs.Sets.{holds}
use Rattle.addr_set.specs.ItemTexts.{IsGoodText}
use Rattle.addr_set.proofs.ReadingLemmas.{IsItemText-unique}
use Rattle.list_store.specs.declared.part.ListPart.{ListPart}
use Rattle.list_store.specs.Listed.{HasShown, HasValue, TellsLists}
use Rattle.list_store.specs.Parts.{has_text, HasAddr, is_named, IsFine, AreFineBefore}
use Rattle.ruleset_model.specs.declared.ruleset.Ruleset.{Ruleset}
use Rattle.ruleset_model.specs.Valid.{IsValid}
use Rattle.config_read.proofs.FoundItems.{found-good}
use Rattle.judge_core.specs.Values.{Listed}
use Rattle.gate_run.specs.Named.{IsMeaningOf}

-- ---- one list

-- what a text stands for holds the address
abbrev holds_found : {text : List ℕ} → Found (IsGoodText text) → Addr → Bool
holds_found (inl (one, good)) address = holds one address
holds_found (inr none) address = false

abbrev text_holds : Addr → List ℕ → Bool
text_holds address text = holds_found (found-good text) address

abbrev has_shown : Basic → List (List ℕ) → open_value.Value-F Value → Bool
has_shown basic.Text items (open_value.Text text) = has_text items text
has_shown basic.Addr items (open_value.Addr address) = list_any (text_holds address) items
has_shown kind items other = false

abbrev has_value : ListPart → Value → Bool
has_value part v = has_shown part.kind part.items (out-Value v)

neither : {P : Type 0} → ¬ P → IsTrue false ↔ P
neither none = (λ h. absurd (false≢true h), λ p. absurd (none p))

-- an item holds the address exactly where its text does
held_by : (address : Addr) (text : List ℕ) (found : Found (IsGoodText text)) (one : Item) → IsGoodText text one → IsTrue (holds one address)
    → holds_found found address ≡ true
held_by address text (inl (other, good)) one is held =
    let same = IsItemText-unique text one other is.spelled good.spelled in subst (λ (item : Item). holds item address ≡ true) same held
held_by address text (inr none) one is held = absurd (none one is)

holds_item : (address : Addr) (text : List ℕ) (found : Found (IsGoodText text)) → holds_found found address ≡ true
    → (one : Item) × IsGoodText text one × IsTrue (holds one address)
holds_item address text (inl (one, good)) held = (one, good, held)
holds_item address text (inr none) held = absurd (false≢true held)

has_address : (items : List (List ℕ)) (address : Addr) → IsTrue (list_any (text_holds address) items) ↔ HasAddr items address
has_address items address = (
  λ held.
      let (k, text, below, here, holds_it) = Any-from_list_any (text_holds address) items held in
      (k, text, below, here, holds_item address text (found-good text) holds_it),
  λ has.
      let (k, text, below, here, (one, good, held)) = has in
      list_any-from_Any (text_holds address) items (k, text, below, here, held_by address text (found-good text) one good held),
)

shown_is : (kind : Basic) (items : List (List ℕ)) (shown : open_value.Value-F Value) → IsTrue (has_shown kind items shown) ↔ HasShown kind items shown
shown_is basic.Text items (open_value.Text text) = (λ h. h, λ h. h)
shown_is basic.Text items (open_value.Num number) = neither (λ x. x)
shown_is basic.Text items (open_value.Addr address) = neither (λ x. x)
shown_is basic.Text items (open_value.Bool truth) = neither (λ x. x)
shown_is basic.Text items (open_value.Array values) = neither (λ x. x)
shown_is basic.Text items (open_value.Map entries) = neither (λ x. x)
shown_is basic.Addr items (open_value.Text text) = neither (λ x. x)
shown_is basic.Addr items (open_value.Num number) = neither (λ x. x)
shown_is basic.Addr items (open_value.Addr address) = has_address items address
shown_is basic.Addr items (open_value.Bool truth) = neither (λ x. x)
shown_is basic.Addr items (open_value.Array values) = neither (λ x. x)
shown_is basic.Addr items (open_value.Map entries) = neither (λ x. x)
shown_is basic.Num items shown = neither (λ x. x)
shown_is basic.Bool items shown = neither (λ x. x)

-- ---- lists by their names

-- what the first list of a name has
abbrev pub meaning_of : List ListPart → Listed
meaning_of [] name v = false
meaning_of (part ∷ parts) name v = cond (bytes_eq name part.name) (has_value part v) (meaning_of parts name v)

both_false : (a b : Bool) → (a || b) ≡ false → (a ≡ false) × (b ≡ false)
both_false true b none = absurd (false≢true (sym none))
both_false false b none = (refl, none)

at_place : (parts : List ListPart) (k : ℕ) (d : ListPart) (v : Value) → k < length parts → is_named (take k parts) (get_or parts k d).name ≡ false
    → meaning_of parts (get_or parts k d).name v ≡ has_value (get_or parts k d) v
at_place [] k d v below new = absurd (omega arith)
at_place (part ∷ parts) zero d v below new =
    let same : bytes_eq part.name part.name ≡ true = (bytes_eq-Decides part.name part.name).1 refl in
    ap (λ test. cond test (has_value part v) (meaning_of parts part.name v)) same
at_place (part ∷ parts) (suc k) d v below new =
    let within : k < length parts = omega arith in
    let one = get_or parts k d in
    let apart = both_false (bytes_eq one.name part.name) (is_named (take k parts) one.name) new in
    ap (λ test. cond test (has_value part v) (meaning_of parts one.name v)) apart.0 ∙ at_place parts k d v within apart.1

unnamed : (parts : List ListPart) (name : List ℕ) (v : Value) → is_named parts name ≡ false → meaning_of parts name v ≡ false
unnamed [] name v none = refl
unnamed (part ∷ parts) name v none =
    let apart = both_false (bytes_eq name part.name) (is_named parts name) none in
    ap (λ test. cond test (has_value part v) (meaning_of parts name v)) apart.0 ∙ unnamed parts name v apart.1

tells : (parts : List ListPart) → AreFineBefore parts (length parts) → TellsLists (meaning_of parts) parts
tells parts fine k d below v =
    let one = get_or parts k d in
    let is = at_place parts k d v below (fine k d below).new_name in
    let shown = shown_is one.kind one.items (out-Value v) in
    (λ h. shown.0 (sym is ∙ h), λ h. is ∙ shown.1 h)

pub meaning_is : (parts : List ListPart) → AreFineBefore parts (length parts) → IsMeaningOf parts (meaning_of parts)
meaning_is parts fine = record { told = tells parts fine; others = unnamed parts }

-- ---- there is one meaning

-- a name that lists have is that of one at a place
named_at : (parts : List ListPart) (name : List ℕ) → is_named parts name ≡ true → (k : ℕ) × (k < length parts) × ((d : ListPart) → (get_or parts k d).name ≡ name)
named_at [] name named = absurd (false≢true named)
named_at (part ∷ parts) name named = elim (cases_Bool (bytes_eq name part.name)) [
  | inl same ↦ (0, omega arith, λ d. sym ((bytes_eq-Decides name part.name).0 same))
  | inr other ↦
      let rest : is_named parts name ≡ true = sym (ap (λ test. test || is_named parts name) other) ∙ named in
      let (k, below, is) = named_at parts name rest in
      (suc k, omega (arith, below), is)
]

same_truth : (a b : Bool) → (IsTrue a → IsTrue b) → (IsTrue b → IsTrue a) → a ≡ b
same_truth true b f g = sym (f refl)
same_truth false true f g = g refl
same_truth false false f g = refl

same_value : (parts : List ListPart) (a b : Listed) → IsMeaningOf parts a → IsMeaningOf parts b → (name : List ℕ) (v : Value) → a name v ≡ b name v
same_value parts a b p q name v = elim (cases_Bool (is_named parts name)) [
  | inl named ↦
      let (k, below, is) = named_at parts name named in
      let d : ListPart = record { name = name; kind = basic.Text; items = [] } in
      let tells_a = p.told k d below v in
      let tells_b = q.told k d below v in
      subst (λ (own : List ℕ). a own v ≡ b own v) (is d)
      (same_truth (a (get_or parts k d).name v) (b (get_or parts k d).name v) (λ h. tells_b.1 (tells_a.0 h)) (λ h. tells_a.1 (tells_b.0 h)))
  | inr none ↦ p.others name v none ∙ sym (q.others name v none)
]

pub meaning_unique : (parts : List ListPart) (a b : Listed) → IsMeaningOf parts a → IsMeaningOf parts b → a ≡ b
meaning_unique parts a b p q = λ i name v. same_value parts a b p q name v i
