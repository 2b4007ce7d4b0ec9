-- Bits beyond the width of a number, and lists at their places.
use Rattle.std.proofs.Common.{◌≡◌, ◌↔◌, ℕ, zero, suc, ◌/◌, ◌^◌, ◌<◌, ◌≤◌, ◌==◌, Bool, true, IsTrue, List, [], ◌∷◌, length, get_or, sym, ap, ap₂, ◌∙◌, arith}
use Rattle.std.specs.Bool.{one_answer}
use Rattle.std.specs.List.{HoldsAt}
use Rattle.std.proofs.Math.Nat.{div-eq_of_lt}
use Rattle.std.proofs.Math.Pow.{pow_mono}
use Rattle.std.proofs.lemmas.Bool.{false≢true}
use Rattle.std.proofs.lemmas.List.{get_or_default}
use Rattle.std.proofs.lemmas.Slice.Eq.{bytes_eq-Decides}
use Rattle.edge_base.specs.declared.address.Addr.{Addr}
use Rattle.edge_fields.specs.declared.kind.Basic.{Basic}
use Rattle.edge_fields.specs.declared.kind.Basic.TheVariants as basic
use Rattle.edge_fields.specs.declared.value.Value.{Value, out-Value}
use Rattle.edge_fields.specs.declared.value.Value.TheVariants as value
use Rattle.list_store.specs.declared.part.ListPart.{ListPart}
use Rattle.list_store.specs.Parts.{HasAddr}
use Rattle.list_store.specs.Listed.{HasShown, HasValue, list_kinds_of}
use Rattle.type_check.specs.declared.node.BuiltTest.TheVariants as built
use Rattle.type_check.specs.Trees.{is_placed}
use Rattle.tree_eval.specs.Passed.{IsPassed}

no_bits : (number bits : ℕ) → number < 2 ^ 128 → 128 ≤ bits → number / 2 ^ bits ≡ 0
no_bits number bits low far =
    let more : 2 ^ 128 ≤ 2 ^ bits = pow_mono far in
    div-eq_of_lt (omega arith)

pub none_shared : (one other bits : ℕ) → one < 2 ^ 128 → other < 2 ^ 128 → 128 ≤ bits → true ≡ (other / 2 ^ bits == one / 2 ^ bits)
none_shared one other bits first second far =
    ap₂ (λ a b. a == b) (sym (no_bits other bits second far)) (sym (no_bits one bits first far))

shown_addr : (kind : Basic) (items : List (List ℕ)) (v : Value) (addr : Addr) (holds : Bool) → kind ≡ basic.Addr → v ≡ value.Addr addr
    → IsTrue holds ↔ HasAddr items addr → IsTrue holds ↔ HasShown kind items (out-Value v)
shown_addr kind items v addr holds is_kind is h = rw (is_kind, is, value.outs-Addr addr) h

-- an address that an address list has is a value that the list has
pub has_addr_value : (given parts : List ListPart) (list : ℕ) (d e : ListPart) (v : Value) (addr : Addr) (holds : Bool) → list < length parts
    → given ≡ parts → (get_or given list e).kind ≡ basic.Addr → v ≡ value.Addr addr
    → IsTrue holds ↔ HasAddr (get_or parts list d).items addr → IsTrue holds ↔ HasValue (get_or parts list d) v
has_addr_value given parts list d e v addr holds within same is_kind is h =
    let kind : (get_or parts list d).kind ≡ basic.Addr
    = ap (λ (part : ListPart). part.kind) (get_or_default parts list d e within ∙ ap (λ all. get_or all list e) (sym same)) ∙ is_kind in
    shown_addr (get_or parts list d).kind (get_or parts list d).items v addr holds kind is h

-- the list at the place of a test has the name that the test speaks of
record IsNamedAt (parts : List ListPart) (list : ℕ) (name : List ℕ) : Type 0 where
  part : ListPart
  within : list < length parts
  named : (get_or parts list part).name ≡ name

named_at : (parts : List ListPart) (list : ℕ) (name : List ℕ) → is_placed (list_kinds_of parts) (built.Listed list name) ≡ true → IsNamedAt parts list name
named_at [] list name h = absurd (false≢true h)
named_at (part ∷ parts) zero name h = record { part = part; within = omega arith; named = (bytes_eq-Decides part.name name).0 h }
named_at (part ∷ parts) (suc list) name h =
    let n = named_at parts list name h in
    record { part = n.part; within = omega arith; named = n.named }

pub listed_within : (parts : List ListPart) (list : ℕ) (name : List ℕ) → is_placed (list_kinds_of parts) (built.Listed list name) ≡ true → list < length parts
listed_within parts list name placed = (named_at parts list name placed).within

-- what the list at the place of a test has decides the test
pub listed_is_passed : (parts : List ListPart) (list : ℕ) (name : List ℕ) (v : Value) (found : Bool) → is_placed (list_kinds_of parts) (built.Listed list name) ≡ true
    → HoldsAt (λ part. IsTrue found ↔ HasValue part v) parts list → IsPassed parts (built.Listed list name) v found
listed_is_passed parts list name v found placed has is_listed tells =
    let n = named_at parts list name placed in
    one_answer found (is_listed (get_or parts list n.part).name v) (has n.part) (tells list n.part n.within v)
    ∙ ap (λ own. is_listed own v) n.named
