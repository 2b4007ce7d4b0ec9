-- The flaws of a text exclude one another, and so do the answers to texts.
use Rattle.std.proofs.Common.{◌≡◌, ◌≢◌, ℕ, zero, suc, ◌<◌, ◌≤◌, List, [], ◌∷◌, length, get_or, Result, Ok, Err, refl, sym, ap, ap₂, subst, ◌∙◌, inl, inr, arith, zero-le}
use Rattle.std.specs.List.{AllZip}
use Rattle.std.proofs.lemmas.Bool.{cases_order}
use Rattle.edge_base.specs.declared.address.Addr.{Addr}
use Rattle.edge_base.specs.declared.address.Addr.TheVariants as addr
use Rattle.edge_base.specs.declared.expression.Item.{Item}
use Rattle.edge_base.specs.declared.expression.Item.TheVariants as item
use Rattle.addr_set.specs.declared.reading.ItemFault.{ItemFault}
use Rattle.addr_set.specs.declared.reading.ItemFault.TheVariants as fault
use Rattle.addr_set.specs.Sets.{width_of, IsRange, IsAddrItem}
use Rattle.addr_set.specs.ItemTexts.{IsBelow, IsGoodText, IsNoItemText, IsLongPrefix, IsBackward, IsFirstFlaw, AreReadAs, ReadingsAreUnique}
use Rattle.addr_set.proofs.ReadingLemmas.{IsItemText-unique}

-- ---- one text

-- a text that stands for an item that holds addresses lacks the flaw
abbrev pub IsNeverGood : (List ℕ → Type 0) → Type 0
IsNeverGood HasFlaw = (text : List ℕ) (one : Item) → IsGoodText text one → ¬ (HasFlaw text)

-- no text has both flaws
abbrev AreNeverBoth : (List ℕ → Type 0) → (List ℕ → Type 0) → Type 0
AreNeverBoth HasFlaw HasOther = (text : List ℕ) → HasFlaw text → ¬ (HasOther text)

range_not_below : (first last : Addr) → IsRange first last → ¬ (IsBelow last first)
range_not_below (addr.V4 m) (addr.V4 n) range below = omega arith
range_not_below (addr.V4 m) (addr.V6 n) range below = range
range_not_below (addr.V6 m) (addr.V4 n) range below = range
range_not_below (addr.V6 m) (addr.V6 n) range below = omega arith

no_item_never_good : IsNeverGood IsNoItemText
no_item_never_good text one good none = none one good.spelled

long_never_good : IsNeverGood IsLongPrefix
long_never_good text one good long =
    let same = IsItemText-unique text one (item.Block long.0 long.1) good.spelled long.2 in
    let fits : long.1 ≤ width_of long.0 = subst IsAddrItem same good.is_good in
    omega (arith, long.3)

backward_never_good : IsNeverGood IsBackward
backward_never_good text one good back =
    let same = IsItemText-unique text one (item.Addrs back.0 back.1) good.spelled back.2 in
    range_not_below back.0 back.1 (subst IsAddrItem same good.is_good) back.3

no_item_not_long : AreNeverBoth IsNoItemText IsLongPrefix
no_item_not_long text none long = none (item.Block long.0 long.1) long.2

no_item_not_backward : AreNeverBoth IsNoItemText IsBackward
no_item_not_backward text none back = none (item.Addrs back.0 back.1) back.2

long_not_backward : AreNeverBoth IsLongPrefix IsBackward
long_not_backward text long back =
    let same : item.Block long.0 long.1 ≡ item.Addrs back.0 back.1 = IsItemText-unique text _ _ long.2 back.2 in absurd cc

-- ---- texts

good_at : (texts : List (List ℕ)) (items : List Item) (k : ℕ) (d : List ℕ) → AllZip IsGoodText texts items → k < length texts
    → (one : Item) × IsGoodText (get_or texts k d) one
good_at [] items k d good below = absurd (omega arith)
good_at (text ∷ texts) [] k d good below = absurd good
good_at (text ∷ texts) (one ∷ items) zero d good below = (one, good.0)
good_at (text ∷ texts) (one ∷ items) (suc k) d good below = good_at texts items k d good.1 (omega arith)

one_list : (texts : List (List ℕ)) (a b : List Item) → AllZip IsGoodText texts a → AllZip IsGoodText texts b → a ≡ b
one_list [] [] [] h k = refl
one_list [] [] (y ∷ b) h k = absurd k
one_list [] (x ∷ a) b h k = absurd h
one_list (text ∷ texts) [] b h k = absurd h
one_list (text ∷ texts) (x ∷ a) [] h k = absurd k
one_list (text ∷ texts) (x ∷ a) (y ∷ b) h k =
    ap₂ (λ one items. one ∷ items) (IsItemText-unique text x y h.0.spelled k.0.spelled) (one_list texts a b h.1 k.1)

read_or_flawed : (HasFlaw : List ℕ → Type 0) → IsNeverGood HasFlaw → (texts : List (List ℕ)) (items : List Item) (at : ℕ)
    → AllZip IsGoodText texts items → ¬ (IsFirstFlaw HasFlaw texts at)
read_or_flawed HasFlaw never texts items at good first =
    let one = good_at texts items at [] good first.within in never (get_or texts at []) one.0 one.1 (first.here [])

module _ (HasFlaw HasOther : List ℕ → Type 0) (never : IsNeverGood HasFlaw) (never_other : IsNeverGood HasOther) (texts : List (List ℕ)) (at other : ℕ)
    (first : IsFirstFlaw HasFlaw texts at) (first_other : IsFirstFlaw HasOther texts other) where
  pub one_place : at ≡ other
  one_place = elim (cases_order at other) [
    | inl same ↦ same
    | inr apart ↦ elim apart [
      | inl before ↦ let one = first_other.before at [] zero-le before in absurd (never (get_or texts at []) one.0 one.1 (first.here []))
      | inr behind ↦ let one = first.before other [] zero-le behind in absurd (never_other (get_or texts other []) one.0 one.1 (first_other.here []))
    ]
  ]

  one_flaw : AreNeverBoth HasFlaw HasOther → ⊥
  one_flaw apart = apart (get_or texts at []) (first.here []) (subst (λ k. HasOther (get_or texts k [])) (sym one_place) (first_other.here []))

pub one_reading : ReadingsAreUnique
one_reading texts (Ok a) (Ok b) m n h k = ap Ok (one_list texts a b h k)
one_reading texts (Ok a) (Err (fault.BadAddr at)) m n h k = absurd (read_or_flawed IsNoItemText no_item_never_good texts a at h k)
one_reading texts (Ok a) (Err (fault.BadPrefix at)) m n h k = absurd (read_or_flawed IsLongPrefix long_never_good texts a at h k)
one_reading texts (Ok a) (Err (fault.BackwardRange at)) m n h k = absurd (read_or_flawed IsBackward backward_never_good texts a at h k)
one_reading texts (Err (fault.BadAddr at)) (Ok b) m n h k = absurd (read_or_flawed IsNoItemText no_item_never_good texts b at k h)
one_reading texts (Err (fault.BadPrefix at)) (Ok b) m n h k = absurd (read_or_flawed IsLongPrefix long_never_good texts b at k h)
one_reading texts (Err (fault.BackwardRange at)) (Ok b) m n h k = absurd (read_or_flawed IsBackward backward_never_good texts b at k h)
one_reading texts (Err (fault.BadAddr at)) (Err (fault.BadAddr other)) m n h k =
    ap (λ place. Err (fault.BadAddr place)) (one_place IsNoItemText IsNoItemText no_item_never_good no_item_never_good texts at other h k)
one_reading texts (Err (fault.BadAddr at)) (Err (fault.BadPrefix other)) m n h k =
    absurd (one_flaw IsNoItemText IsLongPrefix no_item_never_good long_never_good texts at other h k no_item_not_long)
one_reading texts (Err (fault.BadAddr at)) (Err (fault.BackwardRange other)) m n h k =
    absurd (one_flaw IsNoItemText IsBackward no_item_never_good backward_never_good texts at other h k no_item_not_backward)
one_reading texts (Err (fault.BadPrefix at)) (Err (fault.BadAddr other)) m n h k =
    absurd (one_flaw IsNoItemText IsLongPrefix no_item_never_good long_never_good texts other at k h no_item_not_long)
one_reading texts (Err (fault.BadPrefix at)) (Err (fault.BadPrefix other)) m n h k =
    ap (λ place. Err (fault.BadPrefix place)) (one_place IsLongPrefix IsLongPrefix long_never_good long_never_good texts at other h k)
one_reading texts (Err (fault.BadPrefix at)) (Err (fault.BackwardRange other)) m n h k =
    absurd (one_flaw IsLongPrefix IsBackward long_never_good backward_never_good texts at other h k long_not_backward)
one_reading texts (Err (fault.BackwardRange at)) (Err (fault.BadAddr other)) m n h k =
    absurd (one_flaw IsNoItemText IsBackward no_item_never_good backward_never_good texts other at k h no_item_not_backward)
one_reading texts (Err (fault.BackwardRange at)) (Err (fault.BadPrefix other)) m n h k =
    absurd (one_flaw IsLongPrefix IsBackward long_never_good backward_never_good texts other at k h long_not_backward)
one_reading texts (Err (fault.BackwardRange at)) (Err (fault.BackwardRange other)) m n h k =
    ap (λ place. Err (fault.BackwardRange place)) (one_place IsBackward IsBackward backward_never_good backward_never_good texts at other h k)
one_reading texts (Err fault.Memory) b m n h k = absurd (m refl)
one_reading texts (Ok a) (Err fault.Memory) m n h k = absurd (n refl)
one_reading texts (Err (fault.BadAddr at)) (Err fault.Memory) m n h k = absurd (n refl)
one_reading texts (Err (fault.BadPrefix at)) (Err fault.Memory) m n h k = absurd (n refl)
one_reading texts (Err (fault.BackwardRange at)) (Err fault.Memory) m n h k = absurd (n refl)
