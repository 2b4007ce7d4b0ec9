-- A set of texts, one text more; and a set of addresses, against the texts of its items.
use Rattle.std.proofs.Common.{◌≡◌, ℕ, zero, suc, ◌<◌, ◌↔◌, Bool, true, false, ◌||◌, not, List, [], ◌∷◌, length, get_or, refl, sym, ap, ◌∙◌, subst, arith}
use Rattle.std.specs.Bool.{MatchBool}
use Rattle.std.specs.List.{list_any, AllZip}
use Rattle.std.specs.List.Sorted.{IsPermutation}
use Rattle.std.specs.Str.{bytes_eq}
use Rattle.std.proofs.lemmas.Bool.{not-false, or_left, or_right, false≢true}
use Rattle.std.proofs.lemmas.List.Sorted.{list_any-IsPermutation}
use Rattle.std.proofs.lemmas.Slice.Eq.{bytes_eq-Decides}
use Rattle.edge_base.specs.declared.address.Addr.{Addr}
use Rattle.edge_base.specs.declared.expression.Item.{Item}
use Rattle.addr_set.specs.Sets.{holds, has_addr}
use Rattle.addr_set.specs.ItemTexts.{IsGoodText, IsFirstFlaw}
use Rattle.addr_set.proofs.ReadingLemmas.{IsItemText-unique}
use Rattle.list_store.specs.Parts.{HasAddr, AreRead}

or-false : (b : Bool) → (b || false) ≡ b
or-false true = refl
or-false false = refl

or_comm : (a b : Bool) → (a || b) ≡ (b || a)
or_comm true true = refl
or_comm true false = refl
or_comm false true = refl
or_comm false false = refl

module _ {X : Type 0} (items : X → List ℕ) where
  has_key : List ℕ → List X → Bool
  has_key text keys = list_any (λ key. bytes_eq text (items key)) keys

  -- a text that equals a key of the set is in it
  had : (text : List ℕ) (keys : List X) (k : X) (b : Bool) → b ≡ bytes_eq text (items k) → list_any (λ key. bytes_eq (items k) (items key)) keys ≡ true → list_any (λ key. bytes_eq text (items key)) keys ≡ (list_any (λ key. bytes_eq text (items key)) keys || b)
  had text keys k false is old = sym (or-false _)
  had text keys k true is old =
      let same : text ≡ items k = (bytes_eq-Decides text (items k)).0 (sym is) in
      let found : list_any (λ key. bytes_eq text (items key)) keys ≡ true = subst (λ t. list_any (λ key. bytes_eq t (items key)) keys ≡ true) (sym same) old in
      found ∙ sym (or_left _ true found)

  pub has-put : (keys now : List X) (k : X) (added : Bool) → added ≡ not (list_any (λ key. bytes_eq (items k) (items key)) keys) → MatchBool added (IsPermutation (k ∷ keys) now) (now ≡ keys) → (text : List ℕ) → list_any (λ key. bytes_eq text (items key)) now ≡ (list_any (λ key. bytes_eq text (items key)) keys || bytes_eq text (items k))
  has-put keys now k true is put text =
      sym (list_any-IsPermutation (λ key. bytes_eq text (items key)) (k ∷ keys) now put)
      ∙ or_comm (bytes_eq text (items k)) (list_any (λ key. bytes_eq text (items key)) keys)
  has-put keys now k false is put text =
      ap (λ ks. list_any (λ key. bytes_eq text (items key)) ks) put
      ∙ had text keys k (bytes_eq text (items k)) refl (not-false _ (sym is))

-- the items that were read hold an address where some text stands for one that does
first_or_later : (text : List ℕ) (texts : List (List ℕ)) (one : Item) (address : Addr) (rest b : Bool) → IsGoodText text one → holds one address ≡ b → (b || rest) ≡ true → (rest ≡ true → HasAddr texts address) → HasAddr (text ∷ texts) address
first_or_later text texts one address rest true good held e later = (0, text, omega arith, refl, (one, good, held))
first_or_later text texts one address rest false good held e later =
    let (k, x, below, is, more) = later e in
    (suc k, x, omega arith, is, more)

to_texts : (texts : List (List ℕ)) (read : List Item) (address : Addr) → AllZip IsGoodText texts read → has_addr read address ≡ true → HasAddr texts address
to_texts [] [] address h e = absurd (false≢true e)
to_texts [] (one ∷ read) address h e = absurd h
to_texts (text ∷ texts) [] address h e = absurd h
to_texts (text ∷ texts) (one ∷ read) address h e =
    first_or_later text texts one address (has_addr read address) (holds one address) h.0 refl e (to_texts texts read address h.1)

from_texts : (texts : List (List ℕ)) (read : List Item) (address : Addr) → AllZip IsGoodText texts read → (k : ℕ) (x : List ℕ) → k < length texts → get_or texts k x ≡ x → (one : Item) → IsGoodText x one → holds one address ≡ true → has_addr read address ≡ true
from_texts [] [] address h k x below is one good held = absurd (omega arith)
from_texts [] (other ∷ read) address h k x below is one good held = absurd h
from_texts (text ∷ texts) [] address h k x below is one good held = absurd h
from_texts (text ∷ texts) (other ∷ read) address h zero x below is one good held =
    let same : one ≡ other = IsItemText-unique text one other (rw is good.spelled) h.0.spelled in
    or_left _ _ (subst (λ o. holds o address ≡ true) same held)
from_texts (text ∷ texts) (other ∷ read) address h (suc k) x below is one good held =
    or_right _ _ (from_texts texts read address h.1 k x (omega arith) is one good held)

pub has_addr-texts : (texts : List (List ℕ)) (read : List Item) (address : Addr) → AllZip IsGoodText texts read → (has_addr read address ≡ true) ↔ HasAddr texts address
has_addr-texts texts read address h =
    (to_texts texts read address h, λ any. from_texts texts read address h any.0 any.1 any.2 any.3 any.4.0 any.4.1 any.4.2)

-- each text was read
pub AreRead-zip : (texts : List (List ℕ)) (read : List Item) → AllZip IsGoodText texts read → AreRead texts
AreRead-zip [] [] h k d below = absurd (omega arith)
AreRead-zip [] (one ∷ read) h k d below = absurd h
AreRead-zip (text ∷ texts) [] h k d below = absurd h
AreRead-zip (text ∷ texts) (one ∷ read) h zero d below = (one, h.0)
AreRead-zip (text ∷ texts) (one ∷ read) h (suc k) d below = AreRead-zip texts read h.1 k d (omega arith)

-- a fault that says less
pub IsFirstFlaw-weaker : (Fault Less : List ℕ → Type 0) → ((text : List ℕ) → Fault text → Less text) → (texts : List (List ℕ)) (at : ℕ) → IsFirstFlaw Fault texts at → IsFirstFlaw Less texts at
IsFirstFlaw-weaker Fault Less weaker texts at h = record {
  within = h.within;
  before = h.before;
  here = λ d. weaker (get_or texts at d) (h.here d);
}
