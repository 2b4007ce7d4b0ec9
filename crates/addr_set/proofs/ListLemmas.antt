-- The texts before a place, against the items read of them.
use Rattle.std.proofs.Common.{◌≡◌, ℕ, zero, suc, ◌+◌, ◌<◌, ◌≤◌, List, [], ◌∷◌, ◌++◌, length, get_or, take, ◌∙◌, subst, arith}
use Rattle.std.specs.List.{AllZip, AllWithin}
use Rattle.std.proofs.lemmas.List.{take_more, get_or_default}
use Rattle.edge_base.specs.declared.expression.Item.{Item}
use Rattle.addr_set.specs.ItemTexts.{IsGoodText, IsFirstFlaw}

module _ {A B : Type 0} (R : A → B → Type 0) where
  pub AllZip-more : (xs : List A) (ys : List B) (x : A) (y : B) → AllZip R xs ys → R x y → AllZip R (xs ++ x ∷ []) (ys ++ y ∷ [])
  AllZip-more [] [] x y h r = (r, tt)
  AllZip-more [] (b ∷ ys) x y h r = absurd h
  AllZip-more (a ∷ xs) [] x y h r = absurd h
  AllZip-more (a ∷ xs) (b ∷ ys) x y h r = (h.0, AllZip-more xs ys x y h.1 r)

  pub AllZip-take_more : (xs : List A) (ys : List B) (i : ℕ) (d : A) (y : B) → i < length xs → AllZip R (take i xs) ys → R (get_or xs i d) y → AllZip R (take (i + 1) xs) (ys ++ y ∷ [])
  AllZip-take_more xs ys i d y below h r = rw (take_more xs i d below) (AllZip-more (take i xs) ys (get_or xs i d) y h r)

  pub AllWithin-from_zip : (xs : List A) (ys : List B) (i : ℕ) → i ≤ length xs → AllZip R (take i xs) ys → AllWithin (λ x. (y : B) × R x y) xs 0 i
  AllWithin-from_zip xs ys zero within h k d low high = absurd (omega arith)
  AllWithin-from_zip [] ys (suc i) within h k d low high = absurd (omega arith)
  AllWithin-from_zip (x ∷ xs) [] (suc i) within h k d low high = absurd h
  AllWithin-from_zip (x ∷ xs) (y ∷ ys) (suc i) within h zero d low high = (y, h.0)
  AllWithin-from_zip (x ∷ xs) (y ∷ ys) (suc i) within h (suc k) d low high = AllWithin-from_zip xs ys i (omega arith) h.1 k d (omega arith) (omega arith)

-- the next text has a fault
pub IsFirstFlaw-next : (Fault : List ℕ → Type 0) (texts all : List (List ℕ)) (items : List Item) (i at : ℕ) (text shown : List ℕ) → texts ≡ all → i < length texts → AllZip IsGoodText (take i texts) items → text ≡ get_or texts i text → shown ≡ text → at ≡ i → Fault shown → IsFirstFlaw Fault all at
IsFirstFlaw-next Fault texts all items i at text shown same within good is_text is_shown is_at fault =
    rw (is_at, ← same) (record {
      within = within;
      before = AllWithin-from_zip IsGoodText texts items i (omega arith) good;
      here = λ d. subst Fault (is_shown ∙ is_text ∙ get_or_default texts i text d within) fault;
    })
