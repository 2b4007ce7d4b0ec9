-- Elements that are printed one after the other are read again one after the other.
use Rattle.std.proofs.Common.{◌≡◌, ℕ, suc, ◌<◌, List, [], ◌∷◌, ◌++◌, map, length, take, slice_index_or, None, refl, sym, ap, ◌∙◌, subst, append_assoc, append-nil, arith}
use Rattle.std.specs.List.{All, AllByRecursion}
use Rattle.std.proofs.lemmas.List.{map-append}
use Rattle.std.proofs.lemmas.List.Elements.{recursion_from_All}
use Rattle.serde_json.specs.Data.{Data, string}
use Rattle.serde_json.specs.View.{items_of}
use Rattle.ruleset_model.specs.Valid.{EachAfter}
use Rattle.config_read.specs.Refusals.{Table, each}
use Rattle.config_read.specs.Members.{list_of, text_of, a_text, each_text}
use Rattle.config_read.specs.Printed.{printed_texts}

-- ---- arrays

pub list_of-items_of : (ds : List Data) → list_of (items_of ds) ≡ ds
list_of-items_of [] = refl
list_of-items_of (d ∷ ds) = ap (λ rest. d ∷ rest) (list_of-items_of ds)

-- ---- elements, each of which is refused nowhere and stands for what it was printed of

pub each_passes : {D X Y : Type 0} (table : List X → D → Table) (stands : D → X) (print : Y → D) (meant : Y → X) (Keeps : List Y → Y → Type 0)
    → ((earlier : List Y) (y : Y) → Keeps earlier y → table (map meant earlier) (print y) None)
    → ((earlier : List Y) (y : Y) → Keeps earlier y → stands (print y) ≡ meant y)
    → (earlier ys : List Y) → EachAfter Keeps earlier ys → each table stands (map meant earlier) (map print ys) None
each_passes table stands print meant Keeps passes back earlier [] kept = refl
each_passes {X = X} table stands print meant Keeps passes back earlier (y ∷ ys) kept = (
  passes earlier y kept.0,
  subst (λ (before : List X). each table stands before (map print ys) None)
      (map-append meant earlier (y ∷ []) ∙ ap (λ x. map meant earlier ++ x ∷ []) (sym (back earlier y kept.0)))
      (each_passes table stands print meant Keeps passes back (earlier ++ y ∷ []) ys kept.1),
)

pub each_back : {D X Y : Type 0} (stands : D → X) (print : Y → D) (meant : Y → X) (Keeps : List Y → Y → Type 0)
    → ((earlier : List Y) (y : Y) → Keeps earlier y → stands (print y) ≡ meant y)
    → (earlier ys : List Y) → EachAfter Keeps earlier ys → map stands (map print ys) ≡ map meant ys
each_back stands print meant Keeps back earlier [] kept = refl
each_back stands print meant Keeps back earlier (y ∷ ys) kept =
    λ i. back earlier y kept.0 i ∷ each_back stands print meant Keeps back (earlier ++ y ∷ []) ys kept.1 i

-- ---- what is kept of each element

pub after_each : {X : Type 0} (Fact : X → Type 0) (earlier xs : List X) → AllByRecursion Fact xs → EachAfter (λ before. Fact) earlier xs
after_each Fact earlier [] all = tt
after_each Fact earlier (x ∷ xs) all = (all.0, after_each Fact (earlier ++ x ∷ []) xs all.1)

pub after_all : {X : Type 0} (Fact : X → Type 0) (xs : List X) → All Fact xs → EachAfter (λ before. Fact) [] xs
after_all Fact xs all = after_each Fact [] xs (recursion_from_All Fact xs all)

pub after_places : {X : Type 0} (Fact : List X → X → Type 0) (earlier xs : List X)
    → ((k : ℕ) (d : X) → k < length xs → Fact (earlier ++ take k xs) (slice_index_or xs k d)) → EachAfter Fact earlier xs
after_places Fact earlier [] holds = tt
after_places {X = X} Fact earlier (x ∷ xs) holds = (
  subst (λ (before : List X). Fact before x) (append-nil earlier) (holds 0 x (omega arith)),
  after_places Fact (earlier ++ x ∷ []) xs (λ k d below.
      subst (λ (before : List X). Fact before (slice_index_or xs k d)) (sym (append_assoc earlier (x ∷ []) (take k xs)))
      (holds (suc k) d (omega arith))),
)

pub after_both : {X : Type 0} (A B : List X → X → Type 0) (earlier xs : List X)
    → EachAfter A earlier xs → EachAfter B earlier xs → EachAfter (λ before x. A before x × B before x) earlier xs
after_both A B earlier [] a b = tt
after_both A B earlier (x ∷ xs) a b = ((a.0, b.0), after_both A B (earlier ++ x ∷ []) xs a.1 b.1)

-- nothing has to be kept
pub after_none : {X : Type 0} (earlier xs : List X) → EachAfter (λ before x. Unit {0}) earlier xs
after_none earlier [] = tt
after_none earlier (x ∷ xs) = (tt, after_none (earlier ++ x ∷ []) xs)

-- ---- texts

pub texts_back : (texts : List (List ℕ)) → map text_of (list_of (items_of (map string texts))) ≡ texts
texts_back [] = refl
texts_back (text ∷ texts) = ap (λ rest. text ∷ rest) (texts_back texts)

each_text_passes : (items : List ℕ) (earlier texts : List (List ℕ)) → each (a_text items) text_of earlier (map string texts) None
each_text_passes items earlier [] = refl
each_text_passes items earlier (text ∷ texts) = (refl, each_text_passes items (earlier ++ text ∷ []) texts)

pub texts_pass : (items : List ℕ) (texts : List (List ℕ)) → each_text items (list_of (items_of (map string texts))) None
texts_pass items texts =
    subst (λ (ds : List Data). each_text items ds None) (sym (list_of-items_of (map string texts))) (each_text_passes items [] texts)
