-- What is shown and what is known stays of one book.
use Rattle.std.proofs.Common.{◌≡◌, ℕ, ◌≢◌, List, [], ◌∷◌, ◌++◌, set, refl, subst, sym, ◌∙◌, ⊎_elim, fold, Option, Some, None, true, false, Ok, Err}
use Rattle.std.specs.Prelude.{Result, is_ok, is_err, MatchResult}
use mathlib.Core.Option.{some}
use lib.ListN.{get_elem?}
use Rattle.left_right.specs.Register.{Admits, TurnsAt, Forks, Merges}
use Rattle.atomic_table.proofs.Lists.{at_set, at_snoc}
use Rattle.logbook.specs.Pages.{Book}
use Rattle.version_store.specs.declared.deployed.Deployed.{Deployed}
use Rattle.version_store.specs.Books.{Page}
use Rattle.version_store.specs.Agreed.{Agrees, Knows, AllAgree, AgreeOn, Looks, Shows}

set_agrees : (book : Book) (views : List (Option Page)) (seat : ℕ) (v : Option Page) → AllAgree book views → Agrees book v → AllAgree book (set views seat v)
set_agrees book views seat v all here j u e = ⊎_elim (λ (t : (j ≡ seat) × (v ≡ u)). subst (Agrees book) t.1 here) (λ (t : (j ≢ seat) × (get_elem? views j ≡ some u)). all j u t.1) (at_set views seat j v u e)

snoc_agrees : (book : Book) (views : List (Option Page)) (v : Option Page) → AllAgree book views → Agrees book v → AllAgree book (views ++ v ∷ [])
snoc_agrees book views v all here j u e = ⊎_elim (all j u) (λ (same : v ≡ u). subst (Agrees book) same here) (at_snoc views v u j e)

-- a new reader knows no page
pub admits : Admits AgreeOn None
admits x views all = snoc_agrees x.front.book views None all tt

pub begins : (x : Deployed) → AgreeOn x (None ∷ [])
begins x = snoc_agrees x.front.book [] None (λ j u e. absurd (cc e)) tt

pub looks : (seat : ℕ) (v : Option Page) (x : Deployed) → TurnsAt AgreeOn seat v x x Looks
looks seat v x views all at = (v, set_agrees x.front.book views seat v all (all seat v at), (refl, all seat v at))

pub shows : (seat : ℕ) (v : Option Page) (x y : Deployed) → y.front.book ≡ x.front.book → TurnsAt AgreeOn seat v x y Shows
shows seat v x y same views all at =
    (Some y.front, set_agrees y.front.book views seat (Some y.front) (subst (λ book. AllAgree book views) (sym same) all) refl, refl)

pub forks : (seat : ℕ) (v : Option Page) → Forks AgreeOn seat v v v
forks seat v x views all at = snoc_agrees x.front.book (set views seat v) v (set_agrees x.front.book views seat v all (all seat v at)) (all seat v at)

pub merges : (seat : ℕ) (v : Option Page) (other : ℕ) (w : Option Page) → Merges AgreeOn seat v other w w None
merges seat v other w x views all at apart there =
    let told : Agrees x.front.book w = ⊎_elim (λ (t : (other ≡ seat) × (w ≡ w)). absurd (apart t.0)) (λ (t : (other ≢ seat) × (get_elem? views other ≡ some w)). all other w t.1) (at_set views seat other w w there) in
    set_agrees x.front.book (set views seat w) other None (set_agrees x.front.book views seat w all told) tt

-- who knows a page of a book looks at that book
pub same_book : (known shown : Book) (v : Option Page) → Knows known v → Agrees shown v → shown ≡ known
same_book known shown None k a = absurd k
same_book known shown (Some page) k a = sym a ∙ k

-- the last operation decides
pub last_applied : (start : Page) (pending : List Deployed) (next : Deployed) → fold (λ (before : Page) (d : Deployed). d.front) start (pending ++ next ∷ []) ≡ next.front
last_applied start [] next = refl
last_applied start (d ∷ pending) next = last_applied d.front pending next

-- what a fault-free answer ensures
pub ok_part : {A B P : Type 0} (Q : B → Type 0) (r : Result A B) → is_ok r ≡ true → MatchResult r (λ _. P) Q → P
ok_part Q (Ok a) is m = m
ok_part Q (Err e) is m = absurd (cc is)

pub ok_by_no_err : {A B P : Type 0} (Q : B → Type 0) (r : Result A B) → is_err r ≡ false → MatchResult r (λ _. P) Q → P
ok_by_no_err Q (Ok a) is m = m
ok_by_no_err Q (Err e) is m = absurd (cc is)
