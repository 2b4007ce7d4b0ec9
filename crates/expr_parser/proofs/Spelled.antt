-- How a table of spellings that is made of two is looked up.
use Rattle.std.proofs.Common.{◌≡◌, ℕ, Bool, true, false, cond, List, [], ◌∷◌, ◌++◌, refl, bytes_eq}
use Rattle.std.specs.declared.option.Option.{Option}
use Rattle.std.specs.declared.option.Option.TheVariants.{None, Some}
use Rattle.edge_base.specs.declared.terminal.Terminal.{Terminal}
use Rattle.edge_base.specs.Spellings.{Spelling}
use Rattle.edge_base.specs.Terminal.{spelled}

first_by : (here : Bool) (x t : Terminal) (rest more : Option Terminal) → cond here (Some x) rest ≡ Some t → (rest ≡ Some t → more ≡ Some t) → cond here (Some x) more ≡ Some t
first_by true x t rest more h k = h
first_by false x t rest more h k = k h

after_by : (here : Bool) (x : Terminal) (rest more last : Option Terminal) → cond here (Some x) rest ≡ None → (rest ≡ None → more ≡ last) → cond here (Some x) more ≡ last
after_by true x rest more last h k = absurd cc
after_by false x rest more last h k = k h

-- what the first finds
pub spelled_first : (a b : List Spelling) (text : List ℕ) (t : Terminal) → spelled a text ≡ Some t → spelled (a ++ b) text ≡ Some t
spelled_first [] b text t h = absurd cc
spelled_first (s ∷ a) b text t h = first_by (bytes_eq text s.spelling) s.stands_for t (spelled a text) (spelled (a ++ b) text) h (spelled_first a b text t)

-- where the first finds nothing
pub spelled_after : (a b : List Spelling) (text : List ℕ) → spelled a text ≡ None → spelled (a ++ b) text ≡ spelled b text
spelled_after [] b text h = refl
spelled_after (s ∷ a) b text h = after_by (bytes_eq text s.spelling) s.stands_for (spelled a text) (spelled (a ++ b) text) (spelled b text) h (spelled_after a b text)
