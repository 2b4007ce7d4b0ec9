-- The steps of the parts of a node that were taken so far, which are the last ones.
use Rattle.std.proofs.Common.{◌≡◌, ℕ, ◌<◌, ◌≤◌, List, [], ◌∷◌, ◌++◌, length, sym, ap, subst, ◌∙◌, append_assoc, length-append, arith}
use denote.Param.Weighed.{most, most-append}
use Rattle.std.proofs.lemmas.List.{append-nil}
use Rattle.type_check.specs.declared.node.Node.{Node}

-- these are left of the nodes, and the others have this code
pub record HasCode (nodes left : List Node) (Code : List Node → Type 0) : Type 0 where
  pub others : List Node
  pub all : nodes ≡ left ++ others
  pub code : Code others

pub begun : (nodes : List Node) (Code : List Node → Type 0) → Code [] → HasCode nodes nodes Code
begun nodes Code code = record { others = []; all = sym (append-nil nodes); code = code }

pub goes_on : (nodes left now : List Node) (one : Node) (Code Next : List Node → Type 0) → HasCode nodes left Code → left ≡ now ++ one ∷ [] → ((others : List Node) → Code others → Next (one ∷ others))
    → HasCode nodes now Next
goes_on nodes left now one Code Next h cut more = record {
  others = one ∷ h.others;
  all = h.all ∙ ap (λ front. front ++ h.others) cut ∙ append_assoc now (one ∷ []) h.others;
  code = more h.others h.code;
}

pub ended : (nodes left : List Node) (Code : List Node → Type 0) → HasCode nodes left Code → left ≡ [] → Code nodes
ended nodes left Code h none = subst Code (sym (h.all ∙ ap (λ front. front ++ h.others) none)) h.code

-- one is taken
pub falls : (left now : List Node) (one : Node) → left ≡ now ++ one ∷ [] → length now < length left
falls left now one cut = let fewer = ap length cut ∙ length-append now (one ∷ []) in omega arith

-- what is left is no deeper
pub no_deeper : {X : Type 0} (size : X → ℕ) (left now : List X) (one : X) (bound : ℕ) → left ≡ now ++ one ∷ [] → most size left ≤ bound → most size now ≤ bound
no_deeper size left now one bound cut low = let parts = ap (most size) cut ∙ most-append size now (one ∷ []) in omega arith
