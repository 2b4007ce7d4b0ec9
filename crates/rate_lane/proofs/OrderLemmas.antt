-- The tree with one number changed, and the way down in it.
use Rattle.std.proofs.Common.{◌≡◌, ◌⊎◌, inl, inr, ℕ, zero, suc, ◌+◌, ◌*◌, ◌/◌, ◌<◌, ◌≤◌, ◌≢◌, min, List, All, length, drop, set, get_or, sym, ap, ◌∙◌, arith}
use Rattle.std.proofs.lemmas.Bool.{cases_lt}
use Rattle.std.proofs.lemmas.List.{get_or-set_same, get_or-set_other, get_or-drop, get_or_default, length-drop}
use Rattle.rate_lane.specs.Order.{node_of, lesser_of, IsTree}

-- all nodes but this one have the lesser number of their children
abbrev pub IsTreeBut : ℕ → ℕ → List ℕ → Type 0
IsTreeBut places node nodes = (at : ℕ) → 1 ≤ at → at < places → at ≢ node → node_of nodes at ≡ lesser_of nodes at

-- a number written at a place leaves only the node above it to be mended
pub written : (places place number : ℕ) (nodes : List ℕ) → IsTree places nodes → place < places → IsTreeBut places ((places + place) / 2) (set nodes (places + place) number)
written places place number nodes tree within at some below other =
    get_or-set_other nodes (places + place) at number 0 own
    ∙ tree.lesser at some below
    ∙ (λ i. min (sym (get_or-set_other nodes (places + place) (2 * at) number 0 left) i) (sym (get_or-set_other nodes (places + place) (2 * at + 1) number 0 right) i))
  where
    own : at ≢ places + place
    own e = omega (arith, e, below)

    left : 2 * at ≢ places + place
    left e = other (omega (arith, e))

    right : 2 * at + 1 ≢ places + place
    right e = other (omega (arith, e))

-- a mended node leaves only the one above it to be mended
pub mended : (places node : ℕ) (nodes : List ℕ) → length nodes ≡ 2 * places → 1 ≤ node → node < places → IsTreeBut places node nodes → IsTreeBut places (node / 2) (set nodes node (lesser_of nodes node))
mended places node nodes whole some_node within tree at some below other = by (cases_eq at node)
  where
    value : ℕ
    value = lesser_of nodes node

    cases_eq : (a b : ℕ) → (a ≡ b) ⊎ (a ≢ b)
    cases_eq a b = by_lt (cases_lt a b) (cases_lt b a)
      where
        by_lt : (a < b) ⊎ (b ≤ a) → (b < a) ⊎ (a ≤ b) → (a ≡ b) ⊎ (a ≢ b)
        by_lt (inl l) r = inr (λ e. omega (arith, e, l))
        by_lt (inr g) (inl l) = inr (λ e. omega (arith, e, l))
        by_lt (inr g) (inr h) = inl (omega arith)

    left : 2 * at ≢ node
    left e = other (omega (arith, e))

    right : 2 * at + 1 ≢ node
    right e = other (omega (arith, e))

    children : lesser_of nodes at ≡ lesser_of (set nodes node value) at
    children = λ i. min (sym (get_or-set_other nodes node (2 * at) value 0 left) i) (sym (get_or-set_other nodes node (2 * at + 1) value 0 right) i)

    by : (at ≡ node) ⊎ (at ≢ node) → node_of (set nodes node value) at ≡ lesser_of (set nodes node value) at
    by (inl e) = ap (node_of (set nodes node value)) e ∙ get_or-set_same nodes node value 0 (omega (arith, whole)) ∙ ap (lesser_of nodes) (sym e) ∙ children
    by (inr e) = get_or-set_other nodes node at value 0 e ∙ tree at some below e ∙ children

-- the first node's number is at most each other's
pub first_within : (places : ℕ) (nodes : List ℕ) → IsTree places nodes → (at : ℕ) → 1 ≤ at → at < 2 * places → node_of nodes 1 ≤ node_of nodes at
first_within places nodes tree at some below = go at at (omega arith) some below
  where
    under : (at : ℕ) → 2 ≤ at → at < 2 * places → node_of nodes 1 ≤ node_of nodes (at / 2) → node_of nodes 1 ≤ node_of nodes at
    under at two below up = side (cases_lt (2 * (at / 2)) at)
      where
        its : node_of nodes (at / 2) ≡ lesser_of nodes (at / 2)
        its = tree.lesser (at / 2) (omega (arith, two)) (omega (arith, below))

        side : (2 * (at / 2) < at) ⊎ (at ≤ 2 * (at / 2)) → node_of nodes 1 ≤ node_of nodes at
        side (inl odd) = let same : 2 * (at / 2) + 1 ≡ at = omega (arith, odd) in omega (arith, up, its, ap (node_of nodes) same)
        side (inr even) = let same : 2 * (at / 2) ≡ at = omega (arith, even) in omega (arith, up, its, ap (node_of nodes) same)

    by : (at : ℕ) → 1 ≤ at → at < 2 * places → (at < 2) ⊎ (2 ≤ at) → (2 ≤ at → node_of nodes 1 ≤ node_of nodes (at / 2)) → node_of nodes 1 ≤ node_of nodes at
    by at some below (inl l) up = let one : at ≡ 1 = omega (arith, l, some) in omega (arith, ap (node_of nodes) one)
    by at some below (inr l) up = under at l below (up l)

    go : (fuel at : ℕ) → at ≤ fuel → 1 ≤ at → at < 2 * places → node_of nodes 1 ≤ node_of nodes at
    go zero at short some below = absurd (none at short some)
      where
        none : (at : ℕ) → at ≤ 0 → 1 ≤ at → ⊥
        none at short some = omega (arith, short, some)
    go (suc fuel) at short some below =
        by at some below (cases_lt at 2) (λ two. go fuel (at / 2) (omega (arith, short, two)) (omega (arith, two)) (omega (arith, below)))

-- where the first node's number is above one, all numbers are
pub all_above : (places most : ℕ) (nodes : List ℕ) → IsTree places nodes → most < node_of nodes 1 → All (λ number. most < number) (drop places nodes)
all_above places most nodes tree above k d below =
    let inside : places + k < length nodes = omega (arith, length-drop places nodes) in
    let least = first_within places nodes tree (places + k) (omega (arith, tree.some_place)) (omega (arith, tree.whole)) in
    let same = get_or-drop places nodes k d in
    let default : get_or nodes (places + k) d ≡ get_or nodes (places + k) 0 = get_or_default nodes (places + k) d 0 inside in
    omega (arith, above, least, same, default)
