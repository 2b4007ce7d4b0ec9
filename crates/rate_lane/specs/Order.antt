-- The tree by which a lane finds what dies first.
use Rattle.std.specs.Prelude.{◌≡◌, ℕ, ◌+◌, ◌*◌, ◌<◌, ◌≤◌, min, List, length, slice_index_or}

-- the number of a node
abbrev pub node_of : List ℕ → ℕ → ℕ
node_of nodes at = slice_index_or nodes at 0

-- the lesser number of a node's two children
abbrev pub lesser_of : List ℕ → ℕ → ℕ
lesser_of nodes at = min (node_of nodes (2 * at)) (node_of nodes (2 * at + 1))

-- each node above the places' has the lesser number of its children
pub record IsTree (places : ℕ) (nodes : List ℕ) : Type 0 where
  pub some_place : 1 ≤ places
  pub few : places ≤ 65536
  pub whole : length nodes ≡ 2 * places
  pub lesser : (at : ℕ) → 1 ≤ at → at < places → node_of nodes at ≡ lesser_of nodes at
