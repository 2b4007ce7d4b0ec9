-- How deep terminals nest: the greatest number of open `(`, of groups and calls, and pending `not` at any of them.
use Rattle.std.specs.Prelude.{ℕ, ◌+◌, max, List, [], ◌∷◌}
use Rattle.edge_base.specs.declared.terminal.Terminal.{Terminal}
use Rattle.edge_base.specs.declared.terminal.Terminal.TheVariants as terminal

-- the open `(` and the `not`s that are pending around them
abbrev pub open_around : List ℕ → ℕ
open_around [] = 0
open_around (pending ∷ around) = pending + 1 + open_around around

-- the `(` and `not`s that are open, this many `not`s pending in the innermost level
abbrev pub open_now : ℕ → List ℕ → ℕ
open_now pending around = pending + open_around around

-- the nesting of what follows, by the `not`s pending in the innermost level and in the levels around it; a `not` is
-- pending to the end of its unit
abbrev pub deepest : List Terminal → ℕ → List ℕ → ℕ
deepest [] pending around = 0
deepest (terminal.Not ∷ ts) pending around = max (open_now (pending + 1) around) (deepest ts (pending + 1) around)
deepest (terminal.Open ∷ ts) pending around = max (open_now 0 (pending ∷ around)) (deepest ts 0 (pending ∷ around))
deepest (terminal.Close ∷ ts) pending (outer ∷ around) = max (open_now outer around) (deepest ts outer around)
deepest (terminal.And ∷ ts) pending around = max (open_now 0 around) (deepest ts 0 around)
deepest (terminal.Xor ∷ ts) pending around = max (open_now 0 around) (deepest ts 0 around)
deepest (terminal.Or ∷ ts) pending around = max (open_now 0 around) (deepest ts 0 around)
deepest (terminal.Comma ∷ ts) pending around = max (open_now 0 around) (deepest ts 0 around)
deepest (t ∷ ts) pending around = max (open_now pending around) (deepest ts pending around)

-- the nesting of terminals
abbrev pub nesting : List Terminal → ℕ
nesting ts = deepest ts 0 []
