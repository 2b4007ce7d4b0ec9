-- Where the parts of a configuration stand: JSON pointers (RFC 6901) whose names are escaped as where texts are printed;
-- the whole document stands at `/`.
use Rattle.std.specs.Prelude.{ℕ, ◌==◌, if◌then◌else◌, List, [], ◌∷◌, ◌++◌, codes, decimal}
use Rattle.edge_base.specs.Bytes.{slash, tilde}
use Rattle.edge_base.specs.Printed.{escaped}

-- the place of the whole document
abbrev pub whole : List ℕ
whole = codes "/"

-- what stands before the places of the document's members
abbrev pub top : List ℕ
top = []

-- a byte of a name in a pointer: `~0` for `~`, `~1` for `/`
abbrev pub pointed : ℕ → List ℕ
pointed byte = if byte == tilde then codes "~0" else (if byte == slash then codes "~1" else byte ∷ [])

-- a name in a place
abbrev pub placed : List ℕ → List ℕ
placed [] = []
placed (byte ∷ name) = escaped (pointed byte) ++ placed name

-- the place of the member of this name
abbrev pub child : List ℕ → List ℕ → List ℕ
child place name = place ++ codes "/" ++ placed name

-- the place of the n-th element, from 0
abbrev pub nth : List ℕ → ℕ → List ℕ
nth place n = place ++ codes "/" ++ decimal n
