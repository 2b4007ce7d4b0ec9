-- The number of each status, and what the operator is told.
use Rattle.std.specs.Prelude.{ℕ, List, [], ◌∷◌, ◌++◌, codes}
use Rattle.edge_main.specs.declared.statuses.Status.{Status}
use Rattle.edge_main.specs.declared.statuses.Status.TheVariants as status

abbrev pub code_of : Status → ℕ
code_of status.Done = 0
code_of status.Usage = 2
code_of status.BadItems = 3
code_of status.ReadFault = 5
code_of status.WriteFault = 6
code_of status.Memory = 7
code_of status.AcceptFault = 8
code_of status.LongInput = 9
code_of status.Spent = 10

-- a line of text
abbrev pub told : List ℕ → List ℕ
told text = text ++ 10 ∷ []

abbrev pub said_of : Status → List ℕ
said_of status.Done = []
said_of status.Usage = told (codes "edge: usage")
said_of status.BadItems = []
said_of status.ReadFault = told (codes "edge: read fault")
said_of status.WriteFault = told (codes "edge: write fault")
said_of status.Memory = told (codes "edge: no memory")
said_of status.AcceptFault = told (codes "edge: accept fault")
said_of status.LongInput = told (codes "edge: input too long")
said_of status.Spent = told (codes "edge: steps spent")
