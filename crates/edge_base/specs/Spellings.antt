-- The reserved words and the symbols of the Rules language, and the terminal that each is.
use Rattle.std.specs.Prelude.{ℕ, List, [], ◌∷◌, ◌++◌, codes, map}
use Rattle.edge_base.specs.declared.expression.Order.TheVariants as order
use Rattle.edge_base.specs.declared.terminal.Terminal.{Terminal}
use Rattle.edge_base.specs.declared.terminal.Terminal.TheVariants as terminal

-- a word or a sign, and the terminal that it is
pub record Spelling : Type 0 where
  pub spelling : List ℕ
  pub stands_for : Terminal

abbrev pub spells : List ℕ → Terminal → Spelling
spells text t = record { spelling = text; stands_for = t }

abbrev pub joining_words : List Spelling
joining_words =
    spells (codes "not") terminal.Not ∷ spells (codes "and") terminal.And ∷ spells (codes "xor") terminal.Xor
    ∷ spells (codes "or") terminal.Or ∷ []

abbrev pub order_words : List Spelling
order_words =
    spells (codes "eq") (terminal.Order order.Eq) ∷ spells (codes "ne") (terminal.Order order.Ne)
    ∷ spells (codes "lt") (terminal.Order order.Lt) ∷ spells (codes "le") (terminal.Order order.Le)
    ∷ spells (codes "gt") (terminal.Order order.Gt) ∷ spells (codes "ge") (terminal.Order order.Ge) ∷ []

abbrev pub test_words : List Spelling
test_words =
    spells (codes "contains") terminal.Contains ∷ spells (codes "matches") terminal.Matches
    ∷ spells (codes "in") terminal.In ∷ spells (codes "wildcard") terminal.Wildcard
    ∷ spells (codes "strict") terminal.Strict ∷ []

abbrev pub truth_words : List Spelling
truth_words = spells (codes "true") terminal.True ∷ spells (codes "false") terminal.False ∷ []

abbrev pub brackets : List Spelling
brackets =
    spells (codes "(") terminal.Open ∷ spells (codes ")") terminal.Close
    ∷ spells (codes "[") terminal.OpenIndex ∷ spells (codes "]") terminal.CloseIndex
    ∷ spells (codes "{") terminal.OpenItems ∷ spells (codes "}") terminal.CloseItems ∷ []

abbrev pub marks : List Spelling
marks = spells (codes ",") terminal.Comma ∷ spells (codes "*") terminal.Star ∷ spells (codes "..") terminal.To ∷ []

abbrev pub joining_signs : List Spelling
joining_signs =
    spells (codes "!") terminal.Not ∷ spells (codes "&&") terminal.And ∷ spells (codes "^^") terminal.Xor
    ∷ spells (codes "||") terminal.Or ∷ []

abbrev pub order_signs : List Spelling
order_signs =
    spells (codes "==") (terminal.Order order.Eq) ∷ spells (codes "!=") (terminal.Order order.Ne)
    ∷ spells (codes "<") (terminal.Order order.Lt) ∷ spells (codes "<=") (terminal.Order order.Le)
    ∷ spells (codes ">") (terminal.Order order.Gt) ∷ spells (codes ">=") (terminal.Order order.Ge) ∷ []

abbrev pub test_signs : List Spelling
test_signs = spells (codes "~") terminal.Matches ∷ []

abbrev pub reserved_words : List Spelling
reserved_words = joining_words ++ (order_words ++ (test_words ++ truth_words))

abbrev pub symbols : List Spelling
symbols = brackets ++ (marks ++ (joining_signs ++ (order_signs ++ test_signs)))

-- how these are spelled
abbrev pub spellings_of : List Spelling → List (List ℕ)
spellings_of spellings = map (λ s. s.spelling) spellings
