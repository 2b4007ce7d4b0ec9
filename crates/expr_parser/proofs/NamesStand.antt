-- Names, reserved words and list names stand for their terminals before an end byte.
use Rattle.std.proofs.Common.{◌≡◌, ℕ, true, List, ◌∷◌, Some, IsTrue, is_some, option_map, refl, ap}
use Rattle.edge_base.specs.declared.terminal.Terminal.{Terminal}
use Rattle.edge_base.specs.declared.terminal.Terminal.TheVariants as terminal
use Rattle.edge_base.specs.declared.token.TokenKind.TheVariants as kind
use Rattle.edge_base.specs.Token.{is_reserved, list_name_of, IsTokenOf}
use Rattle.edge_base.specs.Terminal.{reserved}
use Rattle.expr_parser.proofs.BeforeEnds.{stands_before_end}
use Rattle.expr_parser.proofs.Written.{ends_before, StandsFor}

pub name_stands : (name rest : List ℕ) → IsTokenOf kind.Name name → ends_before rest ≡ true → StandsFor kind.Name name rest (terminal.Name name)
name_stands name rest token ends = stands_before_end kind.Name name rest (terminal.Name name) token refl ends

pub word_stands : (word rest : List ℕ) (t : Terminal) → IsTrue (is_reserved word) → reserved word ≡ Some t → ends_before rest ≡ true → StandsFor kind.Reserved word rest t
word_stands word rest t token stands ends = stands_before_end kind.Reserved word rest t token stands ends

pub list_name_stands : (name rest : List ℕ) → list_name_of (36 ∷ name) ≡ Some name → ends_before rest ≡ true
    → StandsFor kind.ListName (36 ∷ name) rest (terminal.ListName name)
list_name_stands name rest named ends =
    stands_before_end kind.ListName (36 ∷ name) rest (terminal.ListName name) (ap is_some named) (ap (option_map terminal.ListName) named) ends
