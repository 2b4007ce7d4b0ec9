-- A print without one of its pairs of parentheses has fewer `(` than the tree needs.
use Rattle.std.proofs.Common.{◌≡◌, ℕ, ◌+◌, ◌≤◌, List, ◌∷◌, ◌++◌, ap, subst, arith}
use Rattle.edge_base.specs.declared.expression.Expr.{Expr}
use Rattle.edge_base.specs.declared.terminal.Terminal.{Terminal}
use Rattle.edge_base.specs.declared.terminal.Terminal.TheVariants as terminal
use Rattle.edge_base.specs.Address.{AddressIsUnique}
use Rattle.edge_base.specs.Cut.{CutsAreUnique}
use Rattle.edge_base.specs.Terminal.{AreTerminals}
use Rattle.edge_base.specs.Token.{words_of}
use Rattle.edge_base.specs.Grammar.{Derives}
use Rattle.expr_parser.specs.Spelling.{spelling}
use Rattle.expr_parser.specs.Reread.{IsReadAs, opens, PairsAreNeeded}
use Rattle.expr_parser.proofs.CutInto.{cut_of}
use Rattle.expr_parser.proofs.FewestPairs.{opens-append, printed_opens_fewest}
use Rattle.expr_parser.proofs.OneAnswer.{same_terminals}
use Rattle.expr_parser.proofs.PrintedTrees.{printed_is_cut_into}
use Rattle.expr_parser.proofs.Sound.{sound_of_cut}
use Rattle.expr_parser.proofs.TreeTerminals.{terminals_at}

-- without a pair there is a `(` less
too_few : (front inside back : List Terminal) (printed : ℕ) → opens (front ++ terminal.Open ∷ inside ++ terminal.Close ∷ back) ≡ printed
    → printed ≤ opens (front ++ inside ++ back) → ⊥
too_few front inside back printed same few =
    let outer : opens ((front ++ terminal.Open ∷ inside) ++ terminal.Close ∷ back) ≡ opens (front ++ terminal.Open ∷ inside) + opens back
    = opens-append (front ++ terminal.Open ∷ inside) (terminal.Close ∷ back) in
    let inner : opens (front ++ terminal.Open ∷ inside) ≡ opens front + (opens inside + 1) = opens-append front (terminal.Open ∷ inside) in
    let bare : opens ((front ++ inside) ++ back) ≡ opens (front ++ inside) + opens back = opens-append (front ++ inside) back in
    let both : opens (front ++ inside) ≡ opens front + opens inside = opens-append front inside in
    omega arith

module _ (unique : AddressIsUnique) (cuts : CutsAreUnique) where
  -- a print is read as the terminals of its tree
  printed_terminals : (e : Expr) (ts : List Terminal) → IsReadAs (spelling e) ts e → ts ≡ terminals_at e 0
  printed_terminals e ts read =
      let sound = sound_of_cut (spelling e) read.tokens ts read.is_cut read.are_terminals in
      let found = cut_of (spelling e) (terminals_at e 0) (printed_is_cut_into ts e read.derives sound) in
      same_terminals unique (words_of (spelling e) found.0) ts (terminals_at e 0)
      (subst (λ v. AreTerminals (words_of (spelling e) v) ts) (cuts (spelling e) read.tokens found.0 read.is_cut found.1) read.are_terminals) found.2

  pub pair_is_needed : PairsAreNeeded
  pair_is_needed e front inside back read derives =
      too_few front inside back (opens (terminals_at e 0))
      (ap opens (printed_terminals e (front ++ terminal.Open ∷ inside ++ terminal.Close ∷ back) read))
      (printed_opens_fewest (front ++ inside ++ back) e derives)
