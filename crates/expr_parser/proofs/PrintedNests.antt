-- A tree that was read is printed with a nesting no greater than what it was read from.
use Rattle.std.proofs.Common.{◌≡◌, ℕ, ◌≤◌, pos, true, false, List, [], refl, ap, ◌∙◌, sym, append-nil, le_refl, arith}
use Rattle.edge_base.specs.declared.expression.Lit.TheVariants as lit
use Rattle.edge_base.specs.declared.expression.Expr.{Expr}
use Rattle.edge_base.specs.declared.expression.Expr.TheVariants as expr
use Rattle.edge_base.specs.declared.terminal.Terminal.{Terminal}
use Rattle.edge_base.specs.declared.terminal.Terminal.TheVariants as terminal
use Rattle.edge_base.specs.Grammar.{IsExpression, literal, chain, IsChain, one_xor, more_xors, IsXor, one_and, more_ands, IsAnd, one_unit, more_units, IsUnit, negated, group, untested, tested, IsOperand, true_word, false_word, path, IsPath, name, call, index, key, each, IsArguments, one_argument, more_arguments, Derives}
use Rattle.edge_base.specs.Nesting.{nesting}
use Rattle.expr_parser.proofs.TreeTerminals.{terminals_at, terminals_lit, terminals_field, terminals_index, terminals_key, terminals_each, terminals_test}
use Rattle.expr_parser.proofs.DepthLemmas.{chain_nesting}
use Rattle.expr_parser.proofs.PlainTests.{test_prints, plain_one, plain_three, test_rises}
use Rattle.expr_parser.proofs.PartsNest.{OperandFits, UnitFits, and_node, xor_node, or_node, MemberFits, ListFits, ArgumentsFit, fits_member, unit_member, one_member, more_members, negated_fits, group_fits, operand_unit, followed_fits, plain_fits, literal_fits, call_fits, one_fits, more_fit}

mutual
  expression_fits : {ts : List Terminal} {e : Expr} → IsExpression ts e → MemberFits 0 ts e
  expression_fits (literal d) = unit_member 0 (operand_unit (literal_fits d))
  expression_fits (chain d) = fits_member (chain_fits d)

  chain_fits : {ts : List Terminal} {es : List Expr} → IsChain ts es → ListFits terminal.Or 0 expr.Or ts es
  chain_fits (one_xor d) = one_member (fits_member (xor_fits d))
  chain_fits (more_xors d ds) = more_members or_node (fits_member (xor_fits d)) (chain_fits ds)

  xor_fits : {ts : List Terminal} {es : List Expr} → IsXor ts es → ListFits terminal.Xor 1 expr.Xor ts es
  xor_fits (one_and d) = one_member (fits_member (and_fits d))
  xor_fits (more_ands d ds) = more_members xor_node (fits_member (and_fits d)) (xor_fits ds)

  and_fits : {ts : List Terminal} {es : List Expr} → IsAnd ts es → ListFits terminal.And 2 expr.And ts es
  and_fits (one_unit d) = one_member (unit_member 3 (unit_fits d))
  and_fits (more_units d ds) = more_members and_node (unit_member 3 (unit_fits d)) (and_fits ds)

  unit_fits : {ts : List Terminal} {u : Expr} → IsUnit ts u → UnitFits ts u
  unit_fits (negated d) = negated_fits (unit_fits d)
  unit_fits (group d) = group_fits (fits_member (chain_fits d))
  unit_fits (untested d) = operand_unit (operand_fits d)
  unit_fits (tested {e} {t} d q) = operand_unit (followed_fits (operand_fits d) (test_rises q) (sym (test_prints q)) (terminals_test e t))

  operand_fits : {ts : List Terminal} {e : Expr} → IsOperand ts e → OperandFits ts e
  operand_fits true_word = plain_fits (plain_one tt) (terminals_lit (lit.Bool true))
  operand_fits false_word = plain_fits (plain_one tt) (terminals_lit (lit.Bool false))
  operand_fits (path d) = path_fits d

  path_fits : {ts : List Terminal} {e : Expr} → IsPath ts e → OperandFits ts e
  path_fits (name {n}) = plain_fits (plain_one tt) (terminals_field n)
  path_fits (call {n} d) = call_fits n (arguments_fit d)
  path_fits (index {e} {n} d) = followed_fits (path_fits d) (plain_three tt tt tt) refl (terminals_index e (pos n))
  path_fits (key {e} {k} d) = followed_fits (path_fits d) (plain_three tt tt tt) refl (terminals_key e k)
  path_fits (each {e} d) = followed_fits (path_fits d) (plain_three tt tt tt) refl (terminals_each e)

  arguments_fit : {ts : List Terminal} {es : List Expr} → IsArguments ts es → ArgumentsFit ts es
  arguments_fit (one_argument d) = one_fits (expression_fits d)
  arguments_fit (more_arguments d ds) = more_fit (expression_fits d) (arguments_fit ds)

pub printed_nests_no_deeper : (ts : List Terminal) (e : Expr) → Derives ts e → nesting (terminals_at e 0) ≤ nesting ts
printed_nests_no_deeper ts e d =
    let f = expression_fits d in
    let w = f.printed.bare 0 (le_refl 0) in
    let left = chain_nesting w.rises in
    let right = chain_nesting f.rises in
    let q = w.within in
    omega arith
