-- Terminals nest as deep as their derivation is.
use Rattle.std.proofs.Common.{◌≡◌, ℕ, ◌+◌, max, List, [], ◌∷◌, ◌++◌, ap, ◌∙◌, sym, subst, append-nil, arith}
use Rattle.edge_base.specs.declared.expression.Expr.{Expr}
use Rattle.edge_base.specs.declared.terminal.Terminal.{Terminal}
use Rattle.edge_base.specs.declared.terminal.Terminal.TheVariants as terminal
use Rattle.edge_base.specs.Grammar.{IsExpression, literal, chain, IsChain, one_xor, more_xors, IsXor, one_and, more_ands, IsAnd, one_unit, more_units, IsUnit, negated, group, untested, tested, IsOperand, true_word, false_word, path, IsPath, name, call, index, key, each, IsArguments, one_argument, more_arguments, Derives}
use Rattle.edge_base.specs.Nesting.{nesting}
use Rattle.expr_parser.specs.Depth.{depth, chain_depth, xor_depth, and_depth, unit_depth, operand_depth, path_depth, arguments_depth, NestingIsDepth}
use Rattle.expr_parser.proofs.PlainTests.{plain_one, plain_three, literal_rises, test_rises}
use Rattle.expr_parser.proofs.Rises.{Rises, UnitRises, ChainRises, end_closes, and_joins, xor_joins, or_joins, comma_joins, unit_rises, chain_rises, append_rises, negated_rises, grouped_rises, joined_rises}

-- what stands behind an operand and nests nothing
followed_rises : {ts us : List Terminal} {h : ℕ} → Rises ts h → Rises us 0 → Rises (ts ++ us) h
followed_rises {ts} {us} {h} r s = subst (λ n. Rises (ts ++ us) n) (let same : max h 0 ≡ h = omega arith in same) (append_rises r s)

-- a name before arguments in parentheses
called_rises : {n : List ℕ} {ts : List Terminal} {h : ℕ} → ChainRises ts h → Rises (terminal.Name n ∷ terminal.Open ∷ ts ++ terminal.Close ∷ []) (h + 1)
called_rises {n} {ts} {h} r =
    subst (λ k. Rises (terminal.Name n ∷ terminal.Open ∷ ts ++ terminal.Close ∷ []) k) (let same : max 0 (h + 1) ≡ h + 1 = omega arith in same)
    (append_rises (plain_one tt) (grouped_rises r))

mutual
  expression_rises : {ts : List Terminal} {e : Expr} (d : IsExpression ts e) → ChainRises ts (depth d)
  expression_rises (literal l) = chain_rises (unit_rises (literal_rises l))
  expression_rises (chain c) = rises_of_chain c

  rises_of_chain : {ts : List Terminal} {es : List Expr} (d : IsChain ts es) → ChainRises ts (chain_depth d)
  rises_of_chain (one_xor x) = xor_rises x
  rises_of_chain (more_xors x rest) = joined_rises or_joins (xor_rises x) (rises_of_chain rest)

  xor_rises : {ts : List Terminal} {es : List Expr} (d : IsXor ts es) → ChainRises ts (xor_depth d)
  xor_rises (one_and a) = and_rises a
  xor_rises (more_ands a rest) = joined_rises xor_joins (and_rises a) (xor_rises rest)

  and_rises : {ts : List Terminal} {es : List Expr} (d : IsAnd ts es) → ChainRises ts (and_depth d)
  and_rises (one_unit u) = chain_rises (rises_of_unit u)
  and_rises (more_units u rest) = joined_rises and_joins (chain_rises (rises_of_unit u)) (and_rises rest)

  rises_of_unit : {ts : List Terminal} {e : Expr} (d : IsUnit ts e) → UnitRises ts (unit_depth d)
  rises_of_unit (negated u) = negated_rises (rises_of_unit u)
  rises_of_unit (group c) = unit_rises (grouped_rises (rises_of_chain c))
  rises_of_unit (untested o) = unit_rises (operand_rises o)
  rises_of_unit (tested o t) = unit_rises (followed_rises (operand_rises o) (test_rises t))

  operand_rises : {ts : List Terminal} {e : Expr} (d : IsOperand ts e) → Rises ts (operand_depth d)
  operand_rises true_word = plain_one tt
  operand_rises false_word = plain_one tt
  operand_rises (path p) = path_rises p

  path_rises : {ts : List Terminal} {e : Expr} (d : IsPath ts e) → Rises ts (path_depth d)
  path_rises name = plain_one tt
  path_rises (call a) = called_rises (arguments_rise a)
  path_rises (index p) = followed_rises (path_rises p) (plain_three tt tt tt)
  path_rises (key p) = followed_rises (path_rises p) (plain_three tt tt tt)
  path_rises (each p) = followed_rises (path_rises p) (plain_three tt tt tt)

  arguments_rise : {ts : List Terminal} {es : List Expr} (d : IsArguments ts es) → ChainRises ts (arguments_depth d)
  arguments_rise (one_argument e) = expression_rises e
  arguments_rise (more_arguments e rest) = joined_rises comma_joins (expression_rises e) (arguments_rise rest)

pub chain_nesting : {ts : List Terminal} {h : ℕ} → ChainRises ts h → nesting ts ≡ h
chain_nesting {ts} {h} r = ap nesting (sym (append-nil ts)) ∙ r.scan [] [] end_closes ∙ omega arith

pub nesting_is_depth : NestingIsDepth
nesting_is_depth ts e d = chain_nesting (expression_rises d)
