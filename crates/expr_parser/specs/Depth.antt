-- How deep a derivation is: the most groups, calls and `not`s that stand one inside the other. It is the nesting of the
-- terminals.
use Rattle.std.specs.Prelude.{◌≡◌, ℕ, ◌+◌, max, List}
use Rattle.edge_base.specs.declared.expression.Expr.{Expr}
use Rattle.edge_base.specs.declared.terminal.Terminal.{Terminal}
use Rattle.edge_base.specs.Grammar.{IsExpression, literal, chain, IsChain, one_xor, more_xors, IsXor, one_and, more_ands, IsAnd, one_unit, more_units}
use Rattle.edge_base.specs.Grammar.{IsUnit, negated, group, untested, tested, IsOperand, true_word, false_word, path, IsPath, name, call, index, key, each}
use Rattle.edge_base.specs.Grammar.{IsArguments, one_argument, more_arguments, Derives}
use Rattle.edge_base.specs.Nesting.{nesting}

abbrev mutual
  pub depth : {ts : List Terminal} {e : Expr} → IsExpression ts e → ℕ
  depth (literal l) = 0
  depth (chain c) = chain_depth c

  pub chain_depth : {ts : List Terminal} {es : List Expr} → IsChain ts es → ℕ
  chain_depth (one_xor x) = xor_depth x
  chain_depth (more_xors x rest) = max (xor_depth x) (chain_depth rest)

  pub xor_depth : {ts : List Terminal} {es : List Expr} → IsXor ts es → ℕ
  xor_depth (one_and a) = and_depth a
  xor_depth (more_ands a rest) = max (and_depth a) (xor_depth rest)

  pub and_depth : {ts : List Terminal} {es : List Expr} → IsAnd ts es → ℕ
  and_depth (one_unit u) = unit_depth u
  and_depth (more_units u rest) = max (unit_depth u) (and_depth rest)

  pub unit_depth : {ts : List Terminal} {e : Expr} → IsUnit ts e → ℕ
  unit_depth (negated u) = unit_depth u + 1
  unit_depth (group c) = chain_depth c + 1
  unit_depth (untested o) = operand_depth o
  unit_depth (tested o t) = operand_depth o

  pub operand_depth : {ts : List Terminal} {e : Expr} → IsOperand ts e → ℕ
  operand_depth true_word = 0
  operand_depth false_word = 0
  operand_depth (path p) = path_depth p

  pub path_depth : {ts : List Terminal} {e : Expr} → IsPath ts e → ℕ
  path_depth name = 0
  path_depth (call a) = arguments_depth a + 1
  path_depth (index p) = path_depth p
  path_depth (key p) = path_depth p
  path_depth (each p) = path_depth p

  pub arguments_depth : {ts : List Terminal} {es : List Expr} → IsArguments ts es → ℕ
  arguments_depth (one_argument e) = depth e
  arguments_depth (more_arguments e rest) = max (depth e) (arguments_depth rest)

-- terminals nest as deep as their derivation is
abbrev pub NestingIsDepth : Type 0
NestingIsDepth = (ts : List Terminal) (e : Expr) (d : Derives ts e) → nesting ts ≡ depth d
