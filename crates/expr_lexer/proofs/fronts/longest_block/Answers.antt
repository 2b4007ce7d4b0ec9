use Rattle.std.proofs.Common.{ℕ, ◌+◌, ◌-◌, List, length, take, drop, not, ◌<◌, refl, sym, ◌∙◌, ap, arith}
use Rattle.std.proofs.lemmas.List.{take_rest}
use Rattle.std.proofs.lemmas.Option.{MatchOption-at_some, MatchOption-at_none}
use Rattle.edge_base.specs.declared.address.Addr.{Addr}
use Rattle.edge_base.specs.Address.{IsAddrText}
use Rattle.expr_lexer.specs.declared.scanner.State.TheVariants as state
use Rattle.edge_base.specs.declared.token.TokenKind.TheVariants as kind
use Rattle.expr_lexer.specs.Fronts.{is_block, IsAtLeast}
use Rattle.expr_lexer.proofs.FrontLemmas.{HasNoneRead, IsLongestRead, read_longest}
use Rattle.expr_lexer.proofs.BlockLemmas.{stretch_within, no_block_at, block_is_longest_at, some_from, none_from}
use Rattle.expr_lexer.proofs.fronts.longest_block.Goals as goal
use Rattle.expr_lexer.proofs.fronts.longest_block.Goals.{In-Some, then-size-text-via-then-size-text, then-size-text-via-else-size-text+then-text-size-ne47, then-size-text-via-else-size-text+else-text-size-ne47+then-is_none}

pub bounds-text-size : goal.bounds-text-size
bounds-text-size c = omega (arith, stretch_within c.args.text.now, c.address_stretch-size.ensures)

pub returns-then-size-text : goal.returns-then-size-text
returns-then-size-text c = elim c.then-size-text.branch [
  | then-size-text-via-then-size-text w ↦ no_block_at c.args.text.now c.address_stretch-size.result _ c.address_stretch-size.ensures refl
      (λ within slash a address some. omega (arith, w.if-size-text.true))
  | then-size-text-via-else-size-text+then-text-size-ne47 w ↦ no_block_at c.args.text.now c.address_stretch-size.result _ c.address_stretch-size.ensures refl
      (λ within slash a address some. w.if-text-size-ne47.true slash)
  | then-size-text-via-else-size-text+else-text-size-ne47+then-is_none w ↦ no_block_at c.args.text.now c.address_stretch-size.result _ c.address_stretch-size.ensures refl
      (λ within slash a address some. none_from w.parse_addr.result ((a : Addr) → ¬ (IsAddrText (take c.address_stretch-size.result c.args.text.now) a))
      (λ a. IsAddrText (take c.address_stretch-size.result c.args.text.now) a)
      (w.is_none.ensures ∙ ap not w.if-is_none.true) w.parse_addr.ensures a address)
]

-- what stands behind the place
abbrev behind : List ℕ → ℕ → List ℕ
behind text at = take (length text - (at + 1)) (drop (at + 1) text)

pub returns-in_default : goal.returns-in_default
returns-in_default c =
    no_block_at c.args.text.now c.address_stretch-size.result (behind c.args.text.now c.address_stretch-size.result) c.address_stretch-size.ensures
    (take_rest c.args.text.now (c.address_stretch-size.result + 1))
    (λ within slash a address some. some (MatchOption-at_none (HasNoneRead state.Bits (behind c.args.text.now c.address_stretch-size.result))
    (IsLongestRead state.Bits (behind c.args.text.now c.address_stretch-size.result))
    (sym c.longest_from.ensures ∙ c.in_default.is) (read_longest state.Bits (behind c.args.text.now c.address_stretch-size.result) refl)))

read : (c : In-Some) → IsLongestRead state.Bits (behind c.args.text.now c.address_stretch-size.result) c.in-Some.bits
read c =
    MatchOption-at_some (HasNoneRead state.Bits (behind c.args.text.now c.address_stretch-size.result))
    (IsLongestRead state.Bits (behind c.args.text.now c.address_stretch-size.result)) c.in-Some.bits
    (sym c.longest_from.ensures ∙ c.in-Some.is) (read_longest state.Bits (behind c.args.text.now c.address_stretch-size.result) refl)

longest : (c : In-Some) → IsAtLeast is_block c.args.text.now (record { size = c.address_stretch-size.result + 1 + c.in-Some.bits.size; kind = kind.Block })
longest c =
    let (a, address) = some_from c.parse_addr.result ((a : Addr) → ¬ (IsAddrText (take c.address_stretch-size.result c.args.text.now) a))
    (λ a. IsAddrText (take c.address_stretch-size.result c.args.text.now) a)
    (c.is_none.ensures ∙ ap not c.if-is_none.false) c.parse_addr.ensures in
    let within : c.address_stretch-size.result < length c.args.text.now = omega (arith, stretch_within c.args.text.now, c.address_stretch-size.ensures) in
    block_is_longest_at c.args.text.now c.address_stretch-size.result (behind c.args.text.now c.address_stretch-size.result) a c.in-Some.bits c.address_stretch-size.ensures
    (take_rest c.args.text.now (c.address_stretch-size.result + 1))
    within c.if-text-size-ne47.false address (read c)

pub overflow_add-result-2 : goal.overflow_add-result-2
overflow_add-result-2 c = omega (arith, (longest (goal.at.overflow_add-result-2 c).In-Some).within)

pub returns : goal.returns
returns c = longest (goal.at.returns c).In-Some
