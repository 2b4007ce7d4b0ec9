-- The texts of a configuration are taken where they stand: with patterns, and where patterns are left out.
use Rattle.std.proofs.Common.{◌≡◌, ◌⊎◌, ℕ, List, [], ◌∷◌, ◌++◌, None, Some, Ok, ◌-◌, take, drop, refl, ap, ◌∙◌, subst, inl, inr}
use Rattle.std.proofs.Math.Seq.{take-nil, drop-nil}
use Rattle.edge_base.specs.declared.expression.Expr.{Expr}
use Rattle.edge_base.specs.declared.terminal.Terminal.{Terminal}
use Rattle.edge_base.specs.declared.token.Token.{Token}
use Rattle.edge_base.specs.Cut.{IsCut}
use Rattle.edge_base.specs.Terminal.{AreTerminals}
use Rattle.edge_base.specs.Token.{words_of, IsTokenOf}
use Rattle.edge_base.specs.Grammar.{Derives, IsExpression, IsChain, IsXor, IsAnd, IsUnit, IsOperand, IsPath, literal, chain, one_xor, more_xors, one_and, more_ands, one_unit, more_units, negated, group, untested, tested, true_word, false_word, path, name, call, index, key, each}
use Rattle.expr_lexer.proofs.ApartLemmas.{empty_is_no_token}
use Rattle.expr_parser.specs.Parsed.{IsAnswer}
use Rattle.list_store.specs.declared.part.ListPart.{ListPart}
use Rattle.list_store.specs.Listed.{list_kinds_of}
use Rattle.type_check.specs.Checking.{Finding, fault, pattern, IsAnswer as IsFound}
use Rattle.type_check.specs.Places.{faults_in}
use Rattle.ruleset_model.specs.FilterParts.{FilterParts}
use Rattle.ruleset_model.specs.Built.{IsReadTo, IsBuilt}
use Rattle.config_read.specs.Judged.{judged, judged_without_patterns}
use Rattle.config_read.proofs.PrintedLimits.{AreSome}
use Rattle.config_read.proofs.PrintedValues.{Takes}

parsed : (text : List ℕ) (e : Expr) → IsReadTo text e → IsAnswer text (Ok e)
parsed text e read =
    (read.tokens, read.terminals, record { few = read.few; is_cut = read.is_cut; are_terminals = read.are_terminals }, read.derives, read.shallow)

-- where nothing is told, nothing but patterns was found
no_faults : (found : List Finding) → IsFound found None → faults_in found ≡ []
no_faults [] none = refl
no_faults (fault node c ∷ found) none = absurd cc
no_faults (pattern node text ∷ found) (inl refused) = let told = refused.2 in absurd cc
no_faults (pattern node text ∷ found) (inr built) = no_faults found built.1

pub taken : (lists : List ListPart) → Takes lists (judged (list_kinds_of lists))
taken lists = record { built = λ at text filter built. (built.expression, parsed text built.expression built.is_read, built.is_sound) }

pub taken_without_patterns : (lists : List ListPart) → Takes lists (judged_without_patterns (list_kinds_of lists))
taken_without_patterns lists = record {
  built = λ at text filter built. (built.expression, parsed text built.expression built.is_read, no_faults _ built.is_sound);
}

-- ---- an empty text is no expression

abbrev NotNone : List Terminal → Type 0
NotNone [] = ⊥
NotNone (t ∷ ts) = Unit {0}

none_before : (ts more : List Terminal) → NotNone ts → NotNone (ts ++ more)
none_before [] more some = absurd some
none_before (t ∷ ts) more some = tt

mutual
  some_expression : {ts : List Terminal} {e : Expr} → IsExpression ts e → NotNone ts
  some_expression (literal l) = tt
  some_expression (chain c) = some_chain c

  some_chain : {ts : List Terminal} {es : List Expr} → IsChain ts es → NotNone ts
  some_chain (one_xor x) = some_xor x
  some_chain (more_xors {ts} x c) = none_before ts _ (some_xor x)

  some_xor : {ts : List Terminal} {es : List Expr} → IsXor ts es → NotNone ts
  some_xor (one_and a) = some_and a
  some_xor (more_ands {ts} a c) = none_before ts _ (some_and a)

  some_and : {ts : List Terminal} {es : List Expr} → IsAnd ts es → NotNone ts
  some_and (one_unit u) = some_unit u
  some_and (more_units {ts} u c) = none_before ts _ (some_unit u)

  some_unit : {ts : List Terminal} {e : Expr} → IsUnit ts e → NotNone ts
  some_unit (negated u) = tt
  some_unit (group c) = tt
  some_unit (untested o) = some_operand o
  some_unit (tested {ts} o t) = none_before ts _ (some_operand o)

  some_operand : {ts : List Terminal} {e : Expr} → IsOperand ts e → NotNone ts
  some_operand true_word = tt
  some_operand false_word = tt
  some_operand (path p) = some_path p

  some_path : {ts : List Terminal} {e : Expr} → IsPath ts e → NotNone ts
  some_path name = tt
  some_path (call a) = tt
  some_path (index {ts} p) = none_before ts _ (some_path p)
  some_path (key {ts} p) = none_before ts _ (some_path p)
  some_path (each {ts} p) = none_before ts _ (some_path p)

empty_part : (start size : ℕ) (text : List ℕ) → text ≡ [] → take size (drop start text) ≡ []
empty_part start size text none = rw none (ap (λ (rest : List ℕ). take size rest) (drop-nil start) ∙ take-nil size)

nothing_read : (tokens : List Token) (terminals : List Terminal) (e : Expr) → IsCut [] tokens → AreTerminals (words_of [] tokens) terminals → Derives terminals e → ⊥
nothing_read [] [] e cut are derives = some_expression derives
nothing_read [] (t ∷ ts) e cut are derives = are
nothing_read (token ∷ tokens) terminals e cut are derives =
    empty_is_no_token token.kind (subst (λ (word : List ℕ). IsTokenOf token.kind word) (empty_part token.start (token.end - token.start) [] refl) cut.2.is_longest.is_token)

pub some_text : (lists : List ListPart) → AreSome lists
some_text lists filter built =
    nothing_read built.is_read.tokens built.is_read.terminals built.expression built.is_read.is_cut built.is_read.are_terminals built.is_read.derives
