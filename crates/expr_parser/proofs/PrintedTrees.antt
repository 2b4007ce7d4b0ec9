-- The print of a tree falls into the tokens of its terminals.
use Rattle.std.proofs.Common.{◌≡◌, ℕ, ◌+◌, pos, Bool, true, false, nat_lt, List, [], ◌∷◌, ◌++◌, map, IsTrue, refl, ap, ◌∙◌, sym, subst, append_assoc, append-nil}
use Rattle.std.specs.Prelude.{codes}
use Rattle.std.specs.declared.option.Option.TheVariants.{Some}
use Rattle.edge_base.specs.declared.expression.Lit.TheVariants as lit
use Rattle.edge_base.specs.declared.expression.Expr.{Expr}
use Rattle.edge_base.specs.declared.expression.Expr.TheVariants as expr
use Rattle.edge_base.specs.declared.terminal.Terminal.{Terminal}
use Rattle.edge_base.specs.declared.terminal.Terminal.TheVariants as terminal
use Rattle.edge_base.specs.declared.token.TokenKind.TheVariants as kind
use Rattle.edge_base.specs.Token.{is_reserved}
use Rattle.edge_base.specs.Terminal.{reserved}
use Rattle.edge_base.specs.Grammar.{together, number_literal, IsExpression, literal, chain, IsChain, one_xor, more_xors, IsXor, one_and, more_ands, IsAnd, one_unit, more_units, IsUnit, negated, group, untested, tested, IsOperand, true_word, false_word, path, IsPath, name, call, index, key, each, IsArguments, one_argument, more_arguments, Derives}
use Rattle.expr_parser.specs.Spelling.{quoted, lit_spelling, test_spelling, joined, within, spelling_at, spelling}
use Rattle.edge_base.specs.Printed.{signed}
use Rattle.expr_parser.proofs.SpellingLaws.{spelled_lit, spelled_field, spelled_call, spelled_at, spelled_key, spelled_each, spelled_test, spelled_not, spelled_and, spelled_xor, spelled_or}
use Rattle.expr_parser.proofs.TreeTerminals.{lit_terminal, test_terminals, joined_terminals, grouped, terminals_at, terminals_lit, terminals_field, terminals_call, terminals_index, terminals_key, terminals_each, terminals_test, terminals_not, terminals_and, terminals_xor, terminals_or}
use Rattle.expr_parser.proofs.Written.{ends_before, AreSound, IsCutInto, cut_end, IsWritten}
use Rattle.expr_parser.proofs.Sound.{sound_front, sound_back}
use Rattle.expr_parser.proofs.NamesStand.{name_stands}
use Rattle.expr_parser.proofs.WrittenTexts.{one_written, blank_before, sign_before, sign_written, append_written, same_written, word_written, word_before, in_parentheses, grouped_written}
use Rattle.expr_parser.proofs.PrintedTests.{quoted_written, lit_written, test_written}

-- ---- trees and lists of trees

abbrev Written : Expr → Type 0
Written e = (n : ℕ) → IsWritten (spelling_at e n) (terminals_at e n)

data EachWritten : List Expr → Type 0 where
  one_tree : {e : Expr} → Written e → EachWritten (e ∷ [])
  more_trees : {e : Expr} {es : List Expr} → Written e → EachWritten es → EachWritten (e ∷ es)

record Joins (joint : List ℕ) (t : Terminal) : Type 0 where
  before : (text : List ℕ) (ts : List Terminal) → IsWritten text ts → IsWritten (joint ++ text) (t ∷ ts)
  ends : (text rest : List ℕ) → ends_before ((joint ++ text) ++ rest) ≡ true

joined_written : (joint : List ℕ) (t : Terminal) → Joins joint t → (n : ℕ) (es : List Expr) → EachWritten es
    → IsWritten (joined joint n (map spelling_at es)) (joined_terminals t n (map terminals_at es))
joined_written joint t j n _ (one_tree h) = h n
joined_written joint t j n _ (more_trees {e = e} {es = []} h later) = h n
joined_written joint t j n _ (more_trees {e = e} {es = f ∷ es} h later) =
    let back : List ℕ = joined joint n (map spelling_at (f ∷ es)) in
    let ts : List Terminal = joined_terminals t n (map terminals_at (f ∷ es)) in
    same_written _ (spelling_at e n ++ (joint ++ back)) _ (terminals_at e n ++ t ∷ ts) (append_assoc (spelling_at e n) joint back) refl
    (append_written (spelling_at e n) (joint ++ back) (terminals_at e n) (t ∷ ts) (h n)
    (j.before back ts (joined_written joint t j n (f ∷ es) later)) (λ rest. j.ends back rest))

record IsNode (node : List Expr → Expr) (own : ℕ) (joint : List ℕ) (t : Terminal) : Type 0 where
  joins : Joins joint t
  spelled : (es : List Expr) (n : ℕ) → spelling_at (node es) n ≡ within (nat_lt own n) (joined joint (own + 1) (map spelling_at es))
  terminals : (es : List Expr) (n : ℕ) → terminals_at (node es) n ≡ grouped (nat_lt own n) (joined_terminals t (own + 1) (map terminals_at es))

together_written : {node : List Expr → Expr} {own : ℕ} {joint : List ℕ} {t : Terminal} → IsNode node own joint t → {es : List Expr} → EachWritten es
    → Written (together node es)
together_written is (one_tree h) = h
together_written is (more_trees {es = []} h later) = h
together_written {own} {joint} {t} is (more_trees {e = e} {es = f ∷ es} h later) = λ n.
    same_written _ _ _ _ (is.spelled (e ∷ f ∷ es) n) (is.terminals (e ∷ f ∷ es) n)
    (grouped_written (nat_lt own n) _ _ (joined_written joint t is.joins (own + 1) (e ∷ f ∷ es) (more_trees h later)))

-- a word between blanks joins
word_joins : (word : List ℕ) (t : Terminal) → IsTrue (is_reserved word) → reserved word ≡ Some t → Joins (32 ∷ word ++ 32 ∷ []) t
word_joins word t is_word is = record {
  before = λ text ts h. subst (λ v. IsWritten (32 ∷ v) (t ∷ ts)) (sym (append_assoc word (32 ∷ []) text))
      (blank_before (word ++ 32 ∷ text) (t ∷ ts) (word_before word t is_word is text ts h));
  ends = λ text rest. refl;
}

and_node : IsNode expr.And 2 (codes " and ") terminal.And
and_node = record { joins = word_joins (codes "and") terminal.And refl refl; spelled = spelled_and; terminals = terminals_and }

xor_node : IsNode expr.Xor 1 (codes " xor ") terminal.Xor
xor_node = record { joins = word_joins (codes "xor") terminal.Xor refl refl; spelled = spelled_xor; terminals = terminals_xor }

or_node : IsNode expr.Or 0 (codes " or ") terminal.Or
or_node = record { joins = word_joins (codes "or") terminal.Or refl refl; spelled = spelled_or; terminals = terminals_or }

commas : Joins (codes ", ") terminal.Comma
commas = record {
  before = λ text ts h. sign_before 44 terminal.Comma refl refl (32 ∷ text) ts (blank_before text ts h);
  ends = λ text rest. refl;
}

-- ---- expressions

truth_written : (truth : Bool) (text : List ℕ) (t : Terminal) → lit_spelling (lit.Bool truth) ≡ text → lit_terminal (lit.Bool truth) ≡ t
    → IsTrue (is_reserved text) → reserved text ≡ Some t → Written (expr.Lit (lit.Bool truth))
truth_written truth text t spelled is is_word stands n =
    same_written _ _ _ _ (spelled_lit (lit.Bool truth) n ∙ spelled) (terminals_lit (lit.Bool truth) n ∙ ap (λ v. v ∷ []) is)
    (word_written text t is_word stands)

-- an index behind what is indexed
index_parts : (e : Expr) (inside : List ℕ) → spelling_at e 3 ++ codes "[" ++ inside ++ codes "]" ≡ spelling_at e 3 ++ (91 ∷ inside ++ 93 ∷ [])
index_parts e inside = append_assoc (spelling_at e 3 ++ codes "[") inside (codes "]") ∙ append_assoc (spelling_at e 3) (codes "[") (inside ++ codes "]")

indexed : (e : Expr) (inside : List ℕ) (t : Terminal) → Written e → IsWritten inside (t ∷ [])
    → IsWritten (spelling_at e 3 ++ (91 ∷ inside ++ 93 ∷ [])) (terminals_at e 3 ++ terminal.OpenIndex ∷ t ∷ terminal.CloseIndex ∷ [])
indexed e inside t h k =
    append_written (spelling_at e 3) (91 ∷ inside ++ 93 ∷ []) (terminals_at e 3) (terminal.OpenIndex ∷ t ∷ terminal.CloseIndex ∷ []) (h 3)
    (sign_before 91 terminal.OpenIndex refl refl (inside ++ 93 ∷ []) (t ∷ terminal.CloseIndex ∷ [])
    (append_written inside (93 ∷ []) (t ∷ []) (terminal.CloseIndex ∷ []) k (sign_written 93 terminal.CloseIndex refl refl) (λ rest. refl)))
    (λ rest. refl)

mutual
  expression_written : {ts : List Terminal} {e : Expr} → IsExpression ts e → AreSound ts → Written e
  expression_written (literal {l = l} d) sound = λ n. same_written _ _ _ _ (spelled_lit l n) (terminals_lit l n) (lit_written d sound.0)
  expression_written (chain d) sound = together_written or_node (chain_written d sound)

  chain_written : {ts : List Terminal} {es : List Expr} → IsChain ts es → AreSound ts → EachWritten es
  chain_written (one_xor d) sound = one_tree (together_written xor_node (xor_written d sound))
  chain_written (more_xors {ts = ts} {rest = rest} d ds) sound =
      more_trees (together_written xor_node (xor_written d (sound_front ts (terminal.Or ∷ rest) sound)))
      (chain_written ds (sound_back ts (terminal.Or ∷ rest) sound).1)

  xor_written : {ts : List Terminal} {es : List Expr} → IsXor ts es → AreSound ts → EachWritten es
  xor_written (one_and d) sound = one_tree (together_written and_node (and_written d sound))
  xor_written (more_ands {ts = ts} {rest = rest} d ds) sound =
      more_trees (together_written and_node (and_written d (sound_front ts (terminal.Xor ∷ rest) sound)))
      (xor_written ds (sound_back ts (terminal.Xor ∷ rest) sound).1)

  and_written : {ts : List Terminal} {es : List Expr} → IsAnd ts es → AreSound ts → EachWritten es
  and_written (one_unit d) sound = one_tree (unit_written d sound)
  and_written (more_units {ts = ts} {rest = rest} d ds) sound =
      more_trees (unit_written d (sound_front ts (terminal.And ∷ rest) sound)) (and_written ds (sound_back ts (terminal.And ∷ rest) sound).1)

  unit_written : {ts : List Terminal} {e : Expr} → IsUnit ts e → AreSound ts → Written e
  unit_written (negated {u = u} d) sound = λ n.
      same_written _ _ _ _ (spelled_not u n) (terminals_not u n)
      (word_before (codes "not") terminal.Not refl refl (spelling_at u 3) (terminals_at u 3) (unit_written d sound.1 3))
  unit_written (group {ts = ts} d) sound = together_written or_node (chain_written d (sound_front ts (terminal.Close ∷ []) sound.1))
  unit_written (untested d) sound = operand_written d sound
  unit_written (tested {ts = ts} {us = us} {e = e} {t = t} d test) sound = λ n.
      same_written _ _ _ _ (spelled_test e t n ∙ append_assoc (spelling_at e 3) (codes " ") (test_spelling t)) (terminals_test e t n)
      (append_written (spelling_at e 3) (32 ∷ test_spelling t) (terminals_at e 3) (test_terminals t) (operand_written d (sound_front ts us sound) 3)
      (blank_before (test_spelling t) (test_terminals t) (test_written test (sound_back ts us sound))) (λ rest. refl))

  operand_written : {ts : List Terminal} {e : Expr} → IsOperand ts e → AreSound ts → Written e
  operand_written true_word sound = truth_written true (codes "true") terminal.True refl refl refl refl
  operand_written false_word sound = truth_written false (codes "false") terminal.False refl refl refl refl
  operand_written (path d) sound = path_written d sound

  path_written : {ts : List Terminal} {e : Expr} → IsPath ts e → AreSound ts → Written e
  path_written (name {n = text}) sound = λ n. same_written _ _ _ _ (spelled_field text n) (terminals_field text n)
      (one_written kind.Name text (terminal.Name text) (λ rest ends. name_stands text rest sound.0 ends))
  path_written (call {n = text} {ts = ts} {es = es} d) sound = λ n.
      let inside : List ℕ = joined (codes ", ") 0 (map spelling_at es) in
      let given : List Terminal = joined_terminals terminal.Comma 0 (map terminals_at es) in
      let parts = append_assoc (text ++ codes "(") inside (codes ")") ∙ append_assoc text (codes "(") (inside ++ codes ")") in
      same_written _ _ _ _ (spelled_call text es n ∙ parts) (terminals_call text es n)
      (append_written text (40 ∷ inside ++ 41 ∷ []) (terminal.Name text ∷ []) (terminal.Open ∷ given ++ terminal.Close ∷ [])
      (one_written kind.Name text (terminal.Name text) (λ rest ends. name_stands text rest sound.0 ends))
      (in_parentheses inside given (joined_written (codes ", ") terminal.Comma commas 0 es (arguments_written d (sound_front ts (terminal.Close ∷ []) sound.1.1))))
      (λ rest. refl))
  path_written (index {ts = ts} {e = e} {n = at} d) sound = λ n.
      let inside = sound_back ts (terminal.OpenIndex ∷ terminal.Number (pos at) ∷ terminal.CloseIndex ∷ []) sound in
      same_written _ _ _ _ (spelled_at e (pos at) n ∙ index_parts e (signed (pos at))) (terminals_index e (pos at) n)
      (indexed e (signed (pos at)) (terminal.Number (pos at))
      (path_written d (sound_front ts (terminal.OpenIndex ∷ terminal.Number (pos at) ∷ terminal.CloseIndex ∷ []) sound))
      (lit_written (number_literal {n = pos at}) inside.1.0))
  path_written (key {ts = ts} {e = e} {k = text} d) sound = λ n.
      same_written _ _ _ _ (spelled_key e text n ∙ index_parts e (quoted text)) (terminals_key e text n)
      (indexed e (quoted text) (terminal.Text text)
      (path_written d (sound_front ts (terminal.OpenIndex ∷ terminal.Text text ∷ terminal.CloseIndex ∷ []) sound))
      (quoted_written text))
  path_written (each {ts = ts} {e = e} d) sound = λ n.
      same_written _ _ _ _ (spelled_each e n) (terminals_each e n)
      (indexed e (42 ∷ []) terminal.Star
      (path_written d (sound_front ts (terminal.OpenIndex ∷ terminal.Star ∷ terminal.CloseIndex ∷ []) sound))
      (sign_written 42 terminal.Star refl refl))

  arguments_written : {ts : List Terminal} {es : List Expr} → IsArguments ts es → AreSound ts → EachWritten es
  arguments_written (one_argument d) sound = one_tree (expression_written d sound)
  arguments_written (more_arguments {ts = ts} {rest = rest} d ds) sound =
      more_trees (expression_written d (sound_front ts (terminal.Comma ∷ rest) sound)) (arguments_written ds (sound_back ts (terminal.Comma ∷ rest) sound).1)

pub printed_is_cut_into : (ts : List Terminal) (e : Expr) → Derives ts e → AreSound ts → IsCutInto (spelling e) (terminals_at e 0)
printed_is_cut_into ts e d sound =
    let whole : IsCutInto (spelling_at e 0 ++ []) (terminals_at e 0 ++ []) = expression_written d sound 0 [] [] refl cut_end in
    subst (λ v. IsCutInto v (terminals_at e 0)) (append-nil (spelling_at e 0))
    (subst (λ v. IsCutInto (spelling_at e 0 ++ []) v) (append-nil (terminals_at e 0)) whole)
