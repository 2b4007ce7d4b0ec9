-- The terminals of a printed tree derive the tree again, where some terminals derive it.
use Rattle.std.proofs.Common.{◌≡◌, ℕ, pos, true, false, List, [], ◌∷◌, ◌++◌, map, refl, sym, subst}
use Rattle.edge_base.specs.declared.expression.Lit.{Lit}
use Rattle.edge_base.specs.declared.expression.Lit.TheVariants as lit
use Rattle.edge_base.specs.declared.expression.Test.{Test}
use Rattle.edge_base.specs.declared.expression.Expr.{Expr}
use Rattle.edge_base.specs.declared.expression.Expr.TheVariants as expr
use Rattle.edge_base.specs.declared.terminal.Terminal.{Terminal}
use Rattle.edge_base.specs.declared.terminal.Terminal.TheVariants as terminal
use Rattle.edge_base.specs.Grammar.{together, IsLiteral, IsTest, IsExpression, literal, chain, IsChain, one_xor, more_xors, IsXor, one_and, more_ands, IsAnd, one_unit, more_units, IsUnit, negated, group, untested, tested, IsOperand, true_word, false_word, path, IsPath, name, call, index, key, each, IsArguments, one_argument, more_arguments, Derives}
use Rattle.expr_parser.proofs.PlainTests.{literal_prints, test_prints}
use Rattle.expr_parser.proofs.TreeTerminals.{lit_terminal, test_terminals, joined_terminals, terminals_at, terminals_lit, terminals_field, terminals_call, terminals_index, terminals_key, terminals_each, terminals_test, terminals_not, terminals_and, terminals_xor, terminals_or}

-- a literal and a test
printed_literal : {t : Terminal} {l : Lit} → IsLiteral t l → IsLiteral (lit_terminal l) l
printed_literal {l} d = subst (λ t. IsLiteral t l) (sym (literal_prints d)) d

printed_test : {ts : List Terminal} {t : Test} → IsTest ts t → IsTest (test_terminals t) t
printed_test {t} d = subst (λ ts. IsTest ts t) (sym (test_prints d)) d

-- the tree is derived at each place
record Good (e : Expr) : Type 0 where
  unit : IsUnit (terminals_at e 3) e
  ands : (us : List Expr) × IsAnd (terminals_at e 2) us × (together expr.And us ≡ e)
  xors : (us : List Expr) × IsXor (terminals_at e 1) us × (together expr.Xor us ≡ e)
  chain : (us : List Expr) × IsChain (terminals_at e 0) us × (together expr.Or us ≡ e)

-- one or more trees, each derived at each place
data AllGood : List Expr → Type 0 where
  one_good : {e : Expr} → Good e → AllGood (e ∷ [])
  more_good : {e : Expr} {es : List Expr} → Good e → AllGood es → AllGood (e ∷ es)

-- a unit at each place
good_unit : (e : Expr) → ((n : ℕ) → IsUnit (terminals_at e n) e) → Good e
good_unit e h = record {
  unit = h 3;
  ands = (e ∷ [], one_unit (h 2), refl);
  xors = (e ∷ [], one_and (one_unit (h 1)), refl);
  chain = (e ∷ [], one_xor (one_and (one_unit (h 0))), refl);
}

-- the members joined, as many as there are: units, ands and xors
and_members : {es : List Expr} → AllGood es → IsAnd (joined_terminals terminal.And 3 (map terminals_at es)) es
and_members (one_good g) = one_unit g.unit
and_members (more_good g (one_good h)) = more_units g.unit (one_unit h.unit)
and_members (more_good g (more_good h gs)) = more_units g.unit (and_members (more_good h gs))

-- the first or one more member of a xor or a chain, from what it is together
xor_first : {ts : List Terminal} {e : Expr} → (us : List Expr) × IsAnd ts us × (together expr.And us ≡ e) → IsXor ts (e ∷ [])
xor_first {ts} (us, d, is) = subst (λ e. IsXor ts (e ∷ [])) is (one_and d)

xor_more : {ts rest : List Terminal} {e : Expr} {es : List Expr} → (us : List Expr) × IsAnd ts us × (together expr.And us ≡ e)
    → IsXor rest es → IsXor (ts ++ terminal.Xor ∷ rest) (e ∷ es)
xor_more {ts} {rest} {e} {es} (us, d, is) ds = subst (λ e. IsXor (ts ++ terminal.Xor ∷ rest) (e ∷ es)) is (more_ands d ds)

xor_members : {es : List Expr} → AllGood es → IsXor (joined_terminals terminal.Xor 2 (map terminals_at es)) es
xor_members (one_good g) = xor_first g.ands
xor_members (more_good g (one_good h)) = xor_more g.ands (xor_first h.ands)
xor_members (more_good g (more_good h gs)) = xor_more g.ands (xor_members (more_good h gs))

chain_first : {ts : List Terminal} {e : Expr} → (us : List Expr) × IsXor ts us × (together expr.Xor us ≡ e) → IsChain ts (e ∷ [])
chain_first {ts} (us, d, is) = subst (λ e. IsChain ts (e ∷ [])) is (one_xor d)

chain_more : {ts rest : List Terminal} {e : Expr} {es : List Expr} → (us : List Expr) × IsXor ts us × (together expr.Xor us ≡ e)
    → IsChain rest es → IsChain (ts ++ terminal.Or ∷ rest) (e ∷ es)
chain_more {ts} {rest} {e} {es} (us, d, is) ds = subst (λ e. IsChain (ts ++ terminal.Or ∷ rest) (e ∷ es)) is (more_xors d ds)

chain_members : {es : List Expr} → AllGood es → IsChain (joined_terminals terminal.Or 1 (map terminals_at es)) es
chain_members (one_good g) = chain_first g.xors
chain_members (more_good g (one_good h)) = chain_more g.xors (chain_first h.xors)
chain_members (more_good g (more_good h gs)) = chain_more g.xors (chain_members (more_good h gs))

-- a node of two or more members, from what its members derive
node_and : (e f : Expr) (es : List Expr) → IsAnd (joined_terminals terminal.And 3 (map terminals_at (e ∷ f ∷ es))) (e ∷ f ∷ es) → Good (expr.And (e ∷ f ∷ es))
node_and e f es d = let us = e ∷ f ∷ es in record {
  unit = subst (λ ts. IsUnit ts (expr.And us)) (sym (terminals_and us 3)) (group (one_xor (one_and d)));
  ands = (us, subst (λ ts. IsAnd ts us) (sym (terminals_and us 2)) d, refl);
  xors = (expr.And us ∷ [], subst (λ ts. IsXor ts (expr.And us ∷ [])) (sym (terminals_and us 1)) (one_and d), refl);
  chain = (expr.And us ∷ [], subst (λ ts. IsChain ts (expr.And us ∷ [])) (sym (terminals_and us 0)) (one_xor (one_and d)), refl);
}

node_xor : (e f : Expr) (es : List Expr) → IsXor (joined_terminals terminal.Xor 2 (map terminals_at (e ∷ f ∷ es))) (e ∷ f ∷ es) → Good (expr.Xor (e ∷ f ∷ es))
node_xor e f es d = let us = e ∷ f ∷ es in record {
  unit = subst (λ ts. IsUnit ts (expr.Xor us)) (sym (terminals_xor us 3)) (group (one_xor d));
  ands = (expr.Xor us ∷ [], subst (λ ts. IsAnd ts (expr.Xor us ∷ [])) (sym (terminals_xor us 2)) (one_unit (group (one_xor d))), refl);
  xors = (us, subst (λ ts. IsXor ts us) (sym (terminals_xor us 1)) d, refl);
  chain = (expr.Xor us ∷ [], subst (λ ts. IsChain ts (expr.Xor us ∷ [])) (sym (terminals_xor us 0)) (one_xor d), refl);
}

node_or : (e f : Expr) (es : List Expr) → IsChain (joined_terminals terminal.Or 1 (map terminals_at (e ∷ f ∷ es))) (e ∷ f ∷ es) → Good (expr.Or (e ∷ f ∷ es))
node_or e f es d = let us = e ∷ f ∷ es in record {
  unit = subst (λ ts. IsUnit ts (expr.Or us)) (sym (terminals_or us 3)) (group d);
  ands = (expr.Or us ∷ [], subst (λ ts. IsAnd ts (expr.Or us ∷ [])) (sym (terminals_or us 2)) (one_unit (group d)), refl);
  xors = (expr.Or us ∷ [], subst (λ ts. IsXor ts (expr.Or us ∷ [])) (sym (terminals_or us 1)) (one_and (one_unit (group d))), refl);
  chain = (us, subst (λ ts. IsChain ts us) (sym (terminals_or us 0)) d, refl);
}

-- one or more members put together
good_and : {es : List Expr} → AllGood es → Good (together expr.And es)
good_and (one_good g) = g
good_and (more_good {e} g (one_good {e = f} h)) = node_and e f [] (and_members (more_good g (one_good h)))
good_and (more_good {e} g (more_good {e = f} {es} h gs)) = node_and e f es (and_members (more_good g (more_good h gs)))

good_xor : {es : List Expr} → AllGood es → Good (together expr.Xor es)
good_xor (one_good g) = g
good_xor (more_good {e} g (one_good {e = f} h)) = node_xor e f [] (xor_members (more_good g (one_good h)))
good_xor (more_good {e} g (more_good {e = f} {es} h gs)) = node_xor e f es (xor_members (more_good g (more_good h gs)))

good_or : {es : List Expr} → AllGood es → Good (together expr.Or es)
good_or (one_good g) = g
good_or (more_good {e} g (one_good {e = f} h)) = node_or e f [] (chain_members (more_good g (one_good h)))
good_or (more_good {e} g (more_good {e = f} {es} h gs)) = node_or e f es (chain_members (more_good g (more_good h gs)))

-- one more argument before others
more_printed : {e : Expr} {ts : List Terminal} {es : List Expr} → IsExpression (terminals_at e 0) e → IsArguments ts es
    → IsArguments (joined_terminals terminal.Comma 0 (map terminals_at es)) es → IsArguments (joined_terminals terminal.Comma 0 (map terminals_at (e ∷ es))) (e ∷ es)
more_printed p (one_argument d) ps = more_arguments p ps
more_printed p (more_arguments d ds) ps = more_arguments p ps

-- an expression, from its tree at the loosest place
good_expression : {e : Expr} → Good e → IsExpression (terminals_at e 0) e
good_expression {e} g = let (us, d, is) = g.chain in subst (λ f. IsExpression (terminals_at e 0) f) is (chain d)

mutual
  printed_expression : {ts : List Terminal} {e : Expr} → IsExpression ts e → IsExpression (terminals_at e 0) e
  printed_expression (literal {l} d) = subst (λ ts. IsExpression ts (expr.Lit l)) (sym (terminals_lit l 0)) (literal (printed_literal d))
  printed_expression (chain d) = good_expression (good_or (printed_chain d))

  printed_chain : {ts : List Terminal} {es : List Expr} → IsChain ts es → AllGood es
  printed_chain (one_xor d) = one_good (good_xor (printed_xor d))
  printed_chain (more_xors d ds) = more_good (good_xor (printed_xor d)) (printed_chain ds)

  printed_xor : {ts : List Terminal} {us : List Expr} → IsXor ts us → AllGood us
  printed_xor (one_and d) = one_good (good_and (printed_and d))
  printed_xor (more_ands d ds) = more_good (good_and (printed_and d)) (printed_xor ds)

  printed_and : {ts : List Terminal} {us : List Expr} → IsAnd ts us → AllGood us
  printed_and (one_unit d) = one_good (printed_unit d)
  printed_and (more_units d ds) = more_good (printed_unit d) (printed_and ds)

  printed_unit : {ts : List Terminal} {u : Expr} → IsUnit ts u → Good u
  printed_unit (negated {u} d) = let g = printed_unit d in
      good_unit (expr.Not u) (λ n. subst (λ ts. IsUnit ts (expr.Not u)) (sym (terminals_not u n)) (negated g.unit))
  printed_unit (group d) = good_or (printed_chain d)
  printed_unit (untested {e} d) = good_unit e (λ n. untested (printed_operand d n))
  printed_unit (tested {e} {t} d q) =
      good_unit (expr.Test e t) (λ n. subst (λ ts. IsUnit ts (expr.Test e t)) (sym (terminals_test e t n)) (tested (printed_operand d 3) (printed_test q)))

  printed_operand : {ts : List Terminal} {e : Expr} → IsOperand ts e → (n : ℕ) → IsOperand (terminals_at e n) e
  printed_operand true_word n = subst (λ ts. IsOperand ts (expr.Lit (lit.Bool true))) (sym (terminals_lit (lit.Bool true) n)) true_word
  printed_operand false_word n = subst (λ ts. IsOperand ts (expr.Lit (lit.Bool false))) (sym (terminals_lit (lit.Bool false) n)) false_word
  printed_operand (path d) n = path (printed_path d n)

  printed_path : {ts : List Terminal} {e : Expr} → IsPath ts e → (n : ℕ) → IsPath (terminals_at e n) e
  printed_path (name {n = field}) n = subst (λ ts. IsPath ts (expr.Field field)) (sym (terminals_field field n)) name
  printed_path (call {n = field} {es} d) n = subst (λ ts. IsPath ts (expr.Call field es)) (sym (terminals_call field es n)) (call (printed_arguments d))
  printed_path (index {e} {n = at} d) n = subst (λ ts. IsPath ts (expr.At e (pos at))) (sym (terminals_index e (pos at) n)) (index (printed_path d 3))
  printed_path (key {e} {k} d) n = subst (λ ts. IsPath ts (expr.Key e k)) (sym (terminals_key e k n)) (key (printed_path d 3))
  printed_path (each {e} d) n = subst (λ ts. IsPath ts (expr.Each e)) (sym (terminals_each e n)) (each (printed_path d 3))

  printed_arguments : {ts : List Terminal} {es : List Expr} → IsArguments ts es → IsArguments (joined_terminals terminal.Comma 0 (map terminals_at es)) es
  printed_arguments (one_argument d) = one_argument (printed_expression d)
  printed_arguments (more_arguments d ds) = more_printed (printed_expression d) ds (printed_arguments ds)

-- the terminals of the printed tree derive it
pub printed_derives : (ts : List Terminal) (e : Expr) → Derives ts e → Derives (terminals_at e 0) e
printed_derives ts e d = printed_expression d
