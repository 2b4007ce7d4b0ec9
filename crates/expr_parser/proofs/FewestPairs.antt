-- No terminals that derive a tree have fewer `(` than its print.
use Rattle.std.proofs.Common.{◌≡◌, ℕ, ◌+◌, ◌≤◌, pos, Bool, true, false, nat_lt, List, [], ◌∷◌, ◌++◌, map, refl, ap, ◌∙◌, sym, le_trans, le_refl, subst, arith}
use Rattle.edge_base.specs.declared.expression.Lit.{Lit}
use Rattle.edge_base.specs.declared.expression.Lit.TheVariants as lit
use Rattle.edge_base.specs.declared.expression.Expr.{Expr}
use Rattle.edge_base.specs.declared.expression.Expr.TheVariants as expr
use Rattle.edge_base.specs.declared.terminal.Terminal.{Terminal}
use Rattle.edge_base.specs.declared.terminal.Terminal.TheVariants as terminal
use Rattle.edge_base.specs.Grammar.{together, IsLiteral, IsExpression, literal, chain, IsChain, one_xor, more_xors, IsXor, one_and, more_ands, IsAnd, one_unit, more_units, IsUnit, negated, group, untested, tested, IsOperand, true_word, false_word, path, IsPath, name, call, index, key, each, IsArguments, one_argument, more_arguments, Derives}
use Rattle.expr_parser.specs.Reread.{opens}
use Rattle.expr_parser.proofs.PartsNest.{NotEmpty, not_above, several}
use Rattle.expr_parser.proofs.PlainTests.{literal_prints, test_prints}
use Rattle.expr_parser.proofs.TreeTerminals.{joined_terminals, grouped, terminals_at, terminals_lit, terminals_field, terminals_call, terminals_index, terminals_key, terminals_each, terminals_test, terminals_not, terminals_and, terminals_xor, terminals_or}

pub opens-append : (ts us : List Terminal) → opens (ts ++ us) ≡ opens ts + opens us
opens-append [] us = omega arith
opens-append (terminal.Open ∷ ts) us = let rest = opens-append ts us in omega arith
opens-append (t ∷ ts) us = opens-append ts us

-- a pair around terminals
opens-pair : (ts : List Terminal) → opens (terminal.Open ∷ ts ++ terminal.Close ∷ []) ≡ opens ts + 1
opens-pair ts = let inside = opens-append ts (terminal.Close ∷ []) in omega arith

opens-grouped : (needed : Bool) (ts : List Terminal) → opens (grouped needed ts) ≤ opens ts + 1
opens-grouped true ts = let pair = opens-pair ts in omega arith
opens-grouped false ts = omega arith

-- no `(` is lost where this terminal joins
abbrev IsSilent : Terminal → Type 0
IsSilent joint = (rest : List Terminal) → opens (joint ∷ rest) ≡ opens rest

opens-joined : (joint : Terminal) → IsSilent joint → (ts us : List Terminal) → opens (ts ++ joint ∷ us) ≡ opens ts + opens us
opens-joined joint silent ts us = opens-append ts (joint ∷ us) ∙ ap (λ n. opens ts + n) (silent us)

-- ---- what was read, and how its tree is printed

-- what was read as an operand or a unit is printed with no more `(`
record UnitFew (ts : List Terminal) (e : Expr) : Type 0 where
  printed : (n : ℕ) → opens (terminals_at e n) ≤ opens ts

-- what was read as a member, by the place at which it is printed: beyond it there may be one more
record MemberFew (place : ℕ) (ts : List Terminal) (e : Expr) : Type 0 where
  bare : (n : ℕ) → n ≤ place → opens (terminals_at e n) ≤ opens ts
  loose : (n : ℕ) → opens (terminals_at e n) ≤ opens ts + 1

-- what was read as the members of a chain
record ListFew (joint : Terminal) (place : ℕ) (node : List Expr → Expr) (ts : List Terminal) (es : List Expr) : Type 0 where
  some : NotEmpty es
  joined : opens (joined_terminals joint (place + 1) (map terminals_at es)) ≤ opens ts
  printed : MemberFew place ts (together node es)

-- what was read as arguments
record ArgumentsFew (ts : List Terminal) (es : List Expr) : Type 0 where
  some : NotEmpty es
  joined : opens (joined_terminals terminal.Comma 0 (map terminals_at es)) ≤ opens ts

-- a node of members that this terminal joins
record IsJoined (joint : Terminal) (place : ℕ) (node : List Expr → Expr) : Type 0 where
  silent : IsSilent joint
  prints : (es : List Expr) (n : ℕ) → terminals_at (node es) n ≡ grouped (nat_lt place n) (joined_terminals joint (place + 1) (map terminals_at es))

and_joined : IsJoined terminal.And 2 expr.And
and_joined = record { silent = λ rest. refl; prints = terminals_and }

xor_joined : IsJoined terminal.Xor 1 expr.Xor
xor_joined = record { silent = λ rest. refl; prints = terminals_xor }

or_joined : IsJoined terminal.Or 0 expr.Or
or_joined = record { silent = λ rest. refl; prints = terminals_or }

several_few : {joint : Terminal} {place : ℕ} {node : List Expr → Expr} {ts : List Terminal} → IsJoined joint place node → (es : List Expr)
    → opens (joined_terminals joint (place + 1) (map terminals_at es)) ≤ opens ts → MemberFew place ts (node es)
several_few {joint} {place} {node} {ts} i es few = let us = joined_terminals joint (place + 1) (map terminals_at es) in record {
  bare = λ n q. subst (λ vs. opens vs ≤ opens ts) (sym (i.prints es n ∙ ap (λ b. grouped b us) (not_above place n q))) few;
  loose = λ n. subst (λ vs. opens vs ≤ opens ts + 1) (sym (i.prints es n)) (let pair = opens-grouped (nat_lt place n) us in omega arith);
}

joined_few : (joint : Terminal) (ts back : List Terminal) → IsSilent joint → (place : ℕ) (e : Expr) (es : List Expr) → NotEmpty es
    → opens (terminals_at e place) ≤ opens ts → opens (joined_terminals joint place (map terminals_at es)) ≤ opens back
    → opens (joined_terminals joint place (map terminals_at (e ∷ es))) ≤ opens (ts ++ joint ∷ back)
joined_few joint ts back silent place e [] some few fewer = absurd some
joined_few joint ts back silent place e (f ∷ es) some few fewer =
    let printed = opens-joined joint silent (terminals_at e place) (joined_terminals joint place (map terminals_at (f ∷ es))) in
    let read = opens-joined joint silent ts back in
    omega arith

unit_member : {ts : List Terminal} {e : Expr} (place : ℕ) → UnitFew ts e → MemberFew place ts e
unit_member place u = record { bare = λ n q. u.printed n; loose = λ n. let few = u.printed n in omega arith }

one_member : {joint : Terminal} {place : ℕ} {node : List Expr → Expr} {ts : List Terminal} {e : Expr}
    → MemberFew (place + 1) ts e → ListFew joint place node ts (e ∷ [])
one_member {place} m = record {
  some = tt;
  joined = m.bare (place + 1) (le_refl (place + 1));
  printed = record { bare = λ n q. m.bare n (omega arith); loose = m.loose };
}

more_members : {joint : Terminal} {place : ℕ} {node : List Expr → Expr} {ts back : List Terminal} {e : Expr} {es : List Expr} → IsJoined joint place node
    → MemberFew (place + 1) ts e → ListFew joint place node back es → ListFew joint place node (ts ++ joint ∷ back) (e ∷ es)
more_members {joint} {place} {node} {ts} {back} {e} {es} i m ms =
    let joined : opens (joined_terminals joint (place + 1) (map terminals_at (e ∷ es))) ≤ opens (ts ++ joint ∷ back)
    = joined_few joint ts back i.silent (place + 1) e es ms.some (m.bare (place + 1) (le_refl (place + 1))) ms.joined in
    record {
      some = tt;
      joined = joined;
      printed = subst (λ d. MemberFew place (ts ++ joint ∷ back) d) (sym (several node e es ms.some)) (several_few i (e ∷ es) joined);
    }

same_few : {ts : List Terminal} {e : Expr} → ((n : ℕ) → terminals_at e n ≡ ts) → UnitFew ts e
same_few {ts} prints = record { printed = λ n. subst (λ us. opens us ≤ opens ts) (sym (prints n)) (le_refl (opens ts)) }

literal_few : {t : Terminal} {l : Lit} → IsLiteral t l → UnitFew (t ∷ []) (expr.Lit l)
literal_few {l} q = same_few (λ n. terminals_lit l n ∙ ap (λ t. t ∷ []) (literal_prints q))

followed_few : {ts us vs : List Terminal} {d e : Expr} → UnitFew ts d → us ≡ vs → ((n : ℕ) → terminals_at e n ≡ terminals_at d 3 ++ vs) → UnitFew (ts ++ us) e
followed_few {ts} {us} {vs} {d} {e} u same prints = record {
  printed = λ n.
      let few = u.printed 3 in
      let whole : opens (terminals_at e n) ≡ opens (terminals_at d 3) + opens vs = ap opens (prints n) ∙ opens-append (terminals_at d 3) vs in
      let read : opens (ts ++ us) ≡ opens ts + opens vs = opens-append ts us ∙ ap (λ ws. opens ts + opens ws) same in
      omega arith;
}

negated_few : {ts : List Terminal} {u : Expr} → UnitFew ts u → UnitFew (terminal.Not ∷ ts) (expr.Not u)
negated_few {ts} {u} f = record { printed = λ n. subst (λ us. opens us ≤ opens ts) (sym (terminals_not u n)) (f.printed 3) }

group_few : {ts : List Terminal} {e : Expr} → MemberFew 0 ts e → UnitFew (terminal.Open ∷ ts ++ terminal.Close ∷ []) e
group_few {ts} m = record { printed = λ n. let few = m.loose n in let pair = opens-pair ts in omega arith }

call_few : {ts : List Terminal} {es : List Expr} (n : List ℕ) → ArgumentsFew ts es → UnitFew (terminal.Name n ∷ terminal.Open ∷ ts ++ terminal.Close ∷ []) (expr.Call n es)
call_few {ts} {es} n f = record {
  printed = λ place.
      let us = joined_terminals terminal.Comma 0 (map terminals_at es) in
      let whole : opens (terminals_at (expr.Call n es) place) ≡ opens us + 1 = ap opens (terminals_call n es place) ∙ opens-pair us in
      let read = opens-pair ts in
      let few = f.joined in
      omega arith;
}

mutual
  expression_few : {ts : List Terminal} {e : Expr} → IsExpression ts e → MemberFew 0 ts e
  expression_few (literal d) = unit_member 0 (literal_few d)
  expression_few (chain d) = let f = chain_few d in f.printed

  chain_few : {ts : List Terminal} {es : List Expr} → IsChain ts es → ListFew terminal.Or 0 expr.Or ts es
  chain_few (one_xor d) = let f = xor_few d in one_member f.printed
  chain_few (more_xors d ds) = let f = xor_few d in more_members or_joined f.printed (chain_few ds)

  xor_few : {ts : List Terminal} {es : List Expr} → IsXor ts es → ListFew terminal.Xor 1 expr.Xor ts es
  xor_few (one_and d) = let f = and_few d in one_member f.printed
  xor_few (more_ands d ds) = let f = and_few d in more_members xor_joined f.printed (xor_few ds)

  and_few : {ts : List Terminal} {es : List Expr} → IsAnd ts es → ListFew terminal.And 2 expr.And ts es
  and_few (one_unit d) = one_member (unit_member 3 (unit_few d))
  and_few (more_units d ds) = more_members and_joined (unit_member 3 (unit_few d)) (and_few ds)

  unit_few : {ts : List Terminal} {u : Expr} → IsUnit ts u → UnitFew ts u
  unit_few (negated d) = negated_few (unit_few d)
  unit_few (group d) = let f = chain_few d in group_few f.printed
  unit_few (untested d) = operand_few d
  unit_few (tested {e} {t} d q) = followed_few (operand_few d) (sym (test_prints q)) (terminals_test e t)

  operand_few : {ts : List Terminal} {e : Expr} → IsOperand ts e → UnitFew ts e
  operand_few true_word = same_few (terminals_lit (lit.Bool true))
  operand_few false_word = same_few (terminals_lit (lit.Bool false))
  operand_few (path d) = path_few d

  path_few : {ts : List Terminal} {e : Expr} → IsPath ts e → UnitFew ts e
  path_few (name {n}) = same_few (terminals_field n)
  path_few (call {n} d) = call_few n (arguments_few d)
  path_few (index {e} {n} d) = followed_few (path_few d) refl (terminals_index e (pos n))
  path_few (key {e} {k} d) = followed_few (path_few d) refl (terminals_key e k)
  path_few (each {e} d) = followed_few (path_few d) refl (terminals_each e)

  arguments_few : {ts : List Terminal} {es : List Expr} → IsArguments ts es → ArgumentsFew ts es
  arguments_few (one_argument d) = let f = expression_few d in record { some = tt; joined = f.bare 0 (le_refl 0) }
  arguments_few (more_arguments {ts} {rest} {e} {es} d ds) =
      let f = expression_few d in let fs = arguments_few ds in
      record { some = tt; joined = joined_few terminal.Comma ts rest (λ behind. refl) 0 e es fs.some (f.bare 0 (le_refl 0)) fs.joined }

pub printed_opens_fewest : (ts : List Terminal) (e : Expr) → Derives ts e → opens (terminals_at e 0) ≤ opens ts
printed_opens_fewest ts e d = let f = expression_few d in f.bare 0 (le_refl 0)
