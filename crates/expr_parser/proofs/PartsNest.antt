-- Parts that were read, and how their trees are printed: nesting no deeper, or one deeper where a chain gets parentheses.
use Rattle.std.proofs.Common.{◌≡◌, ℕ, ◌+◌, ◌≤◌, max, Bool, true, false, nat_lt, List, [], ◌∷◌, ◌++◌, map, refl, ap, ◌∙◌, sym, le_trans, le_refl, subst, arith, tests}
use Rattle.edge_base.specs.declared.expression.Lit.{Lit}
use Rattle.edge_base.specs.declared.expression.Expr.{Expr}
use Rattle.edge_base.specs.declared.expression.Expr.TheVariants as expr
use Rattle.edge_base.specs.declared.terminal.Terminal.{Terminal}
use Rattle.edge_base.specs.declared.terminal.Terminal.TheVariants as terminal
use Rattle.edge_base.specs.Grammar.{together, IsLiteral}
use Rattle.expr_parser.proofs.TreeTerminals.{joined_terminals, grouped, terminals_at, terminals_lit, terminals_call, terminals_not, terminals_and, terminals_xor, terminals_or}
use Rattle.expr_parser.proofs.Rises.{Rises, UnitRises, ChainRises, Joins, and_joins, xor_joins, or_joins, comma_joins, unit_rises, chain_rises, append_rises, negated_rises, grouped_rises, joined_rises}
use Rattle.expr_parser.proofs.PlainTests.{literal_prints, plain_one, literal_rises}

-- the terminals nest no deeper than this; the same of a unit and of a chain
pub record Within (ts : List Terminal) (limit : ℕ) : Type 0 where
  pub height : ℕ
  pub within : height ≤ limit
  pub rises : Rises ts height

pub record UnitWithin (ts : List Terminal) (limit : ℕ) : Type 0 where
  pub height : ℕ
  pub within : height ≤ limit
  pub rises : UnitRises ts height

pub record ChainWithin (ts : List Terminal) (limit : ℕ) : Type 0 where
  pub height : ℕ
  pub within : height ≤ limit
  pub rises : ChainRises ts height

-- what was read as an operand or a path, and how its tree is printed
pub record OperandFits (ts : List Terminal) (e : Expr) : Type 0 where
  pub height : ℕ
  pub rises : Rises ts height
  pub printed : (n : ℕ) → Within (terminals_at e n) height

-- what was read as a unit: where a unit must stand, it is printed as one
pub record UnitFits (ts : List Terminal) (e : Expr) : Type 0 where
  pub height : ℕ
  pub rises : UnitRises ts height
  pub loose : (n : ℕ) → ChainWithin (terminals_at e n) height
  pub tight : UnitWithin (terminals_at e 3) height

-- how a chain of one member or more is printed: as deep as it was read up to this place, beyond it one deeper at most
pub record IsPrinted (e : Expr) (place height : ℕ) : Type 0 where
  pub bare : (n : ℕ) → n ≤ place → ChainWithin (terminals_at e n) height
  pub loose : (n : ℕ) → ChainWithin (terminals_at e n) (height + 1)
  pub tight : UnitWithin (terminals_at e 3) (height + 1)

unit_up : {ts : List Terminal} {h k : ℕ} → h ≤ k → UnitWithin ts h → UnitWithin ts k
unit_up q w = record { height = w.height; within = le_trans w.within q; rises = w.rises }

chain_up : {ts : List Terminal} {h k : ℕ} → h ≤ k → ChainWithin ts h → ChainWithin ts k
chain_up q w = record { height = w.height; within = le_trans w.within q; rises = w.rises }

chain_of_unit : {ts : List Terminal} {h : ℕ} → UnitWithin ts h → ChainWithin ts h
chain_of_unit w = record { height = w.height; within = w.within; rises = chain_rises w.rises }

unit_of : {ts : List Terminal} {h : ℕ} → Within ts h → UnitWithin ts h
unit_of w = record { height = w.height; within = w.within; rises = unit_rises w.rises }

negated_within : {ts : List Terminal} {h : ℕ} → UnitWithin ts h → UnitWithin (terminal.Not ∷ ts) (h + 1)
negated_within {ts} {h} w = let q = w.within in record { height = w.height + 1; within = omega arith; rises = negated_rises w.rises }

grouped_within : {ts : List Terminal} {h : ℕ} → ChainWithin ts h → UnitWithin (terminal.Open ∷ ts ++ terminal.Close ∷ []) (h + 1)
grouped_within {ts} {h} w = let q = w.within in record { height = w.height + 1; within = omega arith; rises = unit_rises (grouped_rises w.rises) }

both_within : (g h k l : ℕ) → g ≤ h → k ≤ l → max g k ≤ max h l
both_within g h k l p q = omega arith

joined_within : {joint : Terminal} {ts us : List Terminal} {h k : ℕ} → Joins joint → ChainWithin ts h → ChainWithin us k → ChainWithin (ts ++ joint ∷ us) (max h k)
joined_within {h} {k} j v w = record { height = max v.height w.height; within = both_within v.height h w.height k v.within w.within; rises = joined_rises j v.rises w.rises }

append_within : {ts us : List Terminal} {h k : ℕ} → Within ts h → Rises us k → Within (ts ++ us) (max h k)
append_within {h} {k} w r = record { height = max w.height k; within = both_within w.height h k k w.within (le_refl k); rises = append_rises w.rises r }

-- up to its place a node has no parentheses
pub not_above : (place n : ℕ) → n ≤ place → nat_lt place n ≡ false
not_above place n q = grind (arith, tests)

grouped_chain : (needed : Bool) {ts : List Terminal} {h : ℕ} → ChainWithin ts h → ChainWithin (grouped needed ts) (h + 1)
grouped_chain true w = chain_of_unit (grouped_within w)
grouped_chain false {h} w = chain_up (omega arith) w

-- a node of members that this terminal joins, and the last place at which it has no parentheses
pub record IsNode (joint : Terminal) (place : ℕ) (node : List Expr → Expr) : Type 0 where
  pub joins : Joins joint
  pub below : nat_lt place 3 ≡ true
  pub prints : (es : List Expr) (n : ℕ) → terminals_at (node es) n ≡ grouped (nat_lt place n) (joined_terminals joint (place + 1) (map terminals_at es))

pub and_node : IsNode terminal.And 2 expr.And
and_node = record { joins = and_joins; below = refl; prints = terminals_and }

pub xor_node : IsNode terminal.Xor 1 expr.Xor
xor_node = record { joins = xor_joins; below = refl; prints = terminals_xor }

pub or_node : IsNode terminal.Or 0 expr.Or
or_node = record { joins = or_joins; below = refl; prints = terminals_or }

several_printed : {joint : Terminal} {place : ℕ} {node : List Expr → Expr} → IsNode joint place node → (es : List Expr) {h : ℕ}
    → ChainWithin (joined_terminals joint (place + 1) (map terminals_at es)) h → IsPrinted (node es) place h
several_printed {joint} {place} {node} i es {h} w = let ts = joined_terminals joint (place + 1) (map terminals_at es) in record {
  bare = λ n q. subst (λ ts. ChainWithin ts h) (sym (i.prints es n ∙ ap (λ b. grouped b ts) (not_above place n q))) w;
  loose = λ n. subst (λ ts. ChainWithin ts (h + 1)) (sym (i.prints es n)) (grouped_chain (nat_lt place n) w);
  tight = subst (λ ts. UnitWithin ts (h + 1)) (sym (i.prints es 3 ∙ ap (λ b. grouped b ts) i.below)) (grouped_within w);
}

-- what was read as a member of a chain, by the place at which it is printed
pub record MemberFits (place : ℕ) (ts : List Terminal) (e : Expr) : Type 0 where
  pub height : ℕ
  pub rises : ChainRises ts height
  pub printed : IsPrinted e place height

abbrev pub NotEmpty : List Expr → Type 0
NotEmpty [] = ⊥
NotEmpty (e ∷ es) = Unit {0}

-- what was read as the members of a chain
pub record ListFits (joint : Terminal) (place : ℕ) (node : List Expr → Expr) (ts : List Terminal) (es : List Expr) : Type 0 where
  pub some : NotEmpty es
  pub height : ℕ
  pub rises : ChainRises ts height
  pub joined : ChainWithin (joined_terminals joint (place + 1) (map terminals_at es)) height
  pub printed : IsPrinted (together node es) place height

-- what was read as arguments
pub record ArgumentsFit (ts : List Terminal) (es : List Expr) : Type 0 where
  pub some : NotEmpty es
  pub height : ℕ
  pub rises : ChainRises ts height
  pub joined : ChainWithin (joined_terminals terminal.Comma 0 (map terminals_at es)) height

joined_more : {joint : Terminal} {h k : ℕ} → Joins joint → (place : ℕ) (e : Expr) (es : List Expr) → NotEmpty es → ChainWithin (terminals_at e place) h
    → ChainWithin (joined_terminals joint place (map terminals_at es)) k → ChainWithin (joined_terminals joint place (map terminals_at (e ∷ es))) (max h k)
joined_more j place e [] some v w = absurd some
joined_more j place e (f ∷ es) some v w = joined_within j v w

pub several : (node : List Expr → Expr) (e : Expr) (es : List Expr) → NotEmpty es → together node (e ∷ es) ≡ node (e ∷ es)
several node e [] some = absurd some
several node e (f ∷ es) some = refl

pub fits_member : {joint : Terminal} {place : ℕ} {node : List Expr → Expr} {ts : List Terminal} {es : List Expr}
    → ListFits joint place node ts es → MemberFits place ts (together node es)
fits_member f = record { height = f.height; rises = f.rises; printed = f.printed }

pub unit_member : {ts : List Terminal} {e : Expr} (place : ℕ) → UnitFits ts e → MemberFits place ts e
unit_member place f = record {
  height = f.height;
  rises = chain_rises f.rises;
  printed = record {
    bare = λ n q. f.loose n;
    loose = λ n. chain_up (omega arith) (f.loose n);
    tight = unit_up (omega arith) f.tight;
  };
}

pub one_member : {joint : Terminal} {place : ℕ} {node : List Expr → Expr} {ts : List Terminal} {e : Expr}
    → MemberFits (place + 1) ts e → ListFits joint place node ts (e ∷ [])
one_member {place} f = record {
  some = tt;
  height = f.height;
  rises = f.rises;
  joined = f.printed.bare (place + 1) (le_refl (place + 1));
  printed = record { bare = λ n q. f.printed.bare n (omega arith); loose = f.printed.loose; tight = f.printed.tight };
}

pub more_members : {joint : Terminal} {place : ℕ} {node : List Expr → Expr} {ts back : List Terminal} {e : Expr} {es : List Expr} → IsNode joint place node
    → MemberFits (place + 1) ts e → ListFits joint place node back es → ListFits joint place node (ts ++ joint ∷ back) (e ∷ es)
more_members {joint} {place} {node} {e} {es} i f fs =
    let joined : ChainWithin (joined_terminals joint (place + 1) (map terminals_at (e ∷ es))) (max f.height fs.height)
    = joined_more i.joins (place + 1) e es fs.some (f.printed.bare (place + 1) (le_refl (place + 1))) fs.joined in
    record {
      some = tt;
      height = max f.height fs.height;
      rises = joined_rises i.joins f.rises fs.rises;
      joined = joined;
      printed = subst (λ d. IsPrinted d place (max f.height fs.height)) (sym (several node e es fs.some)) (several_printed i (e ∷ es) joined);
    }

pub negated_fits : {ts : List Terminal} {u : Expr} → UnitFits ts u → UnitFits (terminal.Not ∷ ts) (expr.Not u)
negated_fits {u} f =
    let printed : (n : ℕ) → UnitWithin (terminals_at (expr.Not u) n) (f.height + 1)
    = λ n. subst (λ ts. UnitWithin ts (f.height + 1)) (sym (terminals_not u n)) (negated_within f.tight) in
    record { height = f.height + 1; rises = negated_rises f.rises; loose = λ n. chain_of_unit (printed n); tight = printed 3 }

pub group_fits : {ts : List Terminal} {e : Expr} → MemberFits 0 ts e → UnitFits (terminal.Open ∷ ts ++ terminal.Close ∷ []) e
group_fits f = record { height = f.height + 1; rises = unit_rises (grouped_rises f.rises); loose = f.printed.loose; tight = f.printed.tight }

pub operand_unit : {ts : List Terminal} {e : Expr} → OperandFits ts e → UnitFits ts e
operand_unit f = record { height = f.height; rises = unit_rises f.rises; loose = λ n. chain_of_unit (unit_of (f.printed n)); tight = unit_of (f.printed 3) }

-- an operand or a path and what follows it
pub followed_fits : {ts us vs : List Terminal} {d e : Expr} {h : ℕ} → OperandFits ts d → Rises us h → us ≡ vs
    → ((n : ℕ) → terminals_at e n ≡ terminals_at d 3 ++ vs) → OperandFits (ts ++ us) e
followed_fits {us} {vs} {d} {h} f r same prints = record {
  height = max f.height h;
  rises = append_rises f.rises r;
  printed = λ n. subst (λ ts. Within ts (max f.height h)) (ap (λ ws. terminals_at d 3 ++ ws) same ∙ sym (prints n)) (append_within (f.printed 3) r);
}

-- terminals that nest nothing and are printed as they were read
pub plain_fits : {ts : List Terminal} {e : Expr} → Rises ts 0 → ((n : ℕ) → terminals_at e n ≡ ts) → OperandFits ts e
plain_fits {ts} r prints = record {
  height = 0;
  rises = r;
  printed = λ n. subst (λ us. Within us 0) (sym (prints n)) (record { height = 0; within = le_refl 0; rises = r });
}

pub literal_fits : {t : Terminal} {l : Lit} → IsLiteral t l → OperandFits (t ∷ []) (expr.Lit l)
literal_fits {l} q = plain_fits (literal_rises q) (λ n. terminals_lit l n ∙ ap (λ t. t ∷ []) (literal_prints q))

pub call_fits : {ts : List Terminal} {es : List Expr} (n : List ℕ) → ArgumentsFit ts es
    → OperandFits (terminal.Name n ∷ terminal.Open ∷ ts ++ terminal.Close ∷ []) (expr.Call n es)
call_fits {es} n f = record {
  height = max 0 (f.height + 1);
  rises = append_rises (plain_one tt) (grouped_rises f.rises);
  printed = λ place. subst (λ ts. Within ts (max 0 (f.height + 1))) (sym (terminals_call n es place)) (record {
    height = max 0 (f.joined.height + 1);
    within = both_within 0 0 (f.joined.height + 1) (f.height + 1) (le_refl 0) (let q = f.joined.within in omega arith);
    rises = append_rises (plain_one tt) (grouped_rises f.joined.rises);
  });
}

pub one_fits : {ts : List Terminal} {e : Expr} → MemberFits 0 ts e → ArgumentsFit ts (e ∷ [])
one_fits f = record { some = tt; height = f.height; rises = f.rises; joined = f.printed.bare 0 (le_refl 0) }

pub more_fit : {ts back : List Terminal} {e : Expr} {es : List Expr} → MemberFits 0 ts e → ArgumentsFit back es → ArgumentsFit (ts ++ terminal.Comma ∷ back) (e ∷ es)
more_fit {e} {es} f fs = record {
  some = tt;
  height = max f.height fs.height;
  rises = joined_rises comma_joins f.rises fs.rises;
  joined = joined_more comma_joins 0 e es fs.some (f.printed.bare 0 (le_refl 0)) fs.joined;
}
