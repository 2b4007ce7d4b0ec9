-- The machine reads each expression that the grammar has: so terminals derive at most one tree.
use Rattle.std.proofs.Common.{◌≡◌, ℕ, suc, pos, Bool, true, false, List, [], ◌∷◌, ◌++◌, refl, ap, ◌∙◌, sym, append_assoc, append-nil}
use Rattle.std.specs.declared.option.Option.TheVariants.{Some}
use Rattle.edge_base.specs.declared.expression.Lit.{Lit}
use Rattle.edge_base.specs.declared.expression.Lit.TheVariants as lit
use Rattle.edge_base.specs.declared.expression.Test.{Test}
use Rattle.edge_base.specs.declared.expression.Expr.{Expr}
use Rattle.edge_base.specs.declared.expression.Expr.TheVariants as expr
use Rattle.edge_base.specs.declared.terminal.Terminal.{Terminal}
use Rattle.edge_base.specs.declared.terminal.Terminal.TheVariants as terminal
use Rattle.edge_base.specs.Grammar.{together, IsLiteral, text_literal, number_literal, address_literal, IsTest, in_order, contains, matches, wildcard, strict_wildcard, in_list, in_items, IsExpression, literal, chain, IsChain, one_xor, more_xors, IsXor, one_and, more_ands, IsAnd, one_unit, more_units, IsUnit, negated, group, untested, tested, IsOperand, true_word, false_word, path, IsPath, name, call, index, key, each, IsArguments, one_argument, more_arguments, Derives}
use Rattle.expr_parser.specs.declared.state.Frame.{Frame}
use Rattle.expr_parser.specs.declared.state.Opened.TheVariants as opened
use Rattle.expr_parser.specs.declared.state.Level.{Level}
use Rattle.expr_parser.specs.declared.state.Mode.TheVariants as mode
use Rattle.expr_parser.specs.Machine.{frame, fresh, level, state, start, outcome}
use Rattle.expr_parser.proofs.ReadTests.{read_test, read_truth_test}

-- what may follow a unit, an and, a xor and a chain
abbrev AfterUnit : List Terminal → Type 0
AfterUnit [] = Unit {0}
AfterUnit (terminal.Close ∷ ts) = Unit {0}
AfterUnit (terminal.Comma ∷ ts) = Unit {0}
AfterUnit (terminal.Or ∷ ts) = Unit {0}
AfterUnit (terminal.Xor ∷ ts) = Unit {0}
AfterUnit (terminal.And ∷ ts) = Unit {0}
AfterUnit (t ∷ ts) = ⊥

abbrev AfterAnd : List Terminal → Type 0
AfterAnd (terminal.And ∷ ts) = ⊥
AfterAnd ts = AfterUnit ts

abbrev AfterXor : List Terminal → Type 0
AfterXor (terminal.Xor ∷ ts) = ⊥
AfterXor ts = AfterAnd ts

abbrev AfterChain : List Terminal → Type 0
AfterChain (terminal.Or ∷ ts) = ⊥
AfterChain ts = AfterXor ts

xor_after_chain : (rest : List Terminal) → AfterChain rest → AfterXor rest
xor_after_chain [] h = tt
xor_after_chain (terminal.Close ∷ ts) h = tt
xor_after_chain (terminal.Comma ∷ ts) h = tt
xor_after_chain (t ∷ ts) h = absurd h

and_after_xor : (rest : List Terminal) → AfterXor rest → AfterAnd rest
and_after_xor [] h = tt
and_after_xor (terminal.Close ∷ ts) h = tt
and_after_xor (terminal.Comma ∷ ts) h = tt
and_after_xor (terminal.Or ∷ ts) h = tt
and_after_xor (t ∷ ts) h = absurd h

unit_after_and : (rest : List Terminal) → AfterAnd rest → AfterUnit rest
unit_after_and [] h = tt
unit_after_and (terminal.Close ∷ ts) h = tt
unit_after_and (terminal.Comma ∷ ts) h = tt
unit_after_and (terminal.Or ∷ ts) h = tt
unit_after_and (terminal.Xor ∷ ts) h = tt
unit_after_and (t ∷ ts) h = absurd h

-- `(` doesn't follow
abbrev NotOpen : List Terminal → Type 0
NotOpen (terminal.Open ∷ ts) = ⊥
NotOpen ts = Unit {0}

not_open_after_unit : (rest : List Terminal) → AfterUnit rest → NotOpen rest
not_open_after_unit [] h = tt
not_open_after_unit (terminal.Open ∷ ts) h = absurd h
not_open_after_unit (t ∷ ts) h = tt

not_open_test : {us : List Terminal} {t : Test} → IsTest us t → (rest : List Terminal) → NotOpen (us ++ rest)
not_open_test (in_order d) rest = tt
not_open_test contains rest = tt
not_open_test matches rest = tt
not_open_test wildcard rest = tt
not_open_test strict_wildcard rest = tt
not_open_test in_list rest = tt
not_open_test (in_items d) rest = tt

-- states that differ only in what is joined already go on alike
named_done : (rest : List Terminal) → NotOpen rest → (n : List ℕ) (f : Frame) (below : List Level)
    → outcome rest (state (mode.Named n) f below) ≡ outcome rest (state (mode.Path (expr.Field n)) f below)
named_done [] h n f [] = refl
named_done [] h n f (l ∷ below) = refl
named_done (terminal.Open ∷ ts) h n f below = absurd h
named_done (t ∷ ts) h n f below = refl

path_done : (rest : List Terminal) → AfterUnit rest → (e : Expr) (f : Frame) (below : List Level)
    → outcome rest (state (mode.Path e) f below) ≡ outcome rest (state (mode.Done e) f below)
path_done [] h e f [] = refl
path_done [] h e f (l ∷ below) = refl
path_done (terminal.Close ∷ ts) h e f below = refl
path_done (terminal.Comma ∷ ts) h e f below = refl
path_done (terminal.Or ∷ ts) h e f below = refl
path_done (terminal.Xor ∷ ts) h e f below = refl
path_done (terminal.And ∷ ts) h e f below = refl
path_done (t ∷ ts) h e f below = absurd h

truth_done : (rest : List Terminal) → AfterUnit rest → (b : Bool) (f : Frame) (below : List Level)
    → outcome rest (state (mode.Truth b) f below) ≡ outcome rest (state (mode.Done (expr.Lit (lit.Bool b))) f below)
truth_done [] h b f [] = refl
truth_done [] h b f (l ∷ below) = refl
truth_done (terminal.Close ∷ ts) h b f below = refl
truth_done (terminal.Comma ∷ ts) h b f below = refl
truth_done (terminal.Or ∷ ts) h b f below = refl
truth_done (terminal.Xor ∷ ts) h b f below = refl
truth_done (terminal.And ∷ ts) h b f below = refl
truth_done (t ∷ ts) h b f below = absurd h

not_done : (rest : List Terminal) → AfterUnit rest → (u : Expr) (f : Frame) (below : List Level)
    → outcome rest (state (mode.Done u) (frame f.ors f.xors f.ands (suc f.nots)) below) ≡ outcome rest (state (mode.Done (expr.Not u)) f below)
not_done [] h u f [] = refl
not_done [] h u f (l ∷ below) = refl
not_done (terminal.Close ∷ ts) h u f below = refl
not_done (terminal.Comma ∷ ts) h u f below = refl
not_done (terminal.Or ∷ ts) h u f below = refl
not_done (terminal.Xor ∷ ts) h u f below = refl
not_done (terminal.And ∷ ts) h u f below = refl
not_done (t ∷ ts) h u f below = absurd h

and_done : (rest : List Terminal) → AfterAnd rest → (u : Expr) (ors xors ands : List Expr) (below : List Level)
    → outcome rest (state (mode.Done u) (frame ors xors ands 0) below) ≡ outcome rest (state (mode.Done (together expr.And (ands ++ u ∷ []))) (frame ors xors [] 0) below)
and_done [] h u ors xors ands [] = refl
and_done [] h u ors xors ands (l ∷ below) = refl
and_done (terminal.Close ∷ ts) h u ors xors ands below = refl
and_done (terminal.Comma ∷ ts) h u ors xors ands below = refl
and_done (terminal.Or ∷ ts) h u ors xors ands below = refl
and_done (terminal.Xor ∷ ts) h u ors xors ands below = refl
and_done (t ∷ ts) h u ors xors ands below = absurd h

xor_done : (rest : List Terminal) → AfterXor rest → (u : Expr) (ors xors : List Expr) (below : List Level)
    → outcome rest (state (mode.Done u) (frame ors xors [] 0) below) ≡ outcome rest (state (mode.Done (together expr.Xor (xors ++ u ∷ []))) (frame ors [] [] 0) below)
xor_done [] h u ors xors [] = refl
xor_done [] h u ors xors (l ∷ below) = refl
xor_done (terminal.Close ∷ ts) h u ors xors below = refl
xor_done (terminal.Comma ∷ ts) h u ors xors below = refl
xor_done (terminal.Or ∷ ts) h u ors xors below = refl
xor_done (t ∷ ts) h u ors xors below = absurd h

chain_done : (rest : List Terminal) → AfterChain rest → (u : Expr) (ors : List Expr) (below : List Level)
    → outcome rest (state (mode.Done u) (frame ors [] [] 0) below) ≡ outcome rest (state (mode.Done (together expr.Or (ors ++ u ∷ []))) fresh below)
chain_done [] h u ors [] = refl
chain_done [] h u ors (l ∷ below) = refl
chain_done (terminal.Close ∷ ts) h u ors below = refl
chain_done (terminal.Comma ∷ ts) h u ors below = refl
chain_done (t ∷ ts) h u ors below = absurd h

literal_done : (rest : List Terminal) → AfterChain rest → (l : Lit) (below : List Level)
    → outcome rest (state (mode.Literal l) fresh below) ≡ outcome rest (state (mode.Done (expr.Lit l)) fresh below)
literal_done [] h l [] = refl
literal_done [] h l (o ∷ below) = refl
literal_done (terminal.Close ∷ ts) h l below = refl
literal_done (terminal.Comma ∷ ts) h l below = refl
literal_done (t ∷ ts) h l below = absurd h

-- a chain begins as a unit does
abbrev Headed : List Terminal → Type 0
Headed ts = (rest : List Terminal) (f : Frame) (below : List Level) → outcome (ts ++ rest) (state mode.Begin f below) ≡ outcome (ts ++ rest) (state mode.Want f below)

headed_append : (ts us : List Terminal) → Headed ts → Headed (ts ++ us)
headed_append ts us h rest f below =
    ap (λ xs. outcome xs (state mode.Begin f below)) (append_assoc ts us rest)
    ∙ h (us ++ rest) f below
    ∙ sym (ap (λ xs. outcome xs (state mode.Want f below)) (append_assoc ts us rest))

path_head : {ts : List Terminal} {e : Expr} → IsPath ts e → Headed ts
path_head name rest f below = refl
path_head (call d) rest f below = refl
path_head (index {ts} {n} d) rest f below = headed_append ts _ (path_head d) rest f below
path_head (key {ts} {k} d) rest f below = headed_append ts _ (path_head d) rest f below
path_head (each {ts} d) rest f below = headed_append ts _ (path_head d) rest f below

operand_head : {ts : List Terminal} {e : Expr} → IsOperand ts e → Headed ts
operand_head true_word rest f below = refl
operand_head false_word rest f below = refl
operand_head (path d) rest f below = path_head d rest f below

unit_head : {ts : List Terminal} {e : Expr} → IsUnit ts e → Headed ts
unit_head (negated d) rest f below = refl
unit_head (group d) rest f below = refl
unit_head (untested d) rest f below = operand_head d rest f below
unit_head (tested {ts} {us} d q) rest f below = headed_append ts us (operand_head d) rest f below

and_head : {ts : List Terminal} {us : List Expr} → IsAnd ts us → Headed ts
and_head (one_unit d) rest f below = unit_head d rest f below
and_head (more_units {ts} {rest = back} d ds) rest f below = headed_append ts (terminal.And ∷ back) (unit_head d) rest f below

xor_head : {ts : List Terminal} {us : List Expr} → IsXor ts us → Headed ts
xor_head (one_and d) rest f below = and_head d rest f below
xor_head (more_ands {ts} {rest = back} d ds) rest f below = headed_append ts (terminal.Xor ∷ back) (and_head d) rest f below

chain_head : {ts : List Terminal} {es : List Expr} → IsChain ts es → Headed ts
chain_head (one_xor d) rest f below = xor_head d rest f below
chain_head (more_xors {ts} {rest = back} d ds) rest f below = headed_append ts (terminal.Or ∷ back) (xor_head d) rest f below

read_literal : {t : Terminal} {l : Lit} → IsLiteral t l → (rest : List Terminal) → AfterChain rest → (below : List Level)
    → outcome (t ∷ rest) (state mode.Begin fresh below) ≡ outcome rest (state (mode.Done (expr.Lit l)) fresh below)
read_literal (text_literal {text}) rest h below = literal_done rest h (lit.Text text) below
read_literal (number_literal {n}) rest h below = literal_done rest h (lit.Num n) below
read_literal (address_literal {a}) rest h below = literal_done rest h (lit.Addr a) below

mutual
  read_expression : {ts : List Terminal} {e : Expr} → IsExpression ts e → (rest : List Terminal) → AfterChain rest → (below : List Level)
      → outcome (ts ++ rest) (state mode.Begin fresh below) ≡ outcome rest (state (mode.Done e) fresh below)
  read_expression (literal d) rest h below = read_literal d rest h below
  read_expression (chain d) rest h below = chain_head d rest fresh below ∙ read_chain d rest h [] below

  read_chain : {ts : List Terminal} {es : List Expr} → IsChain ts es → (rest : List Terminal) → AfterChain rest → (front : List Expr) (below : List Level)
      → outcome (ts ++ rest) (state mode.Want (frame front [] [] 0) below) ≡ outcome rest (state (mode.Done (together expr.Or (front ++ es))) fresh below)
  read_chain (one_xor {us} d) rest h front below =
      read_xor d rest (xor_after_chain rest h) front [] below
      ∙ chain_done rest h (together expr.Xor us) front below
  read_chain (more_xors {ts} {rest = back} {us} {es} d ds) rest h front below =
      ap (λ xs. outcome xs (state mode.Want (frame front [] [] 0) below)) (append_assoc ts (terminal.Or ∷ back) rest)
      ∙ read_xor d (terminal.Or ∷ back ++ rest) tt front [] below
      ∙ read_chain ds rest h (front ++ together expr.Xor us ∷ []) below
      ∙ ap (λ es. outcome rest (state (mode.Done (together expr.Or es)) fresh below)) (append_assoc front (together expr.Xor us ∷ []) es)

  read_xor : {ts : List Terminal} {us : List Expr} → IsXor ts us → (rest : List Terminal) → AfterXor rest → (ors front : List Expr) (below : List Level)
      → outcome (ts ++ rest) (state mode.Want (frame ors front [] 0) below) ≡ outcome rest (state (mode.Done (together expr.Xor (front ++ us))) (frame ors [] [] 0) below)
  read_xor (one_and {us} d) rest h ors front below =
      read_and d rest (and_after_xor rest h) ors front [] below
      ∙ xor_done rest h (together expr.And us) ors front below
  read_xor (more_ands {ts} {rest = back} {us} {es} d ds) rest h ors front below =
      ap (λ xs. outcome xs (state mode.Want (frame ors front [] 0) below)) (append_assoc ts (terminal.Xor ∷ back) rest)
      ∙ read_and d (terminal.Xor ∷ back ++ rest) tt ors front [] below
      ∙ read_xor ds rest h ors (front ++ together expr.And us ∷ []) below
      ∙ ap (λ es. outcome rest (state (mode.Done (together expr.Xor es)) (frame ors [] [] 0) below)) (append_assoc front (together expr.And us ∷ []) es)

  read_and : {ts : List Terminal} {us : List Expr} → IsAnd ts us → (rest : List Terminal) → AfterAnd rest → (ors xors front : List Expr) (below : List Level)
      → outcome (ts ++ rest) (state mode.Want (frame ors xors front 0) below) ≡ outcome rest (state (mode.Done (together expr.And (front ++ us))) (frame ors xors [] 0) below)
  read_and (one_unit {u} d) rest h ors xors front below =
      read_unit d rest (unit_after_and rest h) (frame ors xors front 0) below
      ∙ and_done rest h u ors xors front below
  read_and (more_units {ts} {rest = back} {u} {us} d ds) rest h ors xors front below =
      ap (λ xs. outcome xs (state mode.Want (frame ors xors front 0) below)) (append_assoc ts (terminal.And ∷ back) rest)
      ∙ read_unit d (terminal.And ∷ back ++ rest) tt (frame ors xors front 0) below
      ∙ read_and ds rest h ors xors (front ++ u ∷ []) below
      ∙ ap (λ us. outcome rest (state (mode.Done (together expr.And us)) (frame ors xors [] 0) below)) (append_assoc front (u ∷ []) us)

  read_unit : {ts : List Terminal} {u : Expr} → IsUnit ts u → (rest : List Terminal) → AfterUnit rest → (f : Frame) (below : List Level)
      → outcome (ts ++ rest) (state mode.Want f below) ≡ outcome rest (state (mode.Done u) f below)
  read_unit (negated {u} d) rest h f below =
      read_unit d rest h (frame f.ors f.xors f.ands (suc f.nots)) below ∙ not_done rest h u f below
  read_unit (group {ts} d) rest h f below =
      ap (λ xs. outcome xs (state mode.Want fresh (level opened.Group f ∷ below))) (append_assoc ts (terminal.Close ∷ []) rest)
      ∙ read_chain d (terminal.Close ∷ rest) tt [] (level opened.Group f ∷ below)
  read_unit (untested d) rest h f below = read_operand d rest h f below
  read_unit (tested {ts} {us} {e} d q) rest h f below =
      ap (λ xs. outcome xs (state mode.Want f below)) (append_assoc ts us rest)
      ∙ read_tested d q rest f below

  read_operand : {ts : List Terminal} {e : Expr} → IsOperand ts e → (rest : List Terminal) → AfterUnit rest → (f : Frame) (below : List Level)
      → outcome (ts ++ rest) (state mode.Want f below) ≡ outcome rest (state (mode.Done e) f below)
  read_operand true_word rest h f below = truth_done rest h true f below
  read_operand false_word rest h f below = truth_done rest h false f below
  read_operand (path {e} d) rest h f below = read_path d rest (not_open_after_unit rest h) f below ∙ path_done rest h e f below

  read_tested : {ts us : List Terminal} {e : Expr} {t : Test} → IsOperand ts e → IsTest us t → (rest : List Terminal) (f : Frame) (below : List Level)
      → outcome (ts ++ (us ++ rest)) (state mode.Want f below) ≡ outcome rest (state (mode.Done (expr.Test e t)) f below)
  read_tested true_word q rest f below = read_truth_test q rest true f below ∙ read_test q rest (expr.Lit (lit.Bool true)) f below
  read_tested false_word q rest f below = read_truth_test q rest false f below ∙ read_test q rest (expr.Lit (lit.Bool false)) f below
  read_tested {us} (path {e} d) q rest f below = read_path d (us ++ rest) (not_open_test q rest) f below ∙ read_test q rest e f below

  read_path : {ts : List Terminal} {e : Expr} → IsPath ts e → (rest : List Terminal) → NotOpen rest → (f : Frame) (below : List Level)
      → outcome (ts ++ rest) (state mode.Want f below) ≡ outcome rest (state (mode.Path e) f below)
  read_path (name {n}) rest h f below = named_done rest h n f below
  read_path (call {n} {ts} d) rest h f below =
      ap (λ xs. outcome xs (state mode.Begin fresh (level (opened.Call n []) f ∷ below))) (append_assoc ts (terminal.Close ∷ []) rest)
      ∙ read_arguments d rest n [] f below
  read_path (index {ts} {n} d) rest h f below =
      ap (λ xs. outcome xs (state mode.Want f below)) (append_assoc ts (terminal.OpenIndex ∷ terminal.Number (pos n) ∷ terminal.CloseIndex ∷ []) rest)
      ∙ read_path d (terminal.OpenIndex ∷ terminal.Number (pos n) ∷ terminal.CloseIndex ∷ rest) tt f below
  read_path (key {ts} {k} d) rest h f below =
      ap (λ xs. outcome xs (state mode.Want f below)) (append_assoc ts (terminal.OpenIndex ∷ terminal.Text k ∷ terminal.CloseIndex ∷ []) rest)
      ∙ read_path d (terminal.OpenIndex ∷ terminal.Text k ∷ terminal.CloseIndex ∷ rest) tt f below
  read_path (each {ts} d) rest h f below =
      ap (λ xs. outcome xs (state mode.Want f below)) (append_assoc ts (terminal.OpenIndex ∷ terminal.Star ∷ terminal.CloseIndex ∷ []) rest)
      ∙ read_path d (terminal.OpenIndex ∷ terminal.Star ∷ terminal.CloseIndex ∷ rest) tt f below

  read_arguments : {ts : List Terminal} {es : List Expr} → IsArguments ts es → (rest : List Terminal) (n : List ℕ) (front : List Expr) (f : Frame) (below : List Level)
      → outcome (ts ++ terminal.Close ∷ rest) (state mode.Begin fresh (level (opened.Call n front) f ∷ below))
      ≡ outcome rest (state (mode.Path (expr.Call n (front ++ es))) f below)
  read_arguments (one_argument d) rest n front f below = read_expression d (terminal.Close ∷ rest) tt (level (opened.Call n front) f ∷ below)
  read_arguments (more_arguments {ts} {rest = back} {e} {es} d ds) rest n front f below =
      ap (λ xs. outcome xs (state mode.Begin fresh (level (opened.Call n front) f ∷ below))) (append_assoc ts (terminal.Comma ∷ back) (terminal.Close ∷ rest))
      ∙ read_expression d (terminal.Comma ∷ back ++ terminal.Close ∷ rest) tt (level (opened.Call n front) f ∷ below)
      ∙ read_arguments ds rest n (front ++ e ∷ []) f below
      ∙ ap (λ es. outcome rest (state (mode.Path (expr.Call n es)) f below)) (append_assoc front (e ∷ []) es)

-- what derives a tree is read as this tree
pub derived_is_read : {ts : List Terminal} {e : Expr} → Derives ts e → outcome ts start ≡ Some e
derived_is_read {ts} d = ap (λ xs. outcome xs start) (sym (append-nil ts)) ∙ read_expression d [] tt []

-- terminals derive at most one tree
pub one_tree : (ts : List Terminal) (d e : Expr) → Derives ts d → Derives ts e → d ≡ e
one_tree ts d e p q = let left = derived_is_read p in let right = derived_is_read q in cc
