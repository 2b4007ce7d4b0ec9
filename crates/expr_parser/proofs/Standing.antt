-- What a state of the machine stands for: the terminals that it has read, split into what is open.
use Rattle.std.proofs.Common.{◌≡◌, ℕ, suc, List, [], ◌∷◌, ◌++◌, refl, subst, sym, append_assoc, append-nil}
use Rattle.std.specs.declared.option.Option.{Option}
use Rattle.std.specs.declared.option.Option.TheVariants.{None, Some}
use Rattle.edge_base.specs.declared.expression.Lit.TheVariants as lit
use Rattle.edge_base.specs.declared.expression.Item.{Item}
use Rattle.edge_base.specs.declared.expression.Expr.{Expr}
use Rattle.edge_base.specs.declared.expression.Expr.TheVariants as expr
use Rattle.edge_base.specs.declared.terminal.Terminal.{Terminal}
use Rattle.edge_base.specs.declared.terminal.Terminal.TheVariants as terminal
use Rattle.edge_base.specs.Grammar.{together, IsLiteral, IsListedItem, IsListedItems, IsTest, IsExpression, IsChain, one_xor, more_xors, IsXor, one_and, more_ands, IsAnd, one_unit, more_units, IsUnit, negated, IsOperand, IsPath, IsArguments}
use Rattle.expr_parser.specs.declared.testing.Testing.{Testing}
use Rattle.expr_parser.specs.declared.testing.Testing.TheVariants as testing
use Rattle.expr_parser.specs.declared.testing.Tested.{Tested}
use Rattle.expr_parser.specs.declared.testing.Tested.TheVariants as tested
use Rattle.expr_parser.specs.declared.state.Frame.{Frame}
use Rattle.expr_parser.specs.declared.state.Opened.{Opened}
use Rattle.expr_parser.specs.declared.state.Opened.TheVariants as opened
use Rattle.expr_parser.specs.declared.state.Level.{Level}
use Rattle.expr_parser.specs.declared.state.Mode.{Mode}
use Rattle.expr_parser.specs.declared.state.Mode.TheVariants as mode
use Rattle.expr_parser.specs.declared.state.State.{State}
use Rattle.expr_parser.specs.Testing.{text_test}
use Rattle.expr_parser.specs.Machine.{frame, fresh, negate, and_of, xor_of}

-- these terminals, with a chain, xor, and or unit behind them, are one whose first members are these
abbrev OrFront : List Expr → List Terminal → Type 0
OrFront ors x = (a : List Terminal) (es : List Expr) → IsChain a es → IsChain (x ++ a) (ors ++ es)

abbrev XorFront : List Expr → List Terminal → Type 0
XorFront xors x = (a : List Terminal) (us : List Expr) → IsXor a us → IsXor (x ++ a) (xors ++ us)

abbrev AndFront : List Expr → List Terminal → Type 0
AndFront ands x = (a : List Terminal) (us : List Expr) → IsAnd a us → IsAnd (x ++ a) (ands ++ us)

abbrev NotFront : ℕ → List Terminal → Type 0
NotFront n x = (a : List Terminal) (u : Expr) → IsUnit a u → IsUnit (x ++ a) (negate n u)

-- a level has these terminals
pub record Spells (f : Frame) (x : List Terminal) : Type 0 where
  pub c : List Terminal
  pub w : List Terminal
  pub j : List Terminal
  pub n : List Terminal
  pub ors : OrFront f.ors c
  pub xors : XorFront f.xors w
  pub ands : AndFront f.ands j
  pub nots : NotFront f.nots n
  pub spelled : x ≡ c ++ (w ++ (j ++ n))

-- what opened a level has these terminals
abbrev pub Opening : Opened → List Terminal → Type 0
Opening opened.Group x = x ≡ terminal.Open ∷ []
Opening (opened.Call n es) x = (a : List Terminal) (args : List Expr) → IsArguments a args → IsPath (x ++ (a ++ terminal.Close ∷ [])) (expr.Call n (es ++ args))

-- the levels around have these terminals
abbrev pub Around : List Level → List Terminal → Type 0
Around [] x = x ≡ []
Around (l ∷ below) x = (outer inner opening : List Terminal) × Around below outer × Spells l.outer inner × Opening l.opened opening × (x ≡ outer ++ (inner ++ opening))

-- an expression may begin: at the start, and as an argument
abbrev pub TakesIn : Opened → Type 0
TakesIn opened.Group = ⊥
TakesIn (opened.Call n es) = Unit {0}

abbrev pub Takes : List Level → Type 0
Takes [] = Unit {0}
Takes (l ∷ below) = TakesIn l.opened

-- these terminals, with an item behind them, are items whose first ones are these
abbrev pub ItemFront : List Item → List Terminal → Type 0
ItemFront items w = (a : List Terminal) (i : Item) → IsListedItem a i → IsListedItems (w ++ a) (items ++ i ∷ [])

-- a test under way has these terminals
abbrev pub TestFront : Testing → List Terminal → Type 0
TestFront (testing.Order o) z = z ≡ terminal.Order o ∷ []
TestFront (testing.Text k) z = (t : List ℕ) → IsTest (z ++ terminal.Text t ∷ []) (text_test k t)
TestFront testing.Strict z = z ≡ terminal.Strict ∷ []
TestFront testing.In z = z ≡ terminal.In ∷ []
TestFront testing.FirstItem z = z ≡ terminal.In ∷ terminal.OpenItems ∷ []
TestFront (testing.Items items) z = (w : List Terminal) × IsListedItems w items × (z ≡ terminal.In ∷ terminal.OpenItems ∷ w)
TestFront (testing.Number items n) z = (w : List Terminal) × ItemFront items w × (z ≡ terminal.In ∷ terminal.OpenItems ∷ (w ++ terminal.Number n ∷ []))
TestFront (testing.Address items a) z = (w : List Terminal) × ItemFront items w × (z ≡ terminal.In ∷ terminal.OpenItems ∷ (w ++ terminal.Address a ∷ []))
TestFront (testing.NumberTo items n) z = (w : List Terminal) × ItemFront items w × (z ≡ terminal.In ∷ terminal.OpenItems ∷ (w ++ terminal.Number n ∷ terminal.To ∷ []))
TestFront (testing.AddressTo items a) z = (w : List Terminal) × ItemFront items w × (z ≡ terminal.In ∷ terminal.OpenItems ∷ (w ++ terminal.Address a ∷ terminal.To ∷ []))

abbrev pub TestedBy : Tested → List Terminal → Type 0
TestedBy (tested.Part k) z = TestFront k z
TestedBy (tested.Whole t) z = IsTest z t

-- the last part of a level has these terminals
abbrev pub Inside : Mode → List Terminal → Type 0
Inside mode.Begin x = ⊥
Inside mode.Want x = x ≡ []
Inside (mode.Literal l) x = ⊥
Inside (mode.Named n) x = x ≡ terminal.Name n ∷ []
Inside (mode.Path e) x = IsPath x e
Inside (mode.Truth b) x = IsOperand x (expr.Lit (lit.Bool b))
Inside (mode.Index e) x = (z : List Terminal) × IsPath z e × (x ≡ z ++ terminal.OpenIndex ∷ [])
Inside (mode.IndexEnd e) x = IsPath (x ++ terminal.CloseIndex ∷ []) e
Inside (mode.Testing e k) x = (a z : List Terminal) × IsOperand a e × TestFront k z × (x ≡ a ++ z)
Inside (mode.Done e) x = IsUnit x e

-- what is open has these terminals, and the last part of the innermost level is as said
pub record StandsAt (P : List Terminal → Type 0) (f : Frame) (below : List Level) (x : List Terminal) : Type 0 where
  pub outer : List Terminal
  pub inner : List Terminal
  pub part : List Terminal
  pub around : Around below outer
  pub spells : Spells f inner
  pub inside : P part
  pub spelled : x ≡ outer ++ (inner ++ part)

-- a state stands for these terminals
abbrev pub StandsIn : Mode → Frame → List Level → List Terminal → Type 0
StandsIn mode.Begin f below x = (f ≡ fresh) × Takes below × Around below x
StandsIn (mode.Literal l) f below x = (t : Terminal) × (outer : List Terminal) × IsLiteral t l × Takes below × Around below outer × (x ≡ outer ++ t ∷ [])
StandsIn m f below x = StandsAt (Inside m) f below x

abbrev pub StandsFor : State → List Terminal → Type 0
StandsFor s x = StandsIn s.mode s.top s.below x

abbrev pub Next : Option State → List Terminal → Type 0
Next None x = Unit {0}
Next (Some s) x = StandsFor s x

-- what stands in such parentheses, or alone
abbrev pub Completed : Opened → List Terminal → Expr → Type 0
Completed opened.Group a e = (es : List Expr) × IsChain a es × (e ≡ together expr.Or es)
Completed (opened.Call n es) a e = IsExpression a e

abbrev pub CompletedIn : List Level → List Terminal → Expr → Type 0
CompletedIn [] a e = IsExpression a e
CompletedIn (l ∷ below) a e = Completed l.opened a e

-- the terminals end with an expression that is whole
pub record WholeIn (e : Expr) (below : List Level) (x : List Terminal) : Type 0 where
  pub outer : List Terminal
  pub a : List Terminal
  pub around : Around below outer
  pub completed : CompletedIn below a e
  pub spelled : x ≡ outer ++ a

-- the part goes on by more terminals
pub moved : (P Q : List Terminal → Type 0) (z : List Terminal) → ((y : List Terminal) → P y → Q (y ++ z)) → (f : Frame) (below : List Level) (x : List Terminal)
    → StandsAt P f below x → StandsAt Q f below (x ++ z)
moved P Q z h f below x s = record {
  outer = s.outer;
  inner = s.inner;
  part = s.part ++ z;
  around = s.around;
  spells = s.spells;
  inside = h s.part s.inside;
  spelled = rw s.spelled (simp append_assoc);
}

and_at : (x y : List Terminal) (us vs : List Expr) → IsAnd x us → x ≡ y → us ≡ vs → IsAnd y vs
and_at x y us vs d p q = subst (λ z. IsAnd z vs) p (subst (λ z. IsAnd x z) q d)

xor_at : (x y : List Terminal) (us vs : List Expr) → IsXor x us → x ≡ y → us ≡ vs → IsXor y vs
xor_at x y us vs d p q = subst (λ z. IsXor z vs) p (subst (λ z. IsXor x z) q d)

chain_at : (x y : List Terminal) (us vs : List Expr) → IsChain x us → x ≡ y → us ≡ vs → IsChain y vs
chain_at x y us vs d p q = subst (λ z. IsChain z vs) p (subst (λ z. IsChain x z) q d)

-- a level of which nothing was read
pub fresh_spells : Spells fresh []
fresh_spells = record { c = []; w = []; j = []; n = []; ors = λ a es d. d; xors = λ a us d. d; ands = λ a us d. d; nots = λ a u d. d; spelled = refl }

-- a unit ends the and, the xor and the chain of its level
and_whole : (f : Frame) (x a : List Terminal) (u : Expr) (s : Spells f x) → IsUnit a u → IsAnd (s.j ++ (s.n ++ a)) (f.ands ++ negate f.nots u ∷ [])
and_whole f x a u s d = s.ands (s.n ++ a) (negate f.nots u ∷ []) (one_unit (s.nots a u d))

xor_whole : (f : Frame) (x a : List Terminal) (u : Expr) (s : Spells f x) → IsUnit a u → IsXor (s.w ++ (s.j ++ (s.n ++ a))) (f.xors ++ and_of f u ∷ [])
xor_whole f x a u s d = s.xors (s.j ++ (s.n ++ a)) (and_of f u ∷ []) (one_and (and_whole f x a u s d))

pub chain_whole : (f : Frame) (x a : List Terminal) (u : Expr) → Spells f x → IsUnit a u → IsChain (x ++ a) (f.ors ++ xor_of f u ∷ [])
chain_whole f x a u s d =
    let whole = s.ors (s.w ++ (s.j ++ (s.n ++ a))) (xor_of f u ∷ []) (one_xor (xor_whole f x a u s d)) in
    let same : s.c ++ (s.w ++ (s.j ++ (s.n ++ a))) ≡ x ++ a = rw s.spelled (simp append_assoc) in
    chain_at _ _ _ _ whole same refl

-- a level goes on by `not`, and behind a unit by `and`, `xor` and `or`
pub level_not : (f : Frame) (x : List Terminal) → Spells f x → Spells (frame f.ors f.xors f.ands (suc f.nots)) (x ++ terminal.Not ∷ [])
level_not f x s = record {
  c = s.c;
  w = s.w;
  j = s.j;
  n = s.n ++ terminal.Not ∷ [];
  ors = s.ors;
  xors = s.xors;
  ands = s.ands;
  nots = λ b v q. subst (λ z. IsUnit z (negate f.nots (expr.Not v))) (sym (append_assoc s.n (terminal.Not ∷ []) b)) (s.nots (terminal.Not ∷ b) (expr.Not v) (negated q));
  spelled = rw s.spelled (simp append_assoc);
}

pub level_and : (f : Frame) (x a : List Terminal) (u : Expr) → Spells f x → IsUnit a u
    → Spells (frame f.ors f.xors (f.ands ++ negate f.nots u ∷ []) 0) (x ++ (a ++ terminal.And ∷ []))
level_and f x a u s d = record {
  c = s.c;
  w = s.w;
  j = s.j ++ (s.n ++ (a ++ terminal.And ∷ []));
  n = [];
  ors = s.ors;
  xors = s.xors;
  ands = λ b us q. and_at _ _ _ _ (s.ands ((s.n ++ a) ++ terminal.And ∷ b) (negate f.nots u ∷ us) (more_units (s.nots a u d) q)) (simp append_assoc)
      (sym (append_assoc f.ands (negate f.nots u ∷ []) us));
  nots = λ b v q. q;
  spelled = rw s.spelled (simp (append_assoc, append-nil));
}

pub level_xor : (f : Frame) (x a : List Terminal) (u : Expr) → Spells f x → IsUnit a u → Spells (frame f.ors (f.xors ++ and_of f u ∷ []) [] 0) (x ++ (a ++ terminal.Xor ∷ []))
level_xor f x a u s d = record {
  c = s.c;
  w = s.w ++ (s.j ++ (s.n ++ (a ++ terminal.Xor ∷ [])));
  j = [];
  n = [];
  ors = s.ors;
  xors = λ b us q. xor_at _ _ _ _ (s.xors ((s.j ++ (s.n ++ a)) ++ terminal.Xor ∷ b) (and_of f u ∷ us) (more_ands (and_whole f x a u s d) q)) (simp append_assoc)
      (sym (append_assoc f.xors (and_of f u ∷ []) us));
  ands = λ b us q. q;
  nots = λ b v q. q;
  spelled = rw s.spelled (simp (append_assoc, append-nil));
}

pub level_or : (f : Frame) (x a : List Terminal) (u : Expr) → Spells f x → IsUnit a u → Spells (frame (f.ors ++ xor_of f u ∷ []) [] [] 0) (x ++ (a ++ terminal.Or ∷ []))
level_or f x a u s d = record {
  c = s.c ++ (s.w ++ (s.j ++ (s.n ++ (a ++ terminal.Or ∷ []))));
  w = [];
  j = [];
  n = [];
  ors = λ b us q. chain_at _ _ _ _ (s.ors ((s.w ++ (s.j ++ (s.n ++ a))) ++ terminal.Or ∷ b) (xor_of f u ∷ us) (more_xors (xor_whole f x a u s d) q)) (simp append_assoc)
      (sym (append_assoc f.ors (xor_of f u ∷ []) us));
  xors = λ b us q. q;
  ands = λ b us q. q;
  nots = λ b v q. q;
  spelled = rw s.spelled (simp (append_assoc, append-nil));
}
