-- Where the machine refuses a terminal, no expression goes on so; and up to there one does.
use Rattle.std.proofs.Common.{◌≡◌, ℕ, suc, ◌+◌, ◌<◌, ◌≤◌, Bool, true, List, [], ◌∷◌, ◌++◌, length, take, refl, ap, ◌∙◌, arith, add-one}
use Rattle.std.specs.declared.option.Option.{Option}
use Rattle.std.specs.declared.option.Option.TheVariants.{None, Some}
use Rattle.std.specs.Option.{option_and_then}
use Rattle.edge_base.specs.declared.expression.Lit.{Lit}
use Rattle.edge_base.specs.declared.expression.Lit.TheVariants as lit
use Rattle.edge_base.specs.declared.expression.Item.TheVariants as item
use Rattle.edge_base.specs.declared.expression.Test.TheVariants as test
use Rattle.edge_base.specs.declared.expression.Expr.{Expr}
use Rattle.edge_base.specs.declared.expression.Expr.TheVariants as expr
use Rattle.edge_base.specs.declared.terminal.Terminal.{Terminal}
use Rattle.edge_base.specs.declared.terminal.Terminal.TheVariants as terminal
use Rattle.edge_base.specs.Grammar.{Begins, Derives, IsFault, UnderivedHaveFaults}
use Rattle.expr_parser.specs.declared.testing.Testing.{Testing}
use Rattle.expr_parser.specs.declared.testing.Testing.TheVariants as testing
use Rattle.expr_parser.specs.declared.state.Frame.{Frame}
use Rattle.expr_parser.specs.declared.state.Opened.{Opened}
use Rattle.expr_parser.specs.declared.state.Opened.TheVariants as opened
use Rattle.expr_parser.specs.declared.state.Level.{Level}
use Rattle.expr_parser.specs.declared.state.Mode.{Mode}
use Rattle.expr_parser.specs.declared.state.Mode.TheVariants as mode
use Rattle.expr_parser.specs.declared.state.State.{State}
use Rattle.expr_parser.specs.Testing.{text_test}
use Rattle.expr_parser.specs.Machine.{state, start, chain_of, closed, step, outcome, counted, taken}
use Rattle.expr_parser.proofs.ReadExpressions.{derived_is_read}
use Rattle.expr_parser.proofs.Steps.{read_is_derived}

-- a `)` for each level around
abbrev closing : List Level → List Terminal
closing [] = []
closing (l ∷ below) = terminal.Close ∷ closing below

-- terminals that end a test under way, and the part that came last
abbrev test_wants : Testing → List Terminal
test_wants (testing.Order o) = terminal.Text [] ∷ []
test_wants (testing.Text k) = terminal.Text [] ∷ []
test_wants testing.Strict = terminal.Wildcard ∷ terminal.Text [] ∷ []
test_wants testing.In = terminal.ListName [] ∷ []
test_wants testing.FirstItem = terminal.Text [] ∷ terminal.CloseItems ∷ []
test_wants (testing.Items items) = terminal.CloseItems ∷ []
test_wants (testing.Number items n) = terminal.CloseItems ∷ []
test_wants (testing.Address items a) = terminal.CloseItems ∷ []
test_wants (testing.NumberTo items n) = terminal.Number n ∷ terminal.CloseItems ∷ []
test_wants (testing.AddressTo items a) = terminal.Address a ∷ terminal.CloseItems ∷ []

abbrev wants : Mode → List Terminal
wants mode.Begin = terminal.True ∷ []
wants mode.Want = terminal.True ∷ []
wants (mode.Literal l) = []
wants (mode.Named n) = []
wants (mode.Path e) = []
wants (mode.Truth b) = []
wants (mode.Index e) = terminal.Star ∷ terminal.CloseIndex ∷ []
wants (mode.IndexEnd e) = terminal.CloseIndex ∷ []
wants (mode.Testing e k) = test_wants k
wants (mode.Done e) = []

-- what is whole is completed by closing the levels around
record Closes (below : List Level) : Type 0 where
  done : (e : Expr) (f : Frame) → (r : Expr) × (outcome (closing below) (state (mode.Done e) f below) ≡ Some r)
  path : (e : Expr) (f : Frame) → (r : Expr) × (outcome (closing below) (state (mode.Path e) f below) ≡ Some r)
  truth : (b : Bool) (f : Frame) → (r : Expr) × (outcome (closing below) (state (mode.Truth b) f below) ≡ Some r)
  name : (n : List ℕ) (f : Frame) → (r : Expr) × (outcome (closing below) (state (mode.Named n) f below) ≡ Some r)
  literal : (l : Lit) (f : Frame) → (r : Expr) × (outcome (closing below) (state (mode.Literal l) f below) ≡ Some r)

close_on : (o : Opened) (e : Expr) (f : Frame) (below : List Level) → Closes below → (r : Expr) × (outcome (closing below) (closed e o f below) ≡ Some r)
close_on opened.Group e f below c = c.done e f
close_on (opened.Call n es) e f below c = c.path (expr.Call n (es ++ e ∷ [])) f

closes : (below : List Level) → Closes below
closes [] = record {
  done = λ e f. (chain_of f e, refl);
  path = λ e f. (chain_of f e, refl);
  truth = λ b f. (chain_of f (expr.Lit (lit.Bool b)), refl);
  name = λ n f. (chain_of f (expr.Field n), refl);
  literal = λ l f. (expr.Lit l, refl);
}
closes (l ∷ below) = record {
  done = λ e f. close_on l.opened (chain_of f e) l.outer below (closes below);
  path = λ e f. close_on l.opened (chain_of f e) l.outer below (closes below);
  truth = λ b f. close_on l.opened (chain_of f (expr.Lit (lit.Bool b))) l.outer below (closes below);
  name = λ n f. close_on l.opened (chain_of f (expr.Field n)) l.outer below (closes below);
  literal = λ v f. close_on l.opened (expr.Lit v) l.outer below (closes below);
}

test_completes : (e : Expr) (k : Testing) (f : Frame) (below : List Level) → (r : Expr) × (outcome (test_wants k ++ closing below) (state (mode.Testing e k) f below) ≡ Some r)
test_completes e (testing.Order o) f below = (closes below).done (expr.Test e (test.Order o (lit.Text []))) f
test_completes e (testing.Text k) f below = (closes below).done (expr.Test e (text_test k [])) f
test_completes e testing.Strict f below = (closes below).done (expr.Test e (test.StrictWild [])) f
test_completes e testing.In f below = (closes below).done (expr.Test e (test.Listed [])) f
test_completes e testing.FirstItem f below = (closes below).done (expr.Test e (test.Among (item.One (lit.Text []) ∷ []))) f
test_completes e (testing.Items items) f below = (closes below).done (expr.Test e (test.Among items)) f
test_completes e (testing.Number items n) f below = (closes below).done (expr.Test e (test.Among (items ++ item.One (lit.Num n) ∷ []))) f
test_completes e (testing.Address items a) f below = (closes below).done (expr.Test e (test.Among (items ++ item.One (lit.Addr a) ∷ []))) f
test_completes e (testing.NumberTo items n) f below = (closes below).done (expr.Test e (test.Among (items ++ item.Nums n n ∷ []))) f
test_completes e (testing.AddressTo items a) f below = (closes below).done (expr.Test e (test.Among (items ++ item.Addrs a a ∷ []))) f

-- each state can be completed
completes : (m : Mode) (f : Frame) (below : List Level) → (r : Expr) × (outcome (wants m ++ closing below) (state m f below) ≡ Some r)
completes mode.Begin f below = (closes below).truth true f
completes mode.Want f below = (closes below).truth true f
completes (mode.Literal l) f below = (closes below).literal l f
completes (mode.Named n) f below = (closes below).name n f
completes (mode.Path e) f below = (closes below).path e f
completes (mode.Truth b) f below = (closes below).truth b f
completes (mode.Index e) f below = (closes below).path (expr.Each e) f
completes (mode.IndexEnd e) f below = (closes below).path e f
completes (mode.Testing e k) f below = test_completes e k f below
completes (mode.Done e) f below = (closes below).done e f

-- no more terminals are taken than there are
within_on : (o : Option State) (ts : List Terminal) → ((s : State) → taken ts s ≤ length ts) → counted (λ next. taken ts next) o ≤ suc (length ts)
within_on None ts h = omega arith
within_on (Some s) ts h = let p : taken ts s ≤ length ts = h s in omega arith

taken_within : (ts : List Terminal) (s : State) → taken ts s ≤ length ts
taken_within [] s = omega arith
taken_within (t ∷ ts) s = within_on (step s t) ts (λ next. taken_within ts next)

-- an expression begins with the terminals that are taken
begins_on : (o : Option State) (t : Terminal) (ts : List Terminal) (s : State) → step s t ≡ o
    → ((next : State) → (more : List Terminal) × (e : Expr) × (outcome (take (taken ts next) ts ++ more) next ≡ Some e))
    → (more : List Terminal) × (e : Expr) × (outcome (take (counted (λ next. taken ts next) o) (t ∷ ts) ++ more) s ≡ Some e)
begins_on None t ts s q h = let r = completes s.mode s.top s.below in (wants s.mode ++ closing s.below, r.0, r.1)
begins_on (Some next) t ts s q h = let r = h next in
    (r.0, r.1, ap (λ o. option_and_then (λ n. outcome (take (taken ts next) ts ++ r.0) n) o) q ∙ r.2)

taken_begins : (ts : List Terminal) (s : State) → (more : List Terminal) × (e : Expr) × (outcome (take (taken ts s) ts ++ more) s ≡ Some e)
taken_begins [] s = let r = completes s.mode s.top s.below in (wants s.mode ++ closing s.below, r.0, r.1)
taken_begins (t ∷ ts) s = begins_on (step s t) t ts s refl (λ next. taken_begins ts next)

-- none begins with one terminal more
refused_on : (o : Option State) (t : Terminal) (ts : List Terminal) (s : State) → step s t ≡ o
    → ((next : State) → taken ts next < length ts → (more : List Terminal) → outcome (take (suc (taken ts next)) ts ++ more) next ≡ None)
    → counted (λ next. taken ts next) o < suc (length ts) → (more : List Terminal) → outcome (take (suc (counted (λ next. taken ts next) o)) (t ∷ ts) ++ more) s ≡ None
refused_on None t ts s q h below more = ap (λ o. option_and_then (λ n. outcome more n) o) q
refused_on (Some next) t ts s q h below more =
    ap (λ o. option_and_then (λ n. outcome (take (suc (taken ts next)) ts ++ more) n) o) q ∙ h next (omega arith) more

taken_refused : (ts : List Terminal) (s : State) → taken ts s < length ts → (more : List Terminal) → outcome (take (suc (taken ts s)) ts ++ more) s ≡ None
taken_refused [] s h more = absurd (omega arith)
taken_refused (t ∷ ts) s h more = refused_on (step s t) t ts s refl (λ next. taken_refused ts next) h more

stops_at : (ts : List Terminal) (k : ℕ) → ((more : List Terminal) → outcome (take (suc k) ts ++ more) start ≡ None) → ¬ (Begins (take (k + 1) ts))
stops_at ts k h b = let p = derived_is_read b.2 in let q : outcome (take (k + 1) ts ++ b.0) start ≡ None = rw add-one (h b.0) in absurd cc

-- what isn't read has its fault at the terminal that is refused
pub refused_is_fault : (ts : List Terminal) → outcome ts start ≡ None → IsFault ts (taken ts start)
refused_is_fault ts q = record {
  within = taken_within ts start;
  begins = (let r = taken_begins ts start in (r.0, r.1, read_is_derived (take (taken ts start) ts ++ r.0) r.1 r.2));
  stops = λ h. stops_at ts (taken ts start) (taken_refused ts start h);
  none = λ e d. (let p = derived_is_read d in absurd cc);
}

fault_from : (ts : List Terminal) → ((e : Expr) → ¬ (Derives ts e)) → (o : Option Expr) → outcome ts start ≡ o → (place : ℕ) × IsFault ts place
fault_from ts none None q = (taken ts start, refused_is_fault ts q)
fault_from ts none (Some e) q = absurd (none e (read_is_derived ts e q))

-- what derives no tree isn't read
pub underived_is_fault : UnderivedHaveFaults
underived_is_fault ts none = fault_from ts none (outcome ts start) refl
