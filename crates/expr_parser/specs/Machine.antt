-- Working vocabulary, which no public clause cites.
-- The machine that reads an expression, one terminal after the other: a state is what came last, the innermost level
-- and the levels around it, with the trees of what is whole.
use Rattle.std.specs.Prelude.{ℕ, zero, suc, pos, true, false, List, [], ◌∷◌, ◌++◌}
use Rattle.std.specs.declared.option.Option.{Option}
use Rattle.std.specs.declared.option.Option.TheVariants.{None, Some}
use Rattle.std.specs.Option.{option_map, option_and_then}
use Rattle.edge_base.specs.declared.expression.Lit.TheVariants as lit
use Rattle.edge_base.specs.declared.expression.Expr.{Expr}
use Rattle.edge_base.specs.declared.expression.Expr.TheVariants as expr
use Rattle.edge_base.specs.declared.terminal.Terminal.{Terminal}
use Rattle.edge_base.specs.declared.terminal.Terminal.TheVariants as terminal
use Rattle.edge_base.specs.Grammar.{together}
use Rattle.expr_parser.specs.declared.testing.TextTest.TheVariants as text
use Rattle.expr_parser.specs.declared.testing.Testing.{Testing}
use Rattle.expr_parser.specs.declared.testing.Testing.TheVariants as testing
use Rattle.expr_parser.specs.declared.testing.Tested.{Tested}
use Rattle.expr_parser.specs.declared.testing.Tested.TheVariants as tested
use Rattle.expr_parser.specs.declared.state.Frame.{Frame}
use Rattle.expr_parser.specs.declared.state.Opened.{Opened}
use Rattle.expr_parser.specs.declared.state.Opened.TheVariants as opened
use Rattle.expr_parser.specs.declared.state.Level.{Level}
use Rattle.expr_parser.specs.declared.state.Mode.{Mode}
use Rattle.expr_parser.specs.declared.state.Mode.TheVariants as mode
use Rattle.expr_parser.specs.declared.state.State.{State}
use Rattle.expr_parser.specs.declared.chains.Operator.{Operator}
use Rattle.expr_parser.specs.declared.chains.Operator.TheVariants as operator
use Rattle.expr_parser.specs.Testing.{test_step}

abbrev pub frame : List Expr → List Expr → List Expr → ℕ → Frame
frame ors xors ands nots = record { ors = ors; xors = xors; ands = ands; nots = nots }

-- a level of which nothing was read
abbrev pub fresh : Frame
fresh = frame [] [] [] 0

abbrev pub level : Opened → Frame → Level
level o outer = record { opened = o; outer = outer }

abbrev pub state : Mode → Frame → List Level → State
state m top below = record { mode = m; top = top; below = below }

-- before the first terminal
abbrev pub start : State
start = state mode.Begin fresh []

-- an expression under this many `not`s
abbrev pub negate : ℕ → Expr → Expr
negate zero e = e
negate (suc n) e = negate n (expr.Not e)

-- the node of a chain of several
abbrev pub node_of : Operator → List Expr → Expr
node_of operator.And es = expr.And es
node_of operator.Xor es = expr.Xor es
node_of operator.Or es = expr.Or es

-- the innermost and, xor and chain of a level, which end with this unit
abbrev pub and_of : Frame → Expr → Expr
and_of f e = together expr.And (f.ands ++ negate f.nots e ∷ [])

abbrev pub xor_of : Frame → Expr → Expr
xor_of f e = together expr.Xor (f.xors ++ and_of f e ∷ [])

abbrev pub chain_of : Frame → Expr → Expr
chain_of f e = together expr.Or (f.ors ++ xor_of f e ∷ [])

-- a unit begins
abbrev pub at_want : Terminal → Frame → List Level → Option State
at_want (terminal.Name n) f below = Some (state (mode.Named n) f below)
at_want terminal.True f below = Some (state (mode.Truth true) f below)
at_want terminal.False f below = Some (state (mode.Truth false) f below)
at_want terminal.Not f below = Some (state mode.Want (frame f.ors f.xors f.ands (suc f.nots)) below)
at_want terminal.Open f below = Some (state mode.Want fresh (level opened.Group f ∷ below))
at_want t f below = None

-- an expression begins
abbrev pub at_begin : Terminal → Frame → List Level → Option State
at_begin (terminal.Text t) f below = Some (state (mode.Literal (lit.Text t)) f below)
at_begin (terminal.Number n) f below = Some (state (mode.Literal (lit.Num n)) f below)
at_begin (terminal.Address a) f below = Some (state (mode.Literal (lit.Addr a)) f below)
at_begin t f below = at_want t f below

-- `)` behind an expression
abbrev pub closed : Expr → Opened → Frame → List Level → State
closed e opened.Group outer below = state (mode.Done e) outer below
closed e (opened.Call n es) outer below = state (mode.Path (expr.Call n (es ++ e ∷ []))) outer below

-- `,` behind an expression
abbrev pub further : Expr → Opened → Frame → List Level → Option State
further e opened.Group outer below = None
further e (opened.Call n es) outer below = Some (state mode.Begin fresh (level (opened.Call n (es ++ e ∷ [])) outer ∷ below))

-- an expression is whole
abbrev pub at_whole : Terminal → Expr → List Level → Option State
at_whole terminal.Close e (l ∷ below) = Some (closed e l.opened l.outer below)
at_whole terminal.Comma e (l ∷ below) = further e l.opened l.outer below
at_whole t e below = None

-- a unit is whole
abbrev pub at_end : Terminal → Expr → Frame → List Level → Option State
at_end terminal.And e f below = Some (state mode.Want (frame f.ors f.xors (f.ands ++ negate f.nots e ∷ []) 0) below)
at_end terminal.Xor e f below = Some (state mode.Want (frame f.ors (f.xors ++ and_of f e ∷ []) [] 0) below)
at_end terminal.Or e f below = Some (state mode.Want (frame (f.ors ++ xor_of f e ∷ []) [] [] 0) below)
at_end t e f below = at_whole t (chain_of f e) below

-- an operand is whole
abbrev pub at_operand : Terminal → Expr → Frame → List Level → Option State
at_operand (terminal.Order o) e f below = Some (state (mode.Testing e (testing.Order o)) f below)
at_operand terminal.Contains e f below = Some (state (mode.Testing e (testing.Text text.Contains)) f below)
at_operand terminal.Matches e f below = Some (state (mode.Testing e (testing.Text text.Matches)) f below)
at_operand terminal.Wildcard e f below = Some (state (mode.Testing e (testing.Text text.Wild)) f below)
at_operand terminal.Strict e f below = Some (state (mode.Testing e testing.Strict) f below)
at_operand terminal.In e f below = Some (state (mode.Testing e testing.In) f below)
at_operand t e f below = at_end t e f below

-- a path is whole, or goes on by an index
abbrev pub at_path : Terminal → Expr → Frame → List Level → Option State
at_path terminal.OpenIndex e f below = Some (state (mode.Index e) f below)
at_path t e f below = at_operand t e f below

-- a name is that of a call, or a path
abbrev pub at_named : Terminal → List ℕ → Frame → List Level → Option State
at_named terminal.Open n f below = Some (state mode.Begin fresh (level (opened.Call n []) f ∷ below))
at_named t n f below = at_path t (expr.Field n) f below

-- the index of a path: a number that isn't negative, a text, or `*`
abbrev pub at_index : Terminal → Expr → Frame → List Level → Option State
at_index (terminal.Number (pos n)) e f below = Some (state (mode.IndexEnd (expr.At e (pos n))) f below)
at_index (terminal.Text k) e f below = Some (state (mode.IndexEnd (expr.Key e k)) f below)
at_index terminal.Star e f below = Some (state (mode.IndexEnd (expr.Each e)) f below)
at_index t e f below = None

abbrev pub at_index_end : Terminal → Expr → Frame → List Level → Option State
at_index_end terminal.CloseIndex e f below = Some (state (mode.Path e) f below)
at_index_end t e f below = None

-- an operand with a part of a test, or with a whole one
abbrev pub mode_of : Expr → Tested → Mode
mode_of e (tested.Part x) = mode.Testing e x
mode_of e (tested.Whole t) = mode.Done (expr.Test e t)

abbrev pub at_testing : Terminal → Expr → Testing → Frame → List Level → Option State
at_testing t e x f below = option_map (λ p. state (mode_of e p) f below) (test_step x t)

-- the next state, or none where the terminal may not stand there
abbrev pub at_mode : Mode → Frame → List Level → Terminal → Option State
at_mode mode.Begin f below t = at_begin t f below
at_mode mode.Want f below t = at_want t f below
at_mode (mode.Literal l) f below t = at_whole t (expr.Lit l) below
at_mode (mode.Named n) f below t = at_named t n f below
at_mode (mode.Path e) f below t = at_path t e f below
at_mode (mode.Truth b) f below t = at_operand t (expr.Lit (lit.Bool b)) f below
at_mode (mode.Index e) f below t = at_index t e f below
at_mode (mode.IndexEnd e) f below t = at_index_end t e f below
at_mode (mode.Testing e x) f below t = at_testing t e x f below
at_mode (mode.Done e) f below t = at_end t e f below

abbrev pub step : State → Terminal → Option State
step s t = at_mode s.mode s.top s.below t

-- the tree, where the terminals end here
abbrev pub ended : Mode → Frame → List Level → Option Expr
ended (mode.Literal l) f [] = Some (expr.Lit l)
ended (mode.Named n) f [] = Some (chain_of f (expr.Field n))
ended (mode.Path e) f [] = Some (chain_of f e)
ended (mode.Truth b) f [] = Some (chain_of f (expr.Lit (lit.Bool b)))
ended (mode.Done e) f [] = Some (chain_of f e)
ended m f below = None

abbrev pub ending : State → Option Expr
ending s = ended s.mode s.top s.below

-- the tree of the terminals that follow, or none
abbrev pub outcome : List Terminal → State → Option Expr
outcome [] s = ending s
outcome (t ∷ ts) s = option_and_then (λ next. outcome ts next) (step s t)

abbrev pub counted : (State → ℕ) → Option State → ℕ
counted f None = 0
counted f (Some s) = suc (f s)

-- how many terminals are taken before one is refused
abbrev pub taken : List Terminal → State → ℕ
taken [] s = 0
taken (t ∷ ts) s = counted (λ next. taken ts next) (step s t)

-- a tree that stands for any other: what may follow doesn't depend on the trees read
abbrev pub stub : Expr
stub = expr.Lit (lit.Bool false)

abbrev pub bare_mode : Mode → Mode
bare_mode (mode.Path e) = mode.Path stub
bare_mode (mode.Index e) = mode.Index stub
bare_mode (mode.IndexEnd e) = mode.IndexEnd stub
bare_mode (mode.Testing e x) = mode.Testing stub x
bare_mode (mode.Done e) = mode.Done stub
bare_mode m = m

-- the state without the trees of its innermost level
abbrev pub bared : State → State
bared s = state (bare_mode s.mode) fresh s.below
