-- What the walk over an expression tells of it.
use Rattle.std.specs.Prelude.{◌≡◌, ℕ, ℤ, Bool, true, false, ◌⊎◌, List, [], ◌∷◌, ◌++◌, map, Option, None, Some, Result, Ok, Err}
use Rattle.std.specs.List.{list_all}
use Rattle.std.specs.Option.{option_or}
use Rattle.edge_base.specs.declared.expression.Lit.{Lit}
use Rattle.edge_base.specs.declared.expression.Test.{Test}
use Rattle.edge_base.specs.declared.expression.Expr.TheVariants as expr
use Rattle.edge_base.specs.declared.expression.Expr.TheOpen as open_expr
use Rattle.edge_fields.specs.declared.function_id.FunctionId.{FunctionId}
use Rattle.type_check.specs.declared.fault.TypeCause.{TypeCause}
use Rattle.type_check.specs.declared.fault.TypeCause.TheVariants as cause
use Rattle.type_check.specs.declared.judging.Chain.{Chain}
use Rattle.type_check.specs.declared.judging.Chain.TheVariants as chain
use Rattle.type_check.specs.declared.judging.Gathered.{Gathered}
use Rattle.type_check.specs.declared.node.BuiltTest.{BuiltTest}
use Rattle.type_check.specs.declared.node.Node.TheVariants as node
use Rattle.type_check.specs.declared.sort.Sort.{Sort}
use Rattle.type_check.specs.declared.sort.Stand.TheVariants as stand
use Rattle.type_check.specs.Building.{IsRefusedOrNot}
use Rattle.edge_base.specs.declared.expression.Expr.{Expr}
use Rattle.edge_fields.specs.declared.kind.Basic.{Basic}
use Rattle.type_check.specs.declared.fault.Fault.{Fault}
use Rattle.type_check.specs.declared.fault.TypeFault.{TypeFault}
use Rattle.type_check.specs.declared.fault.TypeFault.TheVariants as fault
use Rattle.type_check.specs.declared.judging.Judged.{Judged}
use Rattle.type_check.specs.declared.judging.JudgedAll.{JudgedAll}
use Rattle.type_check.specs.declared.node.Node.{Node}
use Rattle.type_check.specs.declared.sort.Mark.{Mark}
use Rattle.type_check.specs.declared.sort.Stand.{Stand}
use Rattle.type_check.specs.Checking.{Finding, Report, Judge, is_clean, look_all, sorts_of, chain_judge, judge_step, judge_of, IsAnswer, literal_of, call_sort, call_pattern, wildcard_causes, test_pattern}
use Rattle.type_check.specs.Sorts.{suits}
use Rattle.type_check.specs.TestKinds.{head_of, text_causes, test_sort}
use Rattle.type_check.specs.Trees.{tree_of, are_placed, test_of, is_placed}

-- the tree of an expression, or a pattern that was refused
abbrev pub Makes : List (List ℕ × Basic) → List Finding → Expr → Result Node Fault → Type 0
Makes lists found e (Ok node) = IsAnswer found None × (tree_of node ≡ e) × (are_placed lists node ≡ true)
Makes lists found e (Err refused) = IsAnswer found (Some refused)

-- no fault was found in the expression
pub record Told (lists : List (List ℕ × Basic)) (j : Judge) (e : Expr) (place : Stand) (report : Report) (told : Judged) : Type 0 where
  pub clean : is_clean report.found ≡ true
  pub suited : suits place told.sort ≡ true
  pub sort : told.sort ≡ j.sort
  pub mark : told.mark ≡ report.mark
  pub node : Makes lists report.found e told.node

-- the expression has a fault, and this is the answer
pub record IsFaulty (found : List Finding) (answer : Fault) : Type 0 where
  pub faulty : is_clean found ≡ false
  pub is_answer : IsAnswer found (Some answer)

-- what the walk tells of an expression
abbrev pub Tells : List (List ℕ × Basic) → Judge → Expr → Stand → Mark → Result Judged TypeFault → Type 0
Tells lists j e place m (Ok told) = Told lists j e place (j.look place m) told
Tells lists j e place m (Err (fault.Bad node cause)) = IsFaulty (j.look place m).found (record { node = node; cause = cause })
Tells lists j e place m (Err fault.Memory) = Unit {0}

abbrev pub MakesAll : List (List ℕ × Basic) → List Finding → List Expr → Result (List Node) Fault → Type 0
MakesAll lists found es (Ok nodes) = IsAnswer found None × (map tree_of nodes ≡ es) × (list_all (are_placed lists) nodes ≡ true)
MakesAll lists found es (Err refused) = IsAnswer found (Some refused)

-- no fault was found in the expressions
pub record ToldAll (lists : List (List ℕ × Basic)) (js : List Judge) (es : List Expr) (report : Report) (told : JudgedAll) : Type 0 where
  pub clean : is_clean report.found ≡ true
  pub sorts : told.sorts.items ≡ sorts_of js
  pub mark : told.mark ≡ report.mark
  pub nodes : MakesAll lists report.found es told.nodes

-- what the walk tells of expressions in a row
abbrev pub TellsAll : List (List ℕ × Basic) → Bool → List Expr → Stand → Mark → Result JudgedAll TypeFault → Type 0
TellsAll lists replies es place m (Ok told) =
    ToldAll lists (map (judge_of lists replies) es) es (look_all place (map (judge_of lists replies) es) m) told
TellsAll lists replies es place m (Err (fault.Bad node cause)) =
    IsFaulty (look_all place (map (judge_of lists replies) es) m).found (record { node = node; cause = cause })
TellsAll lists replies es place m (Err fault.Memory) = Unit {0}

-- ---- the steps of the walk

-- a node whose parts have no fault is told where its sort suits
abbrev pub IsAround : Option Sort → Result Node Fault → Stand → Mark → Mark → Result Judged TypeFault → Type 0
IsAround s node place m end (Ok told) = (suits place s ≡ true) × (told.sort ≡ s) × (told.node ≡ node) × (told.mark ≡ end)
IsAround s node place m end (Err f) = (suits place s ≡ false) × (f ≡ fault.Bad m.node cause.Mismatch)

-- the refusal of a node's own pattern comes before the answer for its parts
abbrev pub or_parts : Mark → Option TypeCause → TypeFault → TypeFault
or_parts m (Some c) parts = fault.Bad m.node c
or_parts m None parts = parts

abbrev pub IsBeforeParts : Option TypeCause → Option (List ℕ) → Mark → TypeFault → TypeFault → Type 0
IsBeforeParts own pattern m fault.Memory answer = answer ≡ fault.Memory
IsBeforeParts (Some c) pattern m (fault.Bad n d) answer = answer ≡ fault.Bad m.node c
IsBeforeParts None pattern m (fault.Bad n d) answer =
    (answer ≡ fault.Memory) ⊎ ((refused : Option TypeCause) × IsRefusedOrNot pattern refused × (answer ≡ or_parts m refused (fault.Bad n d)))

-- the tree of a node with a pattern of its own, which was built, and so were those of its parts; or the first that was refused
abbrev pub IsOwn : {A : Type 0} → Option (List ℕ) → Result A Fault → Mark → (A → Node → Type 0) → Result Node Fault → Type 0
IsOwn {A} pattern parts m IsNode (Ok node) = IsRefusedOrNot pattern None × ((part : A) × (parts ≡ Ok part) × IsNode part node)
IsOwn pattern parts m IsNode (Err refused) =
    ((c : TypeCause) × IsRefusedOrNot pattern (Some c) × (refused ≡ record { node = m.node; cause = c }))
    ⊎ (IsRefusedOrNot pattern None × (parts ≡ Err refused))

abbrev pub IsTestNode : List (List ℕ × Basic) → Test → Result Node Fault → Mark → Result Node Fault → Type 0
IsTestNode lists t of m made =
    IsOwn (test_pattern t) of m (λ part n. (built : BuiltTest) × (test_of built ≡ t) × (is_placed lists built ≡ true) × (n ≡ node.Test part built)) made

abbrev pub IsCallNode : FunctionId → Option (List ℕ) → Result (List Node) Fault → Mark → Result Node Fault → Type 0
IsCallNode id pattern nodes m made = IsOwn pattern nodes m (λ parts n. n ≡ node.Call id parts) made

-- a tree around another
abbrev pub around_node : (Node → Node) → Result Node Fault → Result Node Fault
around_node wrap (Ok part) = Ok (wrap part)
around_node wrap (Err refused) = Err refused

-- a chain of expressions
abbrev pub chain_expr : Chain → List Expr → Expr
chain_expr chain.And members = expr.And members
chain_expr chain.Xor members = expr.Xor members
chain_expr chain.Or members = expr.Or members

-- the named lists of a node are in place where those of its parts are
abbrev pub IsPlacedAs : Node → List Node → Type 0
IsPlacedAs n nodes = (lists : List (List ℕ × Basic)) → are_placed lists n ≡ list_all (are_placed lists) nodes

abbrev pub IsChainNode : Chain → Result (List Node) Fault → Result Node Fault → Type 0
IsChainNode chain (Ok nodes) (Ok n) = (tree_of n ≡ chain_expr chain (map tree_of nodes)) × IsPlacedAs n nodes
IsChainNode chain (Err refused) (Err other) = other ≡ refused
IsChainNode chain nodes made = ⊥

-- a refused pattern comes before a fault behind it
abbrev pub before_fault : Option Fault → TypeFault → TypeFault
before_fault (Some refused) (fault.Bad n c) = fault.Bad refused.node refused.cause
before_fault refused f = f

abbrev pub refusal_of : Result Node Fault → Option Fault
refusal_of (Ok node) = None
refusal_of (Err refused) = Some refused

abbrev pub nodes_of : Result Node Fault → List Node
nodes_of (Ok node) = node ∷ []
nodes_of (Err refused) = []

-- one more expression was told
pub record Gathers (before : Gathered) (told : Judged) (after : Gathered) : Type 0 where
  pub sorts : after.sorts.items ≡ before.sorts.items ++ told.sort ∷ []
  pub nodes : after.nodes ≡ before.nodes ++ nodes_of told.node
  pub refused : after.refused ≡ option_or before.refused (refusal_of told.node)
  pub stand : after.stand ≡ stand.Part
  pub mark : after.mark ≡ told.mark

-- the nodes, where no pattern was refused
abbrev pub made_of : Option Fault → List Node → Result (List Node) Fault
made_of None nodes = Ok nodes
made_of (Some refused) nodes = Err refused

pub record IsEnd (all : Gathered) (told : JudgedAll) : Type 0 where
  pub sorts : told.sorts.items ≡ all.sorts.items
  pub nodes : told.nodes ≡ made_of all.refused all.nodes
  pub mark : told.mark ≡ all.mark

-- a call whose arguments have no fault
abbrev pub IsCalledOk : FunctionId → List Expr → JudgedAll → Stand → Mark → Result Judged TypeFault → Type 0
IsCalledOk id args all place m (Ok told) =
    (suits place (call_sort id (map literal_of args) all.sorts.items) ≡ true)
    × (head_of (wildcard_causes id (map literal_of args)) ≡ None)
    × (told.sort ≡ call_sort id (map literal_of args) all.sorts.items)
    × (told.mark ≡ all.mark)
    × IsCallNode id (call_pattern id (map literal_of args)) all.nodes m told.node
IsCalledOk id args all place m (Err fault.Memory) = Unit {0}
IsCalledOk id args all place m (Err (fault.Bad n c)) =
    (n ≡ m.node)
    × (((suits place (call_sort id (map literal_of args) all.sorts.items) ≡ false) × (c ≡ cause.Mismatch))
    ⊎ ((suits place (call_sort id (map literal_of args) all.sorts.items) ≡ true) × (head_of (wildcard_causes id (map literal_of args)) ≡ Some c)))

-- what is told of a call, once its arguments were judged
abbrev pub IsCalled : FunctionId → List Expr → Result JudgedAll TypeFault → Stand → Mark → Result Judged TypeFault → Type 0
IsCalled id args (Ok all) place m answer = IsCalledOk id args all place m answer
IsCalled id args (Err parts) place m (Ok told) = ⊥
IsCalled id args (Err parts) place m (Err answer) =
    (answer ≡ fault.Memory)
    ⊎ IsBeforeParts (head_of (wildcard_causes id (map literal_of args))) (call_pattern id (map literal_of args)) m parts answer

-- a test whose operand has no fault
abbrev pub IsTestedOk : List (List ℕ × Basic) → Test → Judged → Stand → Mark → Result Judged TypeFault → Type 0
IsTestedOk lists t of place m (Ok told) =
    (suits place (test_sort lists t of.sort) ≡ true)
    × (head_of (text_causes t) ≡ None)
    × (told.sort ≡ test_sort lists t of.sort)
    × (told.mark ≡ of.mark)
    × IsTestNode lists t of.node m told.node
IsTestedOk lists t of place m (Err fault.Memory) = Unit {0}
IsTestedOk lists t of place m (Err (fault.Bad n c)) =
    (n ≡ m.node)
    × (((suits place (test_sort lists t of.sort) ≡ false) × (c ≡ cause.Mismatch))
    ⊎ ((suits place (test_sort lists t of.sort) ≡ true) × (head_of (text_causes t) ≡ Some c)))

-- what is told of a test, once its operand was judged
abbrev pub IsTested : List (List ℕ × Basic) → Test → Result Judged TypeFault → Stand → Mark → Result Judged TypeFault → Type 0
IsTested lists t (Ok of) place m answer = IsTestedOk lists t of place m answer
IsTested lists t (Err parts) place m (Ok told) = ⊥
IsTested lists t (Err parts) place m (Err answer) =
    (answer ≡ fault.Memory) ⊎ IsBeforeParts (head_of (text_causes t)) (test_pattern t) m parts answer

-- ---- what the walk tells of each node, from what was judged of its parts

abbrev pub TellsLit : Lit → Stand → Mark → Result Judged TypeFault → Type 0
TellsLit l place m answer =
    (lists : List (List ℕ × Basic)) (replies : Bool) → Tells lists (judge_step lists replies (open_expr.Lit l)) (expr.Lit l) place m answer

abbrev pub TellsField : Bool → List ℕ → Stand → Mark → Result Judged TypeFault → Type 0
TellsField replies name place m answer =
    (lists : List (List ℕ × Basic)) → Tells lists (judge_step lists replies (open_expr.Field name)) (expr.Field name) place m answer

abbrev pub TellsAt : List (List ℕ × Basic) → Bool → Expr → ℤ → Stand → Mark → Result Judged TypeFault → Type 0
TellsAt lists replies of at place m answer =
    Tells lists (judge_step lists replies (open_expr.At (judge_of lists replies of) at)) (expr.At of at) place m answer

abbrev pub TellsKey : List (List ℕ × Basic) → Bool → Expr → List ℕ → Stand → Mark → Result Judged TypeFault → Type 0
TellsKey lists replies of key place m answer =
    Tells lists (judge_step lists replies (open_expr.Key (judge_of lists replies of) key)) (expr.Key of key) place m answer

abbrev pub TellsEach : List (List ℕ × Basic) → Bool → Expr → Stand → Mark → Result Judged TypeFault → Type 0
TellsEach lists replies of place m answer =
    Tells lists (judge_step lists replies (open_expr.Each (judge_of lists replies of))) (expr.Each of) place m answer

abbrev pub TellsNot : List (List ℕ × Basic) → Bool → Expr → Stand → Mark → Result Judged TypeFault → Type 0
TellsNot lists replies of place m answer =
    Tells lists (judge_step lists replies (open_expr.Not (judge_of lists replies of))) (expr.Not of) place m answer

abbrev pub TellsTest : List (List ℕ × Basic) → Bool → Expr → Test → Stand → Mark → Result Judged TypeFault → Type 0
TellsTest lists replies of t place m answer =
    Tells lists (judge_step lists replies (open_expr.Test (judge_of lists replies of) t)) (expr.Test of t) place m answer

abbrev pub TellsCall : List (List ℕ × Basic) → Bool → List ℕ → List Expr → Stand → Mark → Result Judged TypeFault → Type 0
TellsCall lists replies name args place m answer =
    Tells lists (judge_step lists replies (open_expr.Call name (map (judge_of lists replies) args))) (expr.Call name args) place m answer

abbrev pub TellsChain : List (List ℕ × Basic) → Bool → Chain → List Expr → Stand → Mark → Result Judged TypeFault → Type 0
TellsChain lists replies chain members place m answer =
    Tells lists (chain_judge (map (judge_of lists replies) members)) (chain_expr chain members) place m answer
