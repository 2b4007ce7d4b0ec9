-- What is found in an expression, node after node: its faults and the patterns that must be built. Nodes are numbered
-- from 0, each before its parts, from the left.
use Rattle.std.specs.Prelude.{◌≡◌, ℕ, ◌+◌, Bool, true, false, not, ◌&&◌, ◌||◌, ◌⊎◌, if◌then◌else◌, List, [], ◌∷◌, ◌++◌, map, Option, None, Some, is_some, slice_get}
use Rattle.std.specs.List.{list_all}
use Rattle.std.specs.Option.{option_map, option_and_then}
use Rattle.edge_base.specs.declared.expression.Lit.{Lit}
use Rattle.edge_base.specs.declared.expression.Lit.TheVariants as lit
use Rattle.edge_base.specs.declared.expression.Test.{Test}
use Rattle.edge_base.specs.declared.expression.Test.TheVariants as test
use Rattle.edge_base.specs.declared.expression.Expr.{Expr}
use Rattle.edge_base.specs.declared.expression.Expr.TheOpen as open_expr
use Rattle.edge_base.specs.declared.expression.Expr.TheFolds.{fold-Expr}
use Rattle.edge_fields.specs.declared.kind.Basic.{Basic}
use Rattle.edge_fields.specs.declared.kind.Basic.TheVariants as basic
use Rattle.edge_fields.specs.declared.field_id.FieldId.{FieldId}
use Rattle.edge_fields.specs.declared.function_id.FunctionId.{FunctionId}
use Rattle.edge_fields.specs.declared.function_id.FunctionId.TheVariants as function
use Rattle.edge_fields.specs.Names.{field_kind, is_response}
use Rattle.text_match.specs.Patterns.{IsPattern}
use Rattle.text_match.specs.Wildcards.{fault_of}
use Rattle.type_check.specs.declared.fault.Fault.{Fault}
use Rattle.type_check.specs.declared.fault.TypeCause.{TypeCause}
use Rattle.type_check.specs.declared.fault.TypeCause.TheVariants as cause
use Rattle.type_check.specs.declared.sort.Mark.{Mark}
use Rattle.type_check.specs.declared.sort.Sort.{Sort}
use Rattle.type_check.specs.declared.sort.Sort.TheVariants as sort
use Rattle.type_check.specs.declared.sort.Stand.{Stand}
use Rattle.type_check.specs.declared.sort.Stand.TheVariants as stand
use Rattle.type_check.specs.NamesFound.{field_of_name, function_of_name}
use Rattle.type_check.specs.Parameters.{args_fit}
use Rattle.type_check.specs.Sorts.{basic_of, one, suits, element_sort, array_sort, unpacked_sort, truth_sort, test_stand, first_stand, result_sort, inner}
use Rattle.type_check.specs.TestKinds.{test_sort, list_causes, where_so, text_causes}
use Rattle.type_check.specs.Tests.{is_some_and}

-- what is found at a node: a fault, or a pattern that must be built
pub data Finding : Type 0 where
  fault : ℕ → TypeCause → Finding
  pattern : ℕ → List ℕ → Finding

-- what is found in an expression, and how far the walk has come behind it
pub record Report : Type 0 where
  pub found : List Finding
  pub mark : Mark

-- an expression as it is judged: the literal that it is, if it is one; its sort, if it has one; and what is found in
-- it, by where it stands and how far the walk has come
pub record Judge : Type 0 where
  pub literal : Option Lit
  pub sort : Option Sort
  pub look : Stand → Mark → Report

abbrev pub is_pattern : Finding → Bool
is_pattern (fault node c) = false
is_pattern (pattern node text) = true

-- the literal that an expression is, if it is one
abbrev pub literal_step : open_expr.Expr-F (Option Lit) → Option Lit
literal_step (open_expr.Lit l) = Some l
literal_step other = None

abbrev pub literal_of : Expr → Option Lit
literal_of = fold-Expr (Option Lit) literal_step

-- no faults were found
abbrev pub is_clean : List Finding → Bool
is_clean found = list_all is_pattern found

-- a node and its parts: the node's causes in order, then its own pattern, then what was found in its parts
abbrev pub reported : Mark → List TypeCause → Option (List ℕ) → Report → Report
reported m causes None below = record { found = map (fault m.node) causes ++ below.found; mark = below.mark }
reported m causes (Some text) below = record { found = map (fault m.node) causes ++ pattern m.node text ∷ below.found; mark = below.mark }

-- kinds that don't fit are a fault where no part has one
abbrev pub mismatch : Stand → List Finding → Option Sort → List TypeCause
mismatch place below s = where_so (is_clean below && not (suits place s)) cause.Mismatch

-- no parts
abbrev pub nothing : Mark → Report
nothing m = record { found = []; mark = m }

-- the parts from the left; the first may stand otherwise than the others
abbrev pub look_all : Stand → List Judge → Mark → Report
look_all place [] m = nothing m
look_all place (part ∷ parts) m =
    let first = part.look place m in
    let rest = look_all stand.Part parts first.mark in
    record { found = first.found ++ rest.found; mark = rest.mark }

abbrev pub look_lit : Option Sort → Stand → Mark → Report
look_lit s place m = reported m (mismatch place [] s) None (nothing (inner m))

-- a response field where there is no reply
abbrev pub response_causes : Bool → FieldId → List TypeCause
response_causes replies id = where_so (is_response id && not replies) cause.ResponseField

abbrev pub look_field : Bool → Option FieldId → Stand → Mark → Report
look_field replies None place m = reported m (cause.UnknownField ∷ []) None (nothing (inner m))
look_field replies (Some id) place m =
    reported m (response_causes replies id ++ mismatch place [] (Some (sort.Plain (field_kind id)))) None (nothing (inner m))

-- `[n]`, `["k"]`, `[*]` and `not` have one part
abbrev pub look_part : List TypeCause → Option Sort → Judge → Stand → Mark → Report
look_part causes s of place m =
    let below = of.look stand.Part (inner m) in
    reported m (causes ++ mismatch place below.found s) None below

-- an unpacked operand where none may stand
abbrev pub unpacked_causes : Stand → List TypeCause
unpacked_causes stand.Unpacked = []
unpacked_causes other = cause.Misplaced ∷ []

-- the pattern of a test
abbrev pub test_pattern : Test → Option (List ℕ)
test_pattern (test.Matches text) = Some text
test_pattern other = None

abbrev pub look_test : List (List ℕ × Basic) → Test → Option Sort → Judge → Stand → Mark → Report
look_test lists t s of place m =
    let below = of.look (test_stand place) (inner m) in
    reported m (list_causes lists t ++ mismatch place below.found s ++ text_causes t) (test_pattern t) below

abbrev pub is_regex_replace : FunctionId → Bool
is_regex_replace function.RegexReplace = true
is_regex_replace other = false

abbrev pub is_wildcard_replace : FunctionId → Bool
is_wildcard_replace function.WildcardReplace = true
is_wildcard_replace other = false

abbrev pub text_of_lit : Lit → Option (List ℕ)
text_of_lit (lit.Text text) = Some text
text_of_lit other = None

-- the text that stands as the second argument, where that is a literal
abbrev pub second_text : List (Option Lit) → Option (List ℕ)
second_text literals = option_and_then (λ literal. option_and_then text_of_lit literal) (slice_get literals 1)

-- a function's wildcard that can't be read
abbrev pub wildcard_causes : FunctionId → List (Option Lit) → List TypeCause
wildcard_causes id literals = where_so (is_wildcard_replace id && is_some_and (λ text. is_some (fault_of text)) (second_text literals)) cause.BadWildcard

-- a function's pattern
abbrev pub call_pattern : FunctionId → List (Option Lit) → Option (List ℕ)
call_pattern id literals = if is_regex_replace id then second_text literals else None

abbrev pub literals_of : List Judge → List (Option Lit)
literals_of args = map (λ (arg : Judge). arg.literal) args

abbrev pub sorts_of : List Judge → List (Option Sort)
sorts_of args = map (λ (arg : Judge). arg.sort) args

abbrev pub first_of : {A : Type 0} → List (Option A) → Option A
first_of [] = None
first_of (a ∷ rest) = a

-- what a call gives, where the function takes its arguments
abbrev pub call_sort : FunctionId → List (Option Lit) → List (Option Sort) → Option Sort
call_sort id literals sorts = if args_fit id literals sorts then result_sort id (first_of sorts) else None

-- behind a node that is a call
abbrev pub inner_call : FunctionId → Mark → Mark
inner_call id m = record { node = m.node + 1; replaced = m.replaced || is_regex_replace id }

abbrev pub look_call : Option FunctionId → List Judge → Stand → Mark → Report
look_call None args place m = reported m (cause.UnknownFunction ∷ []) None (look_all stand.Part args (inner m))
look_call (Some id) args place m =
    let below = look_all (first_stand id) args (inner_call id m) in
    let s = call_sort id (literals_of args) (sorts_of args) in
    reported m (where_so (is_regex_replace id && m.replaced) cause.Misplaced ++ mismatch place below.found s ++ wildcard_causes id (literals_of args)) (call_pattern id (literals_of args)) below

-- a chain gives a truth value where each member does
abbrev pub chain_sort : List (Option Sort) → Option Sort
chain_sort sorts = if list_all (λ s. is_some (truth_sort s)) sorts then one basic.Bool else None

abbrev pub look_chain : List Judge → Stand → Mark → Report
look_chain members place m =
    let below = look_all stand.Part members (inner m) in
    reported m (mismatch place below.found (chain_sort (sorts_of members))) None below

abbrev pub judge : Option Sort → (Stand → Mark → Report) → Judge
judge s look = record { literal = None; sort = s; look = look }

abbrev pub chain_judge : List Judge → Judge
chain_judge members = judge (chain_sort (sorts_of members)) (look_chain members)

-- one node, with each part as it is judged in its place
abbrev pub judge_step : List (List ℕ × Basic) → Bool → open_expr.Expr-F Judge → Judge
judge_step lists replies (open_expr.Lit l) = record { literal = Some l; sort = one (basic_of l); look = look_lit (one (basic_of l)) }
judge_step lists replies (open_expr.Field name) =
    judge (option_map (λ id. sort.Plain (field_kind id)) (field_of_name name)) (look_field replies (field_of_name name))
judge_step lists replies (open_expr.Call name args) =
    judge (option_and_then (λ id. call_sort id (literals_of args) (sorts_of args)) (function_of_name name)) (look_call (function_of_name name) args)
judge_step lists replies (open_expr.At of place) = judge (element_sort of.sort) (look_part [] (element_sort of.sort) of)
judge_step lists replies (open_expr.Key of key) = judge (array_sort of.sort) (look_part [] (array_sort of.sort) of)
judge_step lists replies (open_expr.Each of) = judge (unpacked_sort of.sort) (λ place m. look_part (unpacked_causes place) (unpacked_sort of.sort) of place m)
judge_step lists replies (open_expr.Test of t) = judge (test_sort lists t of.sort) (look_test lists t (test_sort lists t of.sort) of)
judge_step lists replies (open_expr.Not of) = judge (truth_sort of.sort) (look_part [] (truth_sort of.sort) of)
judge_step lists replies (open_expr.And members) = chain_judge members
judge_step lists replies (open_expr.Xor members) = chain_judge members
judge_step lists replies (open_expr.Or members) = chain_judge members

-- an expression as it is judged with these lists, where fields of a reply may stand or not
abbrev pub judge_of : List (List ℕ × Basic) → Bool → Expr → Judge
judge_of lists replies = fold-Expr Judge (judge_step lists replies)

-- `regex` reads no such pattern; or it is one, but too big for it
abbrev pub IsRefusal : List ℕ → TypeCause → Type 0
IsRefusal text cause.PatternSyntax = ¬ (IsPattern text)
IsRefusal text cause.PatternSize = IsPattern text
IsRefusal text other = ⊥

-- the answer for what was found: the first fault, or an earlier pattern that was refused; none where there is no fault
-- and each pattern was built
abbrev pub IsAnswer : List Finding → Option Fault → Type 0
IsAnswer [] answer = answer ≡ None
IsAnswer (fault node c ∷ rest) answer = answer ≡ Some (record { node = node; cause = c })
IsAnswer (pattern node text ∷ rest) answer =
    ((c : TypeCause) × IsRefusal text c × (answer ≡ Some (record { node = node; cause = c }))) ⊎ (IsPattern text × IsAnswer rest answer)
