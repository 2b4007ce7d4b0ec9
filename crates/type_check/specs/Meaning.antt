-- The meaning of an expression: the value that it has on a request, or none, which is a missing value.
use Rattle.std.specs.Prelude.{◌≡◌, ℕ, ℤ, pos, negsuc, ◌%◌, ◌==◌, Bool, true, false, not, if◌then◌else◌, List, [], ◌∷◌, map, Option, None, Some, IfSome, slice_get, bytes_eq}
use Rattle.std.specs.List.{list_all, list_any, filter_map, count_by}
use Rattle.std.specs.Map.{lookup}
use Rattle.std.specs.Option.{option_map, option_and_then}
use Rattle.edge_base.specs.declared.expression.Test.{Test}
use Rattle.edge_base.specs.declared.expression.Expr.{Expr}
use Rattle.edge_base.specs.declared.expression.Expr.TheOpen as open_expr
use Rattle.edge_base.specs.declared.expression.Expr.TheFolds.{fold-Expr}
use Rattle.edge_base.specs.declared.message.Request.{Request}
use Rattle.edge_base.specs.declared.message.Reply.{Reply}
use Rattle.edge_fields.specs.declared.kind.Kind.{Kind}
use Rattle.edge_fields.specs.declared.function_id.FunctionId.{FunctionId}
use Rattle.edge_fields.specs.declared.function_id.FunctionId.TheVariants as function
use Rattle.edge_fields.specs.declared.value.Value.{Value}
use Rattle.edge_fields.specs.declared.value.Value.TheVariants as value
use Rattle.edge_fields.specs.Fields.{field_of, texts}
use Rattle.edge_fields.specs.Kinds.{HasKind}
use Rattle.edge_fields.specs.Names.{function_kind}
use Rattle.type_check.specs.NamesFound.{field_of_name, function_of_name}
use Rattle.type_check.specs.Tests.{is_some_and, is_passed}
use Rattle.edge_fields.specs.Values.{truth_in, items_in, entries_in, value_of_lit}

-- what an expression is asked in: what functions give of values and which values a named list has, the request and,
-- where there is one, the reply
pub record Setting : Type 0 where
  pub function : FunctionId → List Value → Option Value
  pub is_listed : List ℕ → Value → Bool
  pub request : Request
  pub reply : Option Reply

-- what an expression gives to the one around it: a value or none; or, if it is unpacked, the elements of an array,
-- or none where the array is missing
pub data Sense : Type 0 where
  single : Option Value → Sense
  spread : Option (List Value) → Sense

-- the value, where a value is wanted; an unpacked operand is none
abbrev pub alone : Sense → Option Value
alone (single v) = v
alone (spread items) = None

-- the element of an array at a place; out of range there is none
abbrev pub element_at : ℤ → Value → Option Value
element_at (pos place) v = option_and_then (λ items. slice_get items place) (items_in v)
element_at (negsuc n) v = None

-- the array of a key of a map; an absent key has none
abbrev pub array_at : List ℕ → Value → Option Value
array_at key v = option_and_then (λ entries. option_map texts (lookup (bytes_eq key) entries)) (entries_in v)

-- whether a member of a chain is true; a missing truth value is false
abbrev pub is_true : Sense → Bool
is_true sense = is_some_and (λ v. is_some_and (λ truth. truth) (truth_in v)) (alone sense)

abbrev pub truth : Bool → Sense
truth b = single (Some (value.Bool b))

-- a test of a missing value is false; a test of an unpacked operand gives the array of its tests
abbrev pub tested : Setting → Test → Sense → Sense
tested s t (single v) = truth (is_some_and (is_passed s.is_listed t) v)
tested s t (spread items) = single (option_map (λ vs. value.Array (map (λ v. value.Bool (is_passed s.is_listed t v)) vs)) items)

-- the values, where none is missing
abbrev pub all_of : List (Option Value) → Option (List Value)
all_of [] = Some []
all_of (v ∷ vs) = option_and_then (λ one. option_map (λ rest. one ∷ rest) (all_of vs)) v

-- `any` or `all`
abbrev pub is_quantifier : FunctionId → Bool
is_quantifier function.Any = true
is_quantifier function.All = true
is_quantifier other = false

-- whether a function is applied to an array as a whole, so that it takes no unpacked operand
abbrev pub takes_whole : FunctionId → Bool
takes_whole function.Len = true
takes_whole function.Join = true
takes_whole function.HasValue = true
takes_whole function.HasKey = true
takes_whole other = is_quantifier other

-- a function of a missing argument is missing
abbrev pub applied : Setting → FunctionId → List (Option Value) → Option Value
applied s id args = option_and_then (s.function id) (all_of args)

-- `any` and `all` are false where there is no array to ask
abbrev pub or_false : FunctionId → Option Value → Option Value
or_false id None = if is_quantifier id then Some (value.Bool false) else None
or_false id (Some v) = Some v

-- a function of an unpacked operand gives the array of its results, without those that are missing
abbrev pub mapped : Setting → FunctionId → List (Option Value) → List Value → Value
mapped s id further items = value.Array (filter_map (λ v. applied s id (Some v ∷ further)) items)

abbrev pub called : Setting → FunctionId → List Sense → Option Value
called s id (spread items ∷ further) = if takes_whole id then None else option_map (mapped s id (map alone further)) items
called s id args = or_false id (applied s id (map alone args))

-- one node, with the sense of each child in its place
abbrev pub sense_step : Setting → open_expr.Expr-F Sense → Sense
sense_step s (open_expr.Lit l) = single (Some (value_of_lit l))
sense_step s (open_expr.Field name) = single (option_and_then (field_of s.request s.reply) (field_of_name name))
sense_step s (open_expr.Call name args) = single (option_and_then (λ id. called s id args) (function_of_name name))
sense_step s (open_expr.At of place) = single (option_and_then (element_at place) (alone of))
sense_step s (open_expr.Key of key) = single (option_and_then (array_at key) (alone of))
sense_step s (open_expr.Each of) = spread (option_and_then items_in (alone of))
sense_step s (open_expr.Test of t) = tested s t of
sense_step s (open_expr.Not of) = truth (not (is_true of))
sense_step s (open_expr.And members) = truth (list_all is_true members)
sense_step s (open_expr.Xor members) = truth (count_by is_true members % 2 == 1)
sense_step s (open_expr.Or members) = truth (list_any is_true members)

abbrev pub sense_of : Setting → Expr → Sense
sense_of s = fold-Expr Sense (sense_step s)

-- the value of an expression, or none
abbrev pub value_of : Setting → Expr → Option Value
value_of s e = alone (sense_of s e)

-- whether an expression is a condition that is true; a missing truth value is false
abbrev pub is_met : Setting → Expr → Bool
is_met s e = is_true (sense_of s e)

-- functions give values of their kinds
abbrev pub KeepsKinds : Setting → Type 0
KeepsKinds s = (id : FunctionId) (args : List Value) (v : Value) → s.function id args ≡ Some v → HasKind (function_kind id) v

-- the value of the expression is of the kind, or missing, whatever it is asked in
abbrev pub HasItsKind : Kind → Expr → Type 0
HasItsKind kind e = (s : Setting) → KeepsKinds s → IfSome (value_of s e) (HasKind kind)
