-- What an expression is checked for, by its place in a configuration.
use Rattle.std.specs.Prelude.{◌≡◌, ℕ, pos, Bool, true, false, ◌&&◌, if◌then◌else◌, List, [], ◌∷◌, Option, None, Some, Result, Ok, Err, codes, bytes_eq}
use Rattle.edge_base.specs.declared.expression.Lit.TheVariants as lit
use Rattle.edge_base.specs.declared.expression.Expr.{Expr, out-Expr}
use Rattle.edge_base.specs.declared.expression.Expr.TheVariants as expr
use Rattle.edge_base.specs.declared.expression.Expr.TheOpen as open_expr
use Rattle.edge_fields.specs.declared.kind.Basic.{Basic}
use Rattle.edge_fields.specs.declared.kind.Basic.TheVariants as basic
use Rattle.edge_fields.specs.declared.kind.Kind.{Kind}
use Rattle.edge_fields.specs.declared.kind.Kind.TheVariants as kind
use Rattle.type_check.specs.declared.fault.Place.{Place}
use Rattle.type_check.specs.declared.fault.Place.TheVariants as place
use Rattle.type_check.specs.declared.fault.TypeCause.{TypeCause}
use Rattle.type_check.specs.declared.fault.TypeFault.{TypeFault}
use Rattle.type_check.specs.declared.fault.TypeFault.TheVariants as fault
use Rattle.type_check.specs.declared.sort.Mark.{Mark}
use Rattle.type_check.specs.declared.sort.Sort.{Sort}
use Rattle.type_check.specs.declared.sort.Sort.TheVariants as sort
use Rattle.type_check.specs.declared.sort.Stand.TheVariants as stand
use Rattle.type_check.specs.declared.sort.Want.{Want}
use Rattle.type_check.specs.declared.sort.Want.TheVariants as want
use Rattle.type_check.specs.declared.typed.Typed.{Typed}
use Rattle.type_check.specs.Meaning.{HasItsKind}
use Rattle.type_check.specs.Checking.{Finding, fault, pattern, judge_of, IsAnswer}

abbrev pub is_characteristic : Place → Bool
is_characteristic place.Characteristic = true
is_characteristic other = false

abbrev pub is_colo_shown : open_expr.Expr-F Expr → Bool
is_colo_shown (open_expr.Field name) = bytes_eq name (codes "cf.colo.id")
is_colo_shown other = false

-- whether the expression is the data centre, which is known as a characteristic alone
abbrev pub is_colo : Place → Expr → Bool
is_colo p e = is_characteristic p && is_colo_shown (out-Expr e)

-- fields of a reply may stand in counting expressions and in what is asked of a reply
abbrev pub allows_reply : Place → Bool
allows_reply place.Count = true
allows_reply place.ReplyFilter = true
allows_reply place.ReplyValue = true
allows_reply other = false

abbrev pub indexed_want : open_expr.Expr-F Expr → Want
indexed_want (open_expr.Key of key) = want.Anything
indexed_want other = want.Nothing

-- a characteristic is a field of a text, a number or an address, or a map followed by a key and perhaps an index
abbrev pub characteristic_want : open_expr.Expr-F Expr → Want
characteristic_want (open_expr.Field name) = want.Single
characteristic_want (open_expr.Key of key) = want.Anything
characteristic_want (open_expr.At of n) = indexed_want (out-Expr of)
characteristic_want other = want.Nothing

-- conditions are truth values, values are texts
abbrev pub want_at : Place → Expr → Want
want_at place.Filter e = want.Truth
want_at place.Count e = want.Truth
want_at place.ReplyFilter e = want.Truth
want_at place.Value e = want.Text
want_at place.ReplyValue e = want.Text
want_at place.Characteristic e = characteristic_want (out-Expr e)

abbrev pub start : Mark
start = record { node = 0; replaced = false }

-- what is found in an expression at a place, node after node
abbrev pub findings_of : List (List ℕ × Basic) → Place → Expr → List Finding
findings_of lists p e = if is_colo p e then [] else ((judge_of lists (allows_reply p) e).look (stand.Whole (want_at p e)) start).found

abbrev pub faults_in : List Finding → List (ℕ × TypeCause)
faults_in [] = []
faults_in (fault node c ∷ found) = (node, c) ∷ faults_in found
faults_in (pattern node text ∷ found) = faults_in found

-- the nodes with their causes, but for those of patterns, in the order of the nodes
abbrev pub bad : List (List ℕ × Basic) → Place → Expr → List (ℕ × TypeCause)
bad lists p e = faults_in (findings_of lists p e)

abbrev pub kind_of_sort : Option Sort → Option Kind
kind_of_sort (Some (sort.Plain k)) = Some k
kind_of_sort other = None

-- the kind of an expression at a place
abbrev pub kind_at : List (List ℕ × Basic) → Place → Expr → Option Kind
kind_at lists p e = if is_colo p e then Some (kind.One basic.Num) else kind_of_sort (judge_of lists (allows_reply p) e).sort

-- the expression that is evaluated: the data centre is the number 0
abbrev pub tree_at : Place → Expr → Expr
tree_at p e = if is_colo p e then expr.Lit (lit.Num (pos 0)) else e

-- the expression is taken exactly where there is no fault and each pattern was built; else the answer is the first
-- fault, or an earlier pattern that was refused
abbrev pub Answers : List Finding → Result Typed TypeFault → Type 0
Answers found (Ok typed) = IsAnswer found None
Answers found (Err (fault.Bad node c)) = IsAnswer found (Some (record { node = node; cause = c }))
Answers found (Err fault.Memory) = Unit {0}

-- an expression that has a kind has values of that kind, or none, whatever it is asked in
abbrev pub CheckedTreesHaveTheirKinds : Type 0
CheckedTreesHaveTheirKinds =
    (lists : List (List ℕ × Basic)) (p : Place) (e : Expr) (k : Kind) → kind_at lists p e ≡ Some k → HasItsKind k (tree_at p e)
