-- What an expression is to the one around it: of a kind, or unpacked; and what is wanted where it stands.
use Rattle.std.specs.Prelude.{◌+◌, Bool, true, false, if◌then◌else◌, Option, None, Some}
use Rattle.edge_base.specs.declared.expression.Lit.{Lit}
use Rattle.edge_base.specs.declared.expression.Lit.TheVariants as lit
use Rattle.edge_fields.specs.declared.kind.Basic.{Basic}
use Rattle.edge_fields.specs.declared.kind.Basic.TheVariants as basic
use Rattle.edge_fields.specs.declared.kind.Kind.{Kind}
use Rattle.edge_fields.specs.declared.kind.Kind.TheVariants as kind
use Rattle.edge_fields.specs.declared.function_id.FunctionId.{FunctionId}
use Rattle.edge_fields.specs.Names.{function_kind}
use Rattle.type_check.specs.declared.sort.Sort.{Sort}
use Rattle.type_check.specs.declared.sort.Sort.TheVariants as sort
use Rattle.type_check.specs.declared.sort.Want.{Want}
use Rattle.type_check.specs.declared.sort.Want.TheVariants as want
use Rattle.type_check.specs.declared.sort.Stand.{Stand}
use Rattle.type_check.specs.declared.sort.Stand.TheVariants as stand
use Rattle.type_check.specs.declared.sort.Mark.{Mark}
use Rattle.type_check.specs.Meaning.{is_quantifier, takes_whole}

-- the kind of a literal
abbrev pub basic_of : Lit → Basic
basic_of (lit.Text text) = basic.Text
basic_of (lit.Num number) = basic.Num
basic_of (lit.Addr addr) = basic.Addr
basic_of (lit.Bool truth) = basic.Bool

-- a value of a basic kind
abbrev pub one : Basic → Option Sort
one of = Some (sort.Plain (kind.One of))

-- an array of a basic kind
abbrev pub array : Basic → Option Sort
array of = Some (sort.Plain (kind.Array of))

-- whether a whole expression is what is wanted of it
abbrev pub wanted : Want → Sort → Bool
wanted want.Anything (sort.Plain k) = true
wanted want.Truth (sort.Plain (kind.One basic.Bool)) = true
wanted want.Text (sort.Plain (kind.One basic.Text)) = true
wanted want.Single (sort.Plain (kind.One basic.Text)) = true
wanted want.Single (sort.Plain (kind.One basic.Num)) = true
wanted want.Single (sort.Plain (kind.One basic.Addr)) = true
wanted w s = false

-- whether what has this sort may stand here; what has none is of no kind
abbrev pub suits : Stand → Option Sort → Bool
suits place None = false
suits (stand.Whole w) (Some s) = wanted w s
suits place (Some s) = true

-- `[n]` takes an array and gives its element's kind
abbrev pub element_sort : Option Sort → Option Sort
element_sort (Some (sort.Plain (kind.Array of))) = one of
element_sort s = None

-- `["k"]` takes a map and gives an array of texts
abbrev pub array_sort : Option Sort → Option Sort
array_sort (Some (sort.Plain kind.Map)) = array basic.Text
array_sort s = None

-- `[*]` takes an array and unpacks it
abbrev pub unpacked_sort : Option Sort → Option Sort
unpacked_sort (Some (sort.Plain (kind.Array of))) = Some (sort.Each of)
unpacked_sort s = None

-- a chain and `not` take truth values
abbrev pub truth_sort : Option Sort → Option Sort
truth_sort (Some (sort.Plain (kind.One basic.Bool))) = one basic.Bool
truth_sort s = None

-- the operand of a test may be unpacked where the test is the argument of `any` or `all`
abbrev pub test_stand : Stand → Stand
test_stand stand.Asked = stand.Unpacked
test_stand other = stand.Part

-- the first argument of a function may be unpacked, but not of those that take an array as a whole
abbrev pub first_stand : FunctionId → Stand
first_stand id = if is_quantifier id then stand.Asked else (if takes_whole id then stand.Part else stand.Unpacked)

-- a function of an unpacked operand gives an array of its results, which must be of a basic kind
abbrev pub mapped_sort : Kind → Option Sort
mapped_sort (kind.One of) = array of
mapped_sort other = None

-- what a function gives, by its first argument
abbrev pub result_sort : FunctionId → Option Sort → Option Sort
result_sort id (Some (sort.Each of)) = mapped_sort (function_kind id)
result_sort id (Some (sort.Plain k)) = Some (sort.Plain (function_kind id))
result_sort id None = None

-- the mark behind a node itself, at its first part
abbrev pub inner : Mark → Mark
inner m = record { node = m.node + 1; replaced = m.replaced }
