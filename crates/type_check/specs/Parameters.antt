-- The table of the arguments that functions take.
use Rattle.std.specs.Prelude.{ℕ, ◌-◌, nat_le, pos, Bool, true, false, ◌&&◌, ◌||◌, List, [], ◌∷◌, length, replicate, Option, None, Some, codes, bytes_eq}
use Rattle.std.specs.List.{list_any}
use Rattle.edge_base.specs.declared.expression.Lit.{Lit}
use Rattle.edge_base.specs.declared.expression.Lit.TheVariants as lit
use Rattle.edge_fields.specs.declared.kind.Basic.TheVariants as basic
use Rattle.edge_fields.specs.declared.kind.Kind.{Kind}
use Rattle.edge_fields.specs.declared.kind.Kind.TheVariants as kind
use Rattle.edge_fields.specs.declared.function_id.FunctionId.{FunctionId}
use Rattle.edge_fields.specs.declared.function_id.FunctionId.TheVariants as function
use Rattle.type_check.specs.declared.parameter.Parameter.{Parameter}
use Rattle.type_check.specs.declared.parameter.Parameter.TheVariants as parameter
use Rattle.type_check.specs.declared.sort.Sort.{Sort}
use Rattle.type_check.specs.declared.sort.Sort.TheVariants as sort
use Rattle.type_check.specs.Tests.{is_some_and}

-- what a function takes, place by place
abbrev pub parameters_of : FunctionId → List Parameter
parameters_of function.Any = parameter.Truths ∷ []
parameters_of function.All = parameter.Truths ∷ []
parameters_of function.Lower = parameter.Text ∷ []
parameters_of function.Upper = parameter.Text ∷ []
parameters_of function.Len = parameter.TextOrArray ∷ []
parameters_of function.Substring = parameter.Text ∷ parameter.Num ∷ parameter.Num ∷ []
parameters_of function.RemoveBytes = parameter.Text ∷ parameter.TextLiteral ∷ []
parameters_of function.StartsWith = parameter.Text ∷ parameter.Text ∷ []
parameters_of function.EndsWith = parameter.Text ∷ parameter.Text ∷ []
parameters_of function.Concat = replicate 16 parameter.Single
parameters_of function.ToString = parameter.NoText ∷ []
parameters_of function.HasKey = parameter.Map ∷ parameter.Text ∷ []
parameters_of function.HasValue = parameter.Texts ∷ parameter.Text ∷ []
parameters_of function.Split = parameter.Text ∷ parameter.TextLiteral ∷ []
parameters_of function.Join = parameter.Texts ∷ parameter.Text ∷ []
parameters_of function.LookupJsonString = parameter.Text ∷ replicate 8 parameter.StepLiteral
parameters_of function.LookupJsonInteger = parameter.Text ∷ replicate 8 parameter.StepLiteral
parameters_of function.EncodeBase64 = parameter.Text ∷ parameter.FlagsLiteral ∷ []
parameters_of function.DecodeBase64 = parameter.Text ∷ []
parameters_of function.UrlDecode = parameter.Text ∷ []
parameters_of function.WildcardReplace = parameter.Text ∷ parameter.TextLiteral ∷ parameter.TextLiteral ∷ parameter.StrictLiteral ∷ []
parameters_of function.RegexReplace = parameter.Text ∷ parameter.TextLiteral ∷ parameter.TextLiteral ∷ []

-- what `has_value` takes instead of texts
abbrev pub number_parameters : List Parameter
number_parameters = parameter.Nums ∷ parameter.Num ∷ []

-- how many of its last arguments may be left out
abbrev pub optional_of : FunctionId → ℕ
optional_of function.Substring = 1
optional_of function.Concat = 15
optional_of function.LookupJsonString = 7
optional_of function.LookupJsonInteger = 7
optional_of function.EncodeBase64 = 1
optional_of function.WildcardReplace = 1
optional_of other = 0

-- the letters `u` and `p`, each at most once
abbrev pub are_base64_flags : List ℕ → Bool
are_base64_flags text = list_any (bytes_eq text) ([] ∷ codes "u" ∷ codes "p" ∷ codes "up" ∷ codes "pu" ∷ [])

-- whether a parameter takes a literal as such
abbrev pub literal_fits : Parameter → Lit → Bool
literal_fits parameter.TextLiteral (lit.Text text) = true
literal_fits parameter.StepLiteral (lit.Text text) = true
literal_fits parameter.StepLiteral (lit.Num (pos place)) = true
literal_fits parameter.FlagsLiteral (lit.Text text) = are_base64_flags text
literal_fits parameter.StrictLiteral (lit.Text text) = bytes_eq text (codes "s")
literal_fits other l = false

-- whether a parameter takes values of a kind
abbrev pub kind_fits : Parameter → Kind → Bool
kind_fits parameter.Text (kind.One basic.Text) = true
kind_fits parameter.Num (kind.One basic.Num) = true
kind_fits parameter.Map kind.Map = true
kind_fits parameter.Texts (kind.Array basic.Text) = true
kind_fits parameter.Nums (kind.Array basic.Num) = true
kind_fits parameter.Truths (kind.Array basic.Bool) = true
kind_fits parameter.TextOrArray (kind.One basic.Text) = true
kind_fits parameter.TextOrArray (kind.Array of) = true
kind_fits parameter.Single (kind.One of) = true
kind_fits parameter.NoText (kind.One basic.Num) = true
kind_fits parameter.NoText (kind.One basic.Addr) = true
kind_fits parameter.NoText (kind.One basic.Bool) = true
kind_fits other k = false

-- the kind of an argument, or of each element of one that is unpacked
abbrev pub kind_held : Option Sort → Option Kind
kind_held (Some (sort.Plain k)) = Some k
kind_held (Some (sort.Each of)) = Some (kind.One of)
kind_held None = None

-- whether a parameter takes an argument, which may be a literal
abbrev pub takes : Parameter → Option Lit → Option Sort → Bool
takes p literal s = is_some_and (literal_fits p) literal || is_some_and (kind_fits p) (kind_held s)

-- whether each argument is one that its parameter takes: the literals that arguments are, and their sorts
abbrev pub are_taken : List Parameter → List (Option Lit) → List (Option Sort) → Bool
are_taken (p ∷ parameters) (l ∷ literals) (s ∷ sorts) = takes p l s && are_taken parameters literals sorts
are_taken parameters literals sorts = true

-- whether arguments are as many as these parameters, but for some of the last, and each is one that its parameter takes
abbrev pub row_fits : List Parameter → ℕ → List (Option Lit) → List (Option Sort) → Bool
row_fits parameters optional literals sorts =
    nat_le (length literals) (length parameters) && (nat_le (length parameters - length literals) optional && are_taken parameters literals sorts)

-- `has_value` alone takes numbers in place of texts
abbrev pub takes_numbers : FunctionId → Bool
takes_numbers function.HasValue = true
takes_numbers other = false

-- whether a function takes arguments
abbrev pub args_fit : FunctionId → List (Option Lit) → List (Option Sort) → Bool
args_fit id literals sorts =
    row_fits (parameters_of id) (optional_of id) literals sorts || (takes_numbers id && row_fits number_parameters 0 literals sorts)
