-- What the text of an expression comes to at its place in a configuration: it is read, and it is checked.
use Rattle.std.specs.Prelude.{◌≡◌, ◌⊎◌, ℕ, List, [], ◌∷◌, Option, None, Some, Result, Ok, Err}
use Rattle.edge_base.specs.declared.expression.Expr.{Expr}
use Rattle.edge_fields.specs.declared.kind.Basic.{Basic}
use Rattle.expr_parser.specs.declared.grammar.ParseFault.{ParseFault}
use Rattle.expr_parser.specs.declared.grammar.ParseFault.TheVariants as parsing
use Rattle.expr_parser.specs.Parsed.{IsAnswer}
use Rattle.type_check.specs.declared.fault.Place.{Place}
use Rattle.type_check.specs.declared.fault.Fault.{Fault}
use Rattle.type_check.specs.declared.fault.TypeCause.{TypeCause}
use Rattle.type_check.specs.declared.fault.TypeCause.TheVariants as checking
use Rattle.type_check.specs.Checking.{Finding, IsAnswer as IsFound}
use Rattle.type_check.specs.Places.{findings_of, bad}
use Rattle.config_read.specs.declared.fault.Cause.{Cause}
use Rattle.config_read.specs.declared.fault.Cause.TheVariants as cause
use Rattle.config_read.specs.declared.judging.Unfit.{Unfit}
use Rattle.config_read.specs.declared.judging.Unfit.TheVariants as unfit
use Rattle.config_read.specs.Refusals.{Table, nothing}

-- ---- causes

-- why a text is no expression; want of memory is no cause
abbrev pub parse_cause : ParseFault → Option Cause
parse_cause parsing.TooLong = Some cause.ExpressionTooLong
parse_cause (parsing.Lex at) = Some cause.Lex
parse_cause (parsing.Syntax at) = Some cause.Syntax
parse_cause parsing.TooDeep = Some cause.TooDeep
parse_cause parsing.Memory = None

-- why an expression isn't taken where it stands
abbrev pub type_cause : TypeCause → Cause
type_cause checking.UnknownField = cause.UnknownField
type_cause checking.UnknownFunction = cause.UnknownFunction
type_cause checking.UnknownList = cause.UnknownList
type_cause checking.ResponseField = cause.ResponseField
type_cause checking.Misplaced = cause.Misplaced
type_cause checking.Mismatch = cause.Mismatch
type_cause checking.BadPrefix = cause.BadPrefix
type_cause checking.BadRange = cause.BadRange
type_cause checking.BadWildcard = cause.BadWildcard
type_cause checking.PatternSyntax = cause.PatternSyntax
type_cause checking.PatternSize = cause.PatternSize

-- ---- what a text comes to

-- by where it stands, what a text may come to: it is taken, or refused for this cause
abbrev pub Judgement : Type 1
Judgement = Place → List ℕ → Option Cause → Type 0

-- the text is no expression, for this cause
abbrev pub IsUnread : List ℕ → Cause → Type 0
IsUnread text c = (refused : ParseFault) × IsAnswer text (Err refused) × (parse_cause refused ≡ Some c)

-- the first of the causes, patterns left out
abbrev pub IsFirstOf : List (ℕ × TypeCause) → Cause → Type 0
IsFirstOf [] c = ⊥
IsFirstOf (found ∷ rest) c = c ≡ type_cause found.1

-- patterns left out: where each pattern is one of `regex` that isn't too big for it
abbrev pub judged_without_patterns : List (List ℕ × Basic) → Judgement
judged_without_patterns lists at text None = (e : Expr) × IsAnswer text (Ok e) × (bad lists at e ≡ [])
judged_without_patterns lists at text (Some c) = IsUnread text c ⊎ ((e : Expr) × IsAnswer text (Ok e) × IsFirstOf (bad lists at e) c)

-- with patterns: one may be refused before the first other cause
abbrev pub judged : List (List ℕ × Basic) → Judgement
judged lists at text None = (e : Expr) × IsAnswer text (Ok e) × IsFound (findings_of lists at e) None
judged lists at text (Some c) =
    IsUnread text c ⊎ ((e : Expr) × (found : Fault) × IsAnswer text (Ok e) × IsFound (findings_of lists at e) (Some found) × (c ≡ type_cause found.cause))

-- ---- expressions in a document

-- the text at a place of the document
abbrev pub expression : (List ℕ → Option Cause → Type 0) → List ℕ → List ℕ → Table
expression judge place text None = judge text None
expression judge place text (Some refused) = (refused.place ≡ place) × judge text (Some refused.cause)

-- the same, where there is a text
abbrev pub an_expression : (List ℕ → Option Cause → Type 0) → List ℕ → Option (List ℕ) → Table
an_expression judge place None = nothing
an_expression judge place (Some text) = expression judge place text

-- the same of a text that may be empty for none
abbrev pub expression_or_empty : (List ℕ → Option Cause → Type 0) → List ℕ → List ℕ → Table
expression_or_empty judge place [] = nothing
expression_or_empty judge place (byte ∷ text) = expression judge place (byte ∷ text)

-- ---- what is answered for a text; want of memory tells nothing

abbrev pub unfit_of : Option Cause → Unfit
unfit_of (Some c) = unfit.Bad c
unfit_of None = unfit.Memory

abbrev pub Judges : {A : Type 0} → (Option Cause → Type 0) → Result A Unfit → Type 0
Judges judgement (Ok given) = judgement None
Judges judgement (Err (unfit.Bad c)) = judgement (Some c)
Judges judgement (Err unfit.Memory) = Unit {0}

-- the same for what is found in an expression
abbrev pub ChecksTree : {A : Type 0} → List Finding → Result A Unfit → Type 0
ChecksTree found (Ok given) = IsFound found None
ChecksTree found (Err (unfit.Bad c)) = (first : Fault) × IsFound found (Some first) × (c ≡ type_cause first.cause)
ChecksTree found (Err unfit.Memory) = Unit {0}
