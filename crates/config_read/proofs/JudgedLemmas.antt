-- What is found in an expression decides what its text comes to.
use Rattle.std.proofs.Common.{◌≡◌, List, ℕ, Option, None, Some, Result, Ok, Err, subst, inr}
use Rattle.edge_base.specs.declared.expression.Expr.{Expr}
use Rattle.edge_fields.specs.declared.kind.Basic.{Basic}
use Rattle.expr_parser.specs.Parsed.{IsAnswer}
use Rattle.type_check.specs.declared.fault.Place.{Place}
use Rattle.type_check.specs.declared.fault.Fault.{Fault}
use Rattle.type_check.specs.declared.fault.TypeCause.{TypeCause}
use Rattle.type_check.specs.declared.fault.TypeFault.{TypeFault}
use Rattle.type_check.specs.declared.fault.TypeFault.TheVariants as fault
use Rattle.type_check.specs.Checking.{Finding, IsAnswer as IsFound}
use Rattle.type_check.specs.Places.{findings_of, Answers}
use Rattle.config_read.specs.declared.fault.Cause.{Cause}
use Rattle.config_read.specs.declared.judging.Unfit.{Unfit}
use Rattle.config_read.specs.declared.judging.Unfit.TheVariants as unfit
use Rattle.config_read.specs.Judged.{type_cause, judged, ChecksTree, Judges}

pub judges_read : {A : Type 0} (lists : List (List ℕ × Basic)) (at : Place) (text : List ℕ) (e : Expr) (r : Result A Unfit)
    → IsAnswer text (Ok e) → ChecksTree (findings_of lists at e) r → Judges (judged lists at text) r
judges_read lists at text e (Ok given) read found = (e, read, found)
judges_read lists at text e (Err (unfit.Bad c)) read (first, found, same) = inr (e, first, read, found, same)
judges_read lists at text e (Err unfit.Memory) read found = tt

-- a fault of a check is what is found first
pub check_finds : (found : List Finding) (f : TypeFault) (node : ℕ) (why : TypeCause) (c : Cause) → f ≡ fault.Bad node why
    → Answers found (Err f) → c ≡ type_cause why → (first : Fault) × IsFound found (Some first) × (c ≡ type_cause first.cause)
check_finds found f node why c e h same =
    (record { node = node; cause = why }, subst (λ (g : TypeFault). Answers found (Err g)) e h, same)
