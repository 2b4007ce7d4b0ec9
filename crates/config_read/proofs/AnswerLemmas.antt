-- Refusals of later parts.
use Rattle.std.proofs.Common.{◌≡◌, ℕ, ◌==◌, false, length, List, [], ◌∷◌, Option, None, Some, Result, Ok, Err, sym, subst, inl, inr}
use Rattle.std.specs.Result.{IsErrAnd}
use Rattle.config_read.specs.declared.fault.Cause.{Cause}
use Rattle.config_read.specs.declared.fault.ConfigFault.{ConfigFault}
use Rattle.config_read.specs.declared.fault.ConfigFault.TheVariants as fault
use Rattle.config_read.specs.Refusals.{Table, ◌▸◌, Refuses, IsAnswerOf}
use Rattle.config_read.specs.Judged.{expression, expression_or_empty}

-- `?` passes a refusal on as it is
pub passed_on : {A : Type 0} (r : Result A ConfigFault) (e : ConfigFault) (table : Table) → IsErrAnd r (λ f. f ≡ e) → Refuses e table → IsAnswerOf r table
passed_on (Ok given) e table is refused = absurd is
passed_on (Err f) e table is refused = subst (λ (g : ConfigFault). Refuses g table) (sym is) refused

-- the first part is refused
pub first : (a b : Table) (e : ConfigFault) → Refuses e a → Refuses e (a ▸ b)
first a b (fault.Refused place cause) refused = inl refused
first a b fault.Memory refused = tt

-- the second part is refused, where the first refuses nothing
pub later : (a b : Table) (e : ConfigFault) → a None → Refuses e b → Refuses e (a ▸ b)
later a b (fault.Refused place cause) passed refused = inr (passed, refused)
later a b fault.Memory passed refused = tt

-- a text that isn't empty is read
pub filled_text : (judge : List ℕ → Option Cause → Type 0) (place text : List ℕ) (e : ConfigFault) → (length text == 0) ≡ false
    → Refuses e (expression judge place text) → Refuses e (expression_or_empty judge place text)
filled_text judge place [] e filled refused = absurd cc
filled_text judge place (byte ∷ text) e filled refused = refused
