-- An origin that fails at some calls, as contracts see it.
use Rattle.std.specs.Prelude.{ℕ, List}
use Rattle.edge_outside.specs.Faults.{next_count}

-- the numbers of the calls that fail, and the counts of calls and of faults
pub record Failing : Type 0 where
  pub fail_at : List ℕ
  pub calls : ℕ
  pub faults : ℕ

-- after a call that didn't fail
abbrev pub after_call : Failing → Failing
after_call origin = record origin { calls = next_count origin.calls }

-- after a call that failed
abbrev pub after_failed_call : Failing → Failing
after_failed_call origin = record origin { calls = next_count origin.calls; faults = next_count origin.faults }
