-- The numbers that a limit may have.
use Rattle.std.specs.Prelude.{◌≡◌, ℕ, ◌≤◌, ◌%◌}

-- period and timeout are whole seconds in milliseconds, from a second and from none up to a day
pub record HasRanges (period threshold timeout : ℕ) : Type 0 where
  pub some_period : 1000 ≤ period
  pub period_within : period ≤ 86400000
  pub whole_period : period % 1000 ≡ 0
  pub some_threshold : 1 ≤ threshold
  pub threshold_within : threshold ≤ 1000000
  pub timeout_within : timeout ≤ 86400000
  pub whole_timeout : timeout % 1000 ≡ 0
