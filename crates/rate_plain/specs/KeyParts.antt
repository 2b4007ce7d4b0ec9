-- What a limit counts by, as contracts see it.
use Rattle.std.specs.Prelude.{ℕ, ◌≤◌, List}
use Rattle.edge_base.specs.declared.rule_name.RuleName.{RuleName}

-- the rule's name, the limit's numbers in milliseconds, requests and milliseconds, and the values of its characteristics
pub record KeyParts : Type 0 where
  pub rule : RuleName
  pub period : ℕ
  pub threshold : ℕ
  pub timeout : ℕ
  pub values : List ℕ

-- the numbers lie within their ranges
pub record HasRanges (period threshold timeout : ℕ) : Type 0 where
  pub some_period : 1 ≤ period
  pub period_within : period ≤ 86400000
  pub some_threshold : 1 ≤ threshold
  pub threshold_within : threshold ≤ 1000000
  pub timeout_within : timeout ≤ 86400000
