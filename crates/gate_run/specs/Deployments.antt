-- What a deployment does to the published list, and why it is refused.
use Rattle.std.specs.Prelude.{◌≡◌, ◌≢◌, ℕ, ◌+◌, ◌^◌, Err}
use Rattle.serde_json.specs.Data.{Data}
use Rattle.ruleset_model.specs.ConfigParts.{ConfigParts}
use Rattle.config_read.specs.Answered.{StandsFor, IsTaken}
use Rattle.config_read.specs.Reads.{Reads}
use Rattle.config_read.specs.declared.fault.ConfigFault.TheVariants as document
use Rattle.version_store.specs.Books.{Page, grown}
use Rattle.version_store.specs.Notices.{puts_of}
use Rattle.version_store.specs.declared.notice.Notice.TheVariants.{Put}
use Rattle.gate_run.specs.declared.desk.DeployFault.{DeployFault}
use Rattle.gate_run.specs.declared.desk.DeployFault.TheVariants as fault

-- the configuration that the document stands for is the next version, and this is its number
pub record IsDeployed (value : Data) (before after : Page) (number : ℕ) : Type 0 where
  pub config : ConfigParts
  pub stands : StandsFor value config
  pub published : after ≡ grown before (Put config)
  pub numbered : puts_of after.notices ≡ number + 1
  pub room : puts_of before.notices ≢ 2 ^ 40 + 1

-- the document is refused so; or it is taken, and version 2^40 is in force; or memory was wanted
abbrev pub IsRefusedFor : Data → Page → DeployFault → Type 0
IsRefusedFor value before (fault.Refused place cause) = Reads value (Err (document.Refused place cause))
IsRefusedFor value before fault.Memory = Unit {0}
IsRefusedFor value before fault.Spent = (puts_of before.notices ≡ 2 ^ 40 + 1) × IsTaken value
