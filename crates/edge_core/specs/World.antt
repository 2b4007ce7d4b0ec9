-- A world: what was published, all steps so far, and how far each caller has come.
use Rattle.std.specs.Prelude.{ℕ, List, [], ◌∷◌, replicate}
use Rattle.edge_base.specs.declared.message.Request.{Request}
use Rattle.rate_plain.specs.declared.entry.Entry.{Entry}
use Rattle.ruleset_model.specs.ConfigParts.{ConfigParts}
use Rattle.ruleset_model.specs.Valid.{IsValid}
use Rattle.version_store.specs.declared.notice.Notice.{Notice}
use Rattle.version_store.specs.declared.notice.Notice.TheVariants.{Put}
use Rattle.judge_core.specs.Backing.{BackCourse}
use Rattle.judge_core.specs.Judging.{Judgement}
use Rattle.judge_core.specs.Stands.{Course}
use Rattle.judge_core.specs.Values.{Listed, AreTold}

-- how far a caller has come: no request is under way; a request has come; it is judged in a version, by the answers so
-- far; it was judged; or a reply is judged, by the answers so far
pub data CallerParts : Type 0 where
  Idle : CallerParts
  Came : Request → CallerParts
  UnderWay : Course → CallerParts
  Judged : ConfigParts → Judgement → CallerParts
  Backing : BackCourse → CallerParts

-- the published list, which the opening configuration begins; the history; and the callers, by their numbers
pub record WorldParts : Type 0 where
  pub published : List Notice
  pub history : List Entry
  pub callers : List CallerParts

-- a configuration without lists and rulesets
abbrev pub empty_config : ConfigParts
empty_config = record { lists = []; rulesets = [] }

-- at first the empty configuration is in force, no step was taken, and no request is under way
abbrev pub opening_world : ℕ → WorldParts
opening_world callers = record { published = Put empty_config ∷ []; history = []; callers = replicate callers Idle }

-- by what is judged and counted: which values the lists of a configuration have, and how many lanes the counter has,
-- with room for how many live keys each
pub record Terms : Type 0 where
  pub meaning : ConfigParts → Listed
  pub lanes : ℕ
  pub cap : ℕ

-- it tells of each valid configuration which values its lists have
pub record IsTelling (meaning : ConfigParts → Listed) : Type 0 where
  pub told : (config : ConfigParts) → IsValid config.lists config.rulesets → AreTold (meaning config) config
