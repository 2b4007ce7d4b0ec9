use Rattle.std.proofs.Common.{◌∙◌, map}
use Rattle.serde_json.specs.View.{view}
use Rattle.config_read.specs.Executions.{has_id}
use Rattle.config_read.proofs.sets.position_of.Goals as goal

pub returns-clause-value : goal.returns-clause-value
returns-clause-value c = c.place_of.ensures ∙ c.args.sets.now.places c.args.id.now
