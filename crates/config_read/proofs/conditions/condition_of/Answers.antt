use Rattle.std.proofs.Common.{rules}
use Rattle.config_read.proofs.FilterLemmas.{source_kept}
use Rattle.config_read.proofs.conditions.condition_of.Goals as goal

pub returns-clause-built : goal.returns-clause-built
returns-clause-built c = search (rules, source_kept)
