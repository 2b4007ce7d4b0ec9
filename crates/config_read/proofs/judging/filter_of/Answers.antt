use Rattle.std.proofs.Common.{rules}
use Rattle.config_read.proofs.FilterLemmas.{filter_built}
use Rattle.config_read.proofs.judging.filter_of.Goals as goal

pub returns-in-Ok-clause-built : goal.returns-in-Ok-clause-built
returns-in-Ok-clause-built c = search (rules, filter_built)
