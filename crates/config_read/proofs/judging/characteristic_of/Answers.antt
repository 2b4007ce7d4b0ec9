use Rattle.std.proofs.Common.{rules}
use Rattle.config_read.proofs.FilterLemmas.{characteristic_built}
use Rattle.config_read.proofs.judging.characteristic_of.Goals as goal

pub returns-in_ok-of-in-Ok-clause-built : goal.returns-in_ok-of-in-Ok-clause-built
returns-in_ok-of-in-Ok-clause-built c = search (rules, characteristic_built)
