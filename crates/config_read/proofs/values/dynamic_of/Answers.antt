use Rattle.std.proofs.Common.{rules}
use Rattle.config_read.proofs.FilterLemmas.{source_kept}
use Rattle.config_read.proofs.values.dynamic_of.Goals as goal

pub returns-in_ok-of-in-Some-clause-built : goal.returns-in_ok-of-in-Some-clause-built
returns-in_ok-of-in-Some-clause-built c = search (rules, source_kept)
