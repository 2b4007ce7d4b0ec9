use Rattle.gate_run.proofs.MeaningLemmas.{meaning_of}
use Rattle.core_tests.proofs.worlds.show.Given as goal

-- the named lists have the values that their items stand for
abbrev pub ghost-run : goal.ghost-run
ghost-run g a = λ config. meaning_of config.lists
