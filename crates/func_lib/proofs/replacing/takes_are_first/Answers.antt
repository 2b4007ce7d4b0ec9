use Rattle.text_match.proofs.TakeLemmas.{takes_are_first}
use Rattle.func_lib.proofs.replacing.takes_are_first.Goals as goal

pub returns : goal.returns
returns c = takes_are_first
