use Rattle.func_lib.proofs.KindLemmas.{functions_keep_kinds}
use Rattle.func_lib.proofs.functions.functions_keep_kinds.Goals as goal

pub returns : goal.returns
returns c = functions_keep_kinds
