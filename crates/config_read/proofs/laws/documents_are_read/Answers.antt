use Rattle.config_read.proofs.DocumentRead.{documents_are_read}
use Rattle.config_read.proofs.laws.documents_are_read.Goals as goal

pub returns : goal.returns
returns c = documents_are_read
