use Rattle.config_read.proofs.MemberLemmas.{names_ordered}
use Rattle.config_read.proofs.members.entries_of.Goals as goal

pub returns-clause-ordered : goal.returns-clause-ordered
returns-clause-ordered c = names_ordered c.args.members.now.entries c.iter-name-items.ensures.ordered
