use Rattle.edge_core.proofs.MoveLemmas.{backing_unfit}
use Rattle.edge_core.proofs.caller.Caller.back.Goals as goal

pub reply_to-requires : goal.reply_to-requires
reply_to-requires g c = c.requires

pub returns-in_default : goal.returns-in_default
returns-in_default g c = backing_unfit g.meaning c.args.reply c.args.at c.args.self c.in_default.not-Judged
