use Rattle.judge_core.proofs.EndLemmas.{replied_at_end}
use Rattle.judge_core.proofs.ends.replies_stay.Goals as goal

pub returns : goal.returns
returns c = replied_at_end
