use Rattle.judge_core.proofs.EndLemmas.{kept_at_end}
use Rattle.judge_core.proofs.ends.kept_rules_count.Goals as goal

pub returns : goal.returns
returns c = kept_at_end
