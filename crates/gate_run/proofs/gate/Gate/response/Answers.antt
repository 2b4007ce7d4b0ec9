use Rattle.gate_run.proofs.MeaningLemmas.{meaning_is}
use Rattle.gate_run.proofs.gate.Gate.response.Goals as goal

pub judge_reply-requires : goal.judge_reply-requires
judge_reply-requires g c lives within =
    (within, (c.requires.of, (meaning_is _ c.valid_config.ensures.lists_fine, c.new-shown.ensures.items)))
