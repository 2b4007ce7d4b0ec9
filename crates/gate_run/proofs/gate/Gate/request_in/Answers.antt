use Rattle.gate_run.proofs.MeaningLemmas.{meaning_is}
use Rattle.gate_run.proofs.gate.Gate.request_in.Goals as goal

pub judge_request-requires : goal.judge_request-requires
judge_request-requires g c lives within =
    (within, (c.requires.of, (meaning_is _ c.valid_config.ensures.lists_fine, c.new-shown.ensures.items)))
