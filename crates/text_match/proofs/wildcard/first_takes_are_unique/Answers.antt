-- Neither list of lengths is after the other, and the lengths decide the takes.
use Rattle.text_match.proofs.TurnLemmas.{first_is_unique}
use Rattle.text_match.proofs.wildcard.first_takes_are_unique.Goals as goal

pub returns : goal.returns
returns c = first_is_unique
