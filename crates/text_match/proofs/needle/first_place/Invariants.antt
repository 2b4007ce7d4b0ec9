-- a front was just matched, and no place of the piece was passed over
use Rattle.std.proofs.Common.{◌≡◌}
use Rattle.text_match.proofs.BorderLemmas.{IsMatched}
use Rattle.text_match.proofs.needle.first_place.Given as goal

abbrev pub invariant-loop-byte : goal.invariant-loop-byte
invariant-loop-byte l = record {
  counted : l.seen ≡ l.byte-index;
  matched : IsMatched l.piece l.text l.byte-index l.size;
}
