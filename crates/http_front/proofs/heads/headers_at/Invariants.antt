-- the headers at the places before the next one
use Rattle.std.proofs.Common.{◌≡◌, map, take}
use Rattle.http_front.specs.Steps.{header_at}
use Rattle.http_front.proofs.heads.headers_at.Given as goal

abbrev pub invariant-loop-place : goal.invariant-loop-place
invariant-loop-place l = l.headers ≡ map (header_at l.bytes) (take l.place-index l.places)
