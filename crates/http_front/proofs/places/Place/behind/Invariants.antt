-- the place behind the bytes before the next one
use Rattle.std.proofs.Common.{◌≡◌, take}
use Rattle.http_front.specs.Places.{place_behind}
use Rattle.http_front.proofs.places.Place.behind.Given as goal

abbrev pub invariant-loop-byte : goal.invariant-loop-byte
invariant-loop-byte l = l.place ≡ place_behind l.fn.self (take l.byte-index l.bytes)
