-- Working vocabulary, which no public clause cites.
-- Where the bytes of a head that came so far end, line by line.
use Rattle.std.specs.Prelude.{ℕ, Bool, true, false, ◌==◌, ◌||◌, if◌then◌else◌, List, [], ◌∷◌}
use Rattle.edge_base.specs.Bytes.{newline, carriage_return}
use Rattle.http_front.specs.declared.places.Place.{Place}
use Rattle.http_front.specs.declared.places.Place.TheVariants as place

-- the place one byte on
abbrev pub place_after : Place → ℕ → Place
place_after place.Front byte = if byte == carriage_return || byte == newline then place.Front else place.Line
place_after place.Line byte = if byte == newline then place.Start else place.Line
place_after place.Start byte =
    if byte == newline then place.Ended else (if byte == carriage_return then place.Return else place.Line)
place_after place.Return byte = if byte == newline then place.Ended else place.Line
place_after place.Ended byte = place.Ended

-- the place behind some bytes
abbrev pub place_behind : Place → List ℕ → Place
place_behind before [] = before
place_behind before (byte ∷ bytes) = place_behind (place_after before byte) bytes

-- an empty line came behind one that isn't
abbrev pub is_ended : Place → Bool
is_ended place.Front = false
is_ended place.Line = false
is_ended place.Start = false
is_ended place.Return = false
is_ended place.Ended = true
