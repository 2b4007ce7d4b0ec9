use Rattle.std.proofs.Common.{◌≡◌, ◌-◌, ◌≤◌, length}
use Rattle.edge_outside.specs.Told.{Gave}
use Rattle.httparse.specs.Grammar.{HasNoRequest}
use Rattle.http_front.specs.declared.places.Place.TheVariants as place
use Rattle.http_front.specs.Heads.{headers_max, head_max}
use Rattle.http_front.specs.Places.{place_behind}
use Rattle.http_front.proofs.links.read_head.Given as goal

-- what came is all that was read, and holds no head yet
abbrev pub invariant-reading : goal.invariant-reading
invariant-reading g l = record {
  gave : Gave g.S.Source.left g.S.Source.taken l.fn.source l.source l.came;
  short : length l.came ≤ head_max;
  none : HasNoRequest l.came;
  place : l.place ≡ place_behind place.Front l.came;
  room : length l.places ≡ headers_max;
  kept : g.S.Source.faults l.source ≡ g.S.Source.faults l.fn.source;
  stays : g.S.Source.beside l.source ≡ g.S.Source.beside l.fn.source;
}

abbrev pub decreases-reading : goal.decreases-reading
decreases-reading g l = head_max - length l.came
