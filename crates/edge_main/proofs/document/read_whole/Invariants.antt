use Rattle.std.proofs.Common.{◌≡◌, ◌<◌, ◌-◌, ◌^◌, length}
use Rattle.edge_main.specs.Document.{IsReading}
use Rattle.edge_main.proofs.document.read_whole.Given as goal

-- what was taken so far and is kept of it; no read has failed
abbrev pub invariant-reading : goal.invariant-reading
invariant-reading g l = record {
  reads : IsReading l.kept l.taken (g.S.Source.left l.fn.input) (g.S.Source.left l.input) (g.S.Source.taken l.fn.input) (g.S.Source.taken l.input);
  room : 0 < length l.piece;
  steady : g.S.Source.faults l.input ≡ g.S.Source.faults l.fn.input;
}

abbrev pub decreases-reading : goal.decreases-reading
decreases-reading g l = 2 ^ 40 - l.taken
