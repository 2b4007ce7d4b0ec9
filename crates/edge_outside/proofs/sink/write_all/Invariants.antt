use Rattle.std.proofs.Common.{◌≡◌, ◌-◌, ◌≤◌, length, take}
use Rattle.std.specs.Io.KnownBytes.{Appends}
use Rattle.edge_outside.proofs.sink.write_all.Given as goal

-- the bytes up to `at` were written, and nothing else changed
abbrev pub invariant-loop-at : goal.invariant-loop-at
invariant-loop-at g l = record {
  in_range : l.at ≤ length l.bytes;
  got : Appends (g.K.Sink.got l.fn.sink) (g.K.Sink.got l.sink) (take l.at l.bytes);
  stays : g.K.Sink.beside l.sink ≡ g.K.Sink.beside l.fn.sink;
  kept : g.K.Sink.faults l.sink ≡ g.K.Sink.faults l.fn.sink;
}

abbrev pub decreases-loop-at : goal.decreases-loop-at
decreases-loop-at g l = length l.bytes - l.at
