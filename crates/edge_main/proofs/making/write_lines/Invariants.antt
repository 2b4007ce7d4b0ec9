use Rattle.std.proofs.Common.{◌≡◌, ◌-◌, ◌≤◌, []}
use Rattle.std.specs.Io.KnownBytes.{Appends}
use Rattle.trace_form.specs.Made.{making}
use Rattle.edge_main.specs.Making.{made_lines}
use Rattle.edge_main.proofs.making.write_lines.Given as goal

-- the lines before the next one were written, and no write has failed
abbrev pub invariant-loop-next : goal.invariant-loop-next
invariant-loop-next g l = record {
  in_range : l.next ≤ l.count;
  made : l.made ≡ making l.seed l.next;
  lines : l.lines ≡ [];
  got : Appends (g.K.Sink.got l.fn.out) (g.K.Sink.got l.out) (made_lines l.seed l.next);
  kept : g.K.Sink.faults l.out ≡ g.K.Sink.faults l.fn.out;
}

abbrev pub decreases-loop-next : goal.decreases-loop-next
decreases-loop-next g l = l.count - l.next
