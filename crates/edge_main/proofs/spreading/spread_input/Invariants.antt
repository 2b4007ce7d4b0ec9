use Rattle.std.proofs.Common.{◌≡◌}
use Rattle.edge_outside.specs.Reading.{weight}
use Rattle.edge_main.specs.Spreading.{IsUnderWay}
use Rattle.edge_main.proofs.spreading.spread_input.Given as goal

-- what the run has read, dealt, judged and written since it began; no call has failed
abbrev pub invariant-lines : goal.invariant-lines
invariant-lines g l = record {
  under_way : IsUnderWay l.spreading (g.S.Source.left l.fn.input) (g.S.Source.left l.input) (g.S.Source.taken l.fn.input)
      (g.S.Source.taken l.input) (g.K.Sink.got l.fn.out) (g.K.Sink.got l.out);
  input_kept : g.S.Source.faults l.input ≡ g.S.Source.faults l.fn.input;
  out_kept : g.K.Sink.faults l.out ≡ g.K.Sink.faults l.fn.out;
}

abbrev pub decreases-lines : goal.decreases-lines
decreases-lines g l = weight l.spreading.reader
