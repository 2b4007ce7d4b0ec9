use Rattle.std.proofs.Common.{◌≡◌, length}
use Rattle.std.specs.Vec.Iter.{into_iter_items, into_iter_len}
use Rattle.edge_core.specs.Runs.{RunsSo}
use Rattle.edge_core.specs.Stands.{IsSomewhere}
use Rattle.edge_core.proofs.running.run.Given as goal

abbrev pub ghost-apply : goal.ghost-apply
ghost-apply g a = g.meaning

-- the world is where the events so far have led; and the iterator counts what is left
abbrev pub invariant-loop-event : goal.invariant-loop-event
invariant-loop-event g l = record {
  somewhere : IsSomewhere g.T.Tally.stands g.meaning l.world;
  run : RunsSo g.T.Tally.stands g.meaning (into_iter_items l.initial.event-iterator) l.fn.world l.world (into_iter_items l.event-iterator) l.shown.items;
  left : into_iter_len l.event-iterator ≡ length (into_iter_items l.event-iterator);
}
