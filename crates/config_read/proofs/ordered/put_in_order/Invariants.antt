use Rattle.std.proofs.Common.{◌≡◌, map, drop}
use Rattle.config_read.specs.Members.{shown, kept}
use Rattle.config_read.specs.Rewrites.{put_in_order, in_order}
use Rattle.config_read.proofs.OrderLemmas.{AreKeyed}
use Rattle.config_read.proofs.ordered.put_in_order.Given as goal

-- the members that are left are put in order behind those that are
abbrev pub invariant-loop-entry : goal.invariant-loop-entry
invariant-loop-entry l = record {
  keyed : AreKeyed l.ordered.entries;
  order : put_in_order (map kept l.ordered.entries) (map shown (drop l.entry-index l.entries)) ≡ in_order (map shown l.entries);
}
