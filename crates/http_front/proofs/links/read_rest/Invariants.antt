use Rattle.std.proofs.Common.{◌≡◌, ◌-◌, ◌≤◌, ◌⊎◌, length}
use Rattle.http_front.specs.Steps.{TookOn}
use Rattle.http_front.proofs.links.read_rest.Given as goal

-- only bytes were read, and came
abbrev pub invariant-loop-source : goal.invariant-loop-source
invariant-loop-source g l = record {
  gave : TookOn g.S.Source.left g.S.Source.taken l.fn.source l.source l.fn.came l.came;
  just : (l.came ≡ l.fn.came) ⊎ (length l.came ≤ l.whole);
  kept : g.S.Source.faults l.source ≡ g.S.Source.faults l.fn.source;
  stays : g.S.Source.beside l.source ≡ g.S.Source.beside l.fn.source;
}

abbrev pub decreases-loop-source : goal.decreases-loop-source
decreases-loop-source g l = l.whole - length l.came
