use Rattle.std.proofs.Common.{◌≡◌, ℕ, ◌-◌, ◌^◌, ◌≤◌, List}
use Rattle.edge_outside.specs.Reading.{Stands, TakesOn, weight}
use Rattle.edge_outside.proofs.line_reader.LineReader.next.Given as goal

-- the reader stands before the same text, and has only taken bytes
abbrev pub invariant-reading : goal.invariant-reading
invariant-reading g l = record {
  lines : (text : List ℕ) → Stands l.fn.self (g.S.Source.left l.fn.source) text → Stands l.self (g.S.Source.left l.source) text;
  kept : g.S.Source.faults l.source ≡ g.S.Source.faults l.fn.source;
  taken : TakesOn g.S.Source.left g.S.Source.taken l.fn.source l.source l.fn.self l.self;
  weight : weight l.self ≤ weight l.fn.self;
}

abbrev pub decreases-reading : goal.decreases-reading
decreases-reading g l = 2 ^ 40 - l.self.taken
