use Rattle.std.proofs.Common.{◌≡◌, ◌∙◌, ℕ, ◌+◌, List, ◌++◌, length, Option, arith, length-append}
use Rattle.std.specs.Io.KnownBytes.{Appends, Consumes}
use Rattle.std.proofs.KnownBytes.{Appends-trans, Consumes-trans}
use Rattle.edge_outside.proofs.ReadingLemmas.{stands-took, weight-took, ahead-in_line}
use Rattle.edge_outside.proofs.line_reader.LineReader.next.Goals as goal

-- bytes were taken twice
taken-more : (left now more taken had has : Option (List ℕ)) (before at after : ℕ)
    → ((bytes : List ℕ) × Consumes left now bytes × Appends taken had bytes × (at ≡ before + length bytes))
    → (bytes : List ℕ) → Consumes now more bytes × Appends had has bytes → after ≡ at + length bytes
    → (bytes : List ℕ) × Consumes left more bytes × Appends taken has bytes × (after ≡ before + length bytes)
taken-more left now more taken had has before at after first bytes gave is = (
  first.0 ++ bytes,
  Consumes-trans left now more first.0 bytes first.1 gave.0,
  Appends-trans taken had has first.0 bytes first.2 gave.1,
  omega (arith, length-append first.0 bytes, first.3),
)

pub returns-in-Err-clause-lines : goal.returns-in-Err-clause-lines
returns-in-Err-clause-lines g c text before =
    let took = c.read_on.ensures.took in
    stands-took c.look.new.self c.read_on.new.self _ _ took.0 text took.1 took.2.0
    (c.in_default.ensures.none _ text (c.reading.invariant.lines text before))

pub returns-in-Err-clause-taken : goal.returns-in-Err-clause-taken
returns-in-Err-clause-taken g c =
    let took = c.read_on.ensures.took in
    taken-more _ _ _ _ _ _ _ c.reading.self.taken _ c.reading.invariant.taken took.0 took.2
    (omega (arith, took.1.is_taken, c.look.ensures.taken))

pub returns-in-Err-clause-in_line : goal.returns-in-Err-clause-in_line
returns-in-Err-clause-in_line g c fault =
    let took = c.read_on.ensures.took in
    ahead-in_line c.look.new.self c.read_on.new.self took.0 c.in_default.ensures.looked c.in_default.ensures.no_newline took.1 c.in-Err.ensures.err

pub returns-in-Ok-eq0-clause-lines : goal.returns-in-Ok-eq0-clause-lines
returns-in-Ok-eq0-clause-lines g c text before =
    let took = c.read_on.ensures.took in
    let stands = stands-took c.look.new.self c.read_on.new.self _ _ took.0 text took.1 took.2.0
    (c.in_default.ensures.none _ text (c.reading.invariant.lines text before)) in
    c.finish.ensures.lines _ text (c.in-Ok-eq0.ensures.end c.in-Ok-eq0.field-0-test).0 stands

pub returns-in-Ok-eq0-clause-taken : goal.returns-in-Ok-eq0-clause-taken
returns-in-Ok-eq0-clause-taken g c =
    let took = c.read_on.ensures.took in
    taken-more _ _ _ _ _ _ _ c.reading.self.taken _ c.reading.invariant.taken took.0 took.2
    (omega (arith, took.1.is_taken, c.look.ensures.taken, c.finish.ensures.taken))

pub reading-preserved : goal.reading-preserved
reading-preserved g c =
    let took = c.read_on.ensures.took in
    record {
      lines = λ text before. stands-took c.look.new.self c.read_on.new.self _ _ took.0 text took.1 took.2.0
          (c.in_default.ensures.none _ text (c.reading.invariant.lines text before));
      kept = c.in-Ok.ensures.kept ∙ c.reading.invariant.kept;
      taken = taken-more _ _ _ _ _ _ _ c.reading.self.taken _ c.reading.invariant.taken took.0 took.2
          (omega (arith, took.1.is_taken, c.look.ensures.taken));
      weight = omega (arith, weight-took c.look.new.self c.read_on.new.self took.0 took.1, c.look.ensures.weight, c.reading.invariant.weight);
    }
