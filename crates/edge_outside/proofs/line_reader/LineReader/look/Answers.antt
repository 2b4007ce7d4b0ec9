use Rattle.std.proofs.Common.{◌≡◌, ℕ, List, [], Some, None, arith, length-append, refl, sym, ap, subst, ◌∙◌, ◌^◌, ◌≤◌, length}
use Rattle.edge_outside.specs.Held.{Held, Cut}
use Rattle.edge_outside.specs.Lines.{NoNewline}
use Rattle.edge_outside.specs.Reading.{line_of, StepOf}
use Rattle.edge_outside.specs.declared.line_reader.LineReader.{LineReader}
use Rattle.edge_outside.proofs.ReadingLemmas.{stands-cut, stands-aside, stands-past, bare}
use Rattle.edge_outside.proofs.line_reader.LineReader.look.Goals as goal

-- a buffer after its cut
abbrev cut_whole : List ℕ → List ℕ → Held
cut_whole line rest = record { line = line; begun = []; rest = rest }

pub returns-then-cut-clause-found : goal.returns-then-cut-clause-found
returns-then-cut-clause-found c left text before =
    let old = c.args.self.now in
    let new = c.answer.new.self in
    let after = c.answer.ensures.after in
    let cut = rw c.if-cut.true at c.cut.ensures in
    subst (λ step. StepOf step new left text) (sym c.answer.ensures.step)
    (stands-cut old new left text (subst (Cut old.buffer) (sym (ap (λ (r : LineReader). r.buffer) after)) cut)
    (ap (λ (r : LineReader). r.aside) after) (ap (λ (r : LineReader). r.long) after) before)

pub returns-then-byte-eq10-clause-found : goal.returns-then-byte-eq10-clause-found
returns-then-byte-eq10-clause-found c left text before =
    let old = c.args.self.now in
    let new = c.answer-then-byte-eq10.new.self in
    let after = c.answer-then-byte-eq10.ensures.after in
    let looked = rw c.if-cut.false at c.cut.ensures in
    let whole = c.cut_begun.ensures.value in
    let buffer = ap (λ (r : LineReader). r.buffer) after ∙ whole in
    let line : line_of new ≡ c.cut.new.self.begun = ap (λ (h : Held). h.line) buffer in
    subst (λ step. StepOf step new left text) (sym c.answer-then-byte-eq10.ensures.step)
    (stands-aside old new left text (c.in-Some.is ∙ ap Some c.if-byte-eq10.true) (line ∙ looked.is_begun)
    (subst NoNewline (sym line) c.cut_begun.ensures.no_newline) (subst (λ l. length l ≤ 2 ^ 20) (sym line) c.cut_begun.ensures.fits)
    (bare new.buffer new.aside _ (buffer ∙ ap (cut_whole c.cut.new.self.begun) looked.is_rest) (ap (λ (r : LineReader). r.aside) after))
    (ap (λ (r : LineReader). r.long) after) before)

pub returns-else-byte-eq10-clause-none : goal.returns-else-byte-eq10-clause-none
returns-else-byte-eq10-clause-none c left text before =
    let old = c.args.self.now in
    let looked = rw c.if-cut.false at c.cut.ensures in
    let whole = c.cut_begun.ensures.value in
    let full = rw c.in-Some.is at old.full in
    let size = ap length looked.is_begun ∙ length-append old.buffer.begun old.buffer.rest in
    stands-past old _ left text c.cut.new.self.begun c.in-Some.byte c.in-Some.is c.if-byte-eq10.false looked.is_begun
    c.cut_begun.ensures.no_newline (omega (arith, (full refl).0))
    (bare c.cut_begun.new.self None _ (whole ∙ ap (cut_whole c.cut.new.self.begun) looked.is_rest) refl) refl before
