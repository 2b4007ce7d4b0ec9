use Rattle.std.proofs.Common.{◌≡◌, ◌≢◌, ◌⊎◌, ℕ, List, inl, inr, [], true, sym, ap, subst, ◌∙◌, ◌^◌, ◌≤◌, length}
use Rattle.edge_outside.specs.Held.{Held}
use Rattle.edge_outside.specs.Lines.{NoNewline}
use Rattle.edge_outside.specs.Reading.{line_of, StepOf}
use Rattle.edge_outside.specs.declared.line_reader.LineReader.{LineReader}
use Rattle.edge_outside.proofs.ReadingLemmas.{stands-last, bare}
use Rattle.edge_outside.proofs.line_reader.LineReader.finish.Goals as goal
use Rattle.edge_outside.proofs.line_reader.LineReader.finish.Goals.{else-bare-via-then-bare+else-not-self, else-bare-via-else-bare}

-- a buffer after its cut
abbrev cut_whole : List ℕ → List ℕ → Held
cut_whole line rest = record { line = line; begun = []; rest = rest }

pub returns-clause-lines : goal.returns-clause-lines
returns-clause-lines c left text end before =
    let old = c.args.self.now in
    let new = c.answer.new.self in
    let after = c.answer.ensures.after in
    let whole = c.cut_begun.ensures.value in
    let buffer = ap (λ (r : LineReader). r.buffer) after ∙ whole in
    let line : line_of new ≡ old.buffer.begun = ap (λ (h : Held). h.line) buffer in
    let some : (old.buffer.begun ≢ []) ⊎ (old.long ≡ true) = elim c.else-bare.branch [
      | else-bare-via-then-bare+else-not-self w ↦ inr w.if-not-self.false
      | else-bare-via-else-bare w ↦ inl (λ e. let bare = c.is_bare-bare.ensures.1 e in let other = w.if-bare.false in cc)
    ] in
    subst (λ step. StepOf step new left text) (sym c.answer.ensures.step)
    (stands-last old new left text end c.requires.0 c.requires.1 line
    (subst NoNewline (sym line) c.cut_begun.ensures.no_newline) (subst (λ l. length l ≤ 2 ^ 20) (sym line) c.cut_begun.ensures.fits)
    (bare new.buffer new.aside _ (buffer ∙ ap (cut_whole old.buffer.begun) c.requires.0) (ap (λ (r : LineReader). r.aside) after ∙ c.requires.1))
    (ap (λ (r : LineReader). r.long) after) some before)
