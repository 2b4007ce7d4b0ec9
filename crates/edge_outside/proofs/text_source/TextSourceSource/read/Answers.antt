use Rattle.std.proofs.Common.{◌≡◌, ℕ, ◌+◌, List, ◌++◌, take, drop, refl, sym, ap, ap₂, subst, ◌∙◌}
use Rattle.std.proofs.lemmas.List.{take_rest}
use Rattle.std.proofs.Math.Seq.{take-add, drop-drop}
use Rattle.edge_outside.specs.Faults.{next_count}
use Rattle.edge_outside.specs.InMemory.{Supply, after_read}
use Rattle.edge_outside.proofs.text_source.TextSourceSource.read.Goals as goal

abbrev supply : List ℕ → ℕ → ℕ → List ℕ → ℕ → ℕ → Supply
supply bytes at piece fail_at calls faults = record {
  taken = take at bytes;
  left = drop at bytes;
  piece = piece;
  fail_at = fail_at;
  calls = calls;
  faults = faults;
}

-- a source that goes on by n bytes is what a read of n bytes leaves
gone_on : (bytes fail_at : List ℕ) (at n piece calls more faults : ℕ) (now : Supply)
    → supply bytes at piece fail_at calls faults ≡ now → more ≡ next_count calls
    → supply bytes (at + n) piece fail_at more faults ≡ after_read now n
gone_on bytes fail_at at n piece calls more faults now is count =
    subst (λ source. supply bytes (at + n) piece fail_at more faults ≡ after_read source n) is
    (rw (take-add at n bytes, sym (drop-drop n at bytes), count) refl)

pub returns-clause-told : goal.returns-clause-told
returns-clause-told c =
    let n = c.copy_front-count.result in
    let at = c.self.inside.at in
    let bytes = c.self.inside.bytes in
    let copied = c.copy_front-count.ensures.copied ∙ ap (take n) (take_rest c.bytes.result.now at ∙ ap (drop at) c.bytes.ensures) in
    take-add at n bytes ∙ ap₂ (λ xs ys. xs ++ ys) (ap (λ s. s.taken) c.self.view_is) (sym copied)

pub returns-clause-ok : goal.returns-clause-ok
returns-clause-ok c =
    let inside = c.self.inside in
    gone_on inside.bytes inside.fail_at inside.at c.copy_front-count.result inside.piece inside.calls _ inside.faults _
    c.self.view_is c.saturating_add-self-inside.ensures
