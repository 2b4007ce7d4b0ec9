use Rattle.std.proofs.Common.{◌≡◌, ◌+◌, ◌^◌, length, arith, sym, ap, subst, ◌∙◌}
use Rattle.std.proofs.lemmas.List.Edits.{between_none}
use Rattle.edge_outside.specs.Held.{Cut, Looked}
use Rattle.edge_outside.proofs.SliceLemmas.{held, cut-found, looked-none, slice_range-split}
use Rattle.edge_outside.proofs.buffer.Buffer.cut.Goals as goal

pub invariant_of-self-in-None : goal.invariant_of-self-in-None
invariant_of-self-in-None c =
    let i = c.self.invariant in
    let b = c.self.inside in
    let nowhere = rw c.deref.ensures.value at c.in-None.ensures in
    (i.0, i.1, i.2, omega arith, omega arith, i.5, looked-none b.bytes.items b.from b.looked b.to i.3 i.4 i.6 nowhere)

pub returns-in-Some : goal.returns-in-Some
returns-in-Some c =
    let i = c.self.invariant in
    let b = c.self.inside in
    let first = rw c.deref.ensures.value at c.in-Some.ensures in
    let size : length b.bytes.items ≡ 2 ^ 20 = sym (ap length c.deref.ensures.value) ∙ c.deref.ensures.len ∙ i.0 in
    let at = c.in-Some.at in
    subst (λ before. Cut before (held b.bytes.items b.from (b.looked + at) (b.looked + at + 1) (b.looked + at + 1) b.to)) c.self.view_is
    (cut-found b.bytes.items b.line_from b.line_to b.from b.looked b.to at i.3 i.4 (omega arith) size i.6 first)

pub returns-in-None : goal.returns-in-None
returns-in-None c =
    let i = c.self.invariant in
    let b = c.self.inside in
    let nowhere = rw c.deref.ensures.value at c.in-None.ensures in
    subst (λ before. Looked before (held b.bytes.items b.line_from b.line_to b.from b.to b.to)) c.self.view_is
    (record {
      is_begun = slice_range-split b.bytes.items b.from b.looked b.to i.3 i.4;
      is_rest = between_none b.bytes.items b.to;
      no_newline = looked-none b.bytes.items b.from b.looked b.to i.3 i.4 i.6 nowhere;
    })
