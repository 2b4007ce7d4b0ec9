use Rattle.std.proofs.Common.{◌∙◌, ℕ, List, [], Bor, slice_index_or, option_map, refl, sym, ap}
use Rattle.edge_main.specs.Commands.{is_dashed}
use Rattle.edge_main.proofs.WaitLemmas.{valued_first, passed_apart, passed_joined, left_passed}
use Rattle.edge_main.proofs.waiting_words.Wanted.pass_option.Goals as goal

pub returns-then-not-is_dashed-clause-left : goal.returns-then-not-is_dashed-clause-left
returns-then-not-is_dashed-clause-left c =
    let reader = c.args.self.now in
    let none : Bor (List ℕ) = record { ref_ptr = (0, 0); now = [] } in
    left_passed reader.has_come reader.workers reader.words.now _ (slice_index_or reader.words.now 1 none) c.if-self.false
    (sym c.is_some.ensures ∙ c.if-is_some.false)
    (passed_apart reader.words.now none c.in-len2-up.len_at_least (sym c.eq.ensures ∙ c.if-eq.true)
    (ap is_dashed (sym c.as_bytes.ensures.value) ∙ sym c.is_dashed.ensures ∙ c.if-not-is_dashed.true))

pub returns-in-Some-clause-left : goal.returns-in-Some-clause-left
returns-in-Some-clause-left c =
    let reader = c.args.self.now in
    let none : Bor (List ℕ) = record { ref_ptr = (0, 0); now = [] } in
    let read = sym (ap (option_map (λ (value : Bor (List ℕ)). value.now)) c.in-Some.is) ∙ c.value_behind.ensures in
    left_passed reader.has_come reader.workers reader.words.now _ c.in-Some.value c.if-self.false (sym c.is_some.ensures ∙ c.if-is_some.false)
    (passed_joined reader.words.now none c.in-Some.value.now refl
    (valued_first (slice_index_or reader.words.now 0 none).now c.in-Some.value.now read))
