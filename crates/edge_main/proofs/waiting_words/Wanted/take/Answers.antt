use Rattle.std.proofs.Common.{rules, ◌≡◌, ◌∙◌, ℕ, List, [], Bor, true, false, codes, bytes_eq, slice_index_or, sym, ap}
use Rattle.edge_main.specs.Commands.{is_dashed}
use Rattle.edge_main.specs.WaitCommands.{waiting_wanted}
use Rattle.edge_main.proofs.WaitLemmas.{nothing_left, place_taken}
use Rattle.edge_main.proofs.waiting_words.Wanted.take.Goals as goal

pub returns-then-not-is_dashed : goal.returns-then-not-is_dashed
returns-then-not-is_dashed c =
    let left = c.pass_option.new.self in
    let none : Bor (List ℕ) = record { ref_ptr = (0, 0); now = [] } in
    let place : is_dashed (slice_index_or left.words.now 0 none).now ≡ false = search rules in
    sym c.pass_option.ensures.left ∙ place_taken left.has_come left.workers left.words.now none c.in-len1-up.len_at_least c.if-self.false place

pub returns-then-ne : goal.returns-then-ne
returns-then-ne c =
    let left = c.pass_option.new.self in
    let none : Bor (List ℕ) = record { ref_ptr = (0, 0); now = [] } in
    let dashed : is_dashed (slice_index_or left.words.now 0 none).now ≡ true = search rules in
    let other : bytes_eq (slice_index_or left.words.now 0 none).now (codes "--") ≡ false = search rules in
    ap waiting_wanted
    (sym c.pass_option.ensures.left
    ∙ nothing_left left.has_come left.workers left.words.now none c.in-len1-up.len_at_least c.if-self.false dashed other
    c.pass_option.ensures.past)
