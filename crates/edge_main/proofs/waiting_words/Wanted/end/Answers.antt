use Rattle.std.proofs.Common.{rules, ◌≡◌, ◌∙◌, ◌≤◌, ℕ, List, [], Bor, true, false, length, codes, bytes_eq, slice_index_or, arith, sym, ap}
use Rattle.edge_main.specs.WaitCommands.{at_end}
use Rattle.edge_main.proofs.WaitLemmas.{ends_early}
use Rattle.edge_main.proofs.waiting_words.Wanted.end.Goals.{in-len1+then-not-self+else-eq, in-len1+else-not-self, else-this-lt2}
use Rattle.edge_main.proofs.waiting_words.Wanted.end.Goals as goal

pub returns-in-len1-up : goal.returns-in-len1-up
returns-in-len1-up c =
    let left = c.pass_option.new.self in
    let none : Bor (List ℕ) = record { ref_ptr = (0, 0); now = [] } in
    let same = ap at_end c.pass_option.ensures.left in
    elim c.in-len1-up-1.branch [
      | in-len1+then-not-self+else-eq w ↦
          let some : 1 ≤ length left.words.now = search rules in
          ends_early left.has_come left.workers left.words.now none some (λ one early. sym w.eq.ensures ∙ w.if-eq.false) c.pass_option.ensures.past ∙ same
      | in-len1+else-not-self w ↦
          let some : 1 ≤ length left.words.now = search rules in
          let late : left.has_come ≡ true = search rules in
          ends_early left.has_come left.workers left.words.now none some (λ one early. let never : true ≡ false = sym late ∙ early in absurd cc)
          c.pass_option.ensures.past ∙ same
      | else-this-lt2 w ↦
          let two : 2 ≤ length left.words.now = search rules in
          ends_early left.has_come left.workers left.words.now none (omega (arith, two)) (λ one early. absurd (omega (arith, two, one)))
          c.pass_option.ensures.past ∙ same
    ]
