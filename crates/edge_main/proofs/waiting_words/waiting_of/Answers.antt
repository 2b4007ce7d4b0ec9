use Rattle.std.proofs.Common.{◌∙◌, sym, ap}
use Rattle.edge_main.specs.WaitCommands.{waiting_wanted, left_in}
use Rattle.edge_main.proofs.WaitLemmas.{named_by, named_nothing, named_replay, named_other, ended}
use Rattle.edge_main.proofs.waiting_words.waiting_of.Goals as goal

pub returns-in_err-workers-clause-workers : goal.returns-in_err-workers-clause-workers
returns-in_err-workers-clause-workers c =
    let name = c.in_ok-name.name.now in
    let whole = ap waiting_wanted (sym c.new-wanted.ensures ∙ c.in_ok-name.ensures) ∙ ended name (left_in c.take.new.self) in
    c.from_residual-in_err-workers.ensures ∙ sym (whole ∙ ap (named_by name) (sym c.in_err-workers.ensures) ∙ named_nothing name)

pub returns-then-eq-clause-workers : goal.returns-then-eq-clause-workers
returns-then-eq-clause-workers c =
    let name = c.in_ok-name.name.now in
    let value = c.in_ok-workers.workers.now in
    let whole = ap waiting_wanted (sym c.new-wanted.ensures ∙ c.in_ok-name.ensures) ∙ ended name (left_in c.take.new.self) in
    c.workers_of.ensures.workers
    ∙ sym (whole ∙ ap (named_by name) (sym c.in_ok-workers.ensures) ∙ named_replay name value (sym c.eq.ensures ∙ c.if-eq.true))

pub returns-else-eq-clause-workers : goal.returns-else-eq-clause-workers
returns-else-eq-clause-workers c =
    let name = c.in_ok-name.name.now in
    let value = c.in_ok-workers.workers.now in
    let whole = ap waiting_wanted (sym c.new-wanted.ensures ∙ c.in_ok-name.ensures) ∙ ended name (left_in c.take.new.self) in
    sym (whole ∙ ap (named_by name) (sym c.in_ok-workers.ensures) ∙ named_other name value (sym c.eq.ensures ∙ c.if-eq.false))
