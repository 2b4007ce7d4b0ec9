use Rattle.std.proofs.Common.{sym, ◌∙◌}
use Rattle.judge_core.proofs.StandsLemmas.{tells_ask, tells_closed, tells_passed}
use Rattle.judge_core.proofs.judging.Judge.next.Goals as goal

pub returns-in-Asks-clause-turns : goal.returns-in-Asks-clause-turns
returns-in-Asks-clause-turns g c =
    λ course stands.
    let here = sym c.take.ensures.value ∙ c.in-Some.is in
    tells_ask g.listed course c.in-Some.running c.proceed.new.running c.args.answer c.in-Asks.ask c.in-Asks.asked
    (rw here at c.requires.0) (rw here at stands) (rw here at c.requires.1) c.proceed.ensures.same
    (rw c.in-Asks.is at c.in_ok-ask.ensures.goes)

pub returns-in_ok-finish-in-Closed-clause-turns : goal.returns-in_ok-finish-in-Closed-clause-turns
returns-in_ok-finish-in-Closed-clause-turns g c =
    λ course stands.
    let here = sym c.take.ensures.value ∙ c.in-Some.is in
    tells_closed g.listed course c.in-Some.running c.proceed.new.running c.args.answer c.in-Closed.kind c.in-Closed.name
    c.in_ok-finish-in-Closed.field-0 (rw here at stands) (rw here at c.requires.1) c.proceed.ensures.same
    (rw c.in-Closed.is at c.in_ok-ask.ensures.goes) c.in_ok-finish-in-Closed.ensures

pub returns-in_ok-finish-in-Passed-clause-turns : goal.returns-in_ok-finish-in-Passed-clause-turns
returns-in_ok-finish-in-Passed-clause-turns g c =
    λ course stands.
    let here = sym c.take.ensures.value ∙ c.in-Some.is in
    tells_passed g.listed course c.in-Some.running c.proceed.new.running c.args.answer
    c.in_ok-finish-in-Passed.field-0 (rw here at stands) (rw here at c.requires.1) c.proceed.ensures.same
    (rw c.in-Passed.is at c.in_ok-ask.ensures.goes) c.in_ok-finish-in-Passed.ensures
