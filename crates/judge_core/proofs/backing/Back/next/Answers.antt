use Rattle.std.proofs.Common.{sym, ◌∙◌}
use Rattle.judge_core.proofs.BackLemmas.{tells_counted, tells_asked, tells_reply}
use Rattle.judge_core.proofs.backing.Back.next.Goals as goal

pub returns-in-Counts-clause-turns : goal.returns-in-Counts-clause-turns
returns-in-Counts-clause-turns g c =
    λ course stands.
    let here = sym c.take.ensures.value ∙ c.in-Some.is in
    tells_counted g.listed course c.in-Some.backing c.proceed_back.new.backing c.args.answer c.in-Counts.counted
    (rw here at c.requires.0) (rw here at stands) (rw here at c.requires.1)
    c.proceed_back.ensures.config c.proceed_back.ensures.at c.proceed_back.ensures.kept
    (rw c.in-Counts.is at c.in_ok-counted.ensures.goes)

pub returns-in-Asks-clause-turns : goal.returns-in-Asks-clause-turns
returns-in-Asks-clause-turns g c =
    λ course stands.
    let here = sym c.take.ensures.value ∙ c.in-Some.is in
    tells_asked g.listed course c.in-Some.backing c.proceed_back.new.backing c.args.answer c.in-Asks.ask c.in-Asks.asked
    (rw here at c.requires.0) (rw here at stands) (rw here at c.requires.1)
    c.proceed_back.ensures.config c.proceed_back.ensures.at c.proceed_back.ensures.kept
    (rw c.in-Asks.is at c.in_ok-counted.ensures.goes)

pub returns-in_ok-reply_of-in-Ended-clause-turns : goal.returns-in_ok-reply_of-in-Ended-clause-turns
returns-in_ok-reply_of-in-Ended-clause-turns g c =
    λ course stands.
    let here = sym c.take.ensures.value ∙ c.in-Some.is in
    tells_reply g.listed course c.in-Some.backing c.proceed_back.new.backing c.args.answer c.in_ok-reply_of-in-Ended.field-0
    (rw here at stands) (rw here at c.requires.1) c.proceed_back.ensures.at c.proceed_back.ensures.kept
    (rw c.in-Ended.is at c.in_ok-counted.ensures.goes) c.in_ok-reply_of-in-Ended.ensures
