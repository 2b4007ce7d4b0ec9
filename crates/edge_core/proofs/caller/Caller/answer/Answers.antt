use Rattle.std.proofs.Common.{subst, sym}
use Rattle.edge_core.specs.Stands.{HasAsked, TakesAnswer}
use Rattle.edge_core.specs.declared.caller.Caller.{Caller}
use Rattle.edge_core.specs.declared.caller.Caller.TheVariants as caller
use Rattle.edge_core.proofs.MoveLemmas.{goes_on_told, goes_on_may, takes_answer, goes_back_told, goes_back_may, takes_answer_back, asks_nothing}
use Rattle.edge_core.proofs.caller.Caller.answer.Goals as goal

pub go_on-requires : goal.go_on-requires
go_on-requires g c =
    let has = subst (λ (one : Caller). HasAsked g.meaning one) c.in-Judging.is c.requires in
    (goes_on_told g.meaning c.in-Judging.judge c.in-Judging.field-1 has, goes_on_may g.meaning c.in-Judging.judge c.in-Judging.field-1 c.args.answer has)

pub go_back_on-requires : goal.go_back_on-requires
go_back_on-requires g c =
    let has = subst (λ (one : Caller). HasAsked g.meaning one) c.in-Backing.is c.requires in
    (goes_back_told g.meaning c.in-Backing.back c.in-Backing.field-1 has, goes_back_may g.meaning c.in-Backing.back c.in-Backing.field-1 c.args.answer has)

pub returns-in_ok-judge-in-Judging : goal.returns-in_ok-judge-in-Judging
returns-in_ok-judge-in-Judging g c =
    let judge = c.in_ok-judge-in-Judging.judge in
    let next = c.in_ok-judge-in-Judging.turn in
    let has = subst (λ (one : Caller). HasAsked g.meaning one) c.in-Judging.is c.requires in
    subst (λ (one : Caller). TakesAnswer g.meaning c.args.answer one (caller.Judging judge next)) (sym c.in-Judging.is)
    (takes_answer g.meaning c.in-Judging.judge c.in-Judging.field-1 c.args.answer judge next has c.in_ok-judge-in-Judging.ensures.tells
    c.in_ok-judge-in-Judging.ensures.going)

pub returns-in_ok-back-in-Backing : goal.returns-in_ok-back-in-Backing
returns-in_ok-back-in-Backing g c =
    let back = c.in_ok-back-in-Backing.back in
    let next = c.in_ok-back-in-Backing.turn in
    let has = subst (λ (one : Caller). HasAsked g.meaning one) c.in-Backing.is c.requires in
    subst (λ (one : Caller). TakesAnswer g.meaning c.args.answer one (caller.Backing back next)) (sym c.in-Backing.is)
    (takes_answer_back g.meaning c.in-Backing.back c.in-Backing.field-1 c.args.answer back next has c.in_ok-back-in-Backing.ensures.tells
    c.in_ok-back-in-Backing.ensures.going)

pub returns-in_default : goal.returns-in_default
returns-in_default g c parts is = absurd (asks_nothing g.meaning c.args.self c.requires c.in_default.not-Judging c.in_default.not-Backing)
