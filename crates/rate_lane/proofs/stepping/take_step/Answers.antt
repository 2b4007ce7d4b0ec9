use Rattle.std.proofs.Common.{length, OnOk, IfSome, IfNone, subst}
use Rattle.indexmap.specs.IndexMap.{IsUnchanged}
use Rattle.rate_lane.specs.Stepping.{StepsLive, GrowsRings}
use Rattle.rate_lane.proofs.IndexLemmas.{grown_ordered}
use Rattle.rate_lane.proofs.RingLemmas.{rings_live}
use Rattle.rate_lane.proofs.SweptLemmas.{live_steps}
use Rattle.rate_lane.proofs.stepping.take_step.Goals as goal

pub returns-in_default-clause-rings : goal.returns-in_default-clause-rings
returns-in_default-clause-rings c =
    let unchanged = subst (λ told. IfNone told (IsUnchanged c.args.index.now c.step_live.new.index)) c.in_default.is c.in_ok-answer.ensures.unchanged in
    subst (λ es. OnOk c.step_dead.result (GrowsRings es c.step_dead.new.index.entries c.args.ask.now c.args.at)) unchanged c.step_dead.ensures.rings

pub sweep-requires : goal.sweep-requires
sweep-requires c =
    let entries = c.args.index.now.entries in
    let stepped = c.step_live.new.index.entries in
    let st = subst (λ told. IfSome told (StepsLive entries stepped c.args.ask.now c.args.at)) c.in-Some.is c.in_ok-answer.ensures.live in
    record { ordered = grown_ordered entries stepped c.args.order.now c.args.ask.now.key st.old st.new c.requires st.found st.longer st.entries }

pub returns-clause-ok : goal.returns-clause-ok
returns-clause-ok c =
    let entries = c.args.index.now.entries in
    let stepped = c.step_live.new.index.entries in
    let st = subst (λ told. IfSome told (StepsLive entries stepped c.args.ask.now c.args.at)) c.in-Some.is c.in_ok-answer.ensures.live in
    live_steps entries stepped c.sweep.new.index.entries (length c.args.order.now) c.args.ask.now c.args.at c.in-Some.answer st c.sweep.ensures.kept

pub returns-clause-rings : goal.returns-clause-rings
returns-clause-rings c =
    let entries = c.args.index.now.entries in
    let stepped = c.step_live.new.index.entries in
    let st = subst (λ told. IfSome told (StepsLive entries stepped c.args.ask.now c.args.at)) c.in-Some.is c.in_ok-answer.ensures.live in
    rings_live entries stepped c.sweep.new.index.entries c.args.ask.now c.args.at c.in-Some.answer st c.sweep.ensures.kept
