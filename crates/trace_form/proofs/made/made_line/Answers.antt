use Rattle.std.proofs.Common.{ap, ◌∙◌}
use Rattle.trace_form.specs.Made.{made_line}
use Rattle.trace_form.proofs.MadeLemmas.{state-next, line-next}
use Rattle.trace_form.proofs.made.made_line.Goals as goal

pub invariant_of-state-2 : goal.invariant_of-state-2
invariant_of-state-2 c =
    let made = c.state.inside in
    let same = ap (λ m. m.next) c.state.view_is ∙ c.requires.in_order in
    state-next made.seed made.next c.args.index made.number made.moment _ _ _ same c.if-index-eq0.false c.requires.within c.state.invariant
    c.next_number-number.ensures c.drawn-drawn.ensures c.pause_of.ensures.value

pub returns-clause-ok : goal.returns-clause-ok
returns-clause-ok c =
    let made = c.state.inside in
    let same = ap (λ m. m.next) c.state.view_is ∙ c.requires.in_order in
    let from_seed = ap (λ m. m.seed) c.state.view_is ∙ c.requires.from_seed in
    c.in_ok-text-2.ensures
    ∙ line-next made.seed made.next c.args.index made.number made.moment _ _ _ same c.if-index-eq0.false c.state.invariant
    c.next_number-number.ensures c.drawn-drawn.ensures c.pause_of.ensures.value
    ∙ ap (λ seed. made_line seed c.args.index) from_seed
