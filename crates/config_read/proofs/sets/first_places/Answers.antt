use Rattle.std.proofs.Common.{◌≡◌, subst, arith}
use Rattle.config_read.proofs.IdLemmas.{AreFirstFrom, from_first}
use Rattle.config_read.proofs.sets.first_places.Goals as goal

pub returns : goal.returns
returns c =
    let ended : c.loop-at.at ≡ 0 = omega (arith, c.loop-at-test.false) in
    from_first c.args.values.now c.loop-at.ids (subst (λ at. AreFirstFrom c.loop-at.ids c.args.values.now at) ended c.loop-at.invariant.places)
