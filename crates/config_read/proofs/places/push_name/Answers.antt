use Rattle.std.proofs.Common.{◌++◌, ◌∙◌, sym, ap, take, get_or, append_assoc}
use Rattle.edge_base.specs.Printed.{escaped}
use Rattle.config_read.specs.Places.{pointed, placed}
use Rattle.config_read.proofs.PlaceLemmas.{placed-take_more}
use Rattle.config_read.proofs.places.push_name.Goals as goal

pub loop-byte-preserved : goal.loop-byte-preserved
loop-byte-preserved c =
    let name = c.args.name.now in
    let i = c.loop-byte.byte-index in
    let begun = c.args.out.now in
    c.in_ok-push_byte.ensures
    ∙ ap (λ front. front ++ escaped (pointed (get_or name i 0))) c.loop-byte.invariant
    ∙ append_assoc begun (placed (take i name)) (escaped (pointed (get_or name i 0)))
    ∙ ap (λ rest. begun ++ rest) (sym (placed-take_more name i c.loop-byte-test.true))
