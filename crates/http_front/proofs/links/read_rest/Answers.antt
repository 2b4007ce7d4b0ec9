use Rattle.std.proofs.Common.{◌-◌, length, ap, arith, length-append}
use Rattle.http_front.proofs.LinkLemmas.{took_some}
use Rattle.http_front.proofs.links.read_rest.Goals as goal

pub returns-in_err-read_more-clause-took : goal.returns-in_err-read_more-clause-took
returns-in_err-read_more-clause-took g c =
    let before = c.loop-source.invariant.gave in
    let grown = ap length before.1.0 in
    let sizes = length-append c.args.came.now before.0 in
    let less = c.loop-source-test.true in
    let size = c.len.ensures in
    took_some g.S.Source.left g.S.Source.taken c.args.source.now c.loop-source.source c.read_more.new.source before.0
    (c.args.whole - length c.loop-source.came) (c.args.whole - length c.args.came.now) before.1.1 c.read_more.ensures.took
    (omega (arith, grown, sizes, less, size))

pub returns-then-branch-eq0-clause-took : goal.returns-then-branch-eq0-clause-took
returns-then-branch-eq0-clause-took g c =
    let before = c.loop-source.invariant.gave in
    let grown = ap length before.1.0 in
    let sizes = length-append c.args.came.now before.0 in
    let less = c.loop-source-test.true in
    let size = c.len.ensures in
    took_some g.S.Source.left g.S.Source.taken c.args.source.now c.loop-source.source c.read_more.new.source before.0
    (c.args.whole - length c.loop-source.came) (c.args.whole - length c.args.came.now) before.1.1 c.read_more.ensures.took
    (omega (arith, grown, sizes, less, size))
