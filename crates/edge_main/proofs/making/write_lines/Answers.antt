use Rattle.std.proofs.Common.{◌≤◌, List, ℕ, refl, subst, arith}
use Rattle.std.proofs.KnownBytes.{Appends-nil}
use Rattle.std.specs.Io.KnownBytes.{Appends}
use Rattle.edge_base.proofs.FrontLemmas.{on_err_from}
use Rattle.edge_outside.specs.Told.{AppendsFront}
use Rattle.edge_main.specs.Making.{AddsLines}
use Rattle.edge_main.proofs.MakingLemmas.{no_lines, wrote_lines, cut_batch}
use Rattle.edge_main.proofs.making.write_lines.Goals as goal

pub loop-next-init : goal.loop-next-init
loop-next-init g c =
    let got = g.K.Sink.got c.args.out.now in
    record {
      in_range = omega arith;
      made = c.new-made.ensures;
      lines = c.new-lines.ensures;
      got = subst (λ (text : List ℕ). Appends got got text) (no_lines c.args.seed) (Appends-nil got);
      kept = refl;
    }

-- memory was refused: the batches before were written
pub returns-in_err-push_lines-clause-err : goal.returns-in_err-push_lines-clause-err
returns-in_err-push_lines-clause-err g c =
    on_err_from c.from_residual.result
    (wrote_lines c.args.seed c.loop-next.next c.args.count (g.K.Sink.got c.args.out.now) (g.K.Sink.got c.loop-next.out)
    c.loop-next.invariant.in_range c.loop-next.invariant.got)

-- a write failed: of this batch a front was written
pub returns-in_err-write_all-clause-err : goal.returns-in_err-write_all-clause-err
returns-in_err-write_all-clause-err g c =
    let before = c.loop-next.invariant in
    let from = c.loop-next.next in
    let to = c.min-to.result in
    let lines = c.push_lines.new.lines in
    let now = g.K.Sink.got c.loop-next.out in
    let after = g.K.Sink.got c.write_all.new.sink in
    let low : to ≤ c.args.count = grind (arith, c.min-to.ensures) in
    let adds = subst (λ (old : List ℕ). AddsLines c.args.seed from to old lines) before.lines c.in_ok-push_lines.ensures.lines in
    let cut = subst (λ (text : List ℕ). AppendsFront now after text) c.bytes.ensures c.in_err-write_all.ensures.err in
    on_err_from c.from_residual-in_err-write_all.result
    (cut_batch c.args.seed from to c.args.count (g.K.Sink.got c.args.out.now) now after lines low before.got adds cut)
