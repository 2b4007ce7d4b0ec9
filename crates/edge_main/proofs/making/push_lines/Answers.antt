use Rattle.std.proofs.Common.{◌≡◌, ◌+◌, List, ℕ, ◌++◌, ap, ◌∙◌, arith}
use Rattle.edge_main.proofs.MakingLemmas.{adds_line}
use Rattle.edge_main.proofs.making.push_lines.Goals as goal

pub loop-index-preserved : goal.loop-index-preserved
loop-index-preserved c = record {
  made = c.in_ok-line.ensures.next;
  lines =
      adds_line c.args.seed c.args.from c.loop-index.index (c.loop-index.index + 1) c.args.lines.now c.loop-index.lines c.in_ok-line.line
      c.push.new.self c.loop-index.invariant.lines (omega arith) c.in_ok-line.ensures.ok
      (c.in_ok-push.ensures.ok ∙ ap (λ (text : List ℕ). c.loop-index.lines ++ text) c.bytes.ensures);
}
