use Rattle.std.proofs.Common.{◌∙◌, arith, length-drop}
use Rattle.std.proofs.lemmas.List.{take_rest}
use Rattle.std.proofs.Math.Seq.{take-add}
use Rattle.std.proofs.KnownBytes.{Appends-trans}
use Rattle.edge_outside.proofs.sink.write_all.Goals as goal

pub loop-at-preserved : goal.loop-at-preserved
loop-at-preserved g c =
    let bytes = c.args.bytes.now in
    let took = rw take_rest at c.in_ok-at.ensures.bytes in record {
      in_range = omega (arith, simp (take_rest, length-drop) at c.in_ok-at.ensures.bound);
      got = rw (take-add c.loop-at.at c.in_ok-at.field-0 bytes) (Appends-trans _ _ _ _ _ c.loop-at.invariant.got took);
      stays = c.in_ok-at.ensures.stays ∙ c.loop-at.invariant.stays;
      kept = c.in_ok-at.ensures.kept ∙ c.loop-at.invariant.kept;
    }
