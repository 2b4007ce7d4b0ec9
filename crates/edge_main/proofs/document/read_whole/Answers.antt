use Rattle.std.proofs.Common.{◌≡◌, ◌+◌, ◌≤◌, ◌++◌, ◌∙◌, length, take, length-append, length-take, arith}
use Rattle.std.proofs.KnownBytes.{Appends-trans, Consumes-trans}
use Rattle.edge_main.proofs.DocumentLemmas.{memory_alone}
use Rattle.edge_main.proofs.document.read_whole.Goals as goal

-- what was taken before, and the piece
pub reading-preserved : goal.reading-preserved
reading-preserved g c =
    let before = c.reading.invariant.reads in
    let bytes = take c.in-Ok.count c.read_piece.new.piece in
    let size : length bytes ≡ c.in-Ok.count = omega (arith, length-take c.in-Ok.count c.read_piece.new.piece, c.in-Ok.ensures.size, c.in-Ok.ensures.bound) in
    record {
      reads = record {
        bytes = before.bytes ++ bytes;
        consumed = Consumes-trans (g.S.Source.left c.args.input.now) (g.S.Source.left c.reading.input) (g.S.Source.left c.read_piece.new.source)
            before.bytes bytes before.consumed c.in-Ok.ensures.gave.0;
        appended = Appends-trans (g.S.Source.taken c.args.input.now) (g.S.Source.taken c.reading.input) (g.S.Source.taken c.read_piece.new.source)
            before.bytes bytes before.appended c.in-Ok.ensures.gave.1;
        counted = omega (arith, before.counted, length-append before.bytes bytes, size);
        few = omega (arith, c.in-Ok.ensures.most, before.few);
        is_kept = c.in_ok-add-in-Ok.ensures.ok before.bytes before.is_kept;
      };
      room = omega (arith, c.in-Ok.ensures.size, c.reading.invariant.room);
      steady = c.in-Ok.ensures.kept ∙ c.reading.invariant.steady;
    }

-- memory is wanted for what may still be a document alone
pub returns-in_err-add-in-Ok-clause-took : goal.returns-in_err-add-in-Ok-clause-took
returns-in_err-add-in-Ok-clause-took g c =
    let before = c.reading.invariant.reads in
    let bytes = take c.in-Ok.count c.read_piece.new.piece in
    let few = c.in_err-add-in-Ok.ensures.err before.bytes before.is_kept in
    record {
      bytes = before.bytes ++ bytes;
      consumed = Consumes-trans (g.S.Source.left c.args.input.now) (g.S.Source.left c.reading.input) (g.S.Source.left c.read_piece.new.source)
          before.bytes bytes before.consumed c.in-Ok.ensures.gave.0;
      appended = Appends-trans (g.S.Source.taken c.args.input.now) (g.S.Source.taken c.reading.input) (g.S.Source.taken c.read_piece.new.source)
          before.bytes bytes before.appended c.in-Ok.ensures.gave.1;
      limit = (
        λ long. absurd (memory_alone c.from_residual.result c.from_residual.ensures.1 long),
        λ full. absurd (omega (arith, full, few, length-append before.bytes bytes)),
      );
    }
