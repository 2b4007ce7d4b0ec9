use Rattle.std.proofs.Common.{ap, ◌∙◌, to_z-of_z}
use Rattle.std.specs.Int.{cast_unsigned, w64}
use Rattle.judge_core.proofs.KeyLemmas.{number_written}
use Rattle.judge_core.proofs.limits.push_number.Goals as goal

pub returns : goal.returns
returns c =
    let same = c.unsigned.ensures ∙ ap (cast_unsigned w64) (to_z-of_z c.ranges.number) in
    rw (number_written c.args.number c.unsigned.result c.to_be_bytes.result same c.to_be_bytes.ensures)
    at c.push_tagged.ensures
