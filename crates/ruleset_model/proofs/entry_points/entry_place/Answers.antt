use Rattle.std.proofs.Common.{◌∙◌, sym, arith}
use Rattle.ruleset_model.specs.Entries.{is_entry}
use Rattle.ruleset_model.proofs.EntryLemmas.{position-within}
use Rattle.ruleset_model.proofs.entry_points.entry_place.Goals as goal

pub overflow_cast-result : goal.overflow_cast-result
overflow_cast-result c =
    let within = position-within (is_entry c.args.phase) 0 c.args.sets.now c.in-Some.place (sym c.entry_of.ensures ∙ c.in-Some.is) in
    omega (arith, c.requires)
