use Rattle.edge_fields.specs.declared.kind.Basic.TheVariants as basic
use Rattle.list_store.specs.Parts.{IsListOf}
use Rattle.edge_bench.proofs.texts.texts_found.Given as goal

abbrev pub invariant-loop : goal.invariant-loop
invariant-loop l = IsListOf l.lists 0 basic.Text
