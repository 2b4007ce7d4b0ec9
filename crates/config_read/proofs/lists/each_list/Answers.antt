use Rattle.std.proofs.Common.{◌≡◌, ◌∙◌, ◌++◌, ◌∷◌, [], None, false, List, map, sym, ap, subst, rules}
use Rattle.serde_json.specs.View.{view}
use Rattle.edge_fields.specs.Schemes.{AreLists}
use Rattle.list_store.specs.Listed.{list_kinds_of}
use Rattle.list_store.specs.Parts.{is_named}
use Rattle.list_store.specs.declared.part.ListPart.{ListPart}
use Rattle.config_read.specs.ListsOf.{list_table, list_at, each_list_table}
use Rattle.config_read.proofs.EachLemmas.{one_further, goes_further}
use Rattle.config_read.proofs.NamedLemmas.{one_more}
use Rattle.config_read.proofs.lists.each_list.Goals as goal

pub loop-value-preserved : goal.loop-value-preserved
loop-value-preserved c =
    let new : is_named c.loop-value.lists c.in_ok-list_of.field-0.name ≡ false = search rules in
    let values = c.args.values.now in
    let i = c.loop-value.value-index in
    let item = c.value-item.result in
    let made = c.in_ok-push.ensures.ok ∙ ap (λ (list : ListPart). c.loop-value.lists ++ list ∷ []) c.in_ok-list_of.ensures.value in
    let passed = subst (λ (lists : List ListPart). list_table c.args.place.now lists (view item) None) c.as_slice.ensures c.in_ok-list_of.ensures.table in
    record {
      lists = one_further list_at values i item c.loop-value.lists _ _ c.loop-value-test.true c.value-item.is made c.loop-value.invariant.lists;
      tables = goes_further (list_table c.args.place.now) list_at values i item c.loop-value.lists _ (each_list_table c.args.place.now (map view values)) c.loop-value-test.true c.value-item.is made c.loop-value.invariant.tables passed;
      named = subst (λ (lists : List ListPart). AreLists (list_kinds_of lists)) (sym c.in_ok-push.ensures.ok) (one_more c.loop-value.lists c.in_ok-list_of.field-0 c.loop-value.invariant.named new c.in_ok-list_of.ensures.kind);
    }
