-- The tables of lists come to one thing.
use Rattle.std.proofs.Common.{List, ℕ}
use Rattle.serde_json.specs.Data.{Data}
use Rattle.edge_fields.specs.declared.kind.Basic.{Basic}
use Rattle.list_store.specs.declared.part.ListPart.{ListPart}
use Rattle.config_read.specs.Refusals.{IsSettled}
use Rattle.config_read.specs.ListsOf.{item_table, list_table, lists_table, front_table, list_at, FrontIsSettled}
use Rattle.config_read.specs.Members.{text_of}
use Rattle.config_read.proofs.SettledLemmas.{settled_refuse, settled_unless, settled_then, settled_each}

item_settled : (kind : Basic) (items : List ℕ) (earlier : List (List ℕ)) (d : Data) → IsSettled (item_table kind items earlier d)
item_settled kind items earlier d = settled_then _ _ (settled_refuse _ _ _) (settled_unless _ _ _)

list_settled : (lists : List ℕ) (earlier : List ListPart) (d : Data) → IsSettled (list_table lists earlier d)
unfolding list_table
list_settled lists earlier d =
    settled_then _ _ (settled_refuse _ _ _)
    (settled_then _ _ (settled_then _ _ (settled_refuse _ _ _) (settled_refuse _ _ _))
    (settled_then _ _ (settled_refuse _ _ _)
    (settled_then _ _ (settled_refuse _ _ _)
    (settled_then _ _ (settled_then _ _ (settled_refuse _ _ _) (settled_refuse _ _ _))
    (settled_then _ _ (settled_refuse _ _ _)
    (settled_then _ _ (settled_then _ _ (settled_refuse _ _ _) (settled_refuse _ _ _))
    (settled_then _ _ (settled_refuse _ _ _)
    (settled_each (item_table _ _) text_of (item_settled _ _) _ _))))))))

pub lists_settled : (d : Data) → IsSettled (lists_table d)
unfolding lists_table
lists_settled d =
    settled_then _ _ (settled_refuse _ _ _)
    (settled_then _ _ (settled_refuse _ _ _) (settled_each (list_table _) list_at (list_settled _) _ _))

pub front_settled : FrontIsSettled
unfolding front_table
front_settled d = settled_then _ _ (settled_refuse _ _ _) (settled_then _ _ (settled_refuse _ _ _) (lists_settled d))
