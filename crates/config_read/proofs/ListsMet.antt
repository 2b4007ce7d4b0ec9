-- The tables of lists come to something.
use Rattle.std.proofs.Common.{◌⊎◌, inl, inr, List, ℕ}
use Rattle.serde_json.specs.Data.{Data}
use Rattle.edge_base.proofs.FoundLemmas.{Found}
use Rattle.edge_fields.specs.declared.kind.Basic.{Basic}
use Rattle.edge_fields.specs.declared.kind.Basic.TheVariants as basic
use Rattle.addr_set.specs.ItemTexts.{IsGoodText}
use Rattle.list_store.specs.declared.part.ListPart.{ListPart}
use Rattle.config_read.specs.Answered.{IsMet}
use Rattle.config_read.specs.ListsOf.{item_table, list_table, lists_table, front_table, list_at, IsItemOf}
use Rattle.config_read.specs.Members.{text_of}
use Rattle.config_read.proofs.MetLemmas.{met_refuse, met_unless, met_then, met_each}
use Rattle.config_read.proofs.FoundItems.{found-good}

item_found : (kind : Basic) (text : List ℕ) → IsItemOf kind text ⊎ (¬ (IsItemOf kind text))
item_found basic.Addr text = of_good (found-good text) where
  of_good : Found (IsGoodText text) → IsItemOf basic.Addr text ⊎ (¬ (IsItemOf basic.Addr text))
  of_good (inl good) = inl good
  of_good (inr none) = inr (λ h. none h.0 h.1)
item_found basic.Text text = inl tt
item_found basic.Num text = inl tt
item_found basic.Bool text = inl tt

item_met : (kind : Basic) (items : List ℕ) (earlier : List (List ℕ)) (d : Data) → IsMet (item_table kind items earlier d)
item_met kind items earlier d = met_then _ _ (met_refuse _ _ _) (met_unless _ _ _ (item_found kind (text_of d)))

list_met : (lists : List ℕ) (earlier : List ListPart) (d : Data) → IsMet (list_table lists earlier d)
unfolding list_table
list_met lists earlier d =
    met_then _ _ (met_refuse _ _ _)
    (met_then _ _ (met_then _ _ (met_refuse _ _ _) (met_refuse _ _ _))
    (met_then _ _ (met_refuse _ _ _)
    (met_then _ _ (met_refuse _ _ _)
    (met_then _ _ (met_then _ _ (met_refuse _ _ _) (met_refuse _ _ _))
    (met_then _ _ (met_refuse _ _ _)
    (met_then _ _ (met_then _ _ (met_refuse _ _ _) (met_refuse _ _ _))
    (met_then _ _ (met_refuse _ _ _)
    (met_each (item_table _ _) text_of (item_met _ _) _ _))))))))

pub lists_met : (d : Data) → IsMet (lists_table d)
unfolding lists_table
lists_met d =
    met_then _ _ (met_refuse _ _ _)
    (met_then _ _ (met_refuse _ _ _) (met_each (list_table _) list_at (list_met _) _ _))
