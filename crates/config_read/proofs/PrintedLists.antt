-- Lists are read again as they are printed.
use Rattle.std.proofs.Common.{◌≡◌, ◌≤◌, ℕ, Bool, true, false, not, List, [], ◌∷◌, map, length, nat_lt, None, refl, sym, ap, ◌∙◌, subst, map-id}
use Rattle.std.specs.List.{All}
use Rattle.std.proofs.lemmas.List.{length-map}
use Rattle.std.proofs.lemmas.Bool.{le-ltb}
use Rattle.serde_json.specs.Data.{Data, string, array, object, member, no_members}
use Rattle.serde_json.specs.View.{items_of}
use Rattle.edge_fields.specs.declared.kind.Basic.{Basic}
use Rattle.edge_fields.specs.declared.kind.Basic.TheVariants as basic
use Rattle.list_store.specs.declared.part.ListPart.{ListPart}
use Rattle.list_store.specs.Parts.{AreRead, IsListKind, IsFine, AreFineBefore}
use Rattle.ruleset_model.specs.Valid.{EachAfter, IsListFormed}
use Rattle.config_read.specs.Refusals.{Table, each}
use Rattle.config_read.specs.Members.{list_of, text_of}
use Rattle.config_read.specs.ListsOf.{IsItemOf, item_table, items_table, list_table, list_at, each_list_table}
use Rattle.config_read.specs.Printed.{printed_list}
use Rattle.config_read.proofs.PrintedEach.{list_of-items_of, each_passes, each_back, after_all, after_places, after_both, texts_back}

-- no more of them than there may be
pub few : (most : ℕ) (xs : List Data) (n : ℕ) → length xs ≡ n → n ≤ most → nat_lt most (length xs) ≡ false
few most xs n same within = le-ltb most (length xs) (subst (λ (m : ℕ). m ≤ most) (sym same) within)

-- as many as were printed
pub length-printed : {X : Type 0} (print : X → Data) (xs : List X) → length (list_of (items_of (map print xs))) ≡ length xs
length-printed print xs = ap length (list_of-items_of (map print xs)) ∙ length-map xs print

is_item : (kind : Basic) (items : List (List ℕ)) → (kind ≡ basic.Addr → AreRead items) → IsListKind kind → All (IsItemOf kind) items
is_item basic.Addr items read known = read refl
is_item basic.Text items read known = λ k d below. tt
is_item basic.Num items read known = absurd known
is_item basic.Bool items read known = absurd known

items_pass : (kind : Basic) (place : List ℕ) (items : List (List ℕ)) → All (IsItemOf kind) items
    → items_table kind place (list_of (items_of (map string items))) None
items_pass kind place items all =
    subst (λ (ds : List Data). items_table kind place ds None) (sym (list_of-items_of (map string items)))
    (subst (λ (earlier : List (List ℕ)). each (item_table kind place) text_of earlier (map string items) None) refl
    (each_passes (item_table kind place) text_of string (λ text. text) (λ before. IsItemOf kind)
    (λ earlier text is. (refl, is)) (λ earlier text is. refl) [] items (after_all (IsItemOf kind) items all)))

list_passes_as : (lists : List ℕ) (earlier : List ListPart) (name : List ℕ) (kind : Basic) (items : List (List ℕ))
    → IsFine earlier (record { name = name; kind = kind; items = items }) → IsListFormed (record { name = name; kind = kind; items = items })
    → list_table lists earlier (printed_list (record { name = name; kind = kind; items = items })) None
unfolding list_table printed_list
list_passes_as lists earlier name basic.Addr items fine formed = (
  refl,
  (
    (refl, refl),
    (
      ap not formed.name,
      (
        fine.new_name,
        (
          (refl, refl),
          (
            refl,
            (
              (refl, refl),
              (few 50000 _ _ (length-printed string items) fine.few, items_pass basic.Addr _ items (is_item basic.Addr items fine.read formed.has_kind)),
            ),
          ),
        ),
      ),
    ),
  ),
)
list_passes_as lists earlier name basic.Text items fine formed = (
  refl,
  (
    (refl, refl),
    (
      ap not formed.name,
      (
        fine.new_name,
        (
          (refl, refl),
          (
            refl,
            (
              (refl, refl),
              (few 50000 _ _ (length-printed string items) fine.few, items_pass basic.Text _ items (is_item basic.Text items fine.read formed.has_kind)),
            ),
          ),
        ),
      ),
    ),
  ),
)
list_passes_as lists earlier name basic.Num items fine formed = absurd formed.has_kind
list_passes_as lists earlier name basic.Bool items fine formed = absurd formed.has_kind

list_back_as : (name : List ℕ) (kind : Basic) (items : List (List ℕ)) → IsListKind kind
    → list_at (printed_list (record { name = name; kind = kind; items = items })) ≡ record { name = name; kind = kind; items = items }
unfolding list_at printed_list
list_back_as name basic.Addr items known = λ i. record { name = name; kind = basic.Addr; items = texts_back items i }
list_back_as name basic.Text items known = λ i. record { name = name; kind = basic.Text; items = texts_back items i }
list_back_as name basic.Num items known = absurd known
list_back_as name basic.Bool items known = absurd known

kept_lists : (parts : List ListPart) → All IsListFormed parts → AreFineBefore parts (length parts)
    → EachAfter (λ earlier part. IsFine earlier part × IsListFormed part) [] parts
kept_lists parts formed fine =
    after_both IsFine (λ before. IsListFormed) [] parts (after_places IsFine [] parts fine) (after_all IsListFormed parts formed)

pub lists_pass : (lists : List ℕ) (parts : List ListPart) → All IsListFormed parts → AreFineBefore parts (length parts)
    → each_list_table lists (map printed_list parts) None
lists_pass lists parts formed fine =
    subst (λ (earlier : List ListPart). each (list_table lists) list_at earlier (map printed_list parts) None) refl
    (each_passes (list_table lists) list_at printed_list (λ part. part) (λ earlier part. IsFine earlier part × IsListFormed part)
    (λ earlier part kept. subst (λ (before : List ListPart). list_table lists before (printed_list part) None) (sym (map-id earlier))
    (list_passes_as lists earlier part.name part.kind part.items kept.0 kept.1))
    (λ earlier part kept. list_back_as part.name part.kind part.items kept.1.has_kind)
    [] parts (kept_lists parts formed fine))

pub lists_back : (parts : List ListPart) → All IsListFormed parts → AreFineBefore parts (length parts)
    → map list_at (map printed_list parts) ≡ parts
lists_back parts formed fine =
    each_back list_at printed_list (λ part. part) (λ earlier part. IsFine earlier part × IsListFormed part)
    (λ earlier part kept. list_back_as part.name part.kind part.items kept.1.has_kind) [] parts (kept_lists parts formed fine)
    ∙ map-id parts
