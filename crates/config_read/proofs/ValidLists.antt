-- The lists of a document of which nothing is refused have their form.
use Rattle.std.proofs.Common.{◌≡◌, ◌≤◌, ◌<◌, ℕ, zero, suc, Bool, true, false, not, nat_lt, ltb, List, [], ◌∷◌, ◌++◌, map, length, take, slice_index_or, append-nil, append_assoc, codes, bytes_eq, Result, Err, Option, None, Some, unwrap_or, if◌then◌else◌, IsUtf8, refl, sym, ap, ◌∙◌, subst, arith}
use Rattle.std.specs.List.{All, AllByRecursion}
use Rattle.std.proofs.lemmas.List.{length-map}
use Rattle.std.proofs.lemmas.List.Elements.{All-from_recursion}
use Rattle.serde_json.specs.Data.{Data}
use Rattle.addr_set.specs.ItemTexts.{IsGoodText}
use Rattle.edge_base.specs.declared.expression.Item.{Item}
use Rattle.edge_fields.specs.declared.kind.Basic.{Basic}
use Rattle.edge_fields.specs.declared.kind.Basic.TheVariants as basic
use Rattle.list_store.specs.declared.part.ListFault.{ListFault}
use Rattle.list_store.specs.declared.part.ListFault.TheVariants as listing
use Rattle.list_store.specs.declared.part.ListPart.{ListPart}
use Rattle.list_store.specs.Parts.{IsListKind, IsFine, IsRepeated, HasTooMany, AreFineBefore, NamesFirstList, NamesFirstItem, ListFaultsAreUnique}
use Rattle.ruleset_model.specs.Forms.{is_list_name}
use Rattle.ruleset_model.specs.Valid.{IsListFormed}
use Rattle.config_read.specs.Refusals.{each}
use Rattle.config_read.specs.Members.{text_of, text, elements}
use Rattle.config_read.specs.ListsOf.{list_kind_of, list_kind_at, IsItemOf, item_table, list_table, list_at, each_list_table, lists_table, lists_at}
use Rattle.config_read.proofs.FormedLemmas.{IsFormed, texts_utf8, elements_formed}
use Rattle.config_read.proofs.BoolLemmas.{shown, at_most}

kind_of_word : (ip is_text : Bool) → IsListKind (unwrap_or (if ip then Some basic.Addr else (if is_text then Some basic.Text else None)) basic.Text)
kind_of_word true is_text = tt
kind_of_word false true = tt
kind_of_word false false = tt

has_kind : (d : Data) → IsListKind (list_kind_at d)
has_kind d = kind_of_word (bytes_eq (text (codes "kind") d) (codes "ip")) (bytes_eq (text (codes "kind") d) (codes "text"))

list_formed : (lists : List ℕ) (earlier : List ListPart) (d : Data) → IsFormed d → list_table lists earlier d None → IsListFormed (list_at d)
unfolding list_table list_at
list_formed lists earlier d formed passed = record {
  name = shown (is_list_name (text (codes "name") d)) passed.1.1.0;
  has_kind = has_kind d;
  texts = texts_utf8 (codes "items") d formed;
}

each_formed : (lists : List ℕ) (earlier : List ListPart) (ds : List Data) → AllByRecursion IsFormed ds → each (list_table lists) list_at earlier ds None
    → AllByRecursion IsListFormed (map list_at ds)
each_formed lists earlier [] formed passed = tt
each_formed lists earlier (d ∷ ds) formed passed =
    (list_formed lists earlier d formed.0 passed.0, each_formed lists (earlier ++ list_at d ∷ []) ds formed.1 passed.1)

pub lists_formed : (d : Data) → IsFormed d → lists_table d None → All IsListFormed (lists_at d)
unfolding lists_table
lists_formed d formed passed =
    All-from_recursion IsListFormed (lists_at d) (each_formed _ [] (elements (codes "lists") d) (elements_formed (codes "lists") d formed) passed.1.1)

pub few_lists : (d : Data) → lists_table d None → length (lists_at d) ≤ 64
unfolding lists_table
few_lists d passed = subst (λ (n : ℕ). n ≤ 64) (sym (length-map (elements (codes "lists") d) list_at)) (at_most 64 _ passed.1.0)

-- each is of a kind that lists can have
pub listed_kinds : (parts : List ListPart) → All IsListFormed parts → All (λ (part : ListPart). IsListKind part.kind) parts
listed_kinds parts formed = λ k d below. (formed k d below).has_kind

-- ---- the lists can be built

abbrev IsRead : List ℕ → Type 0
IsRead text = (one : Item) × IsGoodText text one

items_read : (kind : Basic) (items : List ℕ) (earlier : List (List ℕ)) (ds : List Data) → each (item_table kind items) text_of earlier ds None → kind ≡ basic.Addr
    → AllByRecursion IsRead (map text_of ds)
items_read kind items earlier [] passed is = tt
items_read kind items earlier (d ∷ ds) passed is = (
  subst (λ (k : Basic). IsItemOf k (text_of d)) is passed.0.1,
  items_read kind items (earlier ++ text_of d ∷ []) ds passed.1 is,
)

list_fine : (lists : List ℕ) (earlier : List ListPart) (d : Data) → list_table lists earlier d None → IsFine earlier (list_at d)
unfolding list_table list_at
list_fine lists earlier d passed =
    let items = passed.1.1.1.1.1.1.1 in record {
      new_name = passed.1.1.1.0;
      few = subst (λ (n : ℕ). n ≤ 50000) (sym (length-map (elements (codes "items") d) text_of)) (at_most 50000 (length (elements (codes "items") d)) items.0);
      read = λ is. All-from_recursion IsRead (map text_of (elements (codes "items") d)) (items_read (list_kind_at d) _ [] (elements (codes "items") d) items.1 is);
    }

fine_from : (lists : List ℕ) (earlier : List ListPart) (ds : List Data) → each (list_table lists) list_at earlier ds None → (k : ℕ) (x : ListPart)
    → k < length (map list_at ds) → IsFine (earlier ++ take k (map list_at ds)) (slice_index_or (map list_at ds) k x)
fine_from lists earlier [] passed k x below = absurd (omega arith)
fine_from lists earlier (d ∷ ds) passed zero x below =
    subst (λ (before : List ListPart). IsFine before (list_at d)) (sym (append-nil earlier)) (list_fine lists earlier d passed.0)
fine_from lists earlier (d ∷ ds) passed (suc k) x below =
    subst (λ (before : List ListPart). IsFine before (slice_index_or (map list_at ds) k x)) (append_assoc earlier (list_at d ∷ []) (take k (map list_at ds)))
    (fine_from lists (earlier ++ list_at d ∷ []) ds passed.1 k x (omega arith))

pub lists_fine : (d : Data) → lists_table d None → AreFineBefore (lists_at d) (length (lists_at d))
unfolding lists_table
lists_fine d passed = λ k x below. fine_from _ [] (elements (codes "lists") d) passed.1.1 k x below

-- lists that are fine are refused for want of memory alone
pub only_memory : {A : Type 0} (parts : List ListPart) (r : Result A ListFault) (f : ListFault) → ListFaultsAreUnique → AreFineBefore parts (length parts) → r ≡ Err f
    → NamesFirstList listing.DuplicateList IsRepeated parts r → NamesFirstList listing.TooManyItems HasTooMany parts r
    → NamesFirstItem listing.BadListItem parts r → f ≡ listing.Memory
only_memory parts r (listing.DuplicateList list) unique fine is repeated many bad =
    absurd ((unique parts (listing.DuplicateList list) (λ e. absurd cc) (repeated list is)).0 fine)
only_memory parts r (listing.TooManyItems list) unique fine is repeated many bad =
    absurd ((unique parts (listing.TooManyItems list) (λ e. absurd cc) (many list is)).0 fine)
only_memory parts r (listing.BadListItem list at) unique fine is repeated many bad =
    absurd ((unique parts (listing.BadListItem list at) (λ e. absurd cc) (bad list at is)).0 fine)
only_memory parts r listing.Memory unique fine is repeated many bad = refl
