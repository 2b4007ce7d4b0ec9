-- The member `form`, and the named lists of a document: `lists`.
use Rattle.std.specs.Prelude.{ℕ, ◌==◌, Bool, true, false, not, is_none, if◌then◌else◌, nat_lt, List, [], map, length, codes, Option, None, Some, option_and_then, bytes_eq}
use Rattle.std.specs.Option.{option_map_or, unwrap_or}
use Rattle.serde_json.specs.Data.{Data}
use Rattle.serde_json.specs.Find.{get, as_str, as_array, as_number, as_u64}
use Rattle.edge_base.specs.declared.expression.Item.{Item}
use Rattle.edge_fields.specs.declared.kind.Basic.{Basic}
use Rattle.edge_fields.specs.declared.kind.Basic.TheVariants as basic
use Rattle.addr_set.specs.ItemTexts.{IsGoodText}
use Rattle.list_store.specs.declared.part.ListPart.{ListPart}
use Rattle.list_store.specs.Parts.{is_named}
use Rattle.ruleset_model.specs.Forms.{is_list_name}
use Rattle.config_read.specs.declared.fault.Cause.TheVariants as cause
use Rattle.config_read.specs.Places.{whole, top, child, nth}
use Rattle.config_read.specs.Refusals.{Table, ◌▸◌, refuse, refuse_unless, each, IsSettled}
use Rattle.config_read.specs.Members.{text_of, text, elements, an_object, typed, needed_text, needed_array}

-- ---- the form

-- the number 1, in whole numbers
abbrev pub is_one : Data → Bool
is_one d = option_map_or (λ n. n == 1) (option_and_then as_u64 (as_number d)) false

-- absent, or the number 1
abbrev pub form_table : Data → Table
form_table d = refuse (child top (codes "form")) cause.Shape (not (option_map_or is_one (get (codes "form") d) true))

-- ---- one list

-- the kind of a name
abbrev pub list_kind_of : List ℕ → Option Basic
list_kind_of name =
    if bytes_eq name (codes "ip") then Some basic.Addr
    else (if bytes_eq name (codes "text") then Some basic.Text else None)

-- the kind of a list, by default that of texts
abbrev pub list_kind_at : Data → Basic
list_kind_at d = unwrap_or (list_kind_of (text (codes "kind") d)) basic.Text

-- an item of an address list stands for addresses; each text is an item of a list of texts
abbrev pub IsItemOf : Basic → List ℕ → Type 0
IsItemOf basic.Addr item = (one : Item) × IsGoodText item one
IsItemOf other item = Unit {0}

-- an item behind those before it, of the list whose items stand at the place
abbrev pub item_table : Basic → List ℕ → List (List ℕ) → Data → Table
item_table kind items earlier d =
    refuse (nth items (length earlier)) cause.Shape (is_none (as_str d))
    ▸ refuse_unless (nth items (length earlier)) cause.BadListItem (IsItemOf kind (text_of d))

abbrev pub items_table : Basic → List ℕ → List Data → Table
items_table kind items = each (item_table kind items) text_of []

-- a list behind those before it
unfoldable pub list_table : List ℕ → List ListPart → Data → Table
list_table lists earlier d =
    let place = nth lists (length earlier) in
    an_object place d
    ▸ needed_text place (codes "name") d
    ▸ refuse (child place (codes "name")) cause.Shape (not (is_list_name (text (codes "name") d)))
    ▸ refuse (child place (codes "name")) cause.DuplicateList (is_named earlier (text (codes "name") d))
    ▸ needed_text place (codes "kind") d
    ▸ refuse (child place (codes "kind")) cause.UnknownKind (is_none (list_kind_of (text (codes "kind") d)))
    ▸ needed_array place (codes "items") d
    ▸ refuse (child place (codes "items")) cause.TooManyItems (nat_lt 50000 (length (elements (codes "items") d)))
    ▸ items_table (list_kind_at d) (child place (codes "items")) (elements (codes "items") d)

-- the list that an object stands for
unfoldable pub list_at : Data → ListPart
list_at d = record {
  name = text (codes "name") d;
  kind = list_kind_at d;
  items = map text_of (elements (codes "items") d);
}

-- ---- all lists

-- the elements of `lists`, which stand at the place
abbrev pub each_list_table : List ℕ → List Data → Table
each_list_table lists = each (list_table lists) list_at []

unfoldable pub lists_table : Data → Table
lists_table d =
    typed as_array top (codes "lists") d
    ▸ refuse (child top (codes "lists")) cause.TooMany (nat_lt 64 (length (elements (codes "lists") d)))
    ▸ each_list_table (child top (codes "lists")) (elements (codes "lists") d)

-- a document before its rulesets
unfoldable pub front_table : Data → Table
front_table d = an_object whole d ▸ form_table d ▸ lists_table d

-- no document has two first refusals before its rulesets, nor one where nothing is refused
abbrev pub FrontIsSettled : Type 0
FrontIsSettled = (d : Data) → IsSettled (front_table d)

-- the lists that a document stands for
abbrev pub lists_at : Data → List ListPart
lists_at d = map list_at (elements (codes "lists") d)
