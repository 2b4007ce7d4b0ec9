-- The texts within a JSON value are UTF-8.
use Rattle.std.proofs.Common.{◌≡◌, ℕ, List, [], ◌∷◌, map, Option, None, Some, String, option_map, option_and_then, unwrap_or, IfSome, IsUtf8, refl, sym, ap, subst, Less, Equal, Greater, Ordering, nat_cmp}
use Rattle.std.specs.declared.alloc.Global.{Global}
use Rattle.std.specs.Cmp.Lexicographic.{slice_cmp}
use Rattle.std.specs.List.{All, AllByRecursion}
use Rattle.std.specs.Ordering.{match_ordering}
use Rattle.std.proofs.lemmas.Str.{IsUtf8-string_bytes, IsUtf8-nil}
use Rattle.std.proofs.lemmas.List.Elements.{All-from_recursion}
use Rattle.serde_json.specs.Data.{Data, null, boolean, number, string, array, object, Items, no_items, item, Members, no_members, member as one_member}
use Rattle.serde_json.specs.Find.{get, get_member, as_str, as_array, as_object}
use Rattle.serde_json.specs.View.{view, view_step, items_of, members_of}
use Rattle.serde_json.specs.declared.value.Value.{Value}
use Rattle.serde_json.specs.declared.value.Value.TheFolds.{map-Value, fold-roll-Value, ind-Value}
use Rattle.serde_json.specs.declared.value.Value.TheOpen.{Value-F}
use Rattle.serde_json.specs.declared.value.Value.TheViews.{roll-Value}
use Rattle.config_read.specs.Members.{list_of, text_of, text, texts, elements, member, value_or, entries_of, entries}

abbrev mutual
  -- the texts and the names within a value are UTF-8
  pub IsFormed : Data → Type 0
  IsFormed null = Unit {0}
  IsFormed (boolean b) = Unit {0}
  IsFormed (number n) = Unit {0}
  IsFormed (string s) = IsUtf8 s
  IsFormed (array ds) = AreItemsFormed ds
  IsFormed (object ms) = AreMembersFormed ms

  pub AreItemsFormed : Items → Type 0
  AreItemsFormed no_items = Unit {0}
  AreItemsFormed (item d ds) = IsFormed d × AreItemsFormed ds

  pub AreMembersFormed : Members → Type 0
  AreMembersFormed no_members = Unit {0}
  AreMembersFormed (one_member k d ms) = IsUtf8 k × IsFormed d × AreMembersFormed ms

-- ---- of each value that is kept

abbrev FormedValue : Type 0
FormedValue = (v : Value) × IsFormed (view v)

items_formed : (vs : List FormedValue) → AreItemsFormed (items_of (map view (map (λ (v : FormedValue). v.0) vs)))
items_formed [] = tt
items_formed (v ∷ vs) = (v.1, items_formed vs)

abbrev FormedMember : Type 0
FormedMember = String Global × FormedValue

abbrev bare : FormedMember → String Global × Value
bare m = (m.0, m.1.0)

abbrev seen : String Global × Value → String Global × Data
seen m = (m.0, view m.1)

members_formed : (ms : List FormedMember) → AreMembersFormed (members_of (map seen (map bare ms)))
members_formed [] = tt
members_formed (m ∷ ms) = (IsUtf8-string_bytes m.0, m.1.1, members_formed ms)

abbrev value_of : FormedValue → Value
value_of v = v.0

layer : (y : Value-F FormedValue) → IsFormed (view_step (map-Value Value Data view (map-Value FormedValue Value value_of y)))
layer Value-F.Null = tt
layer (Value-F.Bool b) = tt
layer (Value-F.Number x) = tt
layer (Value-F.String s) = IsUtf8-string_bytes s
layer (Value-F.Array v) = items_formed v.items
layer (Value-F.Object m) = members_formed m.entries

rolled : (x : Value-F Value) → IsFormed (view_step (map-Value Value Data view x)) → IsFormed (view (roll-Value x))
rolled x formed = subst IsFormed (sym (fold-roll-Value Data view_step x)) formed

pub view_formed : (v : Value) → IsFormed (view v)
view_formed = ind-Value (λ (v : Value). IsFormed (view v)) (λ x y is. subst (λ z. IsFormed (view (roll-Value z))) is (rolled (map-Value FormedValue Value value_of y) (layer y)))

-- ---- of its parts

picked : (o : Ordering) (found : Option Data) (d : Data) → IfSome found IsFormed → IsFormed d → IfSome (match_ordering o found (Some d) found) IsFormed
picked Less found d rest here = rest
picked Equal found d rest here = here
picked Greater found d rest here = rest

get_member_formed : (name : List ℕ) (ms : Members) → AreMembersFormed ms → IfSome (get_member name ms) IsFormed
get_member_formed name no_members formed = tt
get_member_formed name (one_member k d ms) formed =
    picked (slice_cmp nat_cmp name k) (get_member name ms) d (get_member_formed name ms formed.2) formed.1

pub get_formed : (name : List ℕ) (d : Data) → IsFormed d → IfSome (get name d) IsFormed
get_formed name null formed = tt
get_formed name (boolean b) formed = tt
get_formed name (number n) formed = tt
get_formed name (string s) formed = tt
get_formed name (array ds) formed = tt
get_formed name (object ms) formed = get_member_formed name ms formed

member_of_found : (found : Option Data) → IfSome found IsFormed → IsFormed (unwrap_or found null)
member_of_found None formed = tt
member_of_found (Some d) formed = formed

pub member_formed : (name : List ℕ) (d : Data) → IsFormed d → IsFormed (member name d)
member_formed name d formed = member_of_found (get name d) (get_formed name d formed)

-- a text, where it is one, and else another that is UTF-8
text_or_formed : (d : Data) (default : List ℕ) → IsFormed d → IsUtf8 default → IsUtf8 (unwrap_or (as_str d) default)
text_or_formed null default formed other = other
text_or_formed (boolean b) default formed other = other
text_or_formed (number n) default formed other = other
text_or_formed (string s) default formed other = formed
text_or_formed (array ds) default formed other = other
text_or_formed (object ms) default formed other = other

found_text : (found : Option Data) (default : List ℕ) → IfSome found IsFormed → IsUtf8 default → IsUtf8 (unwrap_or (option_and_then as_str found) default)
found_text None default formed other = other
found_text (Some d) default formed other = text_or_formed d default formed other

pub text_or_utf8 : (default name : List ℕ) (d : Data) → IsFormed d → IsUtf8 default → IsUtf8 (value_or as_str default name d)
text_or_utf8 default name d formed other = found_text (get name d) default (get_formed name d formed) other

pub text_utf8 : (name : List ℕ) (d : Data) → IsFormed d → IsUtf8 (text name d)
text_utf8 name d formed = found_text (get name d) [] (get_formed name d formed) IsUtf8-nil

pub text_of_utf8 : (d : Data) → IsFormed d → IsUtf8 (text_of d)
text_of_utf8 d formed = text_or_formed d [] formed IsUtf8-nil

list_of_formed : (ds : Items) → AreItemsFormed ds → AllByRecursion IsFormed (list_of ds)
list_of_formed no_items formed = tt
list_of_formed (item d ds) formed = (formed.0, list_of_formed ds formed.1)

pub items_in_formed : (d : Data) → IsFormed d → AllByRecursion IsFormed (unwrap_or (option_map list_of (as_array d)) [])
items_in_formed null formed = tt
items_in_formed (boolean b) formed = tt
items_in_formed (number n) formed = tt
items_in_formed (string s) formed = tt
items_in_formed (array ds) formed = list_of_formed ds formed
items_in_formed (object ms) formed = tt

found_elements : (found : Option Data) → IfSome found IsFormed → AllByRecursion IsFormed (unwrap_or (option_map list_of (option_and_then as_array found)) [])
found_elements None formed = tt
found_elements (Some d) formed = items_in_formed d formed

pub elements_formed : (name : List ℕ) (d : Data) → IsFormed d → AllByRecursion IsFormed (elements name d)
elements_formed name d formed = found_elements (get name d) (get_formed name d formed)

pub texts_of_utf8 : (ds : List Data) → AllByRecursion IsFormed ds → AllByRecursion IsUtf8 (map text_of ds)
texts_of_utf8 [] formed = tt
texts_of_utf8 (d ∷ ds) formed = (text_of_utf8 d formed.0, texts_of_utf8 ds formed.1)

pub texts_utf8 : (name : List ℕ) (d : Data) → IsFormed d → All IsUtf8 (texts name d)
texts_utf8 name d formed = All-from_recursion IsUtf8 (texts name d) (texts_of_utf8 (elements name d) (elements_formed name d formed))

-- a name and what stands under it
abbrev pub IsEntryFormed : List ℕ × Data → Type 0
IsEntryFormed entry = IsUtf8 entry.0 × IsFormed entry.1

pub members_listed : (ms : Members) → AreMembersFormed ms → AllByRecursion IsEntryFormed (entries_of ms)
members_listed no_members formed = tt
members_listed (one_member k d ms) formed = ((formed.0, formed.1), members_listed ms formed.2)

entries_in_formed : (d : Data) → IsFormed d → AllByRecursion IsEntryFormed (unwrap_or (option_map entries_of (as_object d)) [])
entries_in_formed null formed = tt
entries_in_formed (boolean b) formed = tt
entries_in_formed (number n) formed = tt
entries_in_formed (string s) formed = tt
entries_in_formed (array ds) formed = tt
entries_in_formed (object ms) formed = members_listed ms formed

found_entries : (found : Option Data) → IfSome found IsFormed → AllByRecursion IsEntryFormed (unwrap_or (option_map entries_of (option_and_then as_object found)) [])
found_entries None formed = tt
found_entries (Some d) formed = entries_in_formed d formed

pub entries_formed : (name : List ℕ) (d : Data) → IsFormed d → AllByRecursion IsEntryFormed (entries name d)
entries_formed name d formed = found_entries (get name d) (get_formed name d formed)
