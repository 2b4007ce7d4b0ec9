-- The members of an object by their JSON types: what each of them is, and when it is refused.
use Rattle.std.specs.Prelude.{ℕ, Bool, false, is_none, List, [], ◌∷◌, map, length, Option, None, Some, option_map, option_and_then}
use Rattle.std.specs.Borrow.{Bor}
use Rattle.std.specs.Option.{unwrap_or}
use Rattle.serde_json.specs.Data.{Data, null, Items, no_items, item, Members, no_members, member as one_member}
use Rattle.serde_json.specs.Find.{get, as_str, as_array, as_object}
use Rattle.serde_json.specs.View.{view}
use Rattle.serde_json.specs.declared.value.Value.{Value}
use Rattle.config_read.specs.declared.fault.Cause.TheVariants as cause
use Rattle.config_read.specs.Places.{child, nth}
use Rattle.config_read.specs.Refusals.{Table, ◌▸◌, nothing, refuse, each}

-- ---- what a member is

-- the elements of an array
abbrev pub list_of : Items → List Data
list_of no_items = []
list_of (item d ds) = d ∷ list_of ds

-- the text that a value is, by default empty
abbrev pub text_of : Data → List ℕ
text_of d = unwrap_or (as_str d) []

-- the text of a member, where it is one
abbrev pub text_at : List ℕ → Data → Option (List ℕ)
text_at name d = option_and_then as_str (get name d)

-- the text of a member, by default empty
abbrev pub text : List ℕ → Data → List ℕ
text name d = unwrap_or (text_at name d) []

-- the elements of a member, by default none
abbrev pub elements : List ℕ → Data → List Data
elements name d = unwrap_or (option_map list_of (option_and_then as_array (get name d))) []

-- the member, or null, all of whose members are absent
abbrev pub member : List ℕ → Data → Data
member name d = unwrap_or (get name d) null

-- what a member is by its type, by default this
abbrev pub value_or : {A : Type 0} → (Data → Option A) → A → List ℕ → Data → A
value_or as_type default name d = unwrap_or (option_and_then as_type (get name d)) default

-- the texts of an array
abbrev pub texts : List ℕ → Data → List (List ℕ)
texts name d = map text_of (elements name d)

-- the members of an object, in byte order of their names
abbrev pub entries_of : Members → List (List ℕ × Data)
entries_of no_members = []
entries_of (one_member name d rest) = (name, d) ∷ entries_of rest

-- the names of members
abbrev pub names_in : List (List ℕ × Data) → List (List ℕ)
names_in given = map (λ (entry : List ℕ × Data). entry.0) given

abbrev pub entries : List ℕ → Data → List (List ℕ × Data)
entries name d = unwrap_or (option_map entries_of (option_and_then as_object (get name d))) []

-- a member of an object as it is kept
abbrev pub shown : Bor (List ℕ) × Bor Value → List ℕ × Data
shown entry = (entry.0.now, view entry.1.now)

-- the same behind a key
abbrev pub kept : {K : Type 0} → K × (Bor (List ℕ) × Bor Value) → List ℕ × Data
kept entry = shown entry.1

-- ---- when it is refused

-- whether a member is there and of another type
abbrev pub differs : {A : Type 0} → (Data → Option A) → Option Data → Bool
differs as_type None = false
differs as_type (Some d) = is_none (as_type d)

-- what is read of a member, where it is there
abbrev pub if_there : (Data → Table) → Option Data → Table
if_there table None = nothing
if_there table (Some d) = table d

-- what stands at this place must be an object
abbrev pub an_object : List ℕ → Data → Table
an_object place d = refuse place cause.Shape (is_none (as_object d))

-- the member must be there
abbrev pub needed : List ℕ → List ℕ → Data → Table
needed place name d = refuse (child place name) cause.Missing (is_none (get name d))

-- the member, where it is there, must be of the type
abbrev pub typed : {A : Type 0} → (Data → Option A) → List ℕ → List ℕ → Data → Table
typed as_type place name d = refuse (child place name) cause.Shape (differs as_type (get name d))

-- a member that must be there and of the form
abbrev pub needed_form : {A : Type 0} → (Data → Option A) → List ℕ → List ℕ → Data → Table
needed_form as_type place name d = needed place name d ▸ typed as_type place name d

abbrev pub needed_text : List ℕ → List ℕ → Data → Table
needed_text place name d = needed place name d ▸ typed as_str place name d

abbrev pub needed_array : List ℕ → List ℕ → Data → Table
needed_array place name d = needed place name d ▸ typed as_array place name d

abbrev pub needed_object : List ℕ → List ℕ → Data → Table
needed_object place name d = needed place name d ▸ typed as_object place name d

-- an element must be a text
abbrev pub a_text : List ℕ → List (List ℕ) → Data → Table
a_text items earlier d = refuse (nth items (length earlier)) cause.Shape (is_none (as_str d))

-- the elements of an array of texts, which stand at the place
abbrev pub each_text : List ℕ → List Data → Table
each_text items = each (a_text items) text_of []

-- a member that is an array of texts
abbrev pub typed_texts : List ℕ → List ℕ → Data → Table
typed_texts place name d = typed as_array place name d ▸ each_text (child place name) (elements name d)
