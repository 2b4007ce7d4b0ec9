-- Which values named lists have, and what tells it.
use Rattle.std.specs.Prelude.{◌↔◌, ℕ, Bool, IsTrue, List, map}
use Rattle.std.specs.List.{All}
use Rattle.edge_fields.specs.declared.kind.Basic.{Basic}
use Rattle.edge_fields.specs.declared.kind.Basic.TheVariants as basic
use Rattle.edge_fields.specs.declared.value.Value.{Value, out-Value}
use Rattle.edge_fields.specs.declared.value.Value.TheOpen as open_value
use Rattle.list_store.specs.declared.part.ListPart.{ListPart}
use Rattle.list_store.specs.Parts.{has_text, HasAddr}

-- a list of texts has the texts among its items, a list of addresses the addresses that its items hold
abbrev pub HasShown : Basic → List (List ℕ) → open_value.Value-F Value → Type 0
HasShown basic.Text items (open_value.Text text) = IsTrue (has_text items text)
HasShown basic.Addr items (open_value.Addr address) = HasAddr items address
HasShown kind items other = ⊥

-- a list has a value
abbrev pub HasValue : ListPart → Value → Type 0
HasValue part v = HasShown part.kind part.items (out-Value v)

-- what tells by the name of a list which values it has tells it of each of these
abbrev pub TellsLists : (List ℕ → Value → Bool) → List ListPart → Type 0
TellsLists is_listed parts = All (λ part. (v : Value) → IsTrue (is_listed part.name v) ↔ HasValue part v) parts

-- something tells which values each of these lists has
abbrev pub CanBeTold : List ListPart → Type 0
CanBeTold parts = (is_listed : List ℕ → Value → Bool) × TellsLists is_listed parts

-- the names of lists
abbrev pub names_of : List ListPart → List (List ℕ)
names_of parts = map (λ (part : ListPart). part.name) parts

-- the names of lists with what each holds
abbrev pub list_kinds_of : List ListPart → List (List ℕ × Basic)
list_kinds_of parts = map (λ (part : ListPart). (part.name, part.kind)) parts
