-- Which values are of which kind.
use Rattle.std.specs.Prelude.{◌≡◌, ℕ, ℤ, Bool, List, All, bytes_eq}
use Rattle.std.specs.List.{IsDistinct}
use Rattle.std.specs.Map.{keys_of}
use Rattle.edge_base.specs.declared.address.Addr.{Addr}
use Rattle.edge_fields.specs.declared.kind.Basic.{Basic}
use Rattle.edge_fields.specs.declared.kind.Basic.TheVariants as basic
use Rattle.edge_fields.specs.declared.kind.Kind.{Kind}
use Rattle.edge_fields.specs.declared.kind.Kind.TheVariants as kind
use Rattle.edge_fields.specs.declared.value.Value.{Value}
use Rattle.edge_fields.specs.declared.value.Value.TheVariants as value

-- the value is of the basic kind
abbrev pub HasBasic : Basic → Value → Type 0
HasBasic basic.Text v = (text : List ℕ) × (v ≡ value.Text text)
HasBasic basic.Num v = (number : ℤ) × (v ≡ value.Num number)
HasBasic basic.Addr v = (addr : Addr) × (v ≡ value.Addr addr)
HasBasic basic.Bool v = (truth : Bool) × (v ≡ value.Bool truth)

-- the value is of the kind
abbrev pub HasKind : Kind → Value → Type 0
HasKind (kind.One of) v = HasBasic of v
HasKind (kind.Array of) v = (items : List Value) × All (HasBasic of) items × (v ≡ value.Array items)
HasKind kind.Map v =
    (entries : List (List ℕ × List (List ℕ))) × IsDistinct bytes_eq (keys_of entries) × (v ≡ value.Map entries)
