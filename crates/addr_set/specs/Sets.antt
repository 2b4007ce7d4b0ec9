-- Which addresses the items of a list hold.
use Rattle.std.specs.Prelude.{◌≡◌, ℕ, ◌≤◌, Bool, false, List}
use Rattle.std.specs.List.{list_any}
use Rattle.edge_base.specs.declared.address.Addr.{Addr}
use Rattle.edge_base.specs.declared.address.Addr.TheVariants as addr
use Rattle.edge_base.specs.declared.expression.Lit.TheVariants as lit
use Rattle.edge_base.specs.declared.expression.Item.{Item}
use Rattle.edge_base.specs.declared.expression.Item.TheVariants as item
use Rattle.edge_base.specs.Ranges.{is_from_to, shares_bits}
use Rattle.addr_set.specs.declared.set.AddrSet.{AddrSet}
use Rattle.addr_set.specs.declared.intervals.Interval.{Interval}
use Rattle.addr_set.specs.Intervals.{is_in_any}

-- how many bits an address of this family has
abbrev pub width_of : Addr → ℕ
width_of (addr.V4 number) = 32
width_of (addr.V6 number) = 128

-- both are of one family, and the first is no greater than the last
abbrev pub IsRange : Addr → Addr → Type 0
IsRange (addr.V4 first) (addr.V4 last) = first ≤ last
IsRange (addr.V6 first) (addr.V6 last) = first ≤ last
IsRange first last = ⊥

-- an item that holds addresses: an address, a range, or a block whose first bits are no more than there are
abbrev pub IsAddrItem : Item → Type 0
IsAddrItem (item.One (lit.Addr one)) = Unit {0}
IsAddrItem (item.Addrs first last) = IsRange first last
IsAddrItem (item.Block one bits) = bits ≤ width_of one
IsAddrItem other = ⊥

-- whether an item holds an address
abbrev pub holds : Item → Addr → Bool
holds (item.One (lit.Addr one)) address = is_from_to one one address
holds (item.Addrs first last) address = is_from_to first last address
holds (item.Block one bits) address = shares_bits one bits address
holds other address = false

-- whether some item holds an address
abbrev pub has_addr : List Item → Addr → Bool
has_addr items address = list_any (λ one. holds one address) items

-- the intervals have the numbers of the addresses of one family that some item holds
abbrev pub HaveAddrs : List Interval → (ℕ → Addr) → List Item → Type 0
HaveAddrs intervals family items = (number : ℕ) → is_in_any intervals number ≡ has_addr items (family number)

-- the addresses of a set
abbrev pub addresses_of : AddrSet → Addr → Bool
addresses_of set (addr.V4 number) = is_in_any set.v4.list.items number
addresses_of set (addr.V6 number) = is_in_any set.v6.list.items number
