use Rattle.std.proofs.Common.{List, ℕ, Result, Ok, Err}
use Rattle.edge_base.specs.declared.address.Addr.{Addr}
use Rattle.edge_base.specs.declared.expression.Item.{Item}
use Rattle.edge_base.specs.Address.{IsAddrText}
use Rattle.edge_base.proofs.AddressLemmas.{IsAddrText-unique}
use Rattle.addr_set.specs.declared.reading.Flaw.{Flaw}
use Rattle.addr_set.specs.declared.reading.Flaw.TheVariants as flaw
use Rattle.addr_set.specs.Readings.{ReadsJoined, ReadsRange}
use Rattle.addr_set.proofs.reading.range_of.Goals as goal

ReadsRange-joined : (left right : List ℕ) (first last : Addr) → IsAddrText left first → IsAddrText right last → (r : Result Item Flaw) → ReadsJoined first last r → ReadsRange left right r
ReadsRange-joined left right first last is_first is_last (Ok one) h = (first, last, h.0, is_first, is_last, h.1)
ReadsRange-joined left right first last is_first is_last (Err flaw.Address) h =
    λ a b is_a is_b one_family.
    let same_first = IsAddrText-unique left a first is_a is_first in
    let same_last = IsAddrText-unique right b last is_b is_last in
    h (rw (same_first, same_last) at one_family)
ReadsRange-joined left right first last is_first is_last (Err flaw.Prefix) h = h
ReadsRange-joined left right first last is_first is_last (Err flaw.Backward) h = (first, last, is_first, is_last, h)

pub returns-in-Some-Some : goal.returns-in-Some-Some
returns-in-Some-Some c = ReadsRange-joined c.args.left.now c.args.right.now c.in-Some-Some.first c.in-Some-Some.last c.in-Some-Some.ensures c.in-Some-Some.ensures' c.range.result c.range.ensures
