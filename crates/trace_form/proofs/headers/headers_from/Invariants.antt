use Rattle.std.proofs.Common.{◌≡◌, ◌++◌, length, option_map}
use Rattle.std.specs.Vec.Iter.{into_iter_items, into_iter_len}
use Rattle.serde_json.specs.View.{items_view}
use Rattle.trace_form.specs.Asked.{headers_from}
use Rattle.trace_form.proofs.headers.headers_from.Given as goal

-- the headers so far, and those of the pairs that are left, are all; and the iterator counts what is left
abbrev pub invariant-loop-value : goal.invariant-loop-value
invariant-loop-value l = record {
  all : option_map (λ more. l.headers ++ more) (headers_from (items_view (into_iter_items l.value-iterator))) ≡ headers_from (items_view l.fn.values.items);
  left : into_iter_len l.value-iterator ≡ length (into_iter_items l.value-iterator);
}
