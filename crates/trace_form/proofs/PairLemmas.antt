-- An array of other than two elements is no pair.
use Rattle.std.proofs.Common.{◌≡◌, ◌==◌, Bool, false, cond, List, length, Option, Some, None, refl, ap, sym, ◌∙◌, eqb-true}
use Rattle.std.proofs.lemmas.Bool.{false_from_ne_true}
use Rattle.std.specs.Option.{option_map_or}
use Rattle.serde_json.specs.Data.{Data}
use Rattle.serde_json.specs.Events.{items_len}
use Rattle.serde_json.specs.Find.{as_array}
use Rattle.serde_json.specs.View.{items_view}
use Rattle.serde_json.specs.declared.value.Value.{Value}
use Rattle.serde_json.proofs.Views.{items_len-items_view}
use Rattle.trace_form.specs.Members.{has_items}
use Rattle.trace_form.specs.Asked.{pair_of}

never : {A : Type 0} (test : Bool) (found : Option A) → test ≡ false → cond test found None ≡ None
never test found h = rw h refl

pub no_pair : (value : Data) (items : List Value) → Some (items_view items) ≡ as_array value → ¬ (length items ≡ 2) → pair_of value ≡ None
no_pair value items h other =
    let two : (length items == 2) ≡ false = false_from_ne_true (length items == 2) (λ same. other (eqb-true (length items) 2 same)) in
    let count : has_items 2 value ≡ false =
    ap (λ found. option_map_or (λ values. items_len values == 2) found false) (sym h) ∙ ap (λ n. n == 2) (items_len-items_view items) ∙ two in
    never (has_items 2 value) _ count
