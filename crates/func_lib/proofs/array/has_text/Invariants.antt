-- what was found, with what is found in the rest, is what is found in all
use Rattle.std.proofs.Common.{◌≡◌, ◌||◌, drop}
use Rattle.std.specs.List.{list_any}
use Rattle.std.specs.Option.{option_map}
use Rattle.std.specs.Str.{bytes_eq}
use Rattle.edge_fields.specs.Values.{text_in}
use Rattle.func_lib.specs.Arguments.{all_of}
use Rattle.func_lib.proofs.array.has_text.Given as goal

abbrev pub invariant-loop-item : goal.invariant-loop-item
invariant-loop-item l =
    option_map (λ texts. l.found || list_any (bytes_eq l.text) texts) (all_of text_in (drop l.item-index l.items))
    ≡ option_map (list_any (bytes_eq l.text)) (all_of text_in l.items)
