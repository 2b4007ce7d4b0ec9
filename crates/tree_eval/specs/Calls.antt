-- What a call gives, by what its arguments give.
use Rattle.std.specs.Prelude.{List, [], ◌∷◌, ◌++◌, map, Option, None, if◌then◌else◌}
use Rattle.std.specs.List.{filter_map}
use Rattle.std.specs.Option.{option_map, option_and_then}
use Rattle.edge_fields.specs.declared.function_id.FunctionId.{FunctionId}
use Rattle.edge_fields.specs.declared.value.Value.{Value}
use Rattle.edge_fields.specs.declared.value.Value.TheVariants as value
use Rattle.func_lib.specs.Functions.{function_of}
use Rattle.type_check.specs.Meaning.{Sense, single, spread, alone, all_of, or_false, takes_whole}

-- values with one more, where none is missing
abbrev pub with_last : Option (List Value) → Option Value → Option (List Value)
with_last values last = option_and_then (λ vs. option_map (λ v. vs ++ v ∷ []) last) values

-- a function of a value and further ones
abbrev pub result_of : FunctionId → Option (List Value) → Value → Option Value
result_of id further first = option_and_then (λ others. function_of id (first ∷ others)) further

-- what a call gives, by what its first argument gives and by the values of the others, if none of these is missing
abbrev pub called_of : FunctionId → Sense → Option (List Value) → Option Value
called_of id (single first) further = or_false id (option_and_then (result_of id further) first)
called_of id (spread items) further =
    if takes_whole id then None else option_map (λ vs. value.Array (filter_map (result_of id further) vs)) items

-- what a call gives
abbrev pub call_of : FunctionId → List Sense → Option Value
call_of id [] = or_false id (function_of id [])
call_of id (first ∷ further) = called_of id first (all_of (map alone further))
