-- What functions of arrays and maps give, those that split a text and join texts, and the length of a text.
use Rattle.std.specs.Prelude.{◌≡◌, ℕ, zero, suc, ◌-◌, pos, Bool, nat_eq, ◌==◌, List, [], ◌∷◌, ◌++◌, length, is_some, Option, None, Some, option_and_then, MatchOption, bytes_eq, if◌then◌else◌}
use Rattle.std.specs.List.{list_any, list_all, flat_map, onto_first, starts_with}
use Rattle.std.specs.Borrow.{Bor}
use Rattle.std.specs.Map.{lookup}
use Rattle.std.specs.Option.{option_map, option_or, option_zip}
use Rattle.std.specs.Ordering.{int_eq}
use Rattle.edge_fields.specs.declared.value.Value.{Value, out-Value}
use Rattle.edge_fields.specs.declared.value.Value.TheOpen as open_value
use Rattle.edge_fields.specs.declared.value.Value.TheVariants as value
use Rattle.edge_fields.specs.Fields.{texts}
use Rattle.edge_fields.specs.Values.{text_in, number_in, truth_in, items_in, entries_in}
use Rattle.func_lib.specs.Arguments.{all_of, only_of, pair_of, two_texts}

-- the only argument, an array of truth values
abbrev pub truths_of : List Value → Option (List Bool)
truths_of vs = option_and_then (all_of truth_in) (option_and_then items_in (only_of vs))

-- any: whether some element is true
abbrev pub any_of : List Value → Option Value
any_of vs = option_map (λ truths. value.Bool (list_any (λ truth. truth) truths)) (truths_of vs)

-- all: whether every element is true
abbrev pub every_of : List Value → Option Value
every_of vs = option_map (λ truths. value.Bool (list_all (λ truth. truth) truths)) (truths_of vs)

abbrev pub size_in : open_value.Value-F Value → Option ℕ
size_in (open_value.Text text) = Some (length text)
size_in (open_value.Num number) = None
size_in (open_value.Addr addr) = None
size_in (open_value.Bool truth) = None
size_in (open_value.Array items) = Some (length items)
size_in (open_value.Map entries) = None

-- how many bytes a text has, or elements an array
abbrev pub size_of : Value → Option ℕ
size_of v = size_in (out-Value v)

-- len: the bytes of a text, or the elements of an array
abbrev pub len_of : List Value → Option Value
len_of vs = option_map (λ size. value.Num (pos size)) (option_and_then size_of (only_of vs))

-- has_key: whether the map has the key
abbrev pub has_key_of : List Value → Option Value
has_key_of vs =
    option_and_then (λ args. option_and_then (λ entries. option_map (λ key. value.Bool (is_some (lookup (bytes_eq key) entries)))
    (text_in args.1)) (entries_in args.0)) (pair_of vs)

-- whether one of some texts is equal to a text
abbrev pub has_text : List Value → Value → Option Bool
has_text items v = option_and_then (λ text. option_map (list_any (bytes_eq text)) (all_of text_in items)) (text_in v)

-- whether one of some numbers is equal to a number
abbrev pub has_number : List Value → Value → Option Bool
has_number items v = option_and_then (λ number. option_map (list_any (int_eq number)) (all_of number_in items)) (number_in v)

-- has_value: whether some element is equal to the text or number
abbrev pub has_value_of : List Value → Option Value
has_value_of vs =
    option_and_then (λ args. option_and_then (λ items. option_map value.Bool (option_or (has_text items args.1) (has_number items args.1)))
    (items_in args.0)) (pair_of vs)

-- the pieces of a text between the places at which a separator that isn't empty stands, found from the left and
-- without overlap; `skip` counts the bytes of the last one that are still to be passed over
abbrev pub pieces_from : List ℕ → ℕ → List ℕ → List (List ℕ)
pieces_from separator skip [] = [] ∷ []
pieces_from separator zero (byte ∷ text) =
    if starts_with nat_eq (byte ∷ text) separator then [] ∷ pieces_from separator (length separator - 1) text
    else onto_first byte (pieces_from separator zero text)
pieces_from separator (suc skip) (byte ∷ text) = pieces_from separator skip text

-- the pieces of a text between the places of a separator; an empty separator gives the whole as one piece
abbrev pub pieces_between : List ℕ → List ℕ → List (List ℕ)
pieces_between separator text = if length separator == 0 then text ∷ [] else pieces_from separator 0 text

-- split: the pieces of the first text between the places of the second
abbrev pub split_of : List Value → Option Value
split_of vs = option_map (λ args. texts (pieces_between args.1 args.0)) (two_texts vs)

-- what stands before the first place of a separator and what stands after it, or none where it stands nowhere
abbrev pub IsFirstCut : List ℕ → List ℕ → Option (Bor (List ℕ) × Bor (List ℕ)) → Type 0
IsFirstCut separator text found =
    MatchOption found (pieces_between separator text ≡ text ∷ [])
    (λ cut. pieces_between separator text ≡ cut.0.now ∷ pieces_between separator cut.1.now)

-- texts with a separator before each
abbrev pub after_separators : List ℕ → List (List ℕ) → List ℕ
after_separators separator parts = flat_map (λ part. separator ++ part) parts

-- bytes with values behind them, each after a separator, if all are texts
abbrev pub parts_behind : List ℕ → List ℕ → List Value → Option (List ℕ)
parts_behind bytes separator values =
    option_map (λ parts. bytes ++ after_separators separator parts) (all_of text_in values)

-- texts with a separator between each two
abbrev pub joined : List ℕ → List (List ℕ) → List ℕ
joined separator [] = []
joined separator (part ∷ parts) = part ++ after_separators separator parts

-- an array and a text
abbrev pub array_and_text : List Value → Option (List Value × List ℕ)
array_and_text vs = option_and_then (λ args. option_zip (items_in args.0) (text_in args.1)) (pair_of vs)

-- join: the elements with the separator between
abbrev pub join_of : List Value → Option Value
join_of vs =
    option_and_then (λ args. option_map (λ parts. value.Text (joined args.1 parts)) (all_of text_in args.0)) (array_and_text vs)
