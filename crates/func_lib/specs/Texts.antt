-- What functions of texts give.
use Rattle.std.specs.Prelude.{ℕ, suc, ◌-◌, min, ℤ, pos, negsuc, Bool, true, false, not, ◌&&◌, nat_le, nat_eq, List, ◌∷◌, ◌++◌, length, filter, Option, None, Some, option_and_then, codes, decimal, if◌then◌else◌}
use Rattle.std.specs.List.{list_any, between, concat, starts_with, ends_with}
use Rattle.std.specs.Option.{option_map, option_or}
use Rattle.std.specs.Str.{str_to_ascii_lowercase, str_to_ascii_uppercase}
use Rattle.edge_base.specs.Address.{addr_text}
use Rattle.edge_base.specs.Printed.{signed, truth_word}
use Rattle.edge_fields.specs.declared.value.Value.{Value, out-Value}
use Rattle.edge_fields.specs.declared.value.Value.TheOpen as open_value
use Rattle.edge_fields.specs.declared.value.Value.TheVariants as value
use Rattle.edge_fields.specs.Values.{text_in, number_in}
use Rattle.func_lib.specs.Arguments.{all_of, optional_of, only_of, one_text, two_texts, two_or_three}

-- lower: the text with its ASCII letters in lower case
abbrev pub lower_of : List Value → Option Value
lower_of vs = option_map (λ text. value.Text (str_to_ascii_lowercase text)) (one_text vs)

-- upper: the text with its ASCII letters in upper case
abbrev pub upper_of : List Value → Option Value
upper_of vs = option_map (λ text. value.Text (str_to_ascii_uppercase text)) (one_text vs)

-- a place in a text of this size: a negative one counts from the end, and each is clamped to the text
abbrev pub place_in : ℕ → ℤ → ℕ
place_in size (pos n) = min n size
place_in size (negsuc n) = size - suc n

-- the place at which a part ends: that of the text's end, where none is given
abbrev pub end_in : ℕ → Option ℤ → ℕ
end_in size None = size
end_in size (Some place) = place_in size place

-- the bytes of a text from one place up to another; none, unless the first is below the second
abbrev pub part_of : List ℕ → ℤ → Option ℤ → List ℕ
part_of text start end = between (place_in (length text) start) (end_in (length text) end) text

-- a text, a place and perhaps another
abbrev pub text_and_places : List Value → Option (List ℕ × ℤ × Option ℤ)
text_and_places vs =
    option_and_then (λ args. option_and_then (λ text. option_and_then (λ start. option_map (λ end. (text, start, end))
    (optional_of number_in args.2)) (number_in args.1)) (text_in args.0)) (two_or_three vs)

-- substring: the bytes from the first place up to the second
abbrev pub substring_of : List Value → Option Value
substring_of vs = option_map (λ args. value.Text (part_of args.0 args.1 args.2)) (text_and_places vs)

-- a text without every byte that occurs in another
abbrev pub without : List ℕ → List ℕ → List ℕ
without removed text = filter (λ byte. not (list_any (λ other. nat_eq other byte) removed)) text

-- remove_bytes: the first text without every byte of the second
abbrev pub remove_bytes_of : List Value → Option Value
remove_bytes_of vs = option_map (λ args. value.Text (without args.1 args.0)) (two_texts vs)

-- starts_with: whether the second text is a front of the first
abbrev pub starts_with_of : List Value → Option Value
starts_with_of vs = option_map (λ args. value.Bool (starts_with nat_eq args.0 args.1)) (two_texts vs)

-- ends_with: whether the second text is an end of the first
abbrev pub ends_with_of : List Value → Option Value
ends_with_of vs = option_map (λ args. value.Bool (ends_with nat_eq args.0 args.1)) (two_texts vs)

abbrev pub string_in : open_value.Value-F Value → Option (List ℕ)
string_in (open_value.Text text) = None
string_in (open_value.Num number) = Some (signed number)
string_in (open_value.Addr addr) = Some (addr_text addr)
string_in (open_value.Bool truth) = Some (truth_word truth)
string_in (open_value.Array items) = None
string_in (open_value.Map entries) = None

-- how a number, an address or a truth value is written
abbrev pub string_of : Value → Option (List ℕ)
string_of v = string_in (out-Value v)

-- bytes with more behind them, if there is more
abbrev pub behind : List ℕ → Option (List ℕ) → Option (List ℕ)
behind bytes more = option_map (λ added. bytes ++ added) more

-- to_string: the number, address or truth value as it is written
abbrev pub to_string_of : List Value → Option Value
to_string_of vs = option_map value.Text (option_and_then string_of (only_of vs))

-- how a text, a number, an address or a truth value is written: a text as it is
abbrev pub written_of : Value → Option (List ℕ)
written_of v = option_or (text_in v) (string_of v)

-- from one value to sixteen
abbrev pub is_concat_count : List Value → Bool
is_concat_count vs = nat_le 1 (length vs) && nat_le (length vs) 16

-- concat: one to sixteen values as they are written, joined
abbrev pub concat_of : List Value → Option Value
concat_of vs =
    if is_concat_count vs then option_map (λ texts. value.Text (concat texts)) (all_of written_of vs) else None
