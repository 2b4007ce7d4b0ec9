-- What functions that replace give, by wildcards and by patterns of `regex`.
use Rattle.std.specs.Prelude.{ℕ, Bool, true, false, is_none, List, Option, None, Some, option_and_then, bytes_eq, codes, if◌then◌else◌}
use Rattle.std.specs.Option.{option_map}
use Rattle.edge_fields.specs.declared.value.Value.{Value}
use Rattle.edge_fields.specs.declared.value.Value.TheVariants as value
use Rattle.text_match.specs.Patterns.{first_match, replaced}
use Rattle.text_match.specs.Replacement.{filled}
use Rattle.text_match.specs.Takes.{first_takes}
use Rattle.text_match.specs.Wildcards.{fault_of, pieces_of}
use Rattle.edge_fields.specs.Values.{text_in}
use Rattle.func_lib.specs.Arguments.{optional_of, texts_of_three, three_texts, three_or_four}

-- whether the flags make a wildcard strict: `s` does, and there are no others
abbrev pub strict_of : Option (List ℕ) → Option Bool
strict_of None = Some false
strict_of (Some flags) = if bytes_eq flags (codes "s") then Some true else None

-- a text, a wildcard, a replacement, and whether the wildcard is strict
abbrev pub wildcard_arguments : List Value → Option ((List ℕ × List ℕ × List ℕ) × Bool)
wildcard_arguments vs =
    option_and_then (λ args. option_and_then (λ texts. option_and_then (λ flags. option_map (λ strict. (texts, strict))
    (strict_of flags)) (optional_of text_in args.1)) (texts_of_three args.0)) (three_or_four vs)

-- the pieces of a wildcard, unless it has a fault
abbrev pub wild_of : List ℕ → Option (List (List ℕ))
wild_of pattern = if is_none (fault_of pattern) then Some (pieces_of pattern) else None

-- the replacement filled with the first takes, or the text as it is where the wildcard doesn't match
abbrev pub filled_or : List ℕ → List ℕ → Option (List (List ℕ)) → List ℕ
filled_or text replacement None = text
filled_or text replacement (Some takes) = filled takes replacement

-- wildcard_replace: the text, or the replacement filled with the first takes where the wildcard matches the text
abbrev pub wildcard_replace_of : List Value → Option Value
wildcard_replace_of vs =
    option_and_then (λ args. option_map (λ pieces. value.Text (filled_or args.0.0 args.0.2 (first_takes pieces args.1 args.0.0)))
    (wild_of args.0.1)) (wildcard_arguments vs)

-- a text with the first match of a pattern replaced
abbrev pub first_replaced : List ℕ × List ℕ × List ℕ → List ℕ
first_replaced args = replaced args.0 args.2 (first_match args.1 args.0)

-- regex_replace: the text with the first match replaced
abbrev pub regex_replace_of : List Value → Option Value
regex_replace_of vs = option_map (λ args. value.Text (first_replaced args)) (three_texts vs)
