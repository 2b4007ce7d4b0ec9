-- Patterns: which texts are patterns of `regex`, what they match in a text of bytes, and how a match is replaced.
use Rattle.std.specs.Prelude.{ℕ, ◌≤◌, List, [], ◌++◌, map, take, drop, Option, None, Some, IsSomeAnd, option_and_then, slice_range, IsUtf8, false}
use Rattle.std.specs.List.{range_with_len}
use Rattle.std.specs.Str.{chars}
use Rattle.regex_syntax.specs.Grammar.{read}
use Rattle.regex.specs.Patterns.{Match, Config, default_config, find, span}
use Rattle.regex.specs.Writes.{group_of}
use Rattle.text_match.specs.Replacement.{filled}

-- the options under which a pattern over bytes is read
abbrev pub bytes_config : Config
bytes_config = record default_config { utf8 = false }

-- the text is a pattern: UTF-8 that the grammar of `regex` reads, nested within its limit
abbrev pub IsPattern : List ℕ → Type 0
IsPattern text =
    IsUtf8 text × IsSomeAnd (read bytes_config (chars text)) (λ (re, _). re.depth ≤ bytes_config.nest_limit)

-- the leftmost match of a pattern in a text
abbrev pub first_match : List ℕ → List ℕ → Option Match
first_match pattern text = option_and_then (λ (re, _). find re.value text 0) (read bytes_config (chars pattern))

-- what stands at a span of a text, or nothing where there is no span
abbrev pub text_at : List ℕ → Option (ℕ × ℕ) → List ℕ
text_at text None = []
text_at text (Some place) = slice_range text place.0 place.1

-- what the groups 1 to 8 of a match hold
abbrev pub group_texts_of : List ℕ → Match → List (List ℕ)
group_texts_of text m = map (λ n. text_at text (group_of m n)) (range_with_len 1 8)

-- the text with the match replaced, or as it is where there is none
abbrev pub replaced : List ℕ → List ℕ → Option Match → List ℕ
replaced text replacement None = text
replaced text replacement (Some m) =
    take (span m).0 text ++ (filled (group_texts_of text m) replacement ++ drop (span m).1 text)
