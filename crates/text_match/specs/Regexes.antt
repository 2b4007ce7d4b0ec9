-- Working vocabulary, which no public clause cites: what is known of a regex that was built from a text, and of a match.
use Rattle.std.specs.Prelude.{◌≡◌, ℕ, List, Some, map}
use Rattle.std.specs.List.{range_with_len}
use Rattle.regex.specs.Bytes.{regex_config, captures_haystack, captures_span, IsReadFromSource, IsCapturesOf}
use Rattle.regex.specs.Patterns.{Match}
use Rattle.regex.specs.declared.bytes.captures.Captures.{Captures}
use Rattle.regex.specs.declared.bytes.regex.Regex.{Regex}
use Rattle.regex.specs.declared.error.Error.{Error}
use Rattle.regex.specs.declared.error.Error.TheVariants as error
use Rattle.text_match.specs.declared.pattern.PatternFault.{PatternFault}
use Rattle.text_match.specs.declared.pattern.PatternFault.TheVariants as fault
use Rattle.text_match.specs.Patterns.{bytes_config, text_at, replaced}

-- the regex is what its text is read as, over bytes
pub record IsOfItsText (regex : Regex) : Type 0 where
  pub config : regex_config regex ≡ bytes_config
  pub is_read : IsReadFromSource regex

-- the fault for an error of `regex`
abbrev pub fault_for : Error → PatternFault
fault_for (error.Syntax cause) = fault.Syntax
fault_for error.CompiledTooBig = fault.Size
fault_for error.Internal = fault.Size
fault_for error.OutOfMemory = fault.Memory

-- what the groups 1 to 8 of some captures hold
abbrev pub captured_texts : Captures → List (List ℕ)
captured_texts captures =
    map (λ n. text_at (captures_haystack captures) (captures_span captures n)) (range_with_len 1 8)

-- the text with the match replaced whose captures these are
abbrev pub IsReplaced : List ℕ → List ℕ → Captures → List ℕ → Type 0
IsReplaced text replacement captures whole =
    (m : Match) → IsCapturesOf text m captures → whole ≡ replaced text replacement (Some m)
