-- What a built regex finds is what the grammar's reading of its text finds.
use Rattle.std.proofs.Common.{◌≡◌, ℕ, zero, suc, ◌+◌, ◌*◌, ◌<◌, ◌≤◌, false, List, ◌∷◌, ◌++◌, map, take, drop, get_or, Option, None, Some, IsSomeAnd, is_some, option_map, Result, Ok, Err, IfOk, refl, sym, ap, ap₂, subst, ◌∙◌, arith}
use Rattle.std.specs.Prelude.{option_and_then}
use Rattle.std.specs.List.{range_with_len}
use Rattle.std.specs.Str.{chars}
use Rattle.std.specs.Prelude.{◌⊎◌, ◌≢◌, IfSome, IsUtf8}
use Rattle.std.proofs.Common.{inl, inr, ⊎_elim}
use Rattle.std.proofs.lemmas.Option.{same_Some}
use Rattle.regex_syntax.specs.declared.error.ErrorKind.{ErrorKind}
use Rattle.regex_syntax.specs.declared.error.ErrorKind.TheVariants.{OutOfMemory}
use Rattle.regex.specs.Sources.{IsRefusal}
use Rattle.regex.specs.Failures.{IsRightKind}
use Rattle.regex.specs.Failures as kit
use Rattle.regex.specs.Search.{group_span}
use Rattle.regex.specs.declared.error.Error.{Error}
use Rattle.regex.specs.declared.error.Error.TheVariants as error
use Rattle.regex.specs.declared.bytes.captures.Captures.{Captures}
use Rattle.text_match.specs.declared.pattern.PatternFault.{PatternFault}
use Rattle.text_match.specs.declared.pattern.PatternFault.TheVariants as fault
use Rattle.regex_syntax.specs.Brackets.{Nested}
use Rattle.regex_syntax.specs.Grammar.{Names, read}
use Rattle.regex.specs.Patterns.{Re, Match, SameCaptures, Reads, Refuses, find, span, slot_of}
use Rattle.regex.specs.Names.{names_of}
use Rattle.regex.specs.Writes.{both, group_of}
use Rattle.regex.specs.Bytes.{regex_pattern, regex_source, match_span, captures_span, captures_haystack, IsCapturesOf}
use Rattle.regex.specs.declared.bytes.regex.Regex.{Regex}
use Rattle.regex.proofs.ForCallers.{is_match_alike, span_alike, found_alike}
use Rattle.text_match.specs.Patterns.{bytes_config, IsPattern, first_match, text_at, group_texts_of, replaced}
use Rattle.text_match.specs.Regexes.{IsOfItsText, fault_for, IsReplaced}
use Rattle.text_match.specs.Replacement.{filled}

-- a weaker fact of what an option holds
weaker : {A : Type 0} (o : Option A) (P Q : A → Type 0) → ((x : A) → P x → Q x) → IsSomeAnd o P → IsSomeAnd o Q
weaker None P Q gives holds = absurd holds
weaker (Some x) P Q gives holds = gives x holds

reads_of : (r : Regex) → IsOfItsText r → Reads bytes_config (regex_source r) r.pattern.program.hir (names_of r.pattern.names.items)
reads_of r known = subst (λ config. Reads config (regex_source r) r.pattern.program.hir (names_of r.pattern.names.items)) known.config known.is_read

-- the pattern of a built regex and the reading of its text show a caller the same
alike : (r : Regex) → IsOfItsText r → IsSomeAnd (read bytes_config (chars (regex_source r))) (λ (re, _). SameCaptures (regex_pattern r) re.value)
unfolding Reads
alike r known = weaker (read bytes_config (chars (regex_source r))) _ _ (λ x holds. holds.1) (reads_of r known)

-- a text of which a regex was built is a pattern
pub built_of_pattern : (r : Regex) → IsOfItsText r → IsSomeAnd (read bytes_config (chars (regex_source r))) (λ (re, _). re.depth ≤ bytes_config.nest_limit)
unfolding Reads
built_of_pattern r known = weaker (read bytes_config (chars (regex_source r))) _ _ (λ x holds. holds.0) (reads_of r known)

module _ (a : Re) (text : List ℕ) (bytes : (k : ℕ) → get_or text k 0 < 256) where
  match_by : (o : Option (Nested Re × Names)) → IsSomeAnd o (λ (re, _). SameCaptures a re.value) → is_some (find a text 0) ≡ is_some (option_and_then (λ (re, _). find re.value text 0) o)
  match_by None holds = absurd holds
  match_by (Some x) holds = is_match_alike holds text bytes false 0

  -- the replaced text, by what a caller sees of the match
  replaced_by : List ℕ → ℕ × ℕ → (ℕ → Option ℕ) → List ℕ
  replaced_by replacement place slots =
      take place.0 text ++ (filled (map (λ n. text_at text (both (slots (2 * n)) (slots (2 * n + 1)))) (range_with_len 1 8)) replacement ++ drop place.1 text)

  some_by : (replacement : List ℕ) (o : Option (Nested Re × Names)) (m : Match) → IsSomeAnd o (λ (re, _). SameCaptures a re.value) → find a text 0 ≡ Some m → replaced text replacement (Some m) ≡ replaced text replacement (option_and_then (λ (re, _). find re.value text 0) o)
  unfolding replaced_by
  some_by replacement None m holds is = absurd holds
  some_by replacement (Some x) m holds is =
      let other = found_alike holds text bytes false 0 m is in
      let places : span m ≡ span other.0 = same_Some _ _ (sym (ap (option_map span) is) ∙ span_alike holds text bytes false 0 ∙ ap (option_map span) other.1) in
      ap (λ place. replaced_by replacement place (slot_of m)) places
      ∙ ap (λ slots. replaced_by replacement (span other.0) slots) (sym other.2)
      ∙ ap (replaced text replacement) (sym other.1)

  is_none : (o : Option Match) → false ≡ is_some o → o ≡ None
  is_none None e = refl
  is_none (Some m) e = absurd cc

  none_by : (replacement : List ℕ) (o : Option (Nested Re × Names)) → IsSomeAnd o (λ (re, _). SameCaptures a re.value) → find a text 0 ≡ None → text ≡ replaced text replacement (option_and_then (λ (re, _). find re.value text 0) o)
  none_by replacement None holds is = refl
  none_by replacement (Some x) holds is =
      ap (replaced text replacement) (sym (is_none (find x.0.value text 0) (ap is_some (sym is) ∙ is_match_alike holds text bytes false 0)))

module _ (r : Regex) (known : IsOfItsText r) (text : List ℕ) (bytes : (k : ℕ) → get_or text k 0 < 256) where
  pub match_same : is_some (find (regex_pattern r) text 0) ≡ is_some (first_match (regex_source r) text)
  match_same = match_by (regex_pattern r) text bytes (read bytes_config (chars (regex_source r))) (alike r known)

  pub replaced_same : (replacement : List ℕ) (m : Match) → find (regex_pattern r) text 0 ≡ Some m → replaced text replacement (Some m) ≡ replaced text replacement (first_match (regex_source r) text)
  replaced_same replacement m is = some_by (regex_pattern r) text bytes replacement (read bytes_config (chars (regex_source r))) m (alike r known) is

  pub kept_same : (replacement : List ℕ) → find (regex_pattern r) text 0 ≡ None → text ≡ replaced text replacement (first_match (regex_source r) text)
  kept_same replacement is = none_by (regex_pattern r) text bytes replacement (read bytes_config (chars (regex_source r))) (alike r known) is

-- ---- how a text is refused

too_deep : (limit depth : ℕ) → limit < depth → ¬ (depth ≤ limit)
too_deep limit depth deep within = omega arith

no_pattern : (o : Option (Nested Re × Names)) (limit : ℕ) → (o ≡ None) ⊎ IfSome o (λ (re, _). limit < re.depth) → ¬ (IsSomeAnd o (λ (re, _). re.depth ≤ limit))
no_pattern None limit refused holds = holds
no_pattern (Some x) limit refused holds = ⊎_elim (λ (none : Some x ≡ None). absurd cc) (λ (deep : limit < x.0.depth). too_deep limit x.0.depth deep holds) refused

refused_by : (text : List ℕ) (kind : ErrorKind) → Refuses bytes_config text kind → kind ≢ OutOfMemory → ¬ (IsPattern text)
unfolding Refuses
refused_by text kind refuses other is =
    ⊎_elim (λ memory. other memory)
    (λ cause. no_pattern (read bytes_config (chars text)) bytes_config.nest_limit (⊎_elim (λ none. inl none) (λ deep. inr deep.1) cause) is.1)
    refuses

pub syntax_refused : (text : List ℕ) (error : Error) (given : PatternFault) → given ≡ fault_for error → IsRefusal bytes_config text error → IsRightKind bytes_config text error → given ≡ fault.Syntax → ¬ (IsPattern text)
syntax_refused text (error.Syntax cause) given is refused kind syntax = refused_by text cause.kind (refused cause refl) kind
syntax_refused text error.CompiledTooBig given is refused kind syntax = absurd cc
syntax_refused text error.Internal given is refused kind syntax = absurd cc
syntax_refused text error.OutOfMemory given is refused kind syntax = absurd cc

read_pattern : (text : List ℕ) → IsUtf8 text → kit.IsPattern bytes_config text → IsPattern text
unfolding Reads
read_pattern text utf8 is = (utf8, weaker (read bytes_config (chars text)) _ _ (λ x holds. holds.0) is.2)

pub size_pattern : (text : List ℕ) (error : Error) (given : PatternFault) → given ≡ fault_for error → IsRightKind bytes_config text error → IsUtf8 text → given ≡ fault.Size → IsPattern text
size_pattern text (error.Syntax cause) given is kind utf8 size = absurd cc
size_pattern text error.CompiledTooBig given is kind utf8 size = read_pattern text utf8 kind
size_pattern text error.Internal given is kind utf8 size = read_pattern text utf8 kind
size_pattern text error.OutOfMemory given is kind utf8 size = absurd cc

-- ---- what the captures of a match say

map_from : (f g : ℕ → List ℕ) (from n : ℕ) → ((k : ℕ) → from ≤ k → f k ≡ g k) → map f (range_with_len from n) ≡ map g (range_with_len from n)
map_from f g from zero same = refl
map_from f g from (suc n) same = ap₂ (λ x xs. x ∷ xs) (same from (omega arith)) (map_from f g (from + 1) n (λ k up. same k (omega arith)))

whole_span : (c : Captures) → captures_span c 0 ≡ Some (match_span c.whole)
unfolding group_span
whole_span c = refl

pub replace_is : (text replacement : List ℕ) (c : Captures) (m : Match) (place : ℕ × ℕ) (groups : List (List ℕ)) → IsCapturesOf text m c → Some place ≡ captures_span c 0 → groups ≡ map (λ n. text_at (captures_haystack c) (captures_span c n)) (range_with_len 1 8) → take place.0 text ++ (filled groups replacement ++ drop place.1 text) ≡ replaced text replacement (Some m)
replace_is text replacement c m place groups are whole is =
    let places : place ≡ span m = same_Some _ _ (whole ∙ whole_span c) ∙ are.1.whole_is in
    let all : groups ≡ group_texts_of text m =
    is ∙ map_from (λ n. text_at (captures_haystack c) (captures_span c n)) (λ n. text_at text (group_of m n)) 1 8 (λ k up. ap₂ text_at are.0 (are.2 k up)) in
    ap (λ gs. take place.0 text ++ (filled gs replacement ++ drop place.1 text)) all
    ∙ ap (λ (s : ℕ × ℕ). take s.0 text ++ (filled (group_texts_of text m) replacement ++ drop s.1 text)) places

-- what holds of all matches with these captures holds of this one
pub replaced_with : {E : Type 0} (text replacement : List ℕ) (c : Captures) (m : Match) → IsCapturesOf text m c → (r : Result (List ℕ) E) → IfOk r (IsReplaced text replacement c) → IfOk r (λ whole. whole ≡ replaced text replacement (Some m))
replaced_with text replacement c m are (Ok whole) is = is m are
replaced_with text replacement c m are (Err refused) is = tt
