-- What is found in an expression has an answer of the checker.
use Rattle.std.proofs.Common.{◌≡◌, ◌⊎◌, ◌≤◌, ℕ, Bool, true, false, List, [], ◌∷◌, Option, Some, None, refl, inl, inr, arith}
use Rattle.std.proofs.lemmas.Bool.{cases_lt, both_ways}
use Rattle.std.proofs.lemmas.Str.{IsUtf8-from_is_utf8, is_utf8-from_IsUtf8}
use Rattle.std.specs.Option.{IsSomeAnd}
use Rattle.std.specs.Str.{is_utf8, chars}
use Rattle.regex_syntax.specs.Grammar.{read}
use Rattle.text_match.specs.Patterns.{IsPattern, bytes_config}
use Rattle.type_check.specs.Checking.{Finding, IsAnswer}
use Rattle.type_check.specs.Checking as finding
use Rattle.type_check.specs.declared.fault.Fault.{Fault}
use Rattle.type_check.specs.declared.fault.TypeCause.TheVariants as cause

-- ---- a text is a pattern or not

few_or_not : {A : Type 0} (o : Option A) (depth : A → ℕ) (limit : ℕ) → IsSomeAnd o (λ a. depth a ≤ limit) ⊎ (¬ (IsSomeAnd o (λ a. depth a ≤ limit)))
few_or_not None depth limit = inr (λ is. is)
few_or_not (Some a) depth limit = elim (cases_lt limit (depth a)) [
  | inl more ↦ inr (λ is. let few : depth a ≤ limit = is in omega (arith, more, few))
  | inr few ↦ inl few
]

found_pattern : (text : List ℕ) → IsPattern text ⊎ (¬ (IsPattern text))
found_pattern text = of_test (is_utf8 text) refl (few_or_not (read bytes_config (chars text)) (λ p. p.0.depth) bytes_config.nest_limit) where
  of_test : (utf8 : Bool) → is_utf8 text ≡ utf8
      → IsSomeAnd (read bytes_config (chars text)) (λ p. p.0.depth ≤ bytes_config.nest_limit) ⊎ (¬ (IsSomeAnd (read bytes_config (chars text)) (λ p. p.0.depth ≤ bytes_config.nest_limit)))
      → IsPattern text ⊎ (¬ (IsPattern text))
  of_test false is_other read_so = inr (λ is. both_ways (is_utf8 text) is_other (is_utf8-from_IsUtf8 text is.0))
  of_test true is_valid (inl few) = inl (IsUtf8-from_is_utf8 text is_valid, few)
  of_test true is_valid (inr none) = inr (λ is. none is.1)

-- ---- what is found has an answer

abbrev Answered : List Finding → Type 0
Answered found = IsAnswer found None ⊎ ((fault : Fault) × IsAnswer found (Some fault))

answered_pattern : (node : ℕ) (text : List ℕ) (rest : List Finding) → IsPattern text ⊎ (¬ (IsPattern text)) → Answered rest
    → Answered (finding.pattern node text ∷ rest)
answered_pattern node text rest (inr none) behind =
    inr (record { node = node; cause = cause.PatternSyntax }, inl (cause.PatternSyntax, none, refl))
answered_pattern node text rest (inl is) (inl none) = inl (inr (is, none))
answered_pattern node text rest (inl is) (inr (fault, some)) = inr (fault, inr (is, some))

pub answer_found : (found : List Finding) → Answered found
answer_found [] = inl refl
answer_found (finding.fault node c ∷ rest) = inr (record { node = node; cause = c }, refl)
answer_found (finding.pattern node text ∷ rest) =
    answered_pattern node text rest (found_pattern text) (answer_found rest)
