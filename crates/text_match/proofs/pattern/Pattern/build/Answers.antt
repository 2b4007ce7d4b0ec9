-- A built regex is of its text, and an error has its cause in the text.
use Rattle.std.proofs.Common.{◌≡◌, ◌≤◌, IsSomeAnd, subst, ◌∙◌}
use Rattle.std.specs.Str.{chars}
use Rattle.regex_syntax.specs.Grammar.{read}
use Rattle.regex.specs.Failures.{IsRightKind}
use Rattle.text_match.specs.declared.pattern.PatternFault.TheVariants.{Syntax, Size}
use Rattle.text_match.specs.Patterns.{bytes_config, IsPattern}
use Rattle.text_match.specs.Regexes.{IsOfItsText}
use Rattle.text_match.proofs.PatternLemmas.{built_of_pattern, syntax_refused, size_pattern}
use Rattle.text_match.proofs.pattern.Pattern.build.Goals as goal

pub returns-in-Ok-new-2-clause-is_pattern : goal.returns-in-Ok-new-2-clause-is_pattern
returns-in-Ok-new-2-clause-is_pattern c =
    let known : IsOfItsText c.in-Ok-new.regex = record { config = c.in-Ok-new.ensures.config; is_read = c.in-Ok-new.ensures.read } in (
      c.in-Ok.ensures.cases.1,
      subst (λ text. IsSomeAnd (read bytes_config (chars text)) (λ (re, _). re.depth ≤ bytes_config.nest_limit)) (c.in-Ok-new.ensures.source ∙ c.in-Ok.ensures.cases.0) (built_of_pattern c.in-Ok-new.regex known),
    )

pub returns-in-Err-clause-syntax : goal.returns-in-Err-clause-syntax
returns-in-Err-clause-syntax c =
    λ syntax. let is : c.fault_for.result ≡ Syntax = cc in subst (λ text. ¬ (IsPattern text)) c.in-Ok.ensures.cases.0
    (syntax_refused c.in-Ok.source.now c.in-Err.error c.fault_for.result c.fault_for.ensures c.in-Err.ensures.refused c.in-Err.ensures.kind is)

pub returns-in-Err-clause-size : goal.returns-in-Err-clause-size
returns-in-Err-clause-size c =
    λ size. let is : c.fault_for.result ≡ Size = cc in size_pattern c.args.pattern.now c.in-Err.error c.fault_for.result c.fault_for.ensures
    (subst (λ text. IsRightKind bytes_config text c.in-Err.error) c.in-Ok.ensures.cases.0 c.in-Err.ensures.kind) c.in-Ok.ensures.cases.1 is
