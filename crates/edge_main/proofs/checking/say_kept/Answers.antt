use Rattle.std.proofs.Common.{◌≡◌, ◌++◌, ◌∙◌, List, ℕ, codes, ap, sym}
use Rattle.config_read.specs.declared.fault.Cause.TheVariants as cause
use Rattle.config_read.specs.Causes.{cause_name}
use Rattle.edge_main.specs.Checked.{refused_line}
use Rattle.edge_main.proofs.CheckLemmas.{long_line}
use Rattle.edge_main.proofs.checking.say_kept.Goals as goal

-- nothing is kept: the text is too long
pub returns-in_ok-push_refused-in-None-clause-line : goal.returns-in_ok-push_refused-in-None-clause-line
returns-in_ok-push_refused-in-None-clause-line c = λ text is.
    long_line text c.push_refused.new.line (c.in-None.ensures ∙ is)
    (c.in_ok-push_refused-in-None.ensures ∙ ap (λ (old : List ℕ). old ++ refused_line (codes "/") (cause_name cause.TooLong)) c.requires)
