-- The line that `check` writes, and how it ends.
use Rattle.std.proofs.Common.{◌≡◌, ◌≢◌, ◌⊎◌, ◌↔◌, ◌^◌, ℕ, true, false, nat_le, nat_lt, List, [], ◌++◌, take, drop, length, codes, Option, None, Some, Err, Ok, Result, inl, inr, refl, sym, ap, subst, ◌∙◌, take-append-drop, arith}
use Rattle.std.proofs.lemmas.Bool.{cases_Bool}
use Rattle.std.proofs.lemmas.Bool.Decides.{nat_tests}
use Rattle.std.specs.Io.KnownBytes.{Appends}
use Rattle.edge_outside.specs.Told.{AppendsFront}
use Rattle.config_read.specs.declared.fault.Cause.TheVariants as cause
use Rattle.config_read.specs.declared.fault.ConfigFault.TheVariants as config
use Rattle.config_read.specs.Causes.{cause_name}
use Rattle.edge_main.specs.declared.document.ReadingFault.{ReadingFault}
use Rattle.edge_main.specs.declared.document.ReadingFault.TheVariants as fault
use Rattle.edge_main.specs.declared.statuses.Status.{Status}
use Rattle.edge_main.specs.declared.statuses.Status.TheVariants as status
use Rattle.edge_main.specs.Document.{kept_of, TookDocument}
use Rattle.edge_main.specs.Checked.{IsChecked, refused_line}
use Rattle.edge_main.specs.CheckEnded.{EndedCheck, WritesLine}
use Rattle.edge_main.specs.Ended.{IsJudged, TookInput}

-- a text of which nothing is kept is too long
long_text : (text : List ℕ) → None ≡ kept_of text → nat_lt 1048576 (length text) ≡ true
long_text text none = elim (cases_Bool (nat_le (length text) 1048576)) [
  | inl short ↦ let kept : kept_of text ≡ Some text = rw short refl in let never : None ≡ Some text = none ∙ kept in cc
  | inr long ↦ grind (arith, nat_tests)
]

pub long_line : (text line : List ℕ) → None ≡ kept_of text → line ≡ refused_line (codes "/") (cause_name cause.TooLong)
    → IsChecked text line status.BadItems
long_line text line none same = (Err (config.Refused (codes "/") cause.TooLong), inl (inl (long_text text none, refl)), (same, refl))

-- a line was written whole
line_written : (ended : Status) (text line : List ℕ) (before now : Option (List ℕ)) → IsJudged ended → IsChecked text line ended
    → Appends before now line → EndedCheck ended text before now
line_written status.Done text line before now judged checked wrote = (line, checked, wrote)
line_written status.BadItems text line before now judged checked wrote = (line, checked, wrote)
line_written other text line before now (inl is) checked wrote = absurd cc
line_written other text line before now (inr is) checked wrote = absurd cc

-- a line was written, or a front of it
pub line_ended : (ended result : Status) (text line : List ℕ) (before now : Option (List ℕ)) → IsJudged ended → IsChecked text line ended
    → WritesLine line ended before now result → EndedCheck result text before now
line_ended ended result text line before now judged checked (inl (same, wrote)) =
    subst (λ (s : Status). EndedCheck s text before now) (sym same) (line_written ended text line before now judged checked wrote)
line_ended ended result text line before now judged checked (inr (same, (count, fewer, wrote))) =
    subst (λ (s : Status). EndedCheck s text before now) (sym same) (
      take count line,
      drop count line,
      ended,
      wrote,
      subst (λ (whole : List ℕ). IsChecked text whole ended) (sym (take-append-drop count line)) checked,
    )

-- the document was read to its end, and not 2^40 bytes of it
pub took_whole : {A : Type 0} (left left' taken taken' : Option (List ℕ)) (kept : A) (ended : Status) → ended ≢ status.LongInput
    → TookDocument left left' taken taken' (Ok kept) → TookInput left left' taken taken' ended
took_whole {A} left left' taken taken' kept ended other took = record {
  bytes = took.bytes;
  left = took.consumed;
  taken = took.appended;
  limit = (
    λ long. absurd (other long),
    λ full. absurd (let never : Ok kept ≡ Err fault.LongInput = took.limit.1 full in cc),
  );
}
