-- How a trial goes on, and what it has written where it ends.
use Rattle.std.proofs.Common.{◌≡◌, ℕ, ◌+◌, ◌<◌, ◌≤◌, ◌^◌, Bool, true, false, cond, List, [], ◌∷◌, ◌++◌, take, drop, length, length-append, Option, None, Some, refl, sym, ap, ap₂, subst, ◌∙◌, arith, append_assoc, append-nil, take-append-drop}
use Rattle.std.specs.Io.KnownBytes.{Appends}
use Rattle.edge_base.specs.declared.message.Reply.{Reply}
use Rattle.edge_outside.specs.Lines.{lines_of}
use Rattle.edge_outside.specs.Told.{AppendsFront}
use Rattle.rate_plain.specs.History.{entry_of}
use Rattle.rate_plain.specs.declared.entry.Entry.{Entry}
use Rattle.ruleset_model.specs.ConfigParts.{ConfigParts}
use Rattle.judge_core.specs.Judging.{Judgement, judging, judgement, backing}
use Rattle.judge_core.specs.Talk.{Talk, Ends, Asks}
use Rattle.judge_core.specs.Values.{Listed}
use Rattle.trace_form.specs.declared.output.LineParts.{LineParts}
use Rattle.edge_main.specs.Answered.{RunState, opening, LineKind, Answered, request_talked, followed, reply_used, reply_backed}
use Rattle.edge_main.specs.Answered as line
use Rattle.edge_main.specs.Counting.{replied, with_step, talked}
use Rattle.edge_main.specs.Output.{IsAnswered, IsRun}
use Rattle.edge_main.specs.Output as answered
use Rattle.edge_main.specs.Running.{HasCome, TookSo}
use Rattle.edge_main.specs.Shown.{steps_in}
use Rattle.edge_main.specs.Spent.{IsSpentOn, WasSpent}
use Rattle.edge_main.specs.Summary.{requests_in, requests_of, summary_text}
use Rattle.edge_main.specs.Summing.{IsOfRequests, text_of}
use Rattle.edge_main.specs.Tried.{IsSummary, EndedTrial, WroteSummaryFront}
use Rattle.edge_main.specs.Trying.{IsTriedTo}
use Rattle.edge_main.specs.declared.run.Run.{Run}
use Rattle.edge_main.specs.declared.statuses.Status.{Status}
use Rattle.edge_main.specs.declared.statuses.Status.TheVariants as status
use Rattle.edge_main.specs.declared.summary.Summary.{Summary}
use Rattle.edge_main.specs.declared.trial.Trial.{Trial}
use Rattle.edge_main.proofs.OutputLemmas.{run-append}
use Rattle.edge_main.proofs.RunningLemmas.{few-steps}

-- ---- a line adds as many steps as it shows

talked_longer : {A : Type 0} (talk : Talk A) (history : List Entry) → length (talked talk history).history ≡ length history + length (talked talk history).counts
talked_longer (Ends a) history = omega arith
talked_longer (Asks ask answered) history =
    let rest = talked_longer (answered (replied history ask)) (with_step history ask) in
    omega (arith, rest, length-append history (entry_of 64 4096 history 0 ask ∷ []))

backed_longer : (listed : Listed) (config : ConfigParts) (one : Judgement) (used : Option (Reply × ℕ)) (history : List Entry)
    → length (reply_backed listed config one used history).history ≡ length history + length (reply_backed listed config one used history).counts
backed_longer listed config one None history = omega arith
backed_longer listed config one (Some used) history = talked_longer (backing listed config one used.0 used.1) history

-- what a line comes to: one line more, and the steps that it shows
record GoesOn (s : RunState) (this : Answered) : Type 0 where
  pub lines : this.after.lines ≡ s.lines + 1
  pub longer : length this.after.history ≡ length s.history + length (steps_in this.kind)

goes_on : (s : RunState) (given : List ℕ) (this : Answered) → IsAnswered s given this → GoesOn s this
goes_on s given this (answered.blank h p) = subst (λ (t : Answered). GoesOn s t) (sym p) (record { lines = refl; longer = omega arith })
goes_on s given this (answered.bad why h p) = subst (λ (t : Answered). GoesOn s t) (sym p) (record { lines = refl; longer = omega arith })
goes_on s given this (answered.deployment value config h e p) =
    subst (λ (t : Answered). GoesOn s t) (sym p) (record { lines = refl; longer = omega arith })
goes_on s given this (answered.no_deployment value place cause h e p) =
    subst (λ (t : Answered). GoesOn s t) (sym p) (record { lines = refl; longer = omega arith })
goes_on s given this (answered.request recorded listed h e p) =
    let t = request_talked listed s recorded.request in
    let back = followed listed s recorded.reply t in
    let one : length t.history ≡ length s.history + length t.counts = talked_longer (judging listed s.config recorded.request) s.history in
    let two : length back.history ≡ length t.history + length back.counts =
    backed_longer listed s.config (judgement t.ended) (reply_used (judgement t.ended).verdict.kind recorded.reply) t.history in
    let all : length back.history ≡ length s.history + length (t.counts ++ back.counts) =
    omega (arith, one, two, length-append t.counts back.counts) in
    subst (λ (t : Answered). GoesOn s t) (sym p) (record { lines = refl; longer = all })

-- ---- a trial under way

pub tried_opens : (trial : Trial) → HasCome trial.run opening → IsOfRequests trial.summary [] → IsTriedTo trial [] opening
tried_opens trial come counted = record {
  run = [];
  is_run = refl;
  come = come;
  counted = counted;
  few_requests = let none : trial.summary.requests ≡ 0 = counted.count in omega (arith, none);
  few_full = let none : trial.summary.full ≡ 0 = counted.full in omega (arith, none);
}

requests_append : (run : List Answered) (this : Answered) → requests_of (run ++ this ∷ []) ≡ requests_of run ++ requests_in this.kind
requests_append [] this = append-nil (requests_in this.kind)
requests_append (first ∷ run) this =
    ap (λ (more : List LineParts). requests_in first.kind ++ more) (requests_append run this)
    ∙ sym (append_assoc (requests_in first.kind) (requests_of run) (requests_in this.kind))

-- a line was taken, and its requests were counted
tried_more : (trial trial' : Trial) (lines : List (List ℕ)) (given : List ℕ) (to : RunState) (this : Answered) (some : List LineParts)
    → (t : IsTriedTo trial lines to) → IsAnswered to given this → HasCome trial'.run this.after → requests_in this.kind ≡ some
    → IsOfRequests trial'.summary (requests_of t.run ++ some) → trial'.summary.requests ≤ this.after.lines
    → trial'.summary.full ≤ length this.after.history → IsTriedTo trial' (lines ++ given ∷ []) this.after
tried_more trial trial' lines given to this some t is come kind counted few full = record {
  run = t.run ++ this ∷ [];
  is_run = run-append opening to this.after lines (given ∷ []) t.run (this ∷ []) t.is_run (is, refl);
  come = come;
  counted =
      subst (IsOfRequests trial'.summary)
      (sym (requests_append t.run this ∙ ap (λ (more : List LineParts). requests_of t.run ++ more) kind)) counted;
  few_requests = few;
  few_full = full;
}

-- a line that is no request
pub tried_other : (trial trial' : Trial) (lines : List (List ℕ)) (given text : List ℕ) (to : RunState) (t : IsTriedTo trial lines to)
    → TookSo to given None text trial'.run → trial'.summary ≡ trial.summary → (after : RunState) × IsTriedTo trial' (lines ++ given ∷ []) after
tried_other trial trial' lines given text to t (this, is, none, came) same =
    let goes = goes_on to given this is in
    let requests : trial'.summary.requests ≡ trial.summary.requests = ap (λ (s : Summary). s.requests) same in
    let full : trial'.summary.full ≡ trial.summary.full = ap (λ (s : Summary). s.full) same in
    let few = t.few_requests in
    let few_full = t.few_full in
    let lines_more = goes.lines in
    let longer = goes.longer in
    let counted = subst (λ (s : Summary). IsOfRequests s (requests_of t.run ++ [])) (sym same)
    (subst (IsOfRequests trial.summary) (sym (append-nil (requests_of t.run))) t.counted) in (
      this.after,
      tried_more trial trial' lines given to this [] t is came.1 none counted (omega (arith, few, lines_more, requests)) (omega (arith, few_full, longer, full)),
    )

-- a request has room in the counts
pub request_fits : (trial : Trial) (run : Run) (lines : List (List ℕ)) (given text : List ℕ) (to : RunState) (parts : LineParts)
    → IsTriedTo trial lines to → TookSo to given (Some parts) text run → trial.summary.full + length parts.counts ≤ 2 ^ 50
request_fits trial run lines given text to parts t (this, is, (kind, come)) =
    let longer : length this.after.history ≡ length to.history + length parts.counts =
    (goes_on to given this is).longer ∙ ap (λ (k : LineKind). length to.history + length (steps_in k)) kind in
    let few = few-steps run this.after come in
    let full = t.few_full in
    omega (arith, longer, few, full)

-- a request was counted
pub tried_request : (trial trial' : Trial) (lines : List (List ℕ)) (given text : List ℕ) (to : RunState) (parts : LineParts) (t : IsTriedTo trial lines to)
    → TookSo to given (Some parts) text trial'.run → IsOfRequests trial'.summary (requests_of t.run ++ parts ∷ [])
    → trial'.summary.requests ≡ trial.summary.requests + 1 → trial'.summary.full ≤ trial.summary.full + length parts.counts
    → (after : RunState) × IsTriedTo trial' (lines ++ given ∷ []) after
tried_request trial trial' lines given text to parts t (this, is, (kind, come)) counted requests full =
    let goes = goes_on to given this is in
    let longer : length this.after.history ≡ length to.history + length parts.counts =
    goes.longer ∙ ap (λ (k : LineKind). length to.history + length (steps_in k)) kind in
    let few = t.few_requests in
    let few_full = t.few_full in
    let lines_more = goes.lines in (
      this.after,
      tried_more trial trial' lines given to this (parts ∷ []) t is come (ap requests_in kind) counted (omega (arith, few, lines_more, requests))
          (omega (arith, few_full, longer, full)),
    )

-- a step of the next line was one too many
pub tried_spent : (trial : Trial) (lines rest : List (List ℕ)) (given input : List ℕ) (to : RunState) → IsTriedTo trial lines to → IsSpentOn to given
    → lines_of input ≡ lines ++ given ∷ rest → WasSpent input
tried_spent trial lines rest given input to t spent is = record {
  front = lines;
  given = given;
  rest = rest;
  is_text = is;
  run = t.run;
  to = to;
  is_run = t.is_run;
  spent = spent;
}

-- ---- the summary

pub text_is : (summary : Summary) (requests : List LineParts) (steps steps' : ℕ) → IsOfRequests summary requests → steps ≡ steps'
    → text_of summary steps ≡ summary_text requests steps'
text_is summary requests steps steps' is same =
    let count = is.count in
    let pass = is.pass in
    let block = is.block in
    let challenge = is.challenge in
    let redirect = is.redirect in
    let full = is.full in
    let endings = is.endings in
    rw (count, pass, block, challenge, redirect, full, endings, same) refl

-- the summary of what was tried over an input
pub summary_of : (trial : Trial) (input text : List ℕ) (to : RunState) (t : IsTriedTo trial (lines_of input) to)
    → text ≡ summary_text (requests_of t.run) (length to.history) → IsSummary to.any_bad input text
summary_of trial input text to t is = record {
  run = t.run;
  to = to;
  is_run = t.is_run;
  is_text = is;
  is_bad = refl;
  few = few-steps trial.run to t.come;
}

ended_by : (any_bad : Bool) (input text : List ℕ) (before now : Option (List ℕ)) → IsSummary any_bad input text → Appends before now text
    → EndedTrial (cond any_bad status.BadItems status.Done) input before now
ended_by true input text before now is wrote = (text, is, wrote)
ended_by false input text before now is wrote = (text, is, wrote)

-- it was written
pub summary_written : (ended : Status) (run : Run) (to : RunState) (input text : List ℕ) (before now : Option (List ℕ)) → HasCome run to
    → ended ≡ cond run.any_bad status.BadItems status.Done → IsSummary to.any_bad input text → Appends before now text
    → EndedTrial ended input before now
summary_written ended run to input text before now come is summary wrote =
    subst (λ (s : Status). EndedTrial s input before now)
    (sym (is ∙ ap (λ (bad : Bool). cond bad status.BadItems status.Done) come.any_bad)) (ended_by to.any_bad input text before now summary wrote)

-- a front of it was written
pub summary_cut : (to : RunState) (input text : List ℕ) (before now : Option (List ℕ)) → IsSummary to.any_bad input text → AppendsFront before now text
    → WroteSummaryFront input before now
summary_cut to input text before now summary (count, fewer, wrote) =
    (to.any_bad, text, summary, (take count text, drop count text, wrote, sym (take-append-drop count text)))
