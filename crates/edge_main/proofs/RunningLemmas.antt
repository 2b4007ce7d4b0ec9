-- How a run goes on, and what it has written where it ends.
use Rattle.std.proofs.Common.{◌≡◌, ℕ, Bool, true, false, cond, List, [], ◌∷◌, ◌++◌, take, drop, Option, Some, Result, Ok, Err, OnOk, OnErr, ◌<◌, ◌≤◌, ◌+◌, ◌^◌, ◌↔◌, ◌⊎◌, ◌≢◌, length, length-append, inl, inr, refl, sym, ap, subst, ◌∙◌, append_assoc, append-nil, take-append-drop}
use Rattle.std.specs.Io.KnownBytes.{Appends, Consumes}
use Rattle.std.proofs.KnownBytes.{Appends-trans, Appends-nil, Consumes-trans}
use Rattle.edge_outside.specs.Lines.{lines_of, NoNewline}
use Rattle.edge_outside.specs.Reading.{Stands, ahead_of}
use Rattle.edge_outside.specs.declared.line_reader.LineReader.{LineReader}
use Rattle.edge_outside.proofs.LinesLemmas.{NoNewline-append}
use Rattle.edge_outside.proofs.ReadingLemmas.{NoNewline-past}
use Rattle.edge_main.specs.declared.statuses.Status.{Status}
use Rattle.edge_main.specs.declared.statuses.Status.TheVariants as status
use Rattle.edge_main.specs.declared.replay.Replay.{Replay}
use Rattle.edge_main.specs.declared.replay.Turn.{Turn}
use Rattle.edge_main.specs.declared.replay.Turn.TheVariants as turn
use Rattle.edge_main.specs.declared.replay.RunFault.{RunFault}
use Rattle.edge_main.specs.declared.replay.RunFault.TheVariants as fault
use Rattle.rate_plain.specs.declared.fault.StepFault.{StepFault}
use Rattle.rate_plain.specs.declared.fault.StepFault.TheVariants as step
use Rattle.edge_main.specs.declared.run.Run.{Run}
use Rattle.edge_main.specs.Answered.{RunState, opening, Answered}
use Rattle.edge_main.specs.Output.{IsAnswered, IsRun, texts_of}
use Rattle.edge_main.specs.RunFaults.{run_fault}
use Rattle.edge_main.specs.Spent.{IsSpentOn, WasSpent}
use Rattle.edge_main.specs.Ended.{WroteOutput, WroteFront, WroteAnswers, IsBegun, WroteWhole, Ended, TookInput, IsJudged}
use Rattle.edge_main.specs.Running.{HasCome, Reached, Progress, Finished, StoppedBy, TurnOf, IsOpening, TookMore, status_of}
use Rattle.edge_main.proofs.OutputLemmas.{some_run, run-append, texts-append, opening_fine, run_fine}

-- nothing was answered yet
pub reached-opening : (got : Option (List ℕ)) (text : List ℕ) → Reached opening got got [] text text
reached-opening got text = record {
  front = [];
  is_front = refl;
  run = [];
  is_run = refl;
  written = [];
  appends = Appends-nil got;
  is_pending = refl;
}

-- the next line was answered
pub reached-line : (to : RunState) (before now : Option (List ℕ)) (pending pending' text rest rest' given : List ℕ) (this : Answered)
    → Reached to before now pending text rest → lines_of rest ≡ given ∷ lines_of rest' → IsAnswered to given this
    → pending' ≡ pending ++ this.text → Reached this.after before now pending' text rest'
reached-line to before now pending pending' text rest rest' given this r first answered same = record {
  front = r.front ++ given ∷ [];
  is_front = r.is_front ∙ ap (λ xs. r.front ++ xs) first ∙ sym (append_assoc r.front (given ∷ []) (lines_of rest'));
  run = r.run ++ this ∷ [];
  is_run = run-append opening to this.after r.front (given ∷ []) r.run (this ∷ []) r.is_run (answered, refl);
  written = r.written;
  appends = r.appends;
  is_pending =
      ap (λ xs. r.written ++ xs) same ∙ sym (append_assoc r.written pending this.text) ∙ ap (λ xs. xs ++ this.text) r.is_pending
      ∙ ap (λ xs. texts_of r.run ++ xs) (sym (append-nil this.text)) ∙ sym (texts-append r.run (this ∷ []));
}

-- a step of the next line was refused
pub stopped-step : (f : StepFault) (to : RunState) (left before now : Option (List ℕ)) (pending pending' text rest rest' given : List ℕ)
    → Reached to before now pending text rest → lines_of rest ≡ given ∷ lines_of rest' → pending' ≡ pending
    → (f ≡ step.Spent → IsSpentOn to given) → StoppedBy (run_fault f) left before now pending' text
stopped-step step.Memory to left before now pending pending' text rest rest' given r first same spent =
    (rest, to, subst (λ xs. Reached to before now xs text rest) (sym same) r)
stopped-step step.Spent to left before now pending pending' text rest rest' given r first same spent = (
  rest,
  to,
  subst (λ xs. Reached to before now xs text rest) (sym same) r,
  record {
    front = r.front;
    given = given;
    rest = lines_of rest';
    is_text = r.is_front ∙ ap (λ xs. r.front ++ xs) first;
    run = r.run;
    to = to;
    is_run = r.is_run;
    spent = spent refl;
  },
)

-- some of what was pending was written
pub reached-written : (to : RunState) (before now now' : Option (List ℕ)) (pending pending' written text rest : List ℕ)
    → Reached to before now pending text rest → Appends now now' written → written ++ pending' ≡ pending
    → Reached to before now' pending' text rest
reached-written to before now now' pending pending' written text rest r more same = record {
  front = r.front;
  is_front = r.is_front;
  run = r.run;
  is_run = r.is_run;
  written = r.written ++ written;
  appends = Appends-trans before now now' r.written written r.appends more;
  is_pending = append_assoc r.written written pending' ∙ ap (λ xs. r.written ++ xs) same ∙ r.is_pending;
}

-- a front of what was pending was written
pub front-written : (to : RunState) (before now after : Option (List ℕ)) (pending written left text rest : List ℕ)
    → Reached to before now pending text rest → Appends now after written → pending ≡ written ++ left → WroteFront text before after
front-written to before now after pending written left text rest r more same =
    let others = some_run to (lines_of rest) (run_fine opening to r.front r.run opening_fine r.is_run) in
    let behind = texts_of others.0 in
    let run = r.run ++ others.0 in
    let is_run : IsRun opening (lines_of text) run others.1 =
    subst (λ lines. IsRun opening lines run others.1) (sym r.is_front)
    (run-append opening to others.1 r.front (lines_of rest) r.run others.0 r.is_run others.2) in
    let joined : (r.written ++ written) ++ (left ++ behind) ≡ texts_of run =
    append_assoc r.written written (left ++ behind)
    ∙ ap (λ xs. r.written ++ xs) (sym (append_assoc written left behind))
    ∙ ap (λ xs. r.written ++ (xs ++ behind)) (sym same)
    ∙ sym (append_assoc r.written pending behind)
    ∙ ap (λ xs. xs ++ behind) r.is_pending
    ∙ sym (texts-append r.run others.0) in
    (r.written ++ written, left ++ behind, Appends-trans before now after r.written written r.appends more, (run, others.1, is_run, joined))

-- the same, where the front is told by its length
pub front-cut : (to : RunState) (before now after : Option (List ℕ)) (pending text rest : List ℕ) → Reached to before now pending text rest
    → (count : ℕ) → Appends now after (take count pending) → WroteFront text before after
front-cut to before now after pending text rest r count part =
    front-written to before now after pending (take count pending) (drop count pending) text rest r part (sym (take-append-drop count pending))

-- all that was pending was written
pub answers-written : (to : RunState) (before now after : Option (List ℕ)) (pending text rest : List ℕ) → Reached to before now pending text rest
    → Appends now after pending → WroteAnswers text rest before after
answers-written to before now after pending text rest r all = record {
  front = r.front;
  is_front = r.is_front;
  run = r.run;
  to = to;
  is_run = r.is_run;
  appends = subst (Appends before after) r.is_pending (Appends-trans before now after r.written pending r.appends all);
}

output-written : (to : RunState) (before now after : Option (List ℕ)) (pending text : List ℕ) → length to.history ≤ 2 ^ 50 → Reached to before now pending text []
    → Appends now after pending → WroteOutput to.any_bad text before after
output-written to before now after pending text few r all = record {
  run = r.run;
  to = to;
  is_run = subst (λ lines. IsRun opening lines r.run to) (sym (r.is_front ∙ append-nil r.front)) r.is_run;
  appends = subst (Appends before after) r.is_pending (Appends-trans before now after r.written pending r.appends all);
  is_bad = refl;
  few = few;
}

ended-whole : (any_bad : Bool) (text : List ℕ) (before after : Option (List ℕ)) → WroteOutput any_bad text before after
    → Ended (cond any_bad status.BadItems status.Done) text before after
ended-whole true text before after wrote = wrote
ended-whole false text before after wrote = wrote

-- the counter of a run has no more steps than it can have
pub few-steps : (run : Run) (to : RunState) → HasCome run to → length to.history ≤ 2 ^ 50
few-steps run to at = subst (λ n. n ≤ 2 ^ 50) at.counter.steps run.counter.within

-- the input ended, and all was written
pub closed : (ended : Status) (run : Run) (before now after : Option (List ℕ)) (pending text : List ℕ)
    → ended ≡ cond run.any_bad status.BadItems status.Done → Finished run before now pending text → Appends now after pending
    → Ended ended text before after
closed ended run before now after pending text is (to, at, r) all =
    subst (λ s. Ended s text before after) (sym (is ∙ ap (λ bad. cond bad status.BadItems status.Done) at.any_bad))
    (ended-whole to.any_bad text before after (output-written to before now after pending text (few-steps run to at) r all))

-- the same, where the answers of all lines were written
pub closed-whole : (run : Run) (before now after : Option (List ℕ)) (pending text : List ℕ) → Finished run before now pending text
    → Appends now after pending → WroteAnswers text [] before after
closed-whole run before now after pending text (to, at, r) all = answers-written to before now after pending text [] r all

-- the input ended, and a write failed
pub closed-cut : (run : Run) (before now after : Option (List ℕ)) (pending text : List ℕ) → Finished run before now pending text
    → (count : ℕ) → Appends now after (take count pending) → WroteFront text before after
closed-cut run before now after pending text (to, at, r) count part = front-cut to before now after pending text [] r count part

-- the run was cut off, and of what was pending this was written
pub stopped : (by : RunFault) (left before now after : Option (List ℕ)) (pending written more text : List ℕ) → ¬ (by ≡ fault.Write)
    → StoppedBy by left before now pending text → Appends now after written → pending ≡ written ++ more → Ended (status_of by) text before after
stopped fault.Read left before now after pending written more text other (rest, to, r, begun) part same = front-written to before now after pending written more text rest r part same
stopped fault.Write left before now after pending written more text other wrote part same = absurd (other refl)
stopped fault.Memory left before now after pending written more text other (rest, to, r) part same = front-written to before now after pending written more text rest r part same
stopped fault.LongInput left before now after pending written more text other (rest, to, r) part same = front-written to before now after pending written more text rest r part same
stopped fault.Spent left before now after pending written more text other (rest, to, r, spent) part same =
    (front-written to before now after pending written more text rest r part same, spent)

-- the run was cut off, and all that was pending was written
pub stopped-whole : (by : RunFault) (left before now after : Option (List ℕ)) (pending text : List ℕ) → ¬ (by ≡ fault.Write)
    → StoppedBy by left before now pending text → Appends now after pending → WroteWhole (status_of by) text left before after
stopped-whole fault.Read left before now after pending text other (rest, to, r, begun) all = (rest, answers-written to before now after pending text rest r all, λ _. begun)
stopped-whole fault.Write left before now after pending text other wrote all = absurd (other refl)
stopped-whole fault.Memory left before now after pending text other (rest, to, r) all =
    (rest, answers-written to before now after pending text rest r all, λ e. let never : status.Memory ≡ status.ReadFault = e in cc)
stopped-whole fault.LongInput left before now after pending text other (rest, to, r) all =
    (rest, answers-written to before now after pending text rest r all, λ e. let never : status.LongInput ≡ status.ReadFault = e in cc)
stopped-whole fault.Spent left before now after pending text other (rest, to, r, spent) all =
    (rest, answers-written to before now after pending text rest r all, λ e. let never : status.Spent ≡ status.ReadFault = e in cc)

-- what an Ok says holds where what an Err says doesn't
pub unless-failed : {A E : Type 0} (r : Result A E) (P Q : Type 0) → OnOk r P → OnErr r Q → ¬ Q → P
unless-failed (Ok x) P Q p q none = p
unless-failed (Err e) P Q p q none = absurd (none q)

-- the run was cut off, and what was pending was written, or a front of it
pub stopped-cut : {A E : Type 0} (r : Result A E) (by : RunFault) (left before now after : Option (List ℕ)) (pending text : List ℕ)
    → ¬ (by ≡ fault.Write) → StoppedBy by left before now pending text → OnOk r (Appends now after pending)
    → OnErr r ((count : ℕ) × (count < length pending) × Appends now after (take count pending))
    → Ended (status_of by) text before after
stopped-cut (Ok x) by left before now after pending text other stop all cut =
    stopped by left before now after pending pending [] text other stop all (sym (append-nil pending))
stopped-cut (Err e) by left before now after pending text other stop all cut =
    stopped by left before now after pending (take cut.0 pending) (drop cut.0 pending) text other stop cut.2
    (sym (take-append-drop cut.0 pending))

-- a turn whose piece was written
pub turn-written : (t : Turn) (run : Run) (reader : LineReader) (left before now after : Option (List ℕ)) (pending pending' written text : List ℕ)
    → TurnOf (Ok t) run reader left before now pending text → Appends now after written → written ++ pending' ≡ pending
    → TurnOf (Ok t) run reader left before after pending' text
turn-written turn.Next run reader left before now after pending pending' written text (to, rest, at, stands, r) part same =
    (to, rest, at, stands, reached-written to before now after pending pending' written text rest r part same)
turn-written turn.End run reader left before now after pending pending' written text (to, at, r) part same =
    (to, at, reached-written to before now after pending pending' written text [] r part same)

-- a turn whose piece was cut off
pub turn-cut : (t : Turn) (run : Run) (reader : LineReader) (left before now after : Option (List ℕ)) (pending text : List ℕ)
    → TurnOf (Ok t) run reader left before now pending text → (count : ℕ) → Appends now after (take count pending) → WroteFront text before after
turn-cut turn.Next run reader left before now after pending text (to, rest, at, stands, r) count part =
    front-cut to before now after pending text rest r count part
turn-cut turn.End run reader left before now after pending text (to, at, r) count part = front-cut to before now after pending text [] r count part

-- where a run begins, the whole text is left
pub progress-opening : (replay : Replay) (left got : Option (List ℕ)) (text : List ℕ) → IsOpening replay → left ≡ Some text
    → Progress replay.run replay.reader left got got replay.pending text
progress-opening replay left got text opens told = (
  opening,
  text,
  opens.run,
  subst (λ o. Stands replay.reader o text) (sym told) (opens.stands text),
  subst (λ pending. Reached opening got got pending text text) (sym opens.pending) (reached-opening got text),
)

-- nothing was read
pub answers-none : (ended : Status) (got left : Option (List ℕ)) (text : List ℕ) → ¬ (ended ≡ status.ReadFault)
    → WroteWhole ended text left got got
answers-none ended got left text other =
    (text, answers-written opening got got got [] text text (reached-opening got text) (Appends-nil got), λ e. absurd (other e))

-- the reader stands in a line
pub begun-stands : (reader : LineReader) (left : Option (List ℕ)) (rest : List ℕ) → Stands reader left rest → NoNewline (ahead_of reader)
    → IsBegun rest left
begun-stands reader left rest s none = (
  s.past ++ ahead_of reader,
  s.source,
  NoNewline-append s.past (ahead_of reader) (NoNewline-past reader.long s.past s.is_past) none,
  s.is_left,
  s.is_text ∙ sym (append_assoc s.past (ahead_of reader) s.source),
)

-- bytes were taken before, and in the last turn
pub took-input : (reader reader' : LineReader) (left left' left'' taken taken' taken'' : Option (List ℕ)) (ended : Status) (bytes : List ℕ)
    → Consumes left left' bytes → Appends taken taken' bytes → reader.taken ≡ length bytes
    → TookMore left' left'' taken' taken'' reader reader' → ((ended ≡ status.LongInput) ↔ (reader'.taken ≡ 2 ^ 40))
    → TookInput left left'' taken taken'' ended
took-input reader reader' left left' left'' taken taken' taken'' ended bytes consumed appended counted more limit =
    let size : reader'.taken ≡ length (bytes ++ more.bytes) =
    more.counted ∙ ap (λ n. n + length more.bytes) counted ∙ sym (length-append bytes more.bytes) in
    record {
      bytes = bytes ++ more.bytes;
      left = Consumes-trans left left' left'' bytes more.bytes consumed more.left;
      taken = Appends-trans taken taken' taken'' bytes more.bytes appended more.taken;
      limit = (λ long. sym size ∙ limit.0 long, λ full. limit.1 (size ∙ full));
    }

-- the input was read to its end
pub judged-or-cut : (s : Status) → IsJudged s ⊎ (s ≡ status.WriteFault) → (s ≢ status.LongInput) × (s ≢ status.ReadFault)
judged-or-cut s (inl (inl is)) =
    (λ e. let never : status.Done ≡ status.LongInput = sym is ∙ e in cc, λ e. let never : status.Done ≡ status.ReadFault = sym is ∙ e in cc)
judged-or-cut s (inl (inr is)) =
    (λ e. let never : status.BadItems ≡ status.LongInput = sym is ∙ e in cc, λ e. let never : status.BadItems ≡ status.ReadFault = sym is ∙ e in cc)
judged-or-cut s (inr is) =
    (λ e. let never : status.WriteFault ≡ status.LongInput = sym is ∙ e in cc, λ e. let never : status.WriteFault ≡ status.ReadFault = sym is ∙ e in cc)

-- a run is cut off for the length of its input by that alone
pub long-status : (by : RunFault) → status_of by ≡ status.LongInput → by ≡ fault.LongInput
long-status fault.Read is = let never : status.ReadFault ≡ status.LongInput = is in cc
long-status fault.Write is = let never : status.WriteFault ≡ status.LongInput = is in cc
long-status fault.Memory is = let never : status.Memory ≡ status.LongInput = is in cc
long-status fault.LongInput is = refl
long-status fault.Spent is = let never : status.Spent ≡ status.LongInput = is in cc

pub same-fault : {A : Type 0} (r : Result A RunFault) (a b : RunFault) → r ≡ Err a → r ≡ Err b → a ≡ b
same-fault r a b p q = cc
