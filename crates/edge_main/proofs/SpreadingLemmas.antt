-- How a run of several workers goes on, and what it has written where it ends.
use Rattle.std.proofs.Common.{◌≡◌, ℕ, ◌+◌, ◌<◌, Bool, true, false, cond, List, [], ◌∷◌, ◌++◌, length, reverse, take, drop, Option, Some, Result, Ok, Err, OnOk, OnErr, refl, sym, ap, subst, ◌∙◌, arith, append_assoc, append-nil, take-append-drop}
use Rattle.std.proofs.lemmas.List.{reverse-append}
use Rattle.std.specs.Io.KnownBytes.{Appends}
use Rattle.std.proofs.KnownBytes.{Appends-trans, Appends-nil}
use Rattle.list_store.specs.Parts.{AreFineBefore}
use Rattle.rate_plain.specs.Laws.{LegalStepByStep}
use Rattle.rate_plain.specs.declared.entry.Entry.{Entry}
use Rattle.rate_plain.specs.declared.fault.StepFault.{StepFault}
use Rattle.rate_plain.specs.declared.fault.StepFault.TheVariants as step
use Rattle.edge_outside.specs.Lines.{lines_of}
use Rattle.edge_outside.specs.Reading.{Stands}
use Rattle.edge_outside.specs.declared.line_reader.LineReader.{LineReader}
use Rattle.serde_json.specs.Data.{Data}
use Rattle.trace_form.specs.Item.{IsBlank, IsDeploy, IsAsk, IsNoItem}
use Rattle.trace_form.specs.declared.item.Recorded.{Recorded}
use Rattle.trace_form.specs.declared.refusal.BadCause.{BadCause}
use Rattle.edge_main.specs.declared.crew.Crew.{Crew}
use Rattle.edge_main.specs.declared.replay.Turn.{Turn}
use Rattle.edge_main.specs.declared.replay.Turn.TheVariants as turn
use Rattle.edge_main.specs.declared.replay.RunFault.{RunFault}
use Rattle.edge_main.specs.declared.replay.RunFault.TheVariants as fault
use Rattle.edge_main.specs.declared.spreading.Spreading.{Spreading}
use Rattle.edge_main.specs.declared.statuses.Status.{Status}
use Rattle.edge_main.specs.declared.statuses.Status.TheVariants as status
use Rattle.edge_main.specs.Answered.{LineKind, written_for}
use Rattle.edge_main.specs.Answered as line
use Rattle.edge_main.specs.Batched.{Asked, IsAskedBy, AreAskedBy, asked_behind, IsBatch, IsOfRequest}
use Rattle.edge_main.specs.Crewed.{IsCrewAt, IsCrewSomewhere, Came, Deployed, Deals}
use Rattle.edge_main.specs.Crewed.{Settles as CrewSettles}
use Rattle.edge_main.specs.Crewed as deployed
use Rattle.edge_main.specs.RunFaults.{run_fault}
use Rattle.edge_main.specs.Running.{status_of}
use Rattle.edge_main.specs.Spread.{SpreadState, first, behind, IsSpreadLine, AreSpreadLines, IsSpreadOver, written_by}
use Rattle.edge_main.specs.Spread as spread
use Rattle.edge_main.specs.SpreadEnded.{WroteSpread, WroteSpreadFront, SpreadEnded}
use Rattle.edge_main.specs.Spreading.{HasReached, WasCut, IsIdle, IsSomewhere, IsUnder, IsSettled, Settles, Keeps, StaysUnder, StaysSettled, GoesOn, Progress, StoppedBy, TurnOf, IsOpening}
use Rattle.edge_main.proofs.OutputLemmas.{opening_fine, taken_fine}
use Rattle.edge_main.proofs.SpreadLemmas.{written-append, spread_none, line_more, batch_more}
use Rattle.edge_main.proofs.SpreadRunLemmas.{spread_goes_on}

-- what two clauses say of an Ok, said together
pub OnOk-both : {T E : Type 0} (r : Result T E) (P Q R : Type 0) → (P → Q → R) → OnOk r P → OnOk r Q → OnOk r R
OnOk-both (Ok x) P Q R f p q = f p q
OnOk-both (Err e) P Q R f p q = tt

-- ---- the lists in force are fine
abbrev IsFineFor : SpreadState → Type 0
IsFineFor s = AreFineBefore s.config.lists (length s.config.lists)

line_fine : (history : List Entry) (s : SpreadState) (given : List ℕ) (kind : LineKind) → IsFineFor s → IsSpreadLine history s given kind
    → IsFineFor (behind s kind)
line_fine history s given kind fine (spread.blank h p) = subst (λ k. IsFineFor (behind s k)) (sym p) fine
line_fine history s given kind fine (spread.bad why h p) = subst (λ k. IsFineFor (behind s k)) (sym p) fine
line_fine history s given kind fine (spread.deployment value config h taken p) =
    subst (λ k. IsFineFor (behind s k)) (sym p) (taken_fine value config taken)
line_fine history s given kind fine (spread.no_deployment value place cause h refusal p) =
    subst (λ k. IsFineFor (behind s k)) (sym p) fine
line_fine history s given kind fine (spread.request recorded parts h told number version p) =
    subst (λ k. IsFineFor (behind s k)) (sym p) fine

lines_fine : (history : List Entry) (from to : SpreadState) (lines : List (List ℕ)) (kinds : List LineKind) → IsFineFor from
    → AreSpreadLines history from lines kinds to → IsFineFor to
lines_fine history from to [] [] fine is = subst IsFineFor is fine
lines_fine history from to [] (kind ∷ kinds) fine is = absurd is
lines_fine history from to (given ∷ lines) [] fine is = absurd is
lines_fine history from to (given ∷ lines) (kind ∷ kinds) fine is =
    lines_fine history (behind from kind) to lines kinds (line_fine history from given kind fine is.0) is.1

-- ---- what was reached

-- nothing was answered yet
pub reached-opening : (got : Option (List ℕ)) (text : List ℕ) → HasReached [] first got got [] text (lines_of text)
reached-opening got text = record {
  front = [];
  is_front = refl;
  kinds = [];
  over = spread_none;
  written = [];
  appends = Appends-nil got;
  is_pending = refl;
}

-- what was answered is pending behind what was
joined-pending : (written pending pending' more : List ℕ) (kinds these : List LineKind) → written ++ pending ≡ written_by kinds
    → pending' ≡ pending ++ more → more ≡ written_by these → written ++ pending' ≡ written_by (kinds ++ these)
joined-pending written pending pending' more kinds these is same its =
    ap (λ xs. written ++ xs) same ∙ sym (append_assoc written pending more) ∙ ap (λ xs. xs ++ more) is
    ∙ ap (λ xs. written_by kinds ++ xs) its ∙ sym (written-append kinds these)

-- a line that is no request was answered
reached-line : (history : List Entry) (s : SpreadState) (before now : Option (List ℕ)) (pending pending' text given : List ℕ) (left : List (List ℕ))
    (kind : LineKind) → HasReached history s before now pending text (given ∷ left) → IsSpreadLine history s given kind → ¬ (IsOfRequest kind)
    → pending' ≡ pending ++ written_for kind → HasReached history (behind s kind) before now pending' text left
reached-line history s before now pending pending' text given left kind r is none same = record {
  front = r.front ++ given ∷ [];
  is_front = r.is_front ∙ sym (append_assoc r.front (given ∷ []) left);
  kinds = r.kinds ++ kind ∷ [];
  over = line_more r.front r.kinds history s given kind r.over is none;
  written = r.written;
  appends = r.appends;
  is_pending = joined-pending r.written pending pending' (written_for kind) r.kinds (kind ∷ []) r.is_pending same (sym (append-nil (written_for kind)));
}

-- a batch was judged
reached-batch : (history more : List Entry) (from s : SpreadState) (before now : Option (List ℕ)) (pending pending' text answer : List ℕ)
    (waiting left : List (List ℕ)) (kinds : List LineKind) → HasReached history from before now pending text (waiting ++ left)
    → IsBatch history more from waiting kinds s → answer ≡ written_by kinds → pending' ≡ pending ++ answer
    → HasReached (history ++ more) s before now pending' text left
reached-batch history more from s before now pending pending' text answer waiting left kinds r batch its same = record {
  front = r.front ++ waiting;
  is_front = r.is_front ∙ sym (append_assoc r.front waiting left);
  kinds = r.kinds ++ kinds;
  over = batch_more r.front r.kinds history more from s waiting kinds r.over batch;
  written = r.written;
  appends = r.appends;
  is_pending = joined-pending r.written pending pending' answer r.kinds kinds r.is_pending same its;
}

-- some of what was pending was written
reached-written : (history : List Entry) (s : SpreadState) (before now after : Option (List ℕ)) (pending pending' written text : List ℕ)
    (left : List (List ℕ)) → HasReached history s before now pending text left → Appends now after written → written ++ pending' ≡ pending
    → HasReached history s before after pending' text left
reached-written history s before now after pending pending' written text left r more same = record {
  front = r.front;
  is_front = r.is_front;
  kinds = r.kinds;
  over = r.over;
  written = r.written ++ written;
  appends = Appends-trans before now after r.written written r.appends more;
  is_pending = append_assoc r.written written pending' ∙ ap (λ xs. r.written ++ xs) same ∙ r.is_pending;
}

-- a front of what was pending was written
pub front-written : LegalStepByStep → (before now after : Option (List ℕ)) (pending written more text : List ℕ) → WasCut before now pending text
    → Appends now after written → pending ≡ written ++ more → WroteSpreadFront text before after
front-written law before now after pending written more text (history, s, left, r) part same =
    let (kinds, whole, to, over) =
    spread_goes_on law r.front r.kinds history s left r.over (lines_fine history first s r.front r.kinds opening_fine r.over.spread) in
    let later = written_by kinds in (
      r.written ++ written,
      more ++ later,
      Appends-trans before now after r.written written r.appends part,
      record {
        kinds = r.kinds ++ kinds;
        history = whole;
        to = to;
        over = subst (λ lines. IsSpreadOver lines (r.kinds ++ kinds) whole to) (sym r.is_front) over;
        text =
            append_assoc r.written written (more ++ later) ∙ ap (λ xs. r.written ++ xs) (sym (append_assoc written more later))
            ∙ ap (λ xs. r.written ++ (xs ++ later)) (sym same) ∙ sym (append_assoc r.written pending later)
            ∙ ap (λ xs. xs ++ later) r.is_pending ∙ sym (written-append r.kinds kinds);
      },
    )

-- the same, where the front is told by its length
pub front-cut : LegalStepByStep → (before now after : Option (List ℕ)) (pending text : List ℕ) → WasCut before now pending text
    → (count : ℕ) → Appends now after (take count pending) → WroteSpreadFront text before after
front-cut law before now after pending text cut count part =
    front-written law before now after pending (take count pending) (drop count pending) text cut part (sym (take-append-drop count pending))

-- nothing was written
pub front-none : LegalStepByStep → (got : Option (List ℕ)) (text : List ℕ) → WroteSpreadFront text got got
front-none law got text = front-written law got got got [] [] [] text ([], first, lines_of text, reached-opening got text) (Appends-nil got) refl

-- ---- where a crew is

pub crew-somewhere : (crew : Crew) → IsSomewhere crew → IsCrewSomewhere crew
crew-somewhere crew x = (x.history, x.s, x.latest, x.at)

pub idle-somewhere : (crew : Crew) → IsIdle crew → IsSomewhere crew
idle-somewhere crew (history, s, at) =
    record { history = history; from = s; s = s; latest = []; waiting = []; asked = refl; at = at }

-- nothing is dealt, and so nothing waits
none-dealt : (crew : Crew) (history : List Entry) (from s : SpreadState) (latest : List Asked) (waiting : List (List ℕ)) → crew.dealt ≡ 0
    → AreAskedBy from waiting (reverse latest) s → IsCrewAt crew history s latest
    → (latest ≡ []) × (waiting ≡ []) × (from ≡ s)
none-dealt crew history from s [] [] none asked at = (refl, refl, asked)
none-dealt crew history from s [] (given ∷ waiting) none asked at = absurd asked
none-dealt crew history from s (one ∷ latest) waiting none asked at = absurd (omega (arith, at.count, none))

pub idle-none : (crew : Crew) → crew.dealt ≡ 0 → IsSomewhere crew → IsIdle crew
idle-none crew none x =
    let nothing = none-dealt crew x.history x.from x.s x.latest x.waiting none x.asked x.at in
    (x.history, x.s, subst (IsCrewAt crew x.history x.s) nothing.0 x.at)

pub idle-batch : (crew crew' : Crew) (answer : List ℕ) → CrewSettles crew answer crew' → IsSomewhere crew → IsIdle crew'
idle-batch crew crew' answer settles x =
    let done = settles x.history x.s x.latest x.at x.from x.waiting x.asked in (x.history ++ done.more, x.s, done.now)

pub lines-batch : (crew crew' : Crew) (answer : List ℕ) → CrewSettles crew answer crew' → IsSomewhere crew → crew'.lines ≡ crew.lines
lines-batch crew crew' answer settles x =
    let done = settles x.history x.s x.latest x.at x.from x.waiting x.asked in done.now.lines ∙ sym x.at.lines

-- ---- what was dealt is judged

pub settled-none : (old : Spreading) → old.crew.dealt ≡ 0 → Settles old old
settled-none old none before now text left u =
    let nothing = none-dealt old.crew u.history u.from u.s u.latest u.waiting none u.asked u.at in
    record {
      history = u.history;
      s = u.s;
      reached =
          subst (λ t. HasReached u.history t before now old.pending text left) nothing.2
          (subst (λ waiting. HasReached u.history u.from before now old.pending text (waiting ++ left)) nothing.1 u.reached);
      at = subst (IsCrewAt old.crew u.history u.s) nothing.0 u.at;
    }

pub settled-batch : (old new : Spreading) (answer : List ℕ) → CrewSettles old.crew answer new.crew → new.pending ≡ old.pending ++ answer
    → Settles old new
settled-batch old new answer settles same before now text left u =
    let done = settles u.history u.s u.latest u.at u.from u.waiting u.asked in
    record {
      history = u.history ++ done.more;
      s = u.s;
      reached =
          reached-batch u.history done.more u.from u.s before now old.pending new.pending text answer u.waiting left done.kinds u.reached
          done.batch done.text_is same;
      at = done.now;
    }

pub settled-under : (crew : Crew) (before now : Option (List ℕ)) (pending text : List ℕ) (left : List (List ℕ))
    → IsSettled crew before now pending text left → IsUnder crew before now pending text left
settled-under crew before now pending text left st =
    record { history = st.history; from = st.s; s = st.s; latest = []; waiting = []; reached = st.reached; asked = refl; at = st.at }

pub stays-under : (old new : Spreading) → Settles old new → StaysUnder old new
stays-under old new settles before now text left u =
    settled-under new.crew before now new.pending text left (settles before now text left u)

pub stays-settled : (old new : Spreading) → Settles old new → StaysSettled old new
stays-settled old new settles before now text left st =
    settles before now text left (settled-under old.crew before now old.pending text left st)

-- ---- what is pending is of lines that were answered

under-cut : (crew : Crew) (before now : Option (List ℕ)) (pending pending' text : List ℕ) (left : List (List ℕ)) → pending' ≡ pending
    → IsUnder crew before now pending text left → WasCut before now pending' text
under-cut crew before now pending pending' text left same u =
    (u.history, u.from, u.waiting ++ left, subst (λ p. HasReached u.history u.from before now p text (u.waiting ++ left)) (sym same) u.reached)

settled-cut : (crew : Crew) (before now : Option (List ℕ)) (pending pending' text : List ℕ) (left : List (List ℕ)) → pending' ≡ pending
    → IsSettled crew before now pending text left → WasCut before now pending' text
settled-cut crew before now pending pending' text left same st =
    (st.history, st.s, left, subst (λ p. HasReached st.history st.s before now p text left) (sym same) st.reached)

-- nothing came to what is pending
pub keeps-same : (old new : Spreading) → new.pending ≡ old.pending → Keeps old new
keeps-same old new same before now text left u = under-cut old.crew before now old.pending new.pending text left same u

-- what was dealt was judged, and nothing more came to what is pending
pub keeps-settled : (old mid new : Spreading) → Settles old mid → new.pending ≡ mid.pending → Keeps old new
keeps-settled old mid new settles same before now text left u =
    settled-cut mid.crew before now mid.pending new.pending text left same (settles before now text left u)

-- what holds anyhow holds after a refusal
pub on-err : {A E : Type 0} (r : Result A E) {P : Type 0} → P → OnErr r P
on-err (Ok x) holds = tt
on-err (Err e) holds = holds

-- it was judged, or wasn't
pub keeps-either : {A E : Type 0} (r : Result A E) (old new : Spreading) → OnOk r (Settles old new) → OnErr r (new.pending ≡ old.pending) → Keeps old new
keeps-either (Ok x) old new settles same = keeps-settled old new new settles refl
keeps-either (Err e) old new settles same = keeps-same old new same

-- ---- a line is taken

pub line-taken : (mid new : Spreading) (history : List Entry) (s : SpreadState) (before now : Option (List ℕ)) (text given answer : List ℕ)
    (left : List (List ℕ)) (kind : LineKind) → HasReached history s before now mid.pending text (given ∷ left)
    → Came history s [] kind answer new.crew → IsSpreadLine history s given kind → ¬ (IsOfRequest kind)
    → new.pending ≡ mid.pending ++ answer → IsUnder new.crew before now new.pending text left
line-taken mid new history s before now text given answer left kind reached came is none same = record {
  history = history;
  from = behind s kind;
  s = behind s kind;
  latest = [];
  waiting = [];
  reached =
      reached-line history s before now mid.pending new.pending text given left kind reached is none
      (same ∙ ap (λ xs. mid.pending ++ xs) came.text_is);
  asked = refl;
  at = came.now;
}

pub deployment-taken : (mid new : Spreading) (history : List Entry) (s : SpreadState) (before now : Option (List ℕ)) (text given answer : List ℕ)
    (left : List (List ℕ)) (value : Data) → HasReached history s before now mid.pending text (given ∷ left)
    → Deployed value history s [] answer new.crew → IsDeploy given value
    → new.pending ≡ mid.pending ++ answer → IsUnder new.crew before now new.pending text left
deployment-taken mid new history s before now text given answer left value reached (deployed.taken config taken came) is same =
    line-taken mid new history s before now text given answer left (line.deployment (s.version + 1) config) reached came
    (spread.deployment value config is taken refl) (λ of. of) same
deployment-taken mid new history s before now text given answer left value reached (deployed.no_deployment place cause refusal came) is same =
    line-taken mid new history s before now text given answer left (line.no_deployment place cause) reached came
    (spread.no_deployment value place cause is refusal refl) (λ of. of) same

-- the lines are one more, and nothing is dealt
pub goes-on : (old mid new : Crew) (history : List Entry) (s : SpreadState) (answer : List ℕ) (kind : LineKind) → mid.lines ≡ old.lines
    → new.lines ≡ mid.lines + 1 → Came history s [] kind answer new → GoesOn old new
goes-on old mid new history s answer kind same one came = record {
  lines = one ∙ ap (λ n. n + 1) same;
  dealt = omega (arith, came.now.count);
  somewhere = idle-somewhere new (history, behind s kind, came.now);
}

pub goes-on-deployed : (old mid new : Crew) (history : List Entry) (s : SpreadState) (answer : List ℕ) (value : Data) → mid.lines ≡ old.lines
    → new.lines ≡ mid.lines + 1 → Deployed value history s [] answer new → GoesOn old new
goes-on-deployed old mid new history s answer value same one (deployed.taken config taken came) =
    goes-on old mid new history s answer (line.deployment (s.version + 1) config) same one came
goes-on-deployed old mid new history s answer value same one (deployed.no_deployment place cause refusal came) =
    goes-on old mid new history s answer (line.no_deployment place cause) same one came

-- ---- a request is dealt

asked-more : (from s : SpreadState) (lines : List (List ℕ)) (all : List Asked) (given : List ℕ) (one : Asked) → AreAskedBy from lines all s
    → IsAskedBy s given one → AreAskedBy from (lines ++ given ∷ []) (all ++ one ∷ []) (asked_behind s)
asked-more from s [] [] given one asked is = (subst (λ t. IsAskedBy t given one) (sym asked) is, ap asked_behind asked)
asked-more from s [] (other ∷ all) given one asked is = absurd asked
asked-more from s (other ∷ lines) [] given one asked is = absurd asked
asked-more from s (other ∷ lines) (some ∷ all) given one asked is = (asked.0, asked-more (asked_behind from) s lines all given one asked.1 is)

asked-then : (from s : SpreadState) (lines : List (List ℕ)) (latest : List Asked) (given : List ℕ) (one : Asked)
    → AreAskedBy from lines (reverse latest) s → IsAskedBy s given one
    → AreAskedBy from (lines ++ given ∷ []) (reverse (one ∷ latest)) (asked_behind s)
asked-then from s lines latest given one asked is =
    subst (λ all. AreAskedBy from (lines ++ given ∷ []) all (asked_behind s)) (sym (reverse-append (one ∷ []) latest))
    (asked-more from s lines (reverse latest) given one asked is)

pub request-taken : (old new : Spreading) (recorded : Recorded) (before now : Option (List ℕ)) (text given : List ℕ) (left : List (List ℕ))
    → Deals old.crew recorded new.crew → IsAsk given recorded → new.pending ≡ old.pending
    → IsUnder old.crew before now old.pending text (given ∷ left) → IsUnder new.crew before now new.pending text left
request-taken old new recorded before now text given left deals ask same u =
    let dealt = deals u.history u.s u.latest u.at in
    record {
      history = u.history;
      from = u.from;
      s = asked_behind u.s;
      latest = dealt.asked ∷ u.latest;
      waiting = u.waiting ++ given ∷ [];
      reached =
          subst (λ p. HasReached u.history u.from before now p text ((u.waiting ++ given ∷ []) ++ left)) (sym same)
          (subst (HasReached u.history u.from before now old.pending text) (sym (append_assoc u.waiting (given ∷ []) left)) u.reached);
      asked = asked-then u.from u.s u.waiting u.latest given dealt.asked u.asked (dealt.its given ask);
      at = dealt.now;
    }

pub goes-on-dealt : (old new : Crew) (recorded : Recorded) (given : List ℕ) → Deals old recorded new → IsAsk given recorded
    → new.lines ≡ old.lines + 1 → IsSomewhere old → GoesOn old new
goes-on-dealt old new recorded given deals ask one x =
    let dealt = deals x.history x.s x.latest x.at in
    record {
      lines = one;
      dealt = omega (arith, dealt.now.count, x.at.count);
      somewhere = record {
        history = x.history;
        from = x.from;
        s = asked_behind x.s;
        latest = dealt.asked ∷ x.latest;
        waiting = x.waiting ++ given ∷ [];
        asked = asked-then x.from x.s x.waiting x.latest given dealt.asked x.asked (dealt.its given ask);
        at = dealt.now;
      };
    }

-- ---- a turn

pub stopped-step : (f : StepFault) (before now : Option (List ℕ)) (pending text : List ℕ) → WasCut before now pending text
    → StoppedBy (run_fault f) before now pending text
stopped-step step.Memory before now pending text cut = cut
stopped-step step.Spent before now pending text cut = cut

turn-cut : (t : Turn) (crew : Crew) (reader : LineReader) (left before now : Option (List ℕ)) (pending pending' text : List ℕ) → pending' ≡ pending
    → TurnOf (Ok t) crew reader left before now pending text → WasCut before now pending' text
turn-cut turn.Next crew reader left before now pending pending' text same (rest, stands, u) =
    under-cut crew before now pending pending' text (lines_of rest) same u
turn-cut turn.End crew reader left before now pending pending' text same st = settled-cut crew before now pending pending' text [] same st

-- what was dealt was left
pub turn-left : (f : StepFault) (t : Turn) (old new : Spreading) (reader : LineReader) (left before now : Option (List ℕ)) (text : List ℕ)
    → new.pending ≡ old.pending → TurnOf (Ok t) old.crew reader left before now old.pending text
    → StoppedBy (run_fault f) before now new.pending text
turn-left f t old new reader left before now text same of =
    stopped-step f before now new.pending text (turn-cut t old.crew reader left before now old.pending new.pending text same of)

-- what was dealt was judged, where it was due
pub turn-settled : (t : Turn) (old new : Spreading) (left before now : Option (List ℕ)) (text : List ℕ) → new.reader ≡ old.reader
    → StaysUnder old new → StaysSettled old new → TurnOf (Ok t) old.crew old.reader left before now old.pending text
    → TurnOf (Ok t) new.crew new.reader left before now new.pending text
turn-settled turn.Next old new left before now text same under settled (rest, stands, u) =
    (rest, subst (λ reader. Stands reader left rest) (sym same) stands, under before now text (lines_of rest) u)
turn-settled turn.End old new left before now text same under settled st = settled before now text [] st

-- a piece was written
pub turn-written : (t : Turn) (crew : Crew) (reader : LineReader) (left before now after : Option (List ℕ)) (pending pending' written text : List ℕ)
    → TurnOf (Ok t) crew reader left before now pending text → Appends now after written → written ++ pending' ≡ pending
    → TurnOf (Ok t) crew reader left before after pending' text
turn-written turn.Next crew reader left before now after pending pending' written text (rest, stands, u) part same = (
  rest,
  stands,
  record {
    history = u.history;
    from = u.from;
    s = u.s;
    latest = u.latest;
    waiting = u.waiting;
    reached = reached-written u.history u.from before now after pending pending' written text (u.waiting ++ lines_of rest) u.reached part same;
    asked = u.asked;
    at = u.at;
  },
)
turn-written turn.End crew reader left before now after pending pending' written text st part same = record {
  history = st.history;
  s = st.s;
  reached = reached-written st.history st.s before now after pending pending' written text [] st.reached part same;
  at = st.at;
}

-- a piece was cut off
pub turn-front : (t : Turn) (crew : Crew) (reader : LineReader) (left before now after : Option (List ℕ)) (pending text : List ℕ)
    → TurnOf (Ok t) crew reader left before now pending text → (count : ℕ) → Appends now after (take count pending)
    → LegalStepByStep → WroteSpreadFront text before after
turn-front t crew reader left before now after pending text of count part law =
    front-cut law before now after pending text (turn-cut t crew reader left before now pending pending text refl of) count part

-- where a run begins, the whole text is left
pub progress-opening : (spreading : Spreading) (left got : Option (List ℕ)) (text : List ℕ) → IsOpening spreading → left ≡ Some text
    → Progress spreading.crew spreading.reader left got got spreading.pending text
progress-opening spreading left got text opens told = (
  text,
  subst (λ o. Stands spreading.reader o text) (sym told) (opens.stands text),
  record {
    history = [];
    from = first;
    s = first;
    latest = [];
    waiting = [];
    reached = subst (λ pending. HasReached [] first got got pending text (lines_of text)) (sym opens.pending) (reached-opening got text);
    asked = refl;
    at = opens.crew;
  },
)

-- ---- the end

spread-written : (history : List Entry) (s : SpreadState) (before now after : Option (List ℕ)) (pending text : List ℕ)
    → HasReached history s before now pending text [] → Appends now after pending → WroteSpread s.any_bad text before after
spread-written history s before now after pending text r all = record {
  kinds = r.kinds;
  history = history;
  to = s;
  over = subst (λ lines. IsSpreadOver lines r.kinds history s) (sym (r.is_front ∙ append-nil r.front)) r.over;
  appends = subst (Appends before after) r.is_pending (Appends-trans before now after r.written pending r.appends all);
  is_bad = refl;
}

ended-whole : (any_bad : Bool) (text : List ℕ) (before after : Option (List ℕ)) → WroteSpread any_bad text before after
    → SpreadEnded (cond any_bad status.BadItems status.Done) text before after
ended-whole true text before after wrote = wrote
ended-whole false text before after wrote = wrote

-- the input ended, and all was written
pub closed : (ended : Status) (crew : Crew) (before now after : Option (List ℕ)) (pending text : List ℕ)
    → ended ≡ cond crew.any_bad status.BadItems status.Done → IsSettled crew before now pending text [] → Appends now after pending
    → SpreadEnded ended text before after
closed ended crew before now after pending text is st all =
    subst (λ e. SpreadEnded e text before after) (sym (is ∙ ap (λ bad. cond bad status.BadItems status.Done) st.at.any_bad))
    (ended-whole st.s.any_bad text before after (spread-written st.history st.s before now after pending text st.reached all))

-- the input ended, and a write failed
pub closed-cut : LegalStepByStep → (crew : Crew) (before now after : Option (List ℕ)) (pending text : List ℕ) → IsSettled crew before now pending text []
    → (count : ℕ) → Appends now after (take count pending) → WroteSpreadFront text before after
closed-cut law crew before now after pending text st count part =
    front-cut law before now after pending text (settled-cut crew before now pending pending text [] refl st) count part

cut-of : (by : RunFault) (before now : Option (List ℕ)) (pending text : List ℕ) → ¬ (by ≡ fault.Write) → StoppedBy by before now pending text
    → WasCut before now pending text
cut-of fault.Read before now pending text other cut = cut
cut-of fault.Write before now pending text other wrote = absurd (other refl)
cut-of fault.Memory before now pending text other cut = cut
cut-of fault.LongInput before now pending text other cut = cut
cut-of fault.Spent before now pending text other cut = cut

front-ended : (by : RunFault) (text : List ℕ) (before after : Option (List ℕ)) → WroteSpreadFront text before after
    → SpreadEnded (status_of by) text before after
front-ended fault.Read text before after wrote = wrote
front-ended fault.Write text before after wrote = wrote
front-ended fault.Memory text before after wrote = wrote
front-ended fault.LongInput text before after wrote = wrote
front-ended fault.Spent text before after wrote = wrote

-- the run was cut off, and what was pending was written, or a front of it
pub stopped-cut : {A E : Type 0} → LegalStepByStep → (r : Result A E) (by : RunFault) (before now after : Option (List ℕ)) (pending text : List ℕ)
    → ¬ (by ≡ fault.Write) → StoppedBy by before now pending text → OnOk r (Appends now after pending)
    → OnErr r ((count : ℕ) × (count < length pending) × Appends now after (take count pending))
    → SpreadEnded (status_of by) text before after
stopped-cut law (Ok x) by before now after pending text other stop all cut =
    front-ended by text before after
    (front-written law before now after pending pending [] text (cut-of by before now pending text other stop) all (sym (append-nil pending)))
stopped-cut law (Err e) by before now after pending text other stop all cut =
    front-ended by text before after
    (front-cut law before now after pending text (cut-of by before now pending text other stop) cut.0 cut.2)
