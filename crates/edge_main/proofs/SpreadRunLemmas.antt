-- A run of one thread goes on with what several workers have written.
use Rattle.std.proofs.Common.{◌≡◌, ℕ, ◌+◌, cond, nat_lt, List, [], ◌∷◌, ◌++◌, map, length, refl, sym, ap, ap₂, subst, ◌∙◌, arith, append_assoc, append-nil}
use Rattle.std.proofs.lemmas.List.Elements.{All-nil, All-cons}
use Rattle.edge_outside.specs.Lines.{lines_of}
use Rattle.list_store.specs.Parts.{AreFineBefore}
use Rattle.rate_plain.specs.Laws.{LegalStepByStep}
use Rattle.rate_plain.specs.declared.entry.Counted.{Counted}
use Rattle.rate_plain.specs.declared.entry.Entry.{Entry}
use Rattle.judge_core.specs.Judging.{judging, judgement}
use Rattle.judge_core.specs.Values.{Listed}
use Rattle.gate_run.specs.Named.{IsMeaningOf}
use Rattle.trace_form.specs.Item.{IsAsk}
use Rattle.trace_form.specs.declared.item.Recorded.{Recorded}
use Rattle.trace_form.specs.declared.output.LineParts.{LineParts}
use Rattle.edge_main.specs.Answered.{RunState, opening, LineKind, written_for, Answered, reply_used, request_talked, followed, judged_parts, judged}
use Rattle.edge_main.specs.Answered as line
use Rattle.edge_main.specs.Batched.{IsOfRequest}
use Rattle.edge_main.specs.Output.{IsAnswered, IsRun, texts_of}
use Rattle.edge_main.specs.Output as answered
use Rattle.edge_main.specs.Shown.{positions_of}
use Rattle.edge_main.specs.Spread.{AreShown, AreIncreasing, IsToldIn, SpreadState, behind, written_by, times, IsSpreadOver, OutputsAreSpreads}
use Rattle.edge_main.specs.Spread as spread
use Rattle.edge_main.proofs.OutputLemmas.{some_run}
use Rattle.edge_main.proofs.ShownLemmas.{AreSteps, line_steps}
use Rattle.edge_main.proofs.SpreadLemmas.{shown_kept, spread_none, line_more, batch_more}
use Rattle.edge_main.proofs.SpreadTalkLemmas.{counting_increases, times-counting, own_entries, talked_history, talked_shown, request_went, entries_back, reply_followed, history_back, shown_back, shown_both}

-- ---- a line

-- the state of a run, but for its steps
abbrev pub spread_of : RunState → SpreadState
spread_of s = record { lines = s.lines; requests = s.requests; version = s.version; config = s.config; any_bad = s.any_bad }

-- a line goes on with what was written
abbrev GoesOn : List (List ℕ) → List LineKind → List ℕ → Answered → Type 0
GoesOn front kinds given this = IsSpreadOver (front ++ given ∷ []) (kinds ++ this.kind ∷ []) this.after.history (spread_of this.after)

request_goes_on : (front : List (List ℕ)) (kinds : List LineKind) (history more : List Entry) (s : SpreadState) (given : List ℕ)
    (recorded : Recorded) (parts : LineParts) → IsSpreadOver front kinds history s → IsAsk given recorded
    → IsToldIn (history ++ more) s.config recorded parts → parts.number ≡ s.requests + 1 → parts.version ≡ s.version
    → AreSteps history (history ++ more) parts.counts
    → IsSpreadOver (front ++ given ∷ []) (kinds ++ line.request parts ∷ []) (history ++ more) (behind s (line.request parts))
request_goes_on front kinds history more s given recorded parts over ask told number version steps =
    let kind = line.request parts in
    batch_more front kinds history more s (behind s kind) (given ∷ []) (kind ∷ []) over (record {
      spread = (spread.request recorded parts ask told number version refl, refl);
      requests = All-cons IsOfRequest kind [] tt (All-nil IsOfRequest);
      few = omega arith;
      legal = steps.legal over.legal;
      once = λ position.
          ap (λ (shown : List Counted). times position (positions_of shown)) (append-nil parts.counts)
          ∙ ap (times position) steps.places ∙ times-counting position (length history) (length parts.counts)
          ∙ ap (λ n. cond (nat_lt position (length history)) 0 (cond (nat_lt position n) 1 0)) (sym steps.more);
    })

-- ---- what is written

line_text : (s : RunState) (given : List ℕ) (this : Answered) → IsAnswered s given this → written_for this.kind ≡ this.text
line_text s given this (answered.blank h p) = subst (λ (t : Answered). written_for t.kind ≡ t.text) (sym p) refl
line_text s given this (answered.bad why h p) = subst (λ (t : Answered). written_for t.kind ≡ t.text) (sym p) refl
line_text s given this (answered.deployment value config h e p) = subst (λ (t : Answered). written_for t.kind ≡ t.text) (sym p) refl
line_text s given this (answered.no_deployment value place cause h e p) = subst (λ (t : Answered). written_for t.kind ≡ t.text) (sym p) refl
line_text s given this (answered.request recorded listed h e p) = subst (λ (t : Answered). written_for t.kind ≡ t.text) (sym p) refl

pub run_texts : (from to : RunState) (lines : List (List ℕ)) (run : List Answered) → IsRun from lines run to
    → written_by (map (λ (a : Answered). a.kind) run) ≡ texts_of run
run_texts from to [] [] is = refl
run_texts from to [] (this ∷ run) is = absurd is
run_texts from to (given ∷ lines) [] is = absurd is
run_texts from to (given ∷ lines) (this ∷ run) is =
    ap₂ (λ (a b : List ℕ). a ++ b) (line_text from given this is.0) (run_texts this.after to lines run is.1)

module _ (law : LegalStepByStep) where
  judged_goes_on : (front : List (List ℕ)) (kinds : List LineKind) (s : RunState) (given : List ℕ) (recorded : Recorded) (listed : Listed)
      → IsSpreadOver front kinds s.history (spread_of s) → IsAsk given recorded → IsMeaningOf s.config.lists listed
      → GoesOn front kinds given (judged listed s recorded)
  judged_goes_on front kinds s given recorded listed over ask meaning =
      let t = request_talked listed s recorded.request in
      let back = followed listed s recorded.reply t in
      let one = judgement t.ended in
      let used = reply_used one.verdict.kind recorded.reply in
      let parts = judged_parts s recorded.request t back in
      let asks = own_entries (judging listed s.config recorded.request) s.history in
      let replies = entries_back listed s.config one used t.history in
      let steps = line_steps law s given (judged listed s recorded) (answered.request recorded listed ask meaning refl) in
      let there : back.history ≡ t.history ++ replies = history_back listed s.config one used t.history in
      let whole : back.history ≡ s.history ++ (asks ++ replies) =
      there ∙ ap (λ h. h ++ replies) (talked_history (judging listed s.config recorded.request) s.history) ∙ append_assoc s.history asks replies in
      let asked_shown : AreShown back.history asks t.counts =
      subst (λ h. AreShown h asks t.counts) (sym there)
      (shown_kept t.history replies asks t.counts (talked_shown (judging listed s.config recorded.request) s.history)) in
      let told : IsToldIn back.history s.config recorded parts = record {
        asked = asks;
        replied = replies;
        judged = record {
          listed = listed;
          meaning = meaning;
          judged = one;
          went = request_went listed s.config recorded.request s.history;
          followed = reply_followed listed s.config one used t.history meaning;
          verdict = refl;
          request = refl;
          came = refl;
        };
        shown = shown_both back.history asks replies t.counts back.counts asked_shown (shown_back listed s.config one used t.history);
        increasing = subst (AreIncreasing 0) (sym steps.places) (counting_increases 0 (length s.history) (length parts.counts) (omega arith));
      } in
      subst (λ h. IsSpreadOver (front ++ given ∷ []) (kinds ++ line.request parts ∷ []) h (behind (spread_of s) (line.request parts))) (sym whole)
      (request_goes_on front kinds s.history (asks ++ replies) (spread_of s) given recorded parts over ask
      (subst (λ h. IsToldIn h s.config recorded parts) whole told) refl refl (subst (λ h. AreSteps s.history h parts.counts) whole steps))

  line_goes_on : (front : List (List ℕ)) (kinds : List LineKind) (s : RunState) (given : List ℕ) (this : Answered)
      → IsSpreadOver front kinds s.history (spread_of s) → IsAnswered s given this → GoesOn front kinds given this
  line_goes_on front kinds s given this over (answered.blank h p) =
      subst (GoesOn front kinds given) (sym p) (line_more front kinds s.history (spread_of s) given line.blank over (spread.blank h refl) (λ of. of))
  line_goes_on front kinds s given this over (answered.bad why h p) =
      subst (GoesOn front kinds given) (sym p)
      (line_more front kinds s.history (spread_of s) given (line.bad (s.lines + 1) why) over (spread.bad why h refl) (λ of. of))
  line_goes_on front kinds s given this over (answered.deployment value config h e p) =
      subst (GoesOn front kinds given) (sym p)
      (line_more front kinds s.history (spread_of s) given (line.deployment (s.version + 1) config) over (spread.deployment value config h e refl) (λ of. of))
  line_goes_on front kinds s given this over (answered.no_deployment value place cause h e p) =
      subst (GoesOn front kinds given) (sym p)
      (line_more front kinds s.history (spread_of s) given (line.no_deployment place cause) over (spread.no_deployment value place cause h e refl) (λ of. of))
  line_goes_on front kinds s given this over (answered.request recorded listed h e p) =
      subst (GoesOn front kinds given) (sym p) (judged_goes_on front kinds s given recorded listed over h e)

  -- ---- a run

  pub run_goes_on : (from to : RunState) (front lines : List (List ℕ)) (kinds : List LineKind) (run : List Answered)
      → IsSpreadOver front kinds from.history (spread_of from) → IsRun from lines run to
      → IsSpreadOver (front ++ lines) (kinds ++ map (λ (a : Answered). a.kind) run) to.history (spread_of to)
  run_goes_on from to front [] kinds [] over is =
      subst (λ (s : RunState). IsSpreadOver (front ++ []) (kinds ++ []) s.history (spread_of s)) is
      (subst (λ l. IsSpreadOver l (kinds ++ []) from.history (spread_of from)) (sym (append-nil front))
      (subst (λ k. IsSpreadOver front k from.history (spread_of from)) (sym (append-nil kinds)) over))
  run_goes_on from to front [] kinds (this ∷ run) over is = absurd is
  run_goes_on from to front (given ∷ lines) kinds [] over is = absurd is
  run_goes_on from to front (given ∷ lines) kinds (this ∷ run) over is =
      let rest = map (λ (a : Answered). a.kind) run in
      subst (λ l. IsSpreadOver l (kinds ++ this.kind ∷ rest) to.history (spread_of to)) (append_assoc front (given ∷ []) lines)
      (subst (λ k. IsSpreadOver ((front ++ given ∷ []) ++ lines) k to.history (spread_of to)) (append_assoc kinds (this.kind ∷ []) rest)
      (run_goes_on this.after to (front ++ given ∷ []) lines (kinds ++ this.kind ∷ []) run (line_goes_on front kinds from given this over is.0) is.1))

  -- whatever the further lines are, some output goes on with them
  pub spread_goes_on : (lines : List (List ℕ)) (kinds : List LineKind) (history : List Entry) (s : SpreadState) (rest : List (List ℕ))
      → IsSpreadOver lines kinds history s → AreFineBefore s.config.lists (length s.config.lists)
      → (more : List LineKind) × (whole : List Entry) × (to : SpreadState) × IsSpreadOver (lines ++ rest) (kinds ++ more) whole to
  spread_goes_on lines kinds history s rest over fine =
      let from : RunState = record {
        lines = s.lines;
        requests = s.requests;
        version = s.version;
        config = s.config;
        any_bad = s.any_bad;
        history = history;
      } in
      let (run, to, is) = some_run from rest fine in
      (map (λ (a : Answered). a.kind) run, to.history, spread_of to, run_goes_on from to lines rest kinds run over is)

  pub outputs_are_spreads : OutputsAreSpreads
  outputs_are_spreads input out is = record {
    kinds = map (λ (a : Answered). a.kind) is.0;
    history = is.1.history;
    to = spread_of is.1;
    over = run_goes_on opening is.1 [] (lines_of input) [] is.0 spread_none is.2;
    text = is.3 ∙ sym (run_texts opening is.1 (lines_of input) is.0 is.2);
  }
