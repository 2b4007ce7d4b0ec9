-- A batch that was judged: what the calls of it ask, and where the workers stand behind it.
use Rattle.std.proofs.Common.{◌≡◌, ℕ, ◌+◌, ◌<◌, ◌≤◌, List, [], ◌∷◌, ◌++◌, map, reverse, length, get_or, refl, sym, ap, subst, ◌∙◌, arith, All, None}
use Rattle.std.specs.Prelude.{slice_index_or}
use Rattle.std.proofs.lemmas.List.{ext_get_or, get_or-map, length-map}
use Rattle.std.proofs.lemmas.List.Elements.{All-map}
use Rattle.rate_plain.specs.History.{IsLegal}
use Rattle.rate_plain.specs.declared.entry.Entry.{Entry}
use Rattle.rate_shared.specs.declared.rule.Shape.{Shape}
use Rattle.gate_run.specs.Passes.{IsPassOf, shape_in}
use Rattle.gate_run.specs.declared.gate.Gate.{Gate}
use Rattle.trace_form.specs.Line.{line}
use Rattle.edge_main.specs.Answered.{LineKind}
use Rattle.edge_main.specs.Batched.{Asked, Did, AreDealt, AreAskedBy, IsBatch, kinds_of, joined}
use Rattle.edge_main.specs.Crewed.{HaveMet, HoldLines, AreLinesOf, HaveGivenLines, AreWorkersAt, IsWorkerAt, IsCrew, jobs_in, lines_in}
use Rattle.edge_main.specs.Spread.{SpreadState, written_by}
use Rattle.edge_main.specs.Working.{IsReady, Works, asked_of, lines_by}
use Rattle.edge_main.specs.declared.working.Worker.{Worker}
use Rattle.edge_main.proofs.CrewLemmas.{CrewBatch, crew-batch, lines-held, reversed-map, written-joined}
use Rattle.edge_main.proofs.DealtLemmas.{dealt_unique}
use Rattle.edge_main.proofs.MeetingLemmas.{head_of, same-of, stands-behind}

-- two lists with the same seen of each
map_same : {A B : Type 0} (f : A → B) (e : B) (xs ys : List A) → length ys ≡ length xs
    → ((k : ℕ) (d : A) → k < length xs → f (get_or ys k d) ≡ f (get_or xs k d)) → map f ys ≡ map f xs
map_same f e xs ys count each =
    ext_get_or e (map f ys) (map f xs) (length-map ys f ∙ count ∙ sym (length-map xs f))
    (λ k below.
    let in_ys : k < length ys = omega (arith, below, length-map ys f) in
    let in_xs : k < length xs = omega (arith, in_ys, count) in
    let one = head_of xs (omega (arith, in_xs)) in
    get_or-map f ys k one e in_ys ∙ each k one in_xs ∙ sym (get_or-map f xs k one e in_xs))

-- the workers may begin
pub all-ready : (gate : Gate) (history : List Entry) (workers : List Worker) → AreWorkersAt gate history workers → All (IsReady gate) workers
all-ready gate history workers at k d below = (at k d below).ready

pub same-crew : (gate : Gate) (before after : List Worker) → length after ≡ length before → IsCrew gate before → IsCrew gate after
same-crew gate before after count crew = record {
  shape = crew.shape ∙ ap (λ n. record { lanes = 64; cap = 4096; callers = n }) (sym count);
  some = omega (arith, crew.some, count);
}

-- what a batch comes to
pub record Settlement (gate : Gate) (history : List Entry) (from : SpreadState) (lines : List (List ℕ)) (to : SpreadState) (taken : List (List ℕ)) (w3 : List Worker) : Type 0 where
  pub more : List Entry
  pub kinds : List LineKind
  pub batch : IsBatch history more from lines kinds to
  pub text : joined (reverse taken) ≡ written_by kinds
  pub workers : AreWorkersAt gate (history ++ more) w3
  pub dealt : AreDealt [] (jobs_in w3)
  pub size : IsCrew gate w3

module _ (gate : Gate) (w0 w1 : List Worker) (count : length w1 ≡ length w0)
    (works : (k : ℕ) (d : Worker) → k < length w0 → Works (slice_index_or w0 k d) (slice_index_or w1 k d)) where
  -- their passes are still those of the gate
  pub all-of : (history : List Entry) → AreWorkersAt gate history w0 → All (λ (worker : Worker). IsPassOf gate worker.pass) w1
  all-of history at k d below =
      let within : k < length w0 = omega (arith, below, count) in
      same-of gate (slice_index_or w0 k d).pass (slice_index_or w1 k d).pass (works k d within).same.pass (at k d within).ready.of

  module _ (w2 : List Worker) (fine : All (λ (worker : Worker). worker.fault ≡ None) w1) (same : length w2 ≡ length w1)
      (met : HaveMet (shape_in gate) w1 w2) where
    legal-of : IsCrew gate w0 → IsLegal 64 4096 met.history
    legal-of crew = subst (λ (shape : Shape). IsLegal shape.lanes shape.cap met.history) crew.shape met.legal

    callers-in : IsCrew gate w0 → All (λ (entry : Entry). entry.caller < length w0) met.history
    callers-in crew = subst (λ (shape : Shape). All (λ (entry : Entry). entry.caller < shape.callers) met.history) crew.shape met.by_callers

    same-lines : lines_in w2 ≡ lines_in w1
    same-lines = map_same (λ (worker : Worker). worker.lines.items) [] w1 w2 same (λ k d below. (met.each k d below).same.lines)

    -- there is a line to take for each that was dealt
    pub held : (history : List Entry) (latest : List Asked) (n : ℕ) → IsCrew gate w0 → AreWorkersAt gate history w0 → AreDealt latest (jobs_in w0)
        → n ≡ length latest → HoldLines n w2
    held history latest n crew at dealt long =
        let lines = lines-held gate history met.history w0 w1 w2 crew at works count fine met.each latest dealt in
        (lines.0, (subst (AreDealt lines.0) (sym same-lines) lines.1.0, lines.1.1 ∙ sym long))

    module _ (w3 : List Worker) (given : HaveGivenLines w2 w3) (none : AreDealt [] (lines_in w3)) where
      lines-none : (k : ℕ) (d : Worker) → k < length w3 → (slice_index_or w3 k d).lines.items ≡ []
      lines-none k d below =
          let within : k < length (lines_in w3) = omega (arith, below, length-map w3 (λ (worker : Worker). worker.lines.items)) in
          sym (get_or-map (λ (worker : Worker). worker.lines.items) w3 k d [] below) ∙ none k [] within

      all-count : length w3 ≡ length w0
      all-count = given.count ∙ same ∙ count

      jobs-none : AreDealt [] (jobs_in w3)
      jobs-none =
          All-map (λ (column : List Asked). column ≡ []) (λ (worker : Worker). map asked_of worker.jobs.items) w3
          (λ k d below.
          let in_0 : k < length w0 = omega (arith, below, all-count) in
          let in_1 : k < length w1 = omega (arith, in_0, count) in
          let in_2 : k < length w2 = omega (arith, in_1, same) in
          ap (map asked_of) ((given.each k d in_2).jobs ∙ (met.each k d in_1).same.jobs ∙ ((works k d in_0).judged (fine k d in_1)).jobs))

      behind-all : (history more : List Entry) → AreWorkersAt gate history w0 → met.history ≡ history ++ more → AreWorkersAt gate (history ++ more) w3
      behind-all history more at is_more k d below =
          let in_0 : k < length w0 = omega (arith, below, all-count) in
          let in_1 : k < length w1 = omega (arith, in_0, count) in
          let in_2 : k < length w2 = omega (arith, in_1, same) in
          let its = given.each k d in_2 in
          subst (λ (h : List Entry). IsWorkerAt gate h k (slice_index_or w3 k d)) is_more
          (stands-behind gate history met.history more k (slice_index_or w0 k d) (slice_index_or w1 k d) (slice_index_or w2 k d) (at k d in_0)
          (works k d in_0) (fine k d in_1) (met.each k d in_1) is_more (slice_index_or w3 k d) its.number its.pass (lines-none k d below) its.fault)

      taken-lines : (n : ℕ) (taken latest : List (List ℕ)) → AreLinesOf n w2 taken → AreDealt latest (lines_in w1) → length latest ≡ n → taken ≡ latest
      taken-lines n taken latest its dealt long =
          dealt_unique taken latest (lines_in w1) (subst (AreDealt taken) same-lines its.0) dealt (its.1 ∙ sym long)

      pub settlement : (history : List Entry) (latest : List Asked) (n : ℕ) (from : SpreadState) (lines : List (List ℕ)) (to : SpreadState) (taken : List (List ℕ))
          → IsCrew gate w0 → AreWorkersAt gate history w0 → AreDealt latest (jobs_in w0) → length latest ≤ 256 → n ≡ length latest
          → AreLinesOf n w2 taken → AreAskedBy from lines (reverse latest) to → Settlement gate history from lines to taken w3
      settlement history latest n from lines to taken crew at dealt few long its asked =
          let done = crew-batch gate history met.history w0 w1 w2 crew at works count fine met.each latest from lines to dealt few asked (legal-of crew) (callers-in crew) in
          let many : length (lines_by done.dids) ≡ n = length-map done.dids (λ (did : Did). line did.parts) ∙ done.many ∙ sym long in
          let same_lines = taken-lines n taken (lines_by done.dids) its done.dealt many in
          record {
            more = done.more;
            kinds = kinds_of (reverse done.dids);
            batch = done.batch;
            text =
                ap (λ texts. joined (reverse texts)) same_lines ∙ ap joined (reversed-map (λ (did : Did). line did.parts) done.dids)
                ∙ sym (written-joined (reverse done.dids));
            workers = behind-all history done.more at done.is_more;
            dealt = jobs-none;
            size = same-crew gate w0 w3 all-count crew;
          }
