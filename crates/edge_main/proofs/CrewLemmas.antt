-- A batch: what all workers did, from the meeting of their passes.
use Rattle.std.proofs.Common.{◌≡◌, ℕ, suc, ◌+◌, ◌<◌, ◌≤◌, ◌%◌, List, [], ◌∷◌, ◌++◌, map, reverse, length, get_or, Option, Some, None, option_map, refl, sym, ap, ap₂, subst, ◌∙◌, arith, append_assoc, length-append}
use Rattle.std.specs.Prelude.{slice_get, slice_set, slice_index_or, All}
use mathlib.Core.List.{IsPrefix}
use Rattle.std.proofs.lemmas.List.{ext_get_or, get_or-map, length-map, map-append, map-set, get_or-append-add, reverse-append}
use Rattle.std.proofs.lemmas.List.Elements.{All-get_or, All-map}
use Rattle.std.proofs.lemmas.Option.{slice_get-get_or, slice_get-map}
use Rattle.rate_plain.specs.History.{IsLegal}
use Rattle.rate_plain.specs.declared.entry.Entry.{Entry}
use Rattle.rate_shared.specs.declared.rule.Shape.{Shape}
use Rattle.gate_run.specs.Passes.{shape_in}
use Rattle.gate_run.specs.declared.gate.Gate.{Gate}
use Rattle.trace_form.specs.Line.{line}
use Rattle.edge_main.specs.Batched.{Asked, Did, AreDealt, AreAskedBy, AreColumns, IsBatch, kinds_of, joined}
use Rattle.edge_main.specs.Crewed.{HasMet, HoldLines, AreWorkersAt, IsCrew, jobs_in, lines_in}
use Rattle.edge_main.specs.Spread.{SpreadState, written_by}
use Rattle.edge_main.specs.Working.{Works, asked_of, lines_by}
use Rattle.edge_main.specs.declared.working.Worker.{Worker}
use Rattle.edge_main.proofs.DealtLemmas.{DealtFor, dealt_map}
use Rattle.edge_main.proofs.ColumnLemmas.{columns_batch}
use Rattle.edge_main.proofs.MeetingLemmas.{chosen, head_of, begins, HasColumn, has-column}

-- ---- what each stands for was dealt in the same way
none-on : {A B : Type 0} (f : A → B) (columns : List (List A)) → All (λ column. column ≡ []) columns → All (λ column. column ≡ []) (map (map f) columns)
none-on {A} {B} f columns empty = All-map (λ (column : List B). column ≡ []) (map f) columns (λ k d below. ap (map f) (empty k d below))

pub dealt_on : {A B : Type 0} (f : A → B) (all : List A) (columns : List (List A)) → AreDealt all columns → AreDealt (map f all) (map (map f) columns)
dealt_on {A} {B} f [] columns dealt = none-on f columns dealt
dealt_on {A} {B} f (one ∷ earlier) columns (before, was, (column, at, is)) =
    let place = length earlier % length before in
    let same : length (map f earlier) % length (map (map f) before) ≡ place =
    ap₂ (λ m n. m % n) (length-map earlier f) (length-map before (map f)) in (
      map (map f) before,
      dealt_on f earlier before was,
      subst (λ p. (those : List B) × (slice_get (map (map f) before) p ≡ Some those) × (map (map f) columns ≡ slice_set (map (map f) before) p (those ++ f one ∷ []))) (sym same) (
        map f column,
        slice_get-map (map f) before place ∙ ap (option_map (map f)) at,
        ap (map (map f)) is ∙ map-set (map f) before place (column ++ one ∷ [])
            ∙ ap (slice_set (map (map f) before) place) (map-append f column (one ∷ [])),
      ),
    )

pub reversed-map : {A B : Type 0} (f : A → B) (xs : List A) → reverse (map f xs) ≡ map f (reverse xs)
reversed-map f [] = refl
reversed-map f (x ∷ xs) =
    reverse-append (f x ∷ []) (map f xs) ∙ ap (λ ys. ys ++ f x ∷ []) (reversed-map f xs) ∙ sym (map-append f (reverse xs) (x ∷ []))
    ∙ ap (map f) (sym (reverse-append (x ∷ []) xs))

-- ---- texts, joined
pub written-joined : (dids : List Did) → written_by (kinds_of dids) ≡ joined (lines_by dids)
written-joined [] = refl
written-joined (did ∷ dids) = ap (λ text. line did.parts ++ text) (written-joined dids)

-- ---- all workers
callers-of : (bound : ℕ) (history more : List Entry) → All (λ (entry : Entry). entry.caller < bound) (history ++ more)
    → All (λ (entry : Entry). entry.caller < bound) more
callers-of bound history more all k d below =
    subst (λ (e : Entry). e.caller < bound) (get_or-append-add history more k d)
    (all (length history + k) d (omega (arith, below, length-append history more)))

-- what the workers did in a batch: their columns of the further entries, and the lines of what was dealt
pub record CrewBatch (history whole : List Entry) (w1 : List Worker) (n : ℕ) (from : SpreadState) (lines : List (List ℕ)) (to : SpreadState) : Type 0 where
  pub more : List Entry
  pub is_more : whole ≡ history ++ more
  pub dids : List Did
  pub many : length dids ≡ n
  pub batch : IsBatch history more from lines (kinds_of (reverse dids)) to
  pub dealt : AreDealt (lines_by dids) (lines_in w1)

module _ (gate : Gate) (history whole : List Entry) (w0 w1 w2 : List Worker) (crew : IsCrew gate w0) (at : AreWorkersAt gate history w0)
    (works : (k : ℕ) (d : Worker) → k < length w0 → Works (slice_index_or w0 k d) (slice_index_or w1 k d)) (count : length w1 ≡ length w0)
    (fine : All (λ (worker : Worker). worker.fault ≡ None) w1) (met : (k : ℕ) (d : Worker) → k < length w1 → HasMet whole (slice_index_or w1 k d) (slice_index_or w2 k d)) where
  some-one : Worker
  some-one = head_of w0 crew.some

  within : (k : ℕ) → k < length w0 → k < length w1
  within k below = omega (arith, below, count)

  its-front : (k : ℕ) → k < length w0 → IsPrefix history whole
  its-front k below =
      begins gate history whole k (slice_index_or w0 k some-one) (slice_index_or w1 k some-one) (slice_index_or w2 k some-one) (at k some-one below)
      (works k some-one below) (fine k some-one (within k below)) (met k some-one (within k below))

  front : IsPrefix history whole
  front = its-front 0 (omega (arith, crew.some))

  abbrev further : List Entry
  further = front.0

  is-further : whole ≡ history ++ further
  is-further = sym front.1

  abbrev ItsColumn : ℕ → List Did → Type 0
  ItsColumn k dids = HasColumn history further k (slice_index_or w0 k some-one) (slice_index_or w1 k some-one) dids

  columns-of : (k : ℕ) → k < length w0 → (dids : List Did) × ItsColumn k dids
  columns-of k below =
      let w0k = slice_index_or w0 k some-one in
      let w1k = slice_index_or w1 k some-one in
      let worked = works k some-one below in
      let fine_k = fine k some-one (within k below) in (
        (worked.judged fine_k).dids,
        has-column gate history whole further k w0k w1k (slice_index_or w2 k some-one) (at k some-one below) worked fine_k (met k some-one (within k below)) is-further,
      )

  all-columns : (columns : List (List Did)) × (length columns ≡ length w0) × ((k : ℕ) (dids : List Did) → slice_get columns k ≡ Some dids → ItsColumn k dids)
  all-columns = chosen (length w0) ItsColumn columns-of

  abbrev columns : List (List Did)
  columns = all-columns.0

  at-column : (k : ℕ) → k < length columns → ItsColumn k (get_or columns k [])
  at-column k below = all-columns.2 k (get_or columns k []) (slice_get-get_or columns k [] below)

  its-jobs : map (map (λ (did : Did). did.asked)) columns ≡ jobs_in w0
  its-jobs =
      ext_get_or [] (map (map (λ (did : Did). did.asked)) columns) (jobs_in w0)
      (length-map columns (map (λ (did : Did). did.asked)) ∙ all-columns.1 ∙ sym (length-map w0 (λ (worker : Worker). map asked_of worker.jobs.items)))
      (λ k below.
      let in_columns : k < length columns = omega (arith, below, length-map columns (map (λ (did : Did). did.asked))) in
      get_or-map (map (λ (did : Did). did.asked)) columns k [] [] in_columns ∙ (at-column k in_columns).asked
      ∙ sym (get_or-map (λ (worker : Worker). map asked_of worker.jobs.items) w0 k some-one [] (omega (arith, in_columns, all-columns.1))))

  its-lines : map lines_by columns ≡ lines_in w1
  its-lines =
      ext_get_or [] (map lines_by columns) (lines_in w1)
      (length-map columns lines_by ∙ all-columns.1 ∙ sym count ∙ sym (length-map w1 (λ (worker : Worker). worker.lines.items)))
      (λ k below.
      let in_columns : k < length columns = omega (arith, below, length-map columns lines_by) in
      get_or-map lines_by columns k [] [] in_columns ∙ sym (at-column k in_columns).lines
      ∙ sym (get_or-map (λ (worker : Worker). worker.lines.items) w1 k some-one [] (omega (arith, in_columns, all-columns.1, count))))

  -- what was done of what was dealt
  these-did : (latest : List Asked) → AreDealt latest (jobs_in w0) → DealtFor (λ (did : Did). did.asked) latest columns
  these-did latest dealt = dealt_map (λ (did : Did). did.asked) latest columns (subst (AreDealt latest) (sym its-jobs) dealt)

  many-did : (latest : List Asked) (dealt : AreDealt latest (jobs_in w0)) → length (these-did latest dealt).these ≡ length latest
  many-did latest dealt =
      let those = these-did latest dealt in
      sym (length-map those.these (λ (did : Did). did.asked)) ∙ ap length those.for_all

  lines-dealt : (latest : List Asked) (dealt : AreDealt latest (jobs_in w0)) → AreDealt (lines_by (these-did latest dealt).these) (lines_in w1)
  lines-dealt latest dealt =
      let those = these-did latest dealt in
      subst (AreDealt (lines_by those.these)) its-lines (dealt_on (λ (did : Did). line did.parts) those.these columns those.dealt)

  -- the workers have a line for each that was dealt
  pub lines-held : (latest : List Asked) → AreDealt latest (jobs_in w0) → HoldLines (length latest) w1
  lines-held latest dealt =
      let those = these-did latest dealt in (
        lines_by those.these,
        (lines-dealt latest dealt, length-map those.these (λ (did : Did). line did.parts) ∙ many-did latest dealt),
      )

  pub crew-batch : (latest : List Asked) (from : SpreadState) (lines : List (List ℕ)) (to : SpreadState) → AreDealt latest (jobs_in w0)
      → length latest ≤ 256 → AreAskedBy from lines (reverse latest) to → IsLegal 64 4096 whole
      → All (λ (entry : Entry). entry.caller < length w0) whole → CrewBatch history whole w1 (length latest) from lines to
  crew-batch latest from lines to dealt few asked legal by_callers =
      let those = these-did latest dealt in
      let dids = those.these in
      let turned : map (λ (did : Did). did.asked) (reverse dids) ≡ reverse latest =
      sym (reversed-map (λ (did : Did). did.asked) dids) ∙ ap reverse those.for_all in
      record {
        more = further;
        is_more = is-further;
        dids = dids;
        many = many-did latest dealt;
        batch =
            columns_batch history further columns dids from lines to those.dealt
            (record {
              each = λ k one is. (all-columns.2 k one is).column;
              callers =
                  subst (λ n. All (λ (entry : Entry). entry.caller < n) further) (sym all-columns.1)
                  (callers-of (length w0) history further (subst (All (λ (entry : Entry). entry.caller < length w0)) is-further by_callers));
              legal = subst (IsLegal 64 4096) is-further legal;
            })
            (subst (λ all. AreAskedBy from lines all to) (sym turned) asked)
            (omega (arith, few, many-did latest dealt));
        dealt = lines-dealt latest dealt;
      }
