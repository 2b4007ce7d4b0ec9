-- What each worker did to a batch is what the lines of all come to: each is told in the history of all, each further place shown once.
use Rattle.std.proofs.Common.{◌≡◌, ℕ, suc, ◌+◌, ◌≤◌, List, [], ◌∷◌, ◌++◌, length, map, reverse, All, Some, slice_get, slice_index_or, sum_by, refl, sym, ap, ap₂, subst, ◌∙◌, arith, append_assoc, append-nil, length-append}
use Rattle.std.proofs.lemmas.List.{map-append, length-map, length-reverse}
use Rattle.std.proofs.lemmas.List.Elements.{All-nil, All-cons, All-head, All-tail, All-map}
use Rattle.std.proofs.lemmas.List.Sorted.{IsPermutation-reverse, All-permutation, sum_by-IsPermutation}
use Rattle.std.proofs.lemmas.List.Sums.{sum_by-cons}
use Rattle.std.proofs.lemmas.Option.{slice_get-get_or}
use Rattle.rate_plain.specs.declared.entry.Counted.{Counted}
use Rattle.rate_plain.specs.declared.entry.Entry.{Entry}
use Rattle.gate_run.specs.Went.{counts_from}
use Rattle.edge_main.specs.Answered.{LineKind}
use Rattle.edge_main.specs.Answered as line
use Rattle.edge_main.specs.Shown.{positions_of}
use Rattle.edge_main.specs.Spread.{SpreadState, AreSpreadLines, AreShown, AreIncreasing, IsToldIn, steps_by, times}
use Rattle.edge_main.specs.Spread as spread
use Rattle.edge_main.specs.Batched.{AreDealt, AreAskedBy, asked_behind, Did, IsDone, AreDone, took_by, IsColumn, AreColumns, IsOfRequest, IsBatch, kinds_of}
use Rattle.edge_main.proofs.DealtLemmas.{dealt_sum, dealt_all}
use Rattle.edge_main.proofs.CountsLemmas.{counts-append, counts-none, counts_shown, counts_increase, times-append, once_within, sum_on, callers_counted}

-- ---- what a worker did

-- its lines show its steps
pub took_counted : (caller seen : ℕ) (dids : List Did) → AreDone caller seen dids → steps_by (kinds_of dids) ≡ counts_from caller seen (took_by dids)
took_counted caller seen [] done = refl
took_counted caller seen (did ∷ dids) done =
    ap₂ (λ some more. some ++ more) done.0.shows (took_counted caller (seen + length did.took) dids done.1)
    ∙ sym (counts-append caller seen did.took (took_by dids))

pub column_counted : (history more : List Entry) (caller : ℕ) (dids : List Did) → IsColumn history more caller dids
    → steps_by (kinds_of dids) ≡ counts_from caller (length history) more
column_counted history more caller dids column =
    let first = length history in
    let took = took_by dids in
    took_counted caller (first + length column.idle) dids column.done
    ∙ ap (λ some. some ++ counts_from caller (first + length column.idle) took) (sym (counts-none caller first column.idle column.idle_none))
    ∙ sym (counts-append caller first column.idle took)
    ∙ sym (append-nil (counts_from caller first (column.idle ++ took)))
    ∙ ap (λ last. counts_from caller first (column.idle ++ took) ++ last)
    (sym (counts-none caller (first + length (column.idle ++ took)) column.rest column.rest_none))
    ∙ sym (counts-append caller first (column.idle ++ took) column.rest)
    ∙ ap (counts_from caller first) (sym column.is)

-- what it did is told in the history of all, with the number and the version that were asked
pub record IsDidTold (whole : List Entry) (did : Did) : Type 0 where
  pub told : IsToldIn whole did.asked.config did.asked.recorded did.parts
  pub number : did.parts.number ≡ did.asked.number
  pub version : did.parts.version ≡ did.asked.version

done_told : (whole before after : List Entry) (caller seen : ℕ) (did : Did) → whole ≡ before ++ (did.took ++ after) → length before ≡ seen
    → IsDone caller seen did → IsDidTold whole did
done_told whole before after caller seen did is at done = record {
  told = record {
    asked = done.asked;
    replied = done.replied;
    judged = done.judged;
    shown =
        subst (λ steps. AreShown whole (done.asked ++ done.replied) steps) (sym done.shows)
        (subst (λ own. AreShown whole own (counts_from caller seen did.took)) done.own (counts_shown whole before did.took after caller seen is at));
    increasing =
        subst (λ steps. AreIncreasing 0 (positions_of steps)) (sym done.shows) (counts_increase 0 caller seen did.took (omega arith));
  };
  number = done.number;
  version = done.version;
}

dids_told : (whole before after : List Entry) (caller seen : ℕ) (dids : List Did) → whole ≡ before ++ (took_by dids ++ after)
    → length before ≡ seen → AreDone caller seen dids → All (IsDidTold whole) dids
dids_told whole before after caller seen [] is at done = All-nil (IsDidTold whole)
dids_told whole before after caller seen (did ∷ dids) is at done =
    let split : whole ≡ before ++ (did.took ++ (took_by dids ++ after)) =
    is ∙ ap (λ rest. before ++ rest) (append_assoc did.took (took_by dids) after) in
    All-cons (IsDidTold whole) did dids (done_told whole before (took_by dids ++ after) caller seen did split at done.0)
    (dids_told whole (before ++ did.took) after caller (seen + length did.took) dids
    (split ∙ sym (append_assoc before did.took (took_by dids ++ after))) (omega (arith, at, length-append before did.took)) done.1)

pub column_told : (history more : List Entry) (caller : ℕ) (dids : List Did) → IsColumn history more caller dids → All (IsDidTold (history ++ more)) dids
column_told history more caller dids column =
    let took = took_by dids in
    dids_told (history ++ more) (history ++ column.idle) column.rest caller (length history + length column.idle) dids
    (ap (λ entries. history ++ entries) (column.is ∙ append_assoc column.idle took column.rest)
    ∙ sym (append_assoc history column.idle (took ++ column.rest)))
    (length-append history column.idle) column.done

-- ---- what all did

-- how often what was done shows a place
abbrev shows : ℕ → Did → ℕ
shows p did = times p (positions_of did.parts.counts)

shown_by : (p : ℕ) (dids : List Did) → times p (positions_of (steps_by (kinds_of dids))) ≡ sum_by (shows p) dids
shown_by p [] = refl
shown_by p (did ∷ dids) =
    ap (times p) (map-append (λ (step : Counted). step.position) did.parts.counts (steps_by (kinds_of dids)))
    ∙ times-append p (positions_of did.parts.counts) (positions_of (steps_by (kinds_of dids)))
    ∙ ap (λ n. shows p did + n) (shown_by p dids) ∙ sym (sum_by-cons (shows p) did dids)

sum_places : {X : Type 0} (f : X → ℕ) (g : ℕ → ℕ) (first : ℕ) (xs : List X) → ((k : ℕ) (x : X) → slice_get xs k ≡ Some x → f x ≡ g (first + k))
    → sum_by f xs ≡ sum_on g first (length xs)
sum_places f g first [] same = refl
sum_places {X} f g first (x ∷ xs) same =
    let here : first + 0 ≡ first = omega arith in
    let rest : sum_by f xs ≡ sum_on g (suc first) (length xs) =
    sum_places f g (suc first) xs
    (λ k y at. let further : first + suc k ≡ suc first + k = omega arith in same (suc k) y at ∙ ap g further) in
    sum_by-cons f x xs ∙ ap₂ (λ m n. m + n) (same 0 x refl ∙ ap g here) rest

-- each further place is shown once by what all did
pub dids_once : (history more : List Entry) (columns : List (List Did)) (dids : List Did) (p : ℕ) → AreDealt dids columns
    → AreColumns history more columns
    → times p (positions_of (steps_by (kinds_of dids))) ≡ once_within p (length history) (length (history ++ more))
dids_once history more columns dids p dealt all =
    let first = length history in
    let sums : sum_by (λ column. sum_by (shows p) column) columns
    ≡ sum_on (λ k. times p (positions_of (counts_from k first more))) 0 (length columns) =
    sum_places (λ column. sum_by (shows p) column) (λ k. times p (positions_of (counts_from k first more))) 0 columns
    (λ k column at. let same : k ≡ 0 + k = omega arith in
    sym (shown_by p column) ∙ ap (λ steps. times p (positions_of steps)) (column_counted history more k column (all.each k column at))
    ∙ ap (λ n. times p (positions_of (counts_from n first more))) same) in
    shown_by p dids ∙ sym (dealt_sum (shows p) dids columns dealt) ∙ sums ∙ callers_counted (length columns) p first more all.callers
    ∙ ap (once_within p first) (sym (length-append history more))

-- also in the order in which they were dealt
pub reversed_once : (history more : List Entry) (columns : List (List Did)) (dids : List Did) (p : ℕ) → AreDealt dids columns
    → AreColumns history more columns
    → times p (positions_of (steps_by (kinds_of (reverse dids)))) ≡ once_within p (length history) (length (history ++ more))
reversed_once history more columns dids p dealt all =
    shown_by p (reverse dids) ∙ sum_by-IsPermutation (shows p) dids (reverse dids) (IsPermutation-reverse dids) ∙ sym (shown_by p dids)
    ∙ dids_once history more columns dids p dealt all

-- what was asked line by line and told is what the lines come to
lines_told : (whole : List Entry) (from : SpreadState) (lines : List (List ℕ)) (dids : List Did) (to : SpreadState)
    → AreAskedBy from lines (map (λ (did : Did). did.asked) dids) to → All (IsDidTold whole) dids → AreSpreadLines whole from lines (kinds_of dids) to
lines_told whole from [] [] to asked told = asked
lines_told whole from [] (did ∷ dids) to asked told = absurd asked
lines_told whole from (given ∷ lines) [] to asked told = absurd asked
lines_told whole from (given ∷ lines) (did ∷ dids) to asked told =
    let this = All-head (IsDidTold whole) did dids told in (
      spread.request did.asked.recorded did.parts asked.0.ask
          (subst (λ config. IsToldIn whole config did.asked.recorded did.parts) asked.0.config this.told) (this.number ∙ asked.0.number)
          (this.version ∙ asked.0.version) refl,
      lines_told whole (asked_behind from) lines dids to asked.1 (All-tail (IsDidTold whole) did dids told),
    )

-- what all did is a batch
pub columns_batch : (history more : List Entry) (columns : List (List Did)) (latest : List Did) (from : SpreadState) (lines : List (List ℕ))
    (to : SpreadState) → AreDealt latest columns → AreColumns history more columns
    → AreAskedBy from lines (map (λ (did : Did). did.asked) (reverse latest)) to → length latest ≤ 256
    → IsBatch history more from lines (kinds_of (reverse latest)) to
columns_batch history more columns latest from lines to dealt all asked few =
    let whole = history ++ more in
    let told = dealt_all (IsDidTold whole) latest columns dealt
    (λ k d below. column_told history more k (slice_index_or columns k d) (all.each k (slice_index_or columns k d) (slice_get-get_or columns k d below))) in
    record {
      spread =
          lines_told whole from lines (reverse latest) to asked
          (All-permutation (IsDidTold whole) latest (reverse latest) (IsPermutation-reverse latest) told);
      requests = All-map IsOfRequest (λ (did : Did). line.request did.parts) (reverse latest) (λ k d below. tt);
      few = omega (arith, few, length-map {B = LineKind} (reverse latest) (λ (did : Did). line.request did.parts), length-reverse latest);
      legal = all.legal;
      once = λ p. reversed_once history more columns latest p dealt all;
    }
