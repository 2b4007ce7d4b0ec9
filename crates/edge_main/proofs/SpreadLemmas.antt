-- What several workers write, line after line and batch after batch.
use Rattle.std.proofs.Common.{◌≡◌, ℕ, ◌+◌, ◌<◌, ◌≤◌, Bool, true, false, cond, nat_lt, List, [], ◌∷◌, ◌++◌, length, get_or, All, Some, slice_get, refl, sym, ap, subst, ◌∙◌, arith, append_assoc, append-nil, length-append, ltb-true, ltb-false}
use Rattle.std.proofs.lemmas.List.{get_or_append_left}
use Rattle.std.proofs.lemmas.List.Elements.{All-nil, All-cons, All-head, All-tail, All-weaker}
use Rattle.std.proofs.lemmas.Option.{slice_get_within, slice_get-get_or, get_or_from_slice_get}
use Rattle.rate_plain.specs.History.{IsLegal}
use Rattle.rate_plain.specs.declared.entry.Counted.{Counted}
use Rattle.rate_plain.specs.declared.entry.Entry.{Entry}
use Rattle.ruleset_model.specs.ConfigParts.{ConfigParts}
use Rattle.trace_form.specs.declared.item.Recorded.{Recorded}
use Rattle.trace_form.specs.declared.output.LineParts.{LineParts}
use Rattle.edge_main.specs.Answered.{LineKind, written_for}
use Rattle.edge_main.specs.Answered as line
use Rattle.edge_main.specs.Batched.{IsOfRequest, IsBatch}
use Rattle.edge_main.specs.Shown.{steps_in, positions_of}
use Rattle.edge_main.specs.Spread.{AreShown, IsToldIn, SpreadState, first, behind, IsSpreadLine, AreSpreadLines, written_by, steps_by, times, IsBelow, IsOfDeployment, AreApartFrom, IsFarBefore, AreApartAfar, IsSpreadOver}
use Rattle.edge_main.specs.Spread as spread
use Rattle.edge_main.proofs.SpreadPlaceLemmas.{IsOnceFrom, positions_below, positions_above, once_then, OfEach, of_lines, apart_then, afar_then}

-- ---- some lines after others

pub lines_then : (history : List Entry) (from mid to : SpreadState) (a b : List (List ℕ)) (some more : List LineKind)
    → AreSpreadLines history from a some mid → AreSpreadLines history mid b more to → AreSpreadLines history from (a ++ b) (some ++ more) to
lines_then history from mid to [] b [] more p q = subst (λ s. AreSpreadLines history s b more to) (sym p) q
lines_then history from mid to [] b (kind ∷ some) more p q = absurd p
lines_then history from mid to (given ∷ a) b [] more p q = absurd p
lines_then history from mid to (given ∷ a) b (kind ∷ some) more p q = (p.0, lines_then history (behind from kind) mid to a b some more p.1 q)

pub written-append : (a b : List LineKind) → written_by (a ++ b) ≡ written_by a ++ written_by b
written-append [] b = refl
written-append (kind ∷ a) b =
    ap (λ rest. written_for kind ++ rest) (written-append a b) ∙ sym (append_assoc (written_for kind) (written_by a) (written_by b))

-- ---- what was shown of a history is shown of each longer one

pub get_kept : (front more : List Entry) (place : ℕ) (one : Entry) → slice_get front place ≡ Some one → slice_get (front ++ more) place ≡ Some one
get_kept front more place one is =
    let within = slice_get_within front place one is in
    let longer : place < length (front ++ more) = omega (arith, within, length-append front more) in
    slice_get-get_or (front ++ more) place one longer
    ∙ ap (λ (found : Entry). Some found) (get_or_append_left front more one place within ∙ get_or_from_slice_get front place one one is)

pub shown_kept : (history more own : List Entry) (steps : List Counted) → AreShown history own steps → AreShown (history ++ more) own steps
shown_kept history more [] [] is = tt
shown_kept history more [] (step ∷ steps) is = absurd is
shown_kept history more (entry ∷ own) [] is = absurd is
shown_kept history more (entry ∷ own) (step ∷ steps) is =
    (get_kept history more step.position entry is.0, is.1, shown_kept history more own steps is.2)

told_kept : (history more : List Entry) (config : ConfigParts) (recorded : Recorded) (parts : LineParts) → IsToldIn history config recorded parts
    → IsToldIn (history ++ more) config recorded parts
told_kept history more config recorded parts told = record {
  asked = told.asked;
  replied = told.replied;
  judged = told.judged;
  shown = shown_kept history more (told.asked ++ told.replied) parts.counts told.shown;
  increasing = told.increasing;
}

line_kept : (history more : List Entry) (s : SpreadState) (given : List ℕ) (kind : LineKind) → IsSpreadLine history s given kind
    → IsSpreadLine (history ++ more) s given kind
line_kept history more s given kind (spread.blank h p) = spread.blank h p
line_kept history more s given kind (spread.bad why h p) = spread.bad why h p
line_kept history more s given kind (spread.deployment value config h e p) = spread.deployment value config h e p
line_kept history more s given kind (spread.no_deployment value place cause h e p) = spread.no_deployment value place cause h e p
line_kept history more s given kind (spread.request recorded parts h told number version p) =
    spread.request recorded parts h (told_kept history more s.config recorded parts told) number version p

lines_kept : (history more : List Entry) (from to : SpreadState) (lines : List (List ℕ)) (kinds : List LineKind)
    → AreSpreadLines history from lines kinds to → AreSpreadLines (history ++ more) from lines kinds to
lines_kept history more from to [] [] is = is
lines_kept history more from to [] (kind ∷ kinds) is = absurd is
lines_kept history more from to (given ∷ lines) [] is = absurd is
lines_kept history more from to (given ∷ lines) (kind ∷ kinds) is =
    (line_kept history more from given kind is.0, lines_kept history more (behind from kind) to lines kinds is.1)

-- ---- the whole

pub spread_none : IsSpreadOver [] [] [] first
spread_none = record {
  spread = refl;
  legal = λ k d below. absurd (omega (arith, below));
  once = λ position. by position (nat_lt position 0) refl;
  deployments = tt;
  afar = tt;
} where
  by : (position : ℕ) (b : Bool) → nat_lt position 0 ≡ b → ◌≡◌ {A = ℕ} 0 (cond b 1 0)
  by position true is = absurd (omega (arith, ltb-true position 0 is))
  by position false is = refl

-- some lines more, whose steps stand behind those so far
over_more : (lines : List (List ℕ)) (kinds : List LineKind) (history more : List Entry) (s to : SpreadState) (givens : List (List ℕ))
    (these : List LineKind) → IsSpreadOver lines kinds history s → AreSpreadLines (history ++ more) s givens these to
    → IsLegal 64 4096 (history ++ more) → IsOnceFrom (length history) (length (history ++ more)) (steps_by these)
    → AreApartFrom kinds these → AreApartAfar these → IsSpreadOver (lines ++ givens) (kinds ++ these) (history ++ more) to
over_more lines kinds history more s to givens these over spread legal once apart afar =
    let least = length history in
    let low = of_lines (λ p. p < length history) kinds (positions_below (length history) (steps_by kinds) over.once) in
    let high = of_lines (λ p. length history ≤ p) these (positions_above (length history) (length (history ++ more)) (steps_by these) once) in
    record {
      spread = lines_then (history ++ more) first s to lines givens kinds these (lines_kept history more first s lines kinds over.spread) spread;
      legal = legal;
      once =
          once_then (length history) (length (history ++ more)) kinds these (omega (arith, length-append history more)) over.once once;
      deployments =
          apart_then (length history) [] kinds these (All-nil (OfEach (λ p. p < length history))) low high over.deployments apart;
      afar = afar_then (length history) kinds these low high over.afar afar;
    }

-- ---- a line that is no request

no_steps_in : (kind : LineKind) → ¬ (IsOfRequest kind) → steps_in kind ≡ []
no_steps_in line.blank none = refl
no_steps_in (line.bad number why) none = refl
no_steps_in (line.deployment version config) none = refl
no_steps_in (line.no_deployment place cause) none = refl
no_steps_in (line.request parts) none = absurd (none tt)

none_once : (least most : ℕ) (kind : LineKind) → ¬ (IsOfRequest kind) → most ≡ least → IsOnceFrom least most (steps_by (kind ∷ []))
none_once least most kind none same position =
    ap (λ steps. times position (positions_of (steps ++ []))) (no_steps_in kind none)
    ∙ by (nat_lt position least) (nat_lt position most) refl refl where
      by : (b c : Bool) → nat_lt position least ≡ b → nat_lt position most ≡ c → ◌≡◌ {A = ℕ} 0 (cond b 0 (cond c 1 0))
      by true c low high = refl
      by false true low high = absurd (omega (arith, same, ltb-false position least low, ltb-true position most high))
      by false false low high = refl

pub line_more : (lines : List (List ℕ)) (kinds : List LineKind) (history : List Entry) (s : SpreadState) (given : List ℕ) (kind : LineKind)
    → IsSpreadOver lines kinds history s → IsSpreadLine history s given kind → ¬ (IsOfRequest kind)
    → IsSpreadOver (lines ++ given ∷ []) (kinds ++ kind ∷ []) history (behind s kind)
line_more lines kinds history s given kind over this none =
    let same = append-nil history in
    subst (λ h. IsSpreadOver (lines ++ given ∷ []) (kinds ++ kind ∷ []) h (behind s kind)) same
    (over_more lines kinds history [] s (behind s kind) (given ∷ []) (kind ∷ []) over
    (line_kept history [] s given kind this, refl) (subst (IsLegal 64 4096) (sym same) over.legal)
    (none_once (length history) (length (history ++ [])) kind none (ap length same))
    (λ of k d under. All-nil (IsBelow (get_or kinds k d)), tt)
    (All-nil (λ b. IsFarBefore kind b → IsBelow kind b), tt))

-- ---- a batch

not_both : (kind : LineKind) → IsOfRequest kind → ¬ (IsOfDeployment kind)
not_both (line.request parts) of deploys = deploys
not_both other of deploys = of

apart_none : (earlier kinds : List LineKind) → All IsOfRequest kinds → AreApartFrom earlier kinds
apart_none earlier [] all = tt
apart_none earlier (kind ∷ kinds) all = (
  λ deploys. absurd (not_both kind (All-head IsOfRequest kind kinds all) deploys),
  apart_none (earlier ++ kind ∷ []) kinds (All-tail IsOfRequest kind kinds all),
)

-- the number of a request is above one and at most another
abbrev IsNumbered : ℕ → ℕ → LineKind → Type 0
IsNumbered low high (line.request parts) = (low < parts.number) × (parts.number ≤ high)
IsNumbered low high other = ⊥

numbered_line : (history : List Entry) (s : SpreadState) (given : List ℕ) (kind : LineKind) (low high : ℕ) → IsSpreadLine history s given kind
    → IsOfRequest kind → low ≤ s.requests → s.requests + 1 ≤ high → IsNumbered low high kind
numbered_line history s given kind low high (spread.blank h p) of least most = absurd (subst IsOfRequest p of)
numbered_line history s given kind low high (spread.bad why h p) of least most = absurd (subst IsOfRequest p of)
numbered_line history s given kind low high (spread.deployment value config h e p) of least most = absurd (subst IsOfRequest p of)
numbered_line history s given kind low high (spread.no_deployment value place cause h e p) of least most = absurd (subst IsOfRequest p of)
numbered_line history s given kind low high (spread.request recorded parts h told number version p) of least most =
    subst (IsNumbered low high) (sym p) (omega (arith, number, least), omega (arith, number, most))

one_request_more : (s : SpreadState) (kind : LineKind) → IsOfRequest kind → (behind s kind).requests ≡ s.requests + 1
one_request_more s (line.request parts) of = refl
one_request_more s other of = absurd of

numbered_lines : (history : List Entry) (s to : SpreadState) (lines : List (List ℕ)) (kinds : List LineKind) (low high : ℕ)
    → AreSpreadLines history s lines kinds to → All IsOfRequest kinds → low ≤ s.requests → s.requests + length kinds ≤ high
    → All (IsNumbered low high) kinds
numbered_lines history s to [] [] low high is all least most = All-nil (IsNumbered low high)
numbered_lines history s to [] (kind ∷ kinds) low high is all least most = absurd is
numbered_lines history s to (given ∷ lines) [] low high is all least most = absurd is
numbered_lines history s to (given ∷ lines) (kind ∷ kinds) low high is all least most =
    let of = All-head IsOfRequest kind kinds all in
    let more = one_request_more s kind of in
    All-cons (IsNumbered low high) kind kinds
    (numbered_line history s given kind low high is.0 of least (omega (arith, most)))
    (numbered_lines history (behind s kind) to lines kinds low high is.1 (All-tail IsOfRequest kind kinds all)
    (omega (arith, more, least)) (omega (arith, more, most)))

not_far : (low high : ℕ) (a b : LineKind) → high ≤ low + 256 → IsNumbered low high a → IsNumbered low high b → ¬ (IsFarBefore a b)
not_far low high (line.request a) (line.request b) few p q far = omega (arith, few, p.0, q.1, far)
not_far low high (line.request a) other few p q far = q
not_far low high other b few p q far = p

afar_few : (low high : ℕ) (kinds : List LineKind) → high ≤ low + 256 → All (IsNumbered low high) kinds → AreApartAfar kinds
afar_few low high [] few all = tt
afar_few low high (kind ∷ kinds) few all = (
  All-weaker (IsNumbered low high) (λ b. IsFarBefore kind b → IsBelow kind b)
      (λ b of far. absurd (not_far low high kind b few (All-head (IsNumbered low high) kind kinds all) of far)) kinds
      (All-tail (IsNumbered low high) kind kinds all),
  afar_few low high kinds few (All-tail (IsNumbered low high) kind kinds all),
)

pub batch_more : (lines : List (List ℕ)) (kinds : List LineKind) (history more : List Entry) (s to : SpreadState) (givens : List (List ℕ))
    (these : List LineKind) → IsSpreadOver lines kinds history s → IsBatch history more s givens these to
    → IsSpreadOver (lines ++ givens) (kinds ++ these) (history ++ more) to
batch_more lines kinds history more s to givens these over batch =
    over_more lines kinds history more s to givens these over batch.spread batch.legal batch.once (apart_none kinds these batch.requests)
    (afar_few s.requests (s.requests + length these) these (omega (arith, batch.few))
    (numbered_lines (history ++ more) s to givens these s.requests (s.requests + length these) batch.spread batch.requests
    (omega arith) (omega arith)))

-- ---- each position that is shown is one of the history
pub spread_few : (lines : List (List ℕ)) (kinds : List LineKind) (history : List Entry) (to : SpreadState) → IsSpreadOver lines kinds history to
    → All (λ p. p < length history) (positions_of (steps_by kinds))
spread_few lines kinds history to over = positions_below (length history) (steps_by kinds) over.once
