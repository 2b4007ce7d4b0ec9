-- A batch of requests that several workers judge at once: how they are dealt, what each worker did, and what that makes of
-- the history. No public clause cites these words.
use Rattle.std.specs.Prelude.{◌≡◌, ℕ, ◌+◌, ◌<◌, ◌≤◌, ◌%◌, cond, nat_lt, List, [], ◌∷◌, ◌++◌, length, map, All, ⊤, Option, Some, slice_get, slice_set}
use Rattle.rate_plain.specs.History.{IsLegal, own_of}
use Rattle.rate_plain.specs.declared.entry.Entry.{Entry}
use Rattle.ruleset_model.specs.ConfigParts.{ConfigParts}
use Rattle.gate_run.specs.Went.{counts_from}
use Rattle.trace_form.specs.Item.{IsAsk}
use Rattle.trace_form.specs.declared.item.Recorded.{Recorded}
use Rattle.trace_form.specs.declared.output.LineParts.{LineParts}
use Rattle.edge_main.specs.Answered.{LineKind}
use Rattle.edge_main.specs.Answered as line
use Rattle.edge_main.specs.Shown.{positions_of}
use Rattle.edge_main.specs.Spread.{SpreadState, AreSpreadLines, IsJudgedBy, steps_by, times}

-- ---- dealing

-- the one at this place got one more
abbrev pub IsDealtTo : {A : Type 0} → ℕ → A → List (List A) → List (List A) → Type 0
IsDealtTo {A} place one before after =
    (column : List A) × (slice_get before place ≡ Some column) × (after ≡ slice_set before place (column ++ one ∷ []))

-- these, the latest first, were dealt in turn, the first to the first
abbrev pub AreDealt : {A : Type 0} → List A → List (List A) → Type 0
AreDealt [] columns = All (λ column. column ≡ []) columns
AreDealt {A} (one ∷ earlier) columns =
    (before : List (List A)) × AreDealt earlier before × IsDealtTo (length earlier % length before) one before columns

-- ---- what is to be judged, and what was

-- a request that is to be judged: its number, the version that was picked for it, and what the line tells
pub record Asked : Type 0 where
  pub number : ℕ
  pub version : ℕ
  pub config : ConfigParts
  pub recorded : Recorded

-- the line's request is to be judged, where the lines have come so far
pub record IsAskedBy (s : SpreadState) (given : List ℕ) (asked : Asked) : Type 0 where
  pub ask : IsAsk given asked.recorded
  pub number : asked.number ≡ s.requests + 1
  pub version : asked.version ≡ s.version
  pub config : asked.config ≡ s.config

-- behind the line of a request
abbrev pub asked_behind : SpreadState → SpreadState
asked_behind s = record s { lines = s.lines + 1; requests = s.requests + 1 }

abbrev pub AreAskedBy : SpreadState → List (List ℕ) → List Asked → SpreadState → Type 0
AreAskedBy from [] [] to = from ≡ to
AreAskedBy from [] (asked ∷ all) to = ⊥
AreAskedBy from (given ∷ lines) [] to = ⊥
AreAskedBy from (given ∷ lines) (asked ∷ all) to = IsAskedBy from given asked × AreAskedBy (asked_behind from) lines all to

-- a request that was judged: what its line tells, and the entries that its worker saw meanwhile, its own and others'
pub record Did : Type 0 where
  pub asked : Asked
  pub parts : LineParts
  pub took : List Entry

-- a worker judged it, when it had seen so many entries before
pub record IsDone (caller seen : ℕ) (did : Did) : Type 0 where
  pub asked : List Entry
  pub replied : List Entry
  pub own : own_of did.took caller ≡ asked ++ replied
  pub judged : IsJudgedBy did.asked.config did.asked.recorded asked replied did.parts
  pub number : did.parts.number ≡ did.asked.number
  pub version : did.parts.version ≡ did.asked.version
  pub shows : did.parts.counts ≡ counts_from caller seen did.took

-- it judged these, one after another
abbrev pub AreDone : ℕ → ℕ → List Did → Type 0
AreDone caller seen [] = ⊤
AreDone caller seen (did ∷ dids) = IsDone caller seen did × AreDone caller (seen + length did.took) dids

-- all that it saw meanwhile
abbrev pub took_by : List Did → List Entry
took_by [] = []
took_by (did ∷ dids) = did.took ++ took_by dids

-- ---- what all did

-- of the further entries of the history the worker's own are those of what it did
pub record IsColumn (history more : List Entry) (caller : ℕ) (dids : List Did) : Type 0 where
  pub idle : List Entry
  pub rest : List Entry
  pub is : more ≡ idle ++ took_by dids ++ rest
  pub idle_none : own_of idle caller ≡ []
  pub rest_none : own_of rest caller ≡ []
  pub done : AreDone caller (length history + length idle) dids

-- each worker's column is so, and the further entries are theirs alone
pub record AreColumns (history more : List Entry) (columns : List (List Did)) : Type 0 where
  pub each : (k : ℕ) (dids : List Did) → slice_get columns k ≡ Some dids → IsColumn history more k dids
  pub callers : All (λ (entry : Entry). entry.caller < length columns) more
  pub legal : IsLegal 64 4096 (history ++ more)

-- ---- what that makes of the lines

abbrev pub IsOfRequest : LineKind → Type 0
IsOfRequest (line.request parts) = ⊤
IsOfRequest other = ⊥

-- the lines of some requests, all of whose steps are the further ones of the history
pub record IsBatch (history more : List Entry) (from : SpreadState) (lines : List (List ℕ)) (kinds : List LineKind) (to : SpreadState) : Type 0 where
  pub spread : AreSpreadLines (history ++ more) from lines kinds to
  pub requests : All IsOfRequest kinds
  pub few : length kinds ≤ 256
  pub legal : IsLegal 64 4096 (history ++ more)
  pub once : (position : ℕ) → times position (positions_of (steps_by kinds))
      ≡ cond (nat_lt position (length history)) 0 (cond (nat_lt position (length (history ++ more))) 1 0)

-- the lines of what was done
abbrev pub kinds_of : List Did → List LineKind
kinds_of dids = map (λ (did : Did). line.request did.parts) dids

-- texts, joined
abbrev pub joined : List (List ℕ) → List ℕ
joined [] = []
joined (text ∷ texts) = text ++ joined texts
