-- How a judging goes by the entries of a history that others add to as well.
use Rattle.std.specs.Prelude.{◌≡◌, ℕ, suc, ◌<◌, ◌==◌, cond, List, [], ◌∷◌, ◌++◌, Some, map, take, length, slice_index_or}
use Rattle.edge_base.specs.declared.message.Reply.{Reply}
use Rattle.edge_base.specs.declared.message.Request.{Request}
use Rattle.rate_plain.specs.History.{ask_of}
use Rattle.rate_plain.specs.declared.entry.Answer.{Answer}
use Rattle.rate_plain.specs.declared.entry.Ask.{Ask}
use Rattle.rate_plain.specs.declared.entry.Counted.{Counted}
use Rattle.rate_plain.specs.declared.entry.Entry.{Entry}
use Rattle.ruleset_model.specs.ConfigParts.{ConfigParts}
use Rattle.judge_core.specs.Judging.{Judgement, judge, judge_reply}
use Rattle.judge_core.specs.Talk.{Stand, Counts, Done}
use Rattle.judge_core.specs.Values.{Listed}

-- what the entries were answered
abbrev pub answers_of : List Entry → List Answer
answers_of entries = map (λ (entry : Entry). entry.answer) entries

-- each entry is the step that is asked after the answers of those before it
abbrev pub AreAskedBy : (List Answer → Ask → Type 0) → List Entry → Type 0
AreAskedBy Asks own =
    (k : ℕ) (d : Entry) → k < length own → Asks (answers_of (take k own)) (ask_of (slice_index_or own k d))

-- the same of a judging, by what it has come to after some answers
abbrev pub AreAsked : {A : Type 0} → (List Answer → Stand A) → List Entry → Type 0
AreAsked judging own = AreAskedBy (λ answers ask. judging answers ≡ Counts ask) own

-- a judging asked these steps, each once and in order, and with their answers it came to this
pub record WentTo {A : Type 0} (judging : List Answer → Stand A) (own : List Entry) (end : A) : Type 0 where
  pub asked : AreAsked judging own
  pub done : judging (answers_of own) ≡ Done end

-- the judging of a request by a configuration
abbrev pub Went : Listed → ConfigParts → Request → List Entry → Judgement → Type 0
Went listed config request own judged = WentTo (judge listed config request) own judged

-- the judging of a reply that came at a moment
abbrev pub WentBack : Listed → ConfigParts → Judgement → Reply → ℕ → List Entry → Reply → Type 0
WentBack listed config judged reply at own ended = WentTo (judge_reply listed config judged reply at) own (Some ended)

-- the entries of a caller as they are shown: the place of each in the history, which these entries go on with from this
-- place, and its answer
abbrev pub counts_from : ℕ → ℕ → List Entry → List Counted
counts_from caller place [] = []
counts_from caller place (entry ∷ entries) =
    cond (entry.caller == caller) (record { position = place; answer = entry.answer } ∷ counts_from caller (suc place) entries)
    (counts_from caller (suc place) entries)
