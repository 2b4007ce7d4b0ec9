-- A step that is asked where 2^50 steps were taken.
use Rattle.std.specs.Prelude.{◌≡◌, ◌⊎◌, ℕ, List, ◌∷◌, ◌++◌, Option, None, Some}
use Rattle.edge_base.specs.declared.message.Reply.{Reply}
use Rattle.edge_outside.specs.Lines.{lines_of}
use Rattle.rate_plain.specs.declared.entry.Entry.{Entry}
use Rattle.ruleset_model.specs.ConfigParts.{ConfigParts}
use Rattle.judge_core.specs.Judging.{Judgement, judging, judgement, backing}
use Rattle.judge_core.specs.Values.{Listed}
use Rattle.trace_form.specs.Item.{IsAsk}
use Rattle.trace_form.specs.declared.item.Recorded.{Recorded}
use Rattle.edge_main.specs.Answered.{RunState, opening, Answered, request_talked, reply_used}
use Rattle.edge_main.specs.Counting.{IsSpentIn}
use Rattle.gate_run.specs.Named.{IsMeaningOf}
use Rattle.edge_main.specs.Output.{IsRun}

-- a step of the reply is one too many
abbrev pub IsSpentBack : Listed → ConfigParts → Judgement → Option (Reply × ℕ) → List Entry → Type 0
IsSpentBack listed config judged None history = ⊥
IsSpentBack listed config judged (Some used) history = IsSpentIn (backing listed config judged used.0 used.1) history

-- a step of the request or of its reply is one too many
abbrev pub IsSpentFor : Listed → RunState → Recorded → Type 0
IsSpentFor listed s recorded =
    let t = request_talked listed s recorded.request in
    IsSpentIn (judging listed s.config recorded.request) s.history
    ⊎ IsSpentBack listed s.config (judgement t.ended) (reply_used (judgement t.ended).verdict.kind recorded.reply) t.history

-- the line is such a request, where the run has come so far
pub record IsSpentOn (s : RunState) (given : List ℕ) : Type 0 where
  pub recorded : Recorded
  pub listed : Listed
  pub ask : IsAsk given recorded
  pub meaning : IsMeaningOf s.config.lists listed
  pub spent : IsSpentFor listed s recorded

-- the input has such a line, and the lines before it were answered
pub record WasSpent (text : List ℕ) : Type 0 where
  pub front : List (List ℕ)
  pub given : List ℕ
  pub rest : List (List ℕ)
  pub is_text : lines_of text ≡ front ++ given ∷ rest
  pub run : List Answered
  pub to : RunState
  pub is_run : IsRun opening front run to
  pub spent : IsSpentOn to given
