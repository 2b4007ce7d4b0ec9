-- What holds at the end of every judging.
use Rattle.std.specs.Prelude.{◌≡◌, ℕ, true, List, Option, is_some}
use Rattle.std.specs.List.{All}
use Rattle.edge_base.specs.declared.message.Reply.{Reply}
use Rattle.edge_base.specs.declared.message.Request.{Request}
use Rattle.rate_plain.specs.declared.entry.Answer.{Answer}
use Rattle.ruleset_model.specs.ConfigParts.{ConfigParts}
use Rattle.judge_core.specs.declared.kept.KeptCount.{KeptCount}
use Rattle.judge_core.specs.Judging.{Judgement, counting_at, judge, judge_reply}
use Rattle.judge_core.specs.Limits.{is_by_reply}
use Rattle.judge_core.specs.Talk.{Done}
use Rattle.judge_core.specs.Values.{Listed}

-- a rule that was kept stands at its places, has a limit and counts by the reply
abbrev pub CountsThere : ConfigParts → KeptCount → Type 0
CountsThere config kept = is_by_reply (counting_at config kept) ≡ true

-- each rule that was kept when a request is judged counts by the reply, in the configuration by which was judged
abbrev pub KeptRulesCount : Type 0
KeptRulesCount = (listed : Listed) (config : ConfigParts) (request : Request) (answers : List Answer) (judged : Judgement) →
    judge listed config request answers ≡ Done judged → All (CountsThere config) judged.kept

-- when a reply is judged there is one
abbrev pub RepliesStay : Type 0
RepliesStay = (listed : Listed) (config : ConfigParts) (judged : Judgement) (reply : Reply) (at : ℕ) (answers : List Answer)
    (after : Option Reply) → judge_reply listed config judged reply at answers ≡ Done after → is_some after ≡ true
