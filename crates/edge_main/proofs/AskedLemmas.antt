-- What was judged of a request and its reply is what their line tells.
use Rattle.std.proofs.Common.{◌≡◌, ◌⊎◌, ℕ, ◌+◌, List, [], ◌++◌, Option, None, Some, inl, inr, refl, sym, ap, subst, ◌∙◌, append-nil}
use Rattle.edge_base.specs.declared.message.Header.{Header}
use Rattle.edge_base.specs.declared.message.Reply.{Reply}
use Rattle.edge_base.specs.declared.message.Request.{Request}
use Rattle.rate_plain.specs.declared.entry.Counted.{Counted}
use Rattle.rate_plain.specs.declared.entry.Entry.{Entry}
use Rattle.rate_lane.specs.declared.lanes.Lanes.{Lanes}
use Rattle.ruleset_model.specs.ConfigParts.{ConfigParts}
use Rattle.judge_core.specs.Carried.{End}
use Rattle.judge_core.specs.Judging.{Judgement, judging, judgement, backing, carried_at}
use Rattle.judge_core.specs.Talk.{Talk}
use Rattle.judge_core.specs.Values.{Listed}
use Rattle.trace_form.specs.declared.item.Recorded.{Recorded}
use Rattle.trace_form.specs.declared.output.LineParts.{LineParts}
use Rattle.edge_main.specs.Answered.{RunState, Backed, request_talked, reply_used, reply_backed, followed, judged_parts, headers_of}
use Rattle.edge_main.specs.Counting.{Talked, talked, IsSpentIn}
use Rattle.edge_main.specs.Spent.{IsSpentBack, IsSpentFor}
use Rattle.edge_main.specs.Stepping.{IsCounter, IsTalked, IsBackedAs, IsTold}

-- ---- a reply
-- there is none
pub backed_none : (listed : Listed) (config : ConfigParts) (one : Judgement) (before : List Counted) (counter : Lanes) (history : List Entry)
    → IsCounter counter history → IsBackedAs (reply_backed listed config one None history) before counter before None
backed_none listed config one before counter history counts =
    record { counter_is = counts; counts_are = sym (append-nil before); headers_are = refl }

-- it was judged
pub backed_some : (listed : Listed) (config : ConfigParts) (one : Judgement) (reply : Reply) (at : ℕ) (before : List Counted) (counter : Lanes)
    (shown : List Counted) (reply' : Reply) (copy : List Header) (history : List Entry) → copy ≡ reply.headers
    → IsTalked (λ (end : End). (carried_at end).reply) (backing listed config one reply at) before counter shown (Some reply') history
    → IsBackedAs (reply_backed listed config one (Some (reply, at)) history) before counter shown (Some (copy, reply'.headers))
backed_some listed config one reply at before counter shown reply' copy history same told =
    let after : reply'.headers ≡ headers_of (carried_at (talked (backing listed config one reply at) history).ended).reply =
    sym (ap headers_of told.ended_is) in
    record { counter_is = told.counter_is; counts_are = told.counts_are; headers_are = λ i. Some (same i, after i) }

-- ---- a request and its reply
-- a step of the request is one too many
pub spent_first : (listed : Listed) (s : RunState) (recorded : Recorded) (config : ConfigParts) → config ≡ s.config
    → IsSpentIn (judging listed config recorded.request) s.history → IsSpentFor listed s recorded
spent_first listed s recorded config same spent = inl (subst (λ c. IsSpentIn (judging listed c recorded.request) s.history) same spent)

module _ (listed : Listed) (s : RunState) (recorded : Recorded) (config : ConfigParts) (same : config ≡ s.config) (one : Judgement)
    (its_config : ConfigParts) (is_config : its_config ≡ config) (used : Option (Reply × ℕ))
    (is_used : used ≡ reply_used one.verdict.kind recorded.reply)
    (is_judged : judgement (talked (judging listed config recorded.request) s.history).ended ≡ one) where
  abbrev here : Talked End
  here = talked (judging listed config recorded.request) s.history

  abbrev there : Talked End
  there = request_talked listed s recorded.request

  same_talk : here ≡ there
  same_talk = ap (λ c. talked (judging listed c recorded.request) s.history) same

  same_judgement : one ≡ judgement there.ended
  same_judgement = sym is_judged ∙ ap (λ (t : Talked End). judgement t.ended) same_talk

  same_used : used ≡ reply_used (judgement there.ended).verdict.kind recorded.reply
  same_used = is_used ∙ ap (λ (j : Judgement). reply_used j.verdict.kind recorded.reply) same_judgement

  same_back : reply_backed listed its_config one used here.history ≡ followed listed s recorded.reply there
  same_back =
      let history = ap (λ (t : Talked End). t.history) same_talk in
      let of_config = is_config ∙ same in
      λ i. reply_backed listed (of_config i) (same_judgement i) (same_used i) (history i)

  -- what the line tells
  pub told_of : (number version : ℕ) (came : List Header) (counts shown : List Counted) (counter : Lanes) (headers : Option (List Header × List Header))
      → number ≡ s.requests + 1 → version ≡ s.version → came ≡ recorded.request.headers → counts ≡ [] ++ here.counts
      → IsBackedAs (reply_backed listed its_config one used here.history) counts counter shown headers
      → IsTold listed recorded counter
      (record { number = number; version = version; verdict = one.verdict; request = one.request; came = came; counts = shown; reply = headers }) s
  told_of number version came counts shown counter headers numbered in_version is_came are_counts back =
      let verdict = ap (λ (j : Judgement). j.verdict) same_judgement in
      let request = ap (λ (j : Judgement). j.request) same_judgement in
      let first : counts ≡ there.counts = are_counts ∙ ap (λ (t : Talked End). t.counts) same_talk in
      let rest = ap (λ (b : Backed). b.counts) same_back in
      let both : shown ≡ there.counts ++ (followed listed s recorded.reply there).counts = back.counts_are ∙ (λ i. first i ++ rest i) in
      let told = back.headers_are ∙ ap (λ (b : Backed). b.headers) same_back in
      record {
        parts_are = λ i. record {
          number = numbered i;
          version = in_version i;
          verdict = verdict i;
          request = request i;
          came = is_came i;
          counts = both i;
          reply = told i;
        };
        counter_is = subst (IsCounter counter) (ap (λ (b : Backed). b.history) same_back) back.counter_is;
      }

  -- a step of its reply
  pub spent_then : IsSpentBack listed its_config one used here.history → IsSpentFor listed s recorded
  spent_then spent =
      let history = ap (λ (t : Talked End). t.history) same_talk in
      let of_config = is_config ∙ same in
      inr (subst (λ (t : Type 0). t) (λ i. IsSpentBack listed (of_config i) (same_judgement i) (same_used i) (history i)) spent)
