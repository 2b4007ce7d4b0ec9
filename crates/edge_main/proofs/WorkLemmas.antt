-- What a worker has done, one request after another.
use Rattle.std.proofs.Common.{◌≡◌, ℕ, ◌+◌, ◌==◌, List, [], ◌∷◌, ◌++◌, map, length, length-append, refl, sym, ap, ap₂, subst, ◌∙◌, arith, append_assoc, append-nil}
use Rattle.std.specs.Arc.{arc_value}
use Rattle.std.proofs.lemmas.List.{map-append}
use Rattle.std.proofs.lemmas.List.Elements.{filter-append}
use Rattle.judge_core.specs.Stands.{judgement_of}
use Rattle.judge_core.specs.declared.judging.Judged.{Judged}
use Rattle.rate_plain.specs.History.{own_of}
use Rattle.rate_plain.specs.declared.entry.Counted.{Counted}
use Rattle.rate_plain.specs.declared.entry.Entry.{Entry}
use Rattle.rate_shared.specs.Callers.{history_of}
use Rattle.rate_shared.specs.declared.rule.Shape.{Shape}
use Rattle.rate_shared.specs.declared.seen.Seen.{Seen}
use Rattle.gate_run.specs.Passes.{caller_of, seen_by}
use Rattle.gate_run.specs.Promises.{JudgedIn}
use Rattle.gate_run.specs.Went.{counts_from}
use Rattle.trace_form.specs.Line.{line}
use Rattle.edge_main.specs.Batched.{Asked, Did, AreDone, took_by}
use Rattle.trace_form.specs.declared.output.LineParts.{LineParts}
use Rattle.edge_main.specs.Answered.{reply_used}
use Rattle.edge_main.specs.Spread.{IsFollowed}
use Rattle.edge_main.specs.Working.{asked_of, FollowsIn, JudgesIn, IsSameWorker, HasDone, JudgesOne, JudgesAll, lines_by}
use Rattle.edge_main.specs.declared.asking.Followed.{Followed}
use Rattle.edge_main.specs.declared.working.Job.{Job}
use Rattle.edge_main.specs.declared.working.Worker.{Worker}
use Rattle.edge_main.proofs.CountsLemmas.{counts-append}

pub took_by-append : (xs ys : List Did) → took_by (xs ++ ys) ≡ took_by xs ++ took_by ys
took_by-append [] ys = refl
took_by-append (x ∷ xs) ys =
    ap (λ (entries : List Entry). x.took ++ entries) (took_by-append xs ys) ∙ sym (append_assoc x.took (took_by xs) (took_by ys))

pub AreDone-append : (caller seen : ℕ) (xs ys : List Did) → AreDone caller seen xs → AreDone caller (seen + length (took_by xs)) ys → AreDone caller seen (xs ++ ys)
AreDone-append caller seen [] ys p q = let here : seen + 0 ≡ seen = omega arith in subst (λ n. AreDone caller n ys) here q
AreDone-append caller seen (x ∷ xs) ys p q =
    let further : seen + length (x.took ++ took_by xs) ≡ (seen + length x.took) + length (took_by xs) =
    omega (arith, length-append x.took (took_by xs)) in
    (p.0, AreDone-append caller (seen + length x.took) xs ys p.1 (subst (λ n. AreDone caller n ys) further q))

-- nothing was done
pub done-none : (a b : Worker) → seen_by b.pass ≡ seen_by a.pass → b.lines.items ≡ a.lines.items → b.fault ≡ a.fault → HasDone a b []
done-none a b seen lines fault = record {
  done = tt;
  seen = seen ∙ sym (append-nil (seen_by a.pass));
  lines = lines ∙ sym (append-nil a.lines.items);
  fault = fault;
}

-- some were done, and then more
pub done-then : (a b c : Worker) (xs ys : List Did) → caller_of b.pass ≡ caller_of a.pass → HasDone a b xs → HasDone b c ys → HasDone a c (xs ++ ys)
done-then a b c xs ys same p q =
    let long : length (seen_by b.pass) ≡ length (seen_by a.pass) + length (took_by xs) = ap length p.seen ∙ length-append (seen_by a.pass) (took_by xs) in
    record {
      done =
          AreDone-append (caller_of a.pass) (length (seen_by a.pass)) xs ys p.done
          (subst (λ n. AreDone (caller_of a.pass) n ys) long (subst (λ k. AreDone k (length (seen_by b.pass)) ys) same q.done));
      seen =
          q.seen ∙ ap (λ (es : List Entry). es ++ took_by ys) p.seen ∙ append_assoc (seen_by a.pass) (took_by xs) (took_by ys)
          ∙ ap (λ (es : List Entry). seen_by a.pass ++ es) (sym (took_by-append xs ys));
      lines =
          q.lines ∙ ap (λ (ls : List (List ℕ)). ls ++ lines_by ys) p.lines ∙ append_assoc a.lines.items (lines_by xs) (lines_by ys)
          ∙ ap (λ (ls : List (List ℕ)). a.lines.items ++ ls) (sym (map-append (λ (did : Did). line did.parts) xs ys));
      fault = q.fault ∙ p.fault;
    }

-- the same worker, and then again
pub same-worker-then : (a b c : Worker) → IsSameWorker a b → IsSameWorker b c → IsSameWorker a c
same-worker-then a b c p q = record {
  number = q.number ∙ p.number;
  pass = record {
    caller = (q.pass.caller.0 ∙ p.pass.caller.0, q.pass.caller.1 ∙ p.pass.caller.1, q.pass.caller.2 ∙ p.pass.caller.2);
    book = q.pass.book ∙ p.pass.book;
  };
}

-- some of the jobs were done, and these are left
pub record HasDoneSome (before after : Worker) (left : List Job) : Type 0 where
  pub dids : List Did
  pub asked : map (λ (did : Did). did.asked) dids ++ map asked_of left ≡ map asked_of before.jobs.items
  pub has : HasDone before after dids

-- one more
pub does-more : (a b c : Worker) (job : Job) (left : List Job) → caller_of b.pass ≡ caller_of a.pass → HasDoneSome a b (job ∷ left) → JudgesOne b c job
    → HasDoneSome a c left
does-more a b c job left same some one =
    let its : Did → Asked = λ (did : Did). did.asked in
    record {
      dids = some.dids ++ one.did ∷ [];
      asked =
          ap (λ (front : List Asked). front ++ map asked_of left) (map-append its some.dids (one.did ∷ []))
          ∙ append_assoc (map its some.dids) (one.did.asked ∷ []) (map asked_of left)
          ∙ ap (λ (asked : Asked). map its some.dids ++ (asked ∷ map asked_of left)) one.asked ∙ some.asked;
      has = done-then a b c some.dids (one.did ∷ []) same some.has one.has;
    }

-- all
pub all-done : (a b c : Worker) → HasDoneSome a b [] → c.jobs.items ≡ [] → c.pass ≡ b.pass → c.lines.items ≡ b.lines.items → c.fault ≡ b.fault → JudgesAll a c
all-done a b c some jobs pass lines fault = record {
  dids = some.dids;
  asked = sym (append-nil (map (λ (did : Did). did.asked) some.dids)) ∙ some.asked;
  has = record {
    done = some.has.done;
    seen = ap seen_by pass ∙ some.has.seen;
    lines = lines ∙ some.has.lines;
    fault = fault ∙ some.has.fault;
  };
  jobs = jobs;
}

-- a request was judged, and then its reply
pub job-done : (shape : Shape) (before mid after : Seen) (job : Job) (judged : Judged) (counts counts' : List Counted) (followed : Followed) (parts : LineParts)
    → JudgedIn shape before mid job.picked.number (arc_value job.picked.config) job.recorded.request judged counts
    → mid.caller ≡ before.caller
    → FollowsIn mid after judged (reply_used judged.verdict.kind job.recorded.reply) counts counts' followed
    → parts.number ≡ job.number → parts.version ≡ job.picked.number → parts.verdict ≡ followed.verdict → parts.request ≡ followed.request
    → parts.came ≡ job.recorded.request.headers → parts.counts ≡ counts' → parts.reply ≡ followed.headers
    → JudgesIn before after job parts
job-done shape before mid after job judged counts counts' followed parts a same b number version verdict request came shown reply =
    let place = length (history_of before) in
    let took = a.new ++ b.took in
    let own : own_of took before.caller ≡ own_of a.new before.caller ++ own_of b.took before.caller =
    filter-append (λ (e : Entry). e.caller == before.caller) a.new b.took in
    let long : length (history_of mid) ≡ place + length a.new = ap length a.grew.grown ∙ length-append (history_of before) a.new in
    let shows : parts.counts ≡ counts_from before.caller place took =
    shown ∙ b.shows ∙ ap₂ (λ xs ys. xs ++ ys) a.shows (ap₂ (λ k n. counts_from k n b.took) same long)
    ∙ sym (counts-append before.caller place a.new b.took) in
    let replied : IsFollowed (arc_value job.picked.config) (judgement_of judged) (reply_used judged.verdict.kind job.recorded.reply) (own_of b.took before.caller) parts.reply =
    subst (λ headers. IsFollowed (arc_value job.picked.config) (judgement_of judged) (reply_used judged.verdict.kind job.recorded.reply) (own_of b.took before.caller) headers) (sym reply)
    (subst (λ k. IsFollowed (arc_value job.picked.config) (judgement_of judged) (reply_used judged.verdict.kind job.recorded.reply) (own_of b.took k) followed.headers) same
    (subst (λ config. IsFollowed config (judgement_of judged) (reply_used judged.verdict.kind job.recorded.reply) (own_of b.took mid.caller) followed.headers) a.its_config b.replied)) in
    record {
      took = took;
      grown = b.grown ∙ ap (λ h. h ++ b.took) a.grew.grown ∙ append_assoc (history_of before) a.new b.took;
      done = record {
        asked = own_of a.new before.caller;
        replied = own_of b.took before.caller;
        own = own;
        judged = record {
          listed = a.listed;
          meaning = a.meaning;
          judged = judgement_of judged;
          went = a.went;
          followed = replied;
          verdict = verdict ∙ b.verdict;
          request = request ∙ b.request;
          came = came;
        };
        number = number;
        version = version;
        shows = shows;
      };
    }
