-- The workers before the first line, and where one of them gets a request more.
use Rattle.std.proofs.Common.{◌≡◌, ◌≢◌, ◌⊎◌, inl, inr, ℕ, zero, suc, ◌+◌, ◌<◌, ◌≤◌, ◌%◌, Bool, false, List, [], ◌∷◌, ◌++◌, length, map, Option, None, Some, option_map, refl, sym, ap, ap₂, subst, ◌∙◌, arith, All}
use Rattle.std.specs.Prelude.{slice_get, slice_set, slice_index_or}
use Rattle.std.specs.Arc.{arc_value}
use Rattle.std.proofs.lemmas.Bool.{cases_eq}
use Rattle.std.proofs.lemmas.List.{get_or-set_same, get_or-set_other, length-map, length-set, map-set, map-append}
use Rattle.std.proofs.lemmas.List.Elements.{All-map}
use Rattle.std.proofs.lemmas.Option.{same_Some, slice_get-get_or, slice_get-map}
use Rattle.rate_plain.specs.declared.entry.Entry.{Entry}
use Rattle.rate_shared.specs.Callers.{IsOf, history_of}
use Rattle.rate_shared.specs.declared.seen.Seen.{Seen}
use Rattle.ruleset_model.specs.ConfigParts.{ConfigParts}
use Rattle.ruleset_model.specs.declared.picked.Picked.{Picked}
use Rattle.trace_form.specs.Item.{IsAsk}
use Rattle.serde_json.specs.Data.{Data}
use Rattle.version_store.specs.Books.{Page}
use Rattle.version_store.specs.Notices.{IsVersion, IsPicked, puts_of}
use Rattle.version_store.proofs.NoticeLemmas.{version_put}
use Rattle.gate_run.specs.Deployments.{IsDeployed}
use Rattle.version_store.specs.declared.notice.Notice.{Notice}
use Rattle.version_store.specs.declared.notice.Notice.TheVariants.{Put}
use Rattle.gate_run.specs.Passes.{IsOpened, IsPassOf, caller_of, seen_by, seens_in, page_of, shape_in}
use Rattle.gate_run.specs.declared.desk.Desk.{Desk}
use Rattle.gate_run.specs.declared.gate.Gate.{Gate}
use Rattle.gate_run.specs.declared.passes.Passes.{Passes}
use Rattle.edge_main.specs.Batched.{Asked, AreDealt, IsDealtTo, IsAskedBy}
use Rattle.edge_main.specs.Crewed.{AreNew, AreWorkersAt, IsCrew, IsInForce, IsWorkerAt, jobs_in}
use Rattle.edge_main.specs.Answered as line
use Rattle.edge_main.specs.Spread.{SpreadState, first, behind}
use Rattle.edge_main.specs.Working.{IsNew, asked_of}
use Rattle.edge_main.specs.declared.working.Job.{Job}
use Rattle.edge_main.specs.declared.working.Worker.{Worker}

-- ---- before the first line
pub new-length : (n : ℕ) (seens : List Seen) (workers : List Worker) → AreNew n seens workers → length workers ≡ length seens
new-length n [] [] new = refl
new-length n [] (worker ∷ workers) new = absurd new
new-length n (seen ∷ seens) [] new = absurd new
new-length n (seen ∷ seens) (worker ∷ workers) new = ap suc (new-length (n + 1) seens workers new.1)

new-at : (n : ℕ) (seens : List Seen) (workers : List Worker) → AreNew n seens workers → (k : ℕ) (d : Worker) (e : Seen) → k < length workers
    → IsNew (n + k) (slice_index_or seens k e) (slice_index_or workers k d)
new-at n [] [] new k d e below = absurd (omega (arith, below))
new-at n [] (worker ∷ workers) new k d e below = absurd new
new-at n (seen ∷ seens) [] new k d e below = absurd new
new-at n (seen ∷ seens) (worker ∷ workers) new zero d e below =
    let here : n ≡ n + 0 = omega arith in
    subst (λ m. IsNew m seen worker) here new.0
new-at n (seen ∷ seens) (worker ∷ workers) new (suc k) d e below =
    let here : (n + 1) + k ≡ n + suc k = omega arith in
    subst (λ m. IsNew m (slice_index_or seens k e) (slice_index_or workers k d)) here
    (new-at (n + 1) seens workers new.1 k d e (omega (arith, below)))

module _ (callers : ℕ) (gate : Gate) (passes : Passes) (desk : Desk) (workers : List Worker) (opened : IsOpened 64 4096 callers gate passes desk)
    (new : AreNew 0 (seens_in passes) workers) where
  many : length workers ≡ callers
  many = new-length 0 (seens_in passes) workers new ∙ opened.counting.count

  pub new-crew : 1 ≤ callers → IsCrew gate workers
  new-crew some = record {
    shape = opened.counting.shape ∙ ap (λ n. record { lanes = 64; cap = 4096; callers = n }) (sym many);
    some = omega (arith, some, many);
  }

  pub new-workers : AreWorkersAt gate [] workers
  new-workers k d below =
      let e = d.pass.seen in
      let within : k < length (seens_in passes) = omega (arith, below, new-length 0 (seens_in passes) workers new) in
      let here : 0 + k ≡ k = omega arith in
      let is =
      subst (λ n. IsNew n (slice_index_or (seens_in passes) k e) (slice_index_or workers k d)) here
      (new-at 0 (seens_in passes) workers new k d e below) in
      let opens = opened.counting.fresh k e within in
      record {
        ready = record {
          of = subst (IsOf gate.counters) (sym is.seen) (opened.of k e within);
          lines = is.lines;
          fault = is.fault;
        };
        number = is.number;
        caller = ap (λ (seen : Seen). seen.caller) is.seen ∙ opens.1;
        idle = [];
        seen = ap (λ (seen : Seen). history_of seen) is.seen ∙ opens.2;
        none = refl;
      }

  pub new-dealt : AreDealt [] (jobs_in workers)
  new-dealt =
      All-map (λ (column : List Asked). column ≡ []) (λ (worker : Worker). map asked_of worker.jobs.items) workers
      (λ k d below. ap (map asked_of) (new-at 0 (seens_in passes) workers new k d d.pass.seen below).jobs)

  pub new-in_force : IsInForce desk first
  new-in_force = (
    false,
    subst (λ (notices : List Notice). IsVersion notices 0 false (record { lists = []; rulesets = [] })) (sym opened.opening)
        (record { numbered = refl; stop = refl; last = refl }),
  )

-- ---- a request more

-- the version that was picked is the one in force
pub asked-so : (desk : Desk) (s : SpreadState) (job : Job) → IsPicked (page_of desk).notices job.picked → IsInForce desk s
    → job.number ≡ s.requests + 1 → (given : List ℕ) → IsAsk given job.recorded → IsAskedBy s given (asked_of job)
asked-so desk s job picked (stop, is) number given ask = record {
  ask = ask;
  number = number;
  version = omega (arith, picked.numbered, is.numbered);
  config = same_Some (arc_value job.picked.config) s.config (sym picked.last ∙ is.last);
}

module _ (gate : Gate) (history : List Entry) (workers : List Worker) (place : ℕ) (before after : Worker) (below : place < length workers)
    (at : AreWorkersAt gate history workers) (found : before ≡ slice_index_or workers place before)
    (number : after.number ≡ before.number) (pass : after.pass ≡ before.pass) (lines : after.lines.items ≡ before.lines.items)
    (fault : after.fault ≡ before.fault) where
  placed : IsWorkerAt gate history place after
  placed =
      let was = subst (IsWorkerAt gate history place) (sym found) (at place before below) in
      record {
        ready = record {
          of = subst (IsPassOf gate) (sym pass) was.ready.of;
          lines = lines ∙ was.ready.lines;
          fault = fault ∙ was.ready.fault;
        };
        number = number ∙ was.number;
        caller = ap caller_of pass ∙ was.caller;
        idle = was.idle;
        seen = ap seen_by pass ∙ was.seen;
        none = was.none;
      }

  pub workers-then : AreWorkersAt gate history (slice_set workers place after)
  workers-then k d within = by (cases_eq k place)
    where
      by : (k ≡ place) ⊎ (k ≢ place) → IsWorkerAt gate history k (slice_index_or (slice_set workers place after) k d)
      by (inl same) =
          let there : slice_index_or (slice_set workers place after) k d ≡ after =
          ap (λ i. slice_index_or (slice_set workers place after) i d) same ∙ get_or-set_same workers place after d below in
          subst (IsWorkerAt gate history k) (sym there) (subst (λ i. IsWorkerAt gate history i after) (sym same) placed)
      by (inr other) =
          subst (IsWorkerAt gate history k) (sym (get_or-set_other workers place k after d other))
          (at k d (omega (arith, within, length-set workers place after)))

  pub crew-then : IsCrew gate workers → IsCrew gate (slice_set workers place after)
  crew-then crew = record {
    shape = crew.shape ∙ ap (λ n. record { lanes = 64; cap = 4096; callers = n }) (sym (length-set workers place after));
    some = omega (arith, crew.some, length-set workers place after);
  }

  abbrev jobs_of : Worker → List Asked
  jobs_of worker = map asked_of worker.jobs.items

  pub dealt-then : (job : Job) (latest : List Asked) → after.jobs.items ≡ before.jobs.items ++ job ∷ [] → place ≡ length latest % length workers
      → AreDealt latest (jobs_in workers) → AreDealt (asked_of job ∷ latest) (jobs_in (slice_set workers place after))
  dealt-then job latest jobs turn dealt = (
    jobs_in workers,
    dealt,
    subst (λ p. IsDealtTo p (asked_of job) (jobs_in workers) (jobs_in (slice_set workers place after)))
        (turn ∙ ap (λ n. length latest % n) (sym (length-map workers jobs_of))) (
          jobs_of before,
          slice_get-map jobs_of workers place ∙ ap (option_map jobs_of) (slice_get-get_or workers place before below ∙ ap Some (sym found)),
          map-set jobs_of workers place after
              ∙ ap (slice_set (jobs_in workers) place) (ap (map asked_of) jobs ∙ map-append asked_of before.jobs.items (job ∷ [])),
        ),
  )

-- ---- a deployment

-- it is the next version
pub next-number : (desk after : Desk) (s : SpreadState) (value : Data) (number : ℕ) → IsDeployed value (page_of desk) (page_of after) number
    → IsInForce desk s → number ≡ s.version + 1
next-number desk after s value number deployed (stop, is) =
    let put = version_put (page_of desk).notices s.version stop s.config deployed.config is in
    let these : puts_of (page_of after).notices ≡ puts_of ((page_of desk).notices ++ Put deployed.config ∷ []) =
    ap (λ (page : Page). puts_of page.notices) deployed.published in
    omega (arith, deployed.numbered, these, put.numbered)

pub force-put : (desk after : Desk) (s : SpreadState) (value : Data) (number : ℕ) (deployed : IsDeployed value (page_of desk) (page_of after) number)
    → IsInForce desk s → IsInForce after (behind s (line.deployment (s.version + 1) deployed.config))
force-put desk after s value number deployed (stop, is) = (
  stop,
  subst (λ (page : Page). IsVersion page.notices (s.version + 1) stop deployed.config) (sym deployed.published)
      (version_put (page_of desk).notices s.version stop s.config deployed.config is),
)

-- what was refused changes nothing
pub force-stays : (desk after : Desk) (s : SpreadState) → page_of after ≡ page_of desk → IsInForce desk s → IsInForce after s
force-stays desk after s same (stop, is) =
    (stop, subst (λ (page : Page). IsVersion page.notices s.version stop s.config) (sym same) is)
