use Rattle.std.proofs.Common.{ℕ, ◌<◌, List, ◌∷◌, length, slice_index_or, All, sym, subst, arith}
use Rattle.std.proofs.lemmas.List.Elements.{All-head, All-tail}
use Rattle.gate_run.specs.Passes.{IsPassOf, seen_by}
use Rattle.edge_main.specs.Crewed.{HasMet}
use Rattle.edge_main.specs.declared.working.Worker.{Worker}
use Rattle.edge_main.proofs.HearingLemmas.{still-of, told-of, met-all}
use Rattle.edge_main.proofs.batch.meet_all.Goals as goal

pub hear_all-requires : goal.hear_all-requires
hear_all-requires c =
    let gate = c.args.gate.now in
    let first = c.in-Some.first.now in
    let others = c.in-Some.others.now in
    let of = subst (All (λ (worker : Worker). IsPassOf gate worker.pass)) c.in-Some.ensures.cases.0 c.requires.of in
    record {
      of = All-head (λ (worker : Worker). IsPassOf gate worker.pass) first others of;
      others = All-tail (λ (worker : Worker). IsPassOf gate worker.pass) first others of;
    }

pub tell_all-requires : goal.tell_all-requires
tell_all-requires c =
    let gate = c.args.gate.now in
    let first = c.in-Some.first.now in
    let others = c.in-Some.others.now in
    let heard = c.hear_all.new.first in
    let of = subst (All (λ (worker : Worker). IsPassOf gate worker.pass)) c.in-Some.ensures.cases.0 c.requires.of in
    record {
      of = still-of gate first heard c.hear_all.ensures.first (All-head (λ (worker : Worker). IsPassOf gate worker.pass) first others of);
      others =
          told-of gate (seen_by heard.pass) others c.hear_all.new.others (All-tail (λ (worker : Worker). IsPassOf gate worker.pass) first others of)
          c.hear_all.ensures.others;
    }

pub returns-clause-met : goal.returns-clause-met
returns-clause-met c =
    let heard = c.hear_all.new.first in
    let after = c.tell_all.new.first in
    let told = c.tell_all.new.others in
    let history = seen_by heard.pass in
    record {
      history = history;
      legal = c.hear_all.ensures.shared.legal;
      by_callers = c.hear_all.ensures.shared.by_callers;
      each =
          subst (λ (all : List Worker). (k : ℕ) (d : Worker) → k < length all → HasMet history (slice_index_or all k d) (slice_index_or (after ∷ told) k d))
          (sym c.in-Some.ensures.cases.0)
          (met-all c.in-Some.first.now heard after c.in-Some.others.now c.hear_all.new.others told c.hear_all.ensures.first c.tell_all.ensures.first
          c.hear_all.ensures.others c.tell_all.ensures.others);
    }

pub returns-in_default-clause-met : goal.returns-in_default-clause-met
returns-in_default-clause-met c = absurd (omega (arith, c.requires.crew.some, c.in_default.ensures.cases))
