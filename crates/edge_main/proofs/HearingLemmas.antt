-- How all passes meet: the first hears what each other has seen, and each other hears what the first has seen then.
use Rattle.std.proofs.Common.{◌≡◌, ℕ, zero, suc, ◌+◌, ◌<◌, ◌≤◌, List, [], ◌∷◌, ◌++◌, length, All, slice_set, slice_index_or, ⊎_elim, refl, sym, ap, subst, ◌∙◌, arith, append_assoc, append-nil}
use mathlib.Core.List.{IsPrefix}
use Rattle.std.proofs.lemmas.Bool.{cases_eq}
use Rattle.std.proofs.lemmas.List.{length-set, get_or-set_same, get_or-set_other, get_or_default}
use Rattle.rate_plain.specs.History.{own_of}
use Rattle.rate_plain.specs.declared.entry.Entry.{Entry}
use Rattle.rate_shared.specs.Promise.{Grows}
use Rattle.rate_shared.specs.declared.rule.Shape.{Shape}
use Rattle.gate_run.specs.Passes.{IsPassOf, caller_of, seen_by}
use Rattle.gate_run.specs.declared.gate.Gate.{Gate}
use Rattle.edge_main.specs.Crewed.{IsSameButSeen, HasWatched, HasTold, HasHeard, HaveGone, HasMet}
use Rattle.edge_main.specs.declared.working.Worker.{Worker}

-- ---- lists
prefix-then : {A : Type 0} (xs ys zs : List A) → IsPrefix xs ys → IsPrefix ys zs → IsPrefix xs zs
prefix-then xs ys zs p q = (p.0 ++ q.0, sym (append_assoc xs p.0 q.0) ∙ ap (λ w. w ++ q.0) p.1 ∙ q.1)

-- none has gone
pub gone-none : {A : Type 0} (Went : A → A → Type 0) (xs : List A) → HaveGone Went 0 xs xs
gone-none Went xs = record { same = refl; went = λ k d below. absurd (omega (arith, below)); stayed = λ k d from. refl }

-- one more
module _ {A : Type 0} (Went : A → A → Type 0) (k : ℕ) (before now : List A) (d new : A) (had : HaveGone Went k before now) (within : k < length now)
    (goes : Went (slice_index_or now k d) new) where
  gone-here : (j : ℕ) (e : A) → j ≡ k → Went (slice_index_or before j e) (slice_index_or (slice_set now k new) j e)
  gone-here j e at =
      subst (λ i. Went (slice_index_or before i e) (slice_index_or (slice_set now k new) i e)) (sym at)
      (subst (λ b. Went b (slice_index_or (slice_set now k new) k e)) (get_or_default now k d e within ∙ had.stayed k e (omega arith))
      (subst (λ b. Went (slice_index_or now k d) b) (sym (get_or-set_same now k new e within)) goes))

  gone-before : (j : ℕ) (e : A) → j < k + 1 → (j ≡ k → ⊥) → Went (slice_index_or before j e) (slice_index_or (slice_set now k new) j e)
  gone-before j e below other =
      subst (λ b. Went (slice_index_or before j e) b) (sym (get_or-set_other now k j new e other)) (had.went j e (omega (arith, below, other)))

  pub gone-one : HaveGone Went (k + 1) before (slice_set now k new)
  gone-one = record {
    same = length-set now k new ∙ had.same;
    went = λ j e below. ⊎_elim (λ at. gone-here j e at) (λ other. gone-before j e below other) (cases_eq j k);
    stayed = λ j e from. get_or-set_other now k j new e (λ at. absurd (omega (arith, from, at))) ∙ had.stayed j e (omega (arith, from));
  }

-- in this way too
gone-so : {A : Type 0} (Went Goes : A → A → Type 0) (k : ℕ) (before now : List A) → ((a b : A) → Went a b → Goes a b) → HaveGone Went k before now
    → HaveGone Goes k before now
gone-so Went Goes k before now so had = record {
  same = had.same;
  went = λ j d below. so (slice_index_or before j d) (slice_index_or now j d) (had.went j d below);
  stayed = had.stayed;
}

-- ---- one worker
same-then : (a b c : Worker) → IsSameButSeen a b → IsSameButSeen b c → IsSameButSeen a c
same-then a b c p q = record {
  number = q.number ∙ p.number;
  pass = record {
    caller = (q.pass.caller.0 ∙ p.pass.caller.0, q.pass.caller.1 ∙ p.pass.caller.1, q.pass.caller.2 ∙ p.pass.caller.2);
    book = q.pass.book ∙ p.pass.book;
  };
  jobs = q.jobs ∙ p.jobs;
  lines = q.lines ∙ p.lines;
  fault = q.fault ∙ p.fault;
}

own-then : (a b c : Worker) → HasWatched a b → HasWatched b c → own_of (seen_by c.pass) (caller_of a.pass) ≡ own_of (seen_by a.pass) (caller_of a.pass)
own-then a b c p q = subst (λ k. own_of (seen_by c.pass) k ≡ own_of (seen_by b.pass) k) p.same.pass.caller.0 q.own ∙ p.own

pub watched-none : (worker : Worker) → HasWatched worker worker
watched-none worker = record {
  same = record { number = refl; pass = record { caller = (refl, refl, refl); book = refl }; jobs = refl; lines = refl; fault = refl };
  seen = ([], append-nil (seen_by worker.pass));
  own = refl;
}

-- its pass has grown
pub watched : (shape : Shape) (a b : Worker) → IsSameButSeen a b → Grows shape (caller_of a.pass) (seen_by a.pass) (seen_by b.pass) → HasWatched a b
watched shape a b same grows = record { same = same; seen = grows.seen; own = grows.own }

pub watched-then : (a b c : Worker) → HasWatched a b → HasWatched b c → HasWatched a c
watched-then a b c p q = record {
  same = same-then a b c p.same q.same;
  seen = prefix-then (seen_by a.pass) (seen_by b.pass) (seen_by c.pass) p.seen q.seen;
  own = own-then a b c p q;
}

-- its pass is of the gate as before
pub still-of : (gate : Gate) (before after : Worker) → HasWatched before after → IsPassOf gate before.pass → IsPassOf gate after.pass
still-of gate before after watched of = (watched.same.pass.caller.1 ∙ of.0, watched.same.pass.caller.2 ∙ of.1)

-- ---- the first worker hears
-- one more told what it has seen, where the first worker has gone on
pub told-one : (k : ℕ) (first first' : Worker) (before now : List Worker) (d new : Worker) → HaveGone (HasTold (seen_by first.pass)) k before now
    → k < length now → HasWatched first first' → HasWatched (slice_index_or now k d) new → IsPrefix (seen_by new.pass) (seen_by first'.pass)
    → HaveGone (HasTold (seen_by first'.pass)) (k + 1) before (slice_set now k new)
told-one k first first' before now d new had within on watched told =
    gone-one (HasTold (seen_by first'.pass)) k before now d new
    (gone-so (HasTold (seen_by first.pass)) (HasTold (seen_by first'.pass)) k before now
    (λ a b so. record { watched = so.watched; told = prefix-then (seen_by b.pass) (seen_by first.pass) (seen_by first'.pass) so.told on.seen }) had)
    within (record { watched = watched; told = told })

-- ---- the others hear
pub heard-one : (k : ℕ) (start first first' : Worker) (before now : List Worker) (d new : Worker) → HaveGone (HasHeard (seen_by start.pass)) k before now
    → k < length now → HasWatched start first → HasWatched first first' → HasWatched (slice_index_or now k d) new
    → IsPrefix (seen_by first'.pass) (seen_by new.pass) → HaveGone (HasHeard (seen_by start.pass)) (k + 1) before (slice_set now k new)
heard-one k start first first' before now d new had within come on watched heard =
    gone-one (HasHeard (seen_by start.pass)) k before now d new had within (record {
      watched = watched;
      heard =
          prefix-then (seen_by start.pass) (seen_by first'.pass) (seen_by new.pass)
          (prefix-then (seen_by start.pass) (seen_by first.pass) (seen_by first'.pass) come.seen on.seen) heard;
    })

-- ---- all have met
-- those that are left are of the gate
pub left-of : (gate : Gate) (Went : Worker → Worker → Type 0) (k : ℕ) (before now : List Worker) (d : Worker)
    → All (λ (worker : Worker). IsPassOf gate worker.pass) before → HaveGone Went k before now → k < length now → IsPassOf gate (slice_index_or now k d).pass
left-of gate Went k before now d of had within =
    subst (λ (worker : Worker). IsPassOf gate worker.pass) (sym (had.stayed k d (omega arith))) (of k d (omega (arith, within, had.same)))

-- those that told what they have seen are of the gate
pub told-of : (gate : Gate) (history : List Entry) (before now : List Worker) → All (λ (worker : Worker). IsPassOf gate worker.pass) before
    → HaveGone (HasTold history) (length before) before now → All (λ (worker : Worker). IsPassOf gate worker.pass) now
told-of gate history before now of had k d below =
    let within : k < length before = omega (arith, below, had.same) in
    still-of gate (slice_index_or before k d) (slice_index_or now k d) (had.went k d within).watched (of k d within)

met-one : (history : List Entry) (a b c : Worker) → HasTold history a b → HasHeard history b c → HasMet history a c
met-one history a b c p q = record {
  same = same-then a b c p.watched.same q.watched.same;
  told = prefix-then (seen_by a.pass) (seen_by b.pass) history p.watched.seen p.told;
  heard = q.heard;
  own = own-then a b c p.watched q.watched;
}

met-first : (a b c : Worker) → HasWatched a b → HasWatched b c → HasMet (seen_by b.pass) a c
met-first a b c p q = record { same = same-then a b c p.same q.same; told = p.seen; heard = q.seen; own = own-then a b c p q }

-- the first worker and the others
pub met-all : (a b c : Worker) (xs ys zs : List Worker) → HasWatched a b → HasWatched b c → HaveGone (HasTold (seen_by b.pass)) (length xs) xs ys
    → HaveGone (HasHeard (seen_by b.pass)) (length ys) ys zs
    → (k : ℕ) (d : Worker) → k < length (a ∷ xs) → HasMet (seen_by b.pass) (slice_index_or (a ∷ xs) k d) (slice_index_or (c ∷ zs) k d)
met-all a b c xs ys zs p q told heard zero d below = met-first a b c p q
met-all a b c xs ys zs p q told heard (suc k) d below =
    met-one (seen_by b.pass) (slice_index_or xs k d) (slice_index_or ys k d) (slice_index_or zs k d) (told.went k d (omega (arith, below)))
    (heard.went k d (omega (arith, below, told.same)))
