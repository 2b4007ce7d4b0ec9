-- What each worker did, from what it had seen before a batch and what all passes met in after it.
use Rattle.std.proofs.Common.{◌≡◌, ℕ, zero, suc, ◌+◌, ◌<◌, ◌≤◌, ◌==◌, List, [], ◌∷◌, ◌++◌, map, length, get_or, Option, Some, None, refl, sym, ap, subst, ◌∙◌, arith, append_assoc, append-nil, length-append}
use Rattle.std.specs.Prelude.{slice_get}
use mathlib.Core.List.{IsPrefix}
use Rattle.std.proofs.lemmas.List.{append_cancel_left}
use Rattle.std.proofs.lemmas.List.Elements.{filter-append}
use Rattle.std.proofs.lemmas.Option.{none-some, same_Some}
use Rattle.rate_plain.specs.History.{own_of}
use Rattle.rate_plain.specs.declared.entry.Entry.{Entry}
use Rattle.rate_shared.specs.Callers.{IsSameCaller}
use Rattle.rate_shared.specs.declared.seen.Seen.{Seen}
use Rattle.gate_run.specs.Passes.{IsPassOf, IsSamePass, caller_of, seen_by}
use Rattle.gate_run.specs.declared.gate.Gate.{Gate}
use Rattle.gate_run.specs.declared.passes.Pass.{Pass}
use Rattle.edge_main.specs.Batched.{Did, AreDone, took_by, IsColumn}
use Rattle.edge_main.specs.Crewed.{HasMet, IsWorkerAt, IsSameButSeen}
use Rattle.edge_main.specs.Working.{Works, HasDone, JudgesAll, IsReady, asked_of, lines_by}
use Rattle.edge_main.specs.declared.working.Worker.{Worker}

-- ---- lists
left-nil : {A : Type 0} (xs ys : List A) → xs ++ ys ≡ [] → xs ≡ []
left-nil [] ys none = refl
left-nil {A} (x ∷ xs) ys none = let some : x ∷ (xs ++ ys) ≡ [] = none in absurd (cc)

right-nil : {A : Type 0} (xs ys : List A) → xs ++ ys ≡ [] → ys ≡ []
right-nil [] ys none = none
right-nil {A} (x ∷ xs) ys none = let some : x ∷ (xs ++ ys) ≡ [] = none in absurd (cc)

-- the entries that follow are none of the caller's, where all are no more
pub own-none : (caller : ℕ) (before more : List Entry) → own_of (before ++ more) caller ≡ own_of before caller → own_of more caller ≡ []
own-none caller before more same =
    append_cancel_left (own_of before caller) (own_of more caller) []
    (sym (filter-append (λ (e : Entry). e.caller == caller) before more) ∙ same ∙ sym (append-nil (own_of before caller)))

-- the first of some
pub head_of : {A : Type 0} (xs : List A) → 1 ≤ length xs → A
head_of [] some = absurd (omega (arith, some))
head_of (x ∷ xs) some = x

-- a list, element by element
chosen-at : {X : Type 0} (P : ℕ → X → Type 0) (one : X) (xs : List X) → P 0 one → ((k : ℕ) (x : X) → slice_get xs k ≡ Some x → P (suc k) x)
    → (k : ℕ) (x : X) → slice_get (one ∷ xs) k ≡ Some x → P k x
chosen-at P one xs first rest zero x at = subst (P 0) (same_Some one x at) first
chosen-at P one xs first rest (suc k) x at = rest k x at

pub chosen : {X : Type 0} (n : ℕ) (P : ℕ → X → Type 0) → ((k : ℕ) → k < n → (x : X) × P k x)
    → (xs : List X) × (length xs ≡ n) × ((k : ℕ) (x : X) → slice_get xs k ≡ Some x → P k x)
chosen zero P each = ([], refl, λ k x at. absurd (none-some x at))
chosen (suc n) P each =
    let one = each 0 (omega arith) in
    let more = chosen n (λ k. P (suc k)) (λ k below. each (suc k) (omega (arith, below))) in
    (one.0 ∷ more.0, ap suc more.1, chosen-at P one.0 more.0 one.1 more.2)

-- ---- one worker
pub same-of : (gate : Gate) (before after : Pass) → IsSamePass before after → IsPassOf gate before → IsPassOf gate after
same-of gate before after same of = (same.caller.1 ∙ of.0, same.caller.2 ∙ of.1)

-- what it did is its column of the further entries
pub record HasColumn (history more : List Entry) (caller : ℕ) (before after : Worker) (dids : List Did) : Type 0 where
  pub asked : map (λ (did : Did). did.asked) dids ≡ map asked_of before.jobs.items
  pub lines : after.lines.items ≡ lines_by dids
  pub column : IsColumn history more caller dids

-- what they met in begins with what was there before
pub begins : (gate : Gate) (history whole : List Entry) (caller : ℕ) (w0 w1 w2 : Worker) → IsWorkerAt gate history caller w0 → Works w0 w1
    → w1.fault ≡ None → HasMet whole w1 w2 → IsPrefix history whole
begins gate history whole caller w0 w1 w2 at works fine met =
    let judged = works.judged fine in
    let took = at.idle ++ took_by judged.dids in
    let seen : seen_by w1.pass ≡ history ++ took =
    judged.has.seen ∙ ap (λ h. h ++ took_by judged.dids) at.seen ∙ append_assoc history at.idle (took_by judged.dids) in
    (took ++ met.told.0, sym (append_assoc history took met.told.0) ∙ ap (λ h. h ++ met.told.0) (sym seen) ∙ met.told.1)

module _ (gate : Gate) (history whole more : List Entry) (caller : ℕ) (w0 w1 w2 : Worker) (at : IsWorkerAt gate history caller w0)
    (works : Works w0 w1) (fine : w1.fault ≡ None) (met : HasMet whole w1 w2) (is_more : whole ≡ history ++ more) where
  abbrev pub judged : JudgesAll w0 w1
  judged = works.judged fine

  its : caller_of w0.pass ≡ caller
  its = at.caller

  its_then : caller_of w1.pass ≡ caller
  its_then = works.same.pass.caller.0 ∙ its

  abbrev pub rest : List Entry
  rest = met.told.0

  abbrev pub extra : List Entry
  extra = met.heard.0

  all_own : own_of ((seen_by w1.pass ++ rest) ++ extra) caller ≡ own_of (seen_by w1.pass) caller
  all_own =
      ap (λ h. own_of (h ++ extra) caller) met.told.1 ∙ ap (λ h. own_of h caller) met.heard.1
      ∙ subst (λ k. own_of (seen_by w2.pass) k ≡ own_of (seen_by w1.pass) k) its_then met.own

  none_after : own_of (rest ++ extra) caller ≡ []
  none_after = own-none caller (seen_by w1.pass) (rest ++ extra) (ap (λ h. own_of h caller) (sym (append_assoc (seen_by w1.pass) rest extra)) ∙ all_own)

  parts_own : own_of rest caller ++ own_of extra caller ≡ []
  parts_own = sym (filter-append (λ (e : Entry). e.caller == caller) rest extra) ∙ none_after

  seen_then : seen_by w1.pass ≡ history ++ (at.idle ++ took_by judged.dids)
  seen_then = judged.has.seen ∙ ap (λ h. h ++ took_by judged.dids) at.seen ∙ append_assoc history at.idle (took_by judged.dids)

  further : more ≡ at.idle ++ (took_by judged.dids ++ rest)
  further =
      append_cancel_left history more (at.idle ++ (took_by judged.dids ++ rest))
      (sym is_more ∙ sym met.told.1 ∙ ap (λ h. h ++ rest) seen_then ∙ append_assoc history (at.idle ++ took_by judged.dids) rest
      ∙ ap (λ es. history ++ es) (append_assoc at.idle (took_by judged.dids) rest))

  long : length (seen_by w0.pass) ≡ length history + length at.idle
  long = ap length at.seen ∙ length-append history at.idle

  pub has-column : HasColumn history more caller w0 w1 judged.dids
  has-column = record {
    asked = judged.asked;
    lines = judged.has.lines ∙ ap (λ ls. ls ++ lines_by judged.dids) at.ready.lines;
    column = record {
      idle = at.idle;
      rest = rest;
      is = further ∙ sym (append_assoc at.idle (took_by judged.dids) rest);
      idle_none = at.none;
      rest_none = left-nil (own_of rest caller) (own_of extra caller) parts_own;
      done = subst (λ n. AreDone caller n judged.dids) long (subst (λ k. AreDone k (length (seen_by w0.pass)) judged.dids) its judged.has.done);
    };
  }

  -- it stands behind the whole then, once its lines were taken
  pub stands-behind : (w3 : Worker) → w3.number ≡ w2.number → w3.pass ≡ w2.pass → w3.lines.items ≡ [] → w3.fault ≡ w2.fault → IsWorkerAt gate whole caller w3
  stands-behind w3 number pass lines fault = record {
    ready = record {
      of =
          subst (IsPassOf gate) (sym pass)
          (same-of gate w1.pass w2.pass met.same.pass (same-of gate w0.pass w1.pass works.same.pass at.ready.of));
      lines = lines;
      fault = fault ∙ met.same.fault ∙ fine;
    };
    number = number ∙ met.same.number ∙ works.same.number ∙ at.number;
    caller = ap caller_of pass ∙ met.same.pass.caller.0 ∙ its_then;
    idle = extra;
    seen = ap seen_by pass ∙ sym met.heard.1;
    none = right-nil (own_of rest caller) (own_of extra caller) parts_own;
  }
