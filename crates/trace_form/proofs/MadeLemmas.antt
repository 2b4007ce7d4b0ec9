-- The generator goes on by one line.
use Rattle.std.proofs.Common.{◌≡◌, ◌≤◌, ℕ, zero, suc, ◌+◌, refl, ap, subst, ◌∙◌, arith, lit≤}
use Rattle.trace_form.specs.Made.{number_after, moment_after, next_number, drawn, pause_of, request_line, made_line, requests_before, IsAt}

before-next : (next : ℕ) → next ≡ requests_before (next + 1)
before-next next =
    let next_is : suc next ≡ next + 1 = omega arith in
    ap requests_before next_is

pause-within : (from : ℕ) → pause_of from ≤ 2000
pause-within from = omega arith

-- a request is drawn from the number that comes after the last one
pub number-next : (seed index number : ℕ) → ¬ (index ≡ 0) → number ≡ number_after seed (requests_before index) → next_number number ≡ number_after seed index
unfolding number_after
number-next seed zero number some is = absurd (some refl)
number-next seed (suc index) number some is = ap next_number is

pub moment-next : (seed index number moment : ℕ) → ¬ (index ≡ 0) → number ≡ number_after seed (requests_before index)
    → moment ≡ moment_after seed (requests_before index) → moment + pause_of (drawn (next_number number)) ≡ moment_after seed index
unfolding number_after moment_after
moment-next seed zero number moment some is at = absurd (some refl)
moment-next seed (suc index) number moment some is at = rw (is, at) refl

-- the line of a request
pub request-made : (seed index number moment : ℕ) → ¬ (index ≡ 0) → number ≡ number_after seed index → moment ≡ moment_after seed index
    → request_line moment (drawn number) ≡ made_line seed index
request-made seed zero number moment some is at = absurd (some refl)
request-made seed (suc index) number moment some is at = rw (is, at) refl

-- before the first line
pub at-first : (seed : ℕ) → IsAt seed 0 seed 0
unfolding number_after moment_after
at-first seed = record { number_is = refl; moment_is = refl; early = lit≤ tt; within = lit≤ tt }

-- the deployment draws nothing
pub at-requests : (seed next number moment : ℕ) → next ≡ 0 → IsAt seed next number moment → IsAt seed 1 number moment
at-requests seed zero number moment is at =
    record { number_is = at.number_is; moment_is = at.moment_is; early = omega (arith, at.early); within = lit≤ tt }
at-requests seed (suc next) number moment is at = absurd (omega (arith, is))

-- a request draws one number
pub at-next : (seed next number moment : ℕ) → ¬ (next ≡ 0) → next ≤ 10000000 → IsAt seed next number moment
    → IsAt seed (next + 1) (next_number number) (moment + pause_of (drawn (next_number number)))
at-next seed next number moment some within at = record {
  number_is = number-next seed next number some at.number_is ∙ ap (number_after seed) (before-next next);
  moment_is = moment-next seed next number moment some at.number_is at.moment_is ∙ ap (moment_after seed) (before-next next);
  early = omega (arith, at.early, pause-within (drawn (next_number number)));
  within = omega (arith, within);
}

-- the same, where what was drawn on the way has names
pub state-next : (seed next index number moment number' from pause : ℕ) → next ≡ index → ¬ (index ≡ 0) → index ≤ 10000000
    → IsAt seed next number moment → number' ≡ next_number number → from ≡ drawn number' → pause ≡ pause_of from
    → IsAt seed (index + 1) number' (moment + pause)
state-next seed next index number moment number' from pause same some within at is_number is_from is_pause =
    rw (is_pause, is_from, is_number) (at-next seed index number moment some within (subst (λ n. IsAt seed n number moment) same at))

pub line-next : (seed next index number moment number' from pause : ℕ) → next ≡ index → ¬ (index ≡ 0)
    → IsAt seed next number moment → number' ≡ next_number number → from ≡ drawn number' → pause ≡ pause_of from
    → request_line (moment + pause) from ≡ made_line seed index
line-next seed next index number moment number' from pause same some at is_number is_from is_pause =
    let at_index = subst (λ n. IsAt seed n number moment) same at in
    let number_is = number-next seed index number some at_index.number_is in
    let moment_is = moment-next seed index number moment some at_index.number_is at_index.moment_is in
    rw (is_pause, is_from, is_number) (request-made seed index (next_number number) (moment + pause_of (drawn (next_number number))) some number_is moment_is)
