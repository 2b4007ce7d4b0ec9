-- At which positions lines show steps, where others follow them.
use Rattle.std.proofs.Common.{◌≡◌, ◌⊎◌, inl, inr, ℕ, ◌+◌, ◌<◌, ◌≤◌, Bool, true, false, cond, nat_eq, nat_lt, List, [], ◌∷◌, ◌++◌, length, get_or, All, refl, sym, ap, ap₂, subst, ◌∙◌, arith, append_assoc, append-nil, length-append, ltb-true, ltb-false}
use Rattle.std.proofs.lemmas.Bool.{eq-eqb}
use Rattle.std.proofs.lemmas.List.{map-append, get_or_append_left, get_or-append-add}
use Rattle.std.proofs.lemmas.List.Elements.{All-nil, All-cons, All-head, All-tail, All-append, All-push, All-weaker}
use Rattle.rate_plain.specs.declared.entry.Counted.{Counted}
use Rattle.edge_main.specs.Answered.{LineKind}
use Rattle.edge_main.specs.Shown.{steps_in, positions_of}
use Rattle.edge_main.specs.Spread.{steps_by, times, IsEachOnce, IsBelow, AreApartFrom, IsFarBefore, AreApartAfar}

-- ---- the steps of some lines after others

pub steps-append : (a b : List LineKind) → steps_by (a ++ b) ≡ steps_by a ++ steps_by b
steps-append [] b = refl
steps-append (kind ∷ a) b =
    ap (λ rest. steps_in kind ++ rest) (steps-append a b) ∙ sym (append_assoc (steps_in kind) (steps_by a) (steps_by b))

positions-append : (a b : List Counted) → positions_of (a ++ b) ≡ positions_of a ++ positions_of b
positions-append a b = map-append (λ (step : Counted). step.position) a b

-- ---- how often a position is shown

times-append : (number : ℕ) (a b : List ℕ) → times number (a ++ b) ≡ times number a + times number b
times-append number [] b = omega arith
times-append number (other ∷ a) b = omega (arith, times-append number a b)

times_both : (position : ℕ) (a b : List LineKind)
    → times position (positions_of (steps_by (a ++ b))) ≡ times position (positions_of (steps_by a)) + times position (positions_of (steps_by b))
times_both position a b =
    ap (λ steps. times position (positions_of steps)) (steps-append a b) ∙ ap (times position) (positions-append (steps_by a) (steps_by b))
    ∙ times-append position (positions_of (steps_by a)) (positions_of (steps_by b))

-- what holds of each number that stands in a list
all_of_times : (P : ℕ → Type 0) (numbers : List ℕ) → ((number : ℕ) → P number ⊎ (times number numbers ≡ 0)) → All P numbers
all_of_times P [] is = All-nil P
all_of_times P (one ∷ numbers) is = All-cons P one numbers (this (is one)) (all_of_times P numbers (λ number. rest number (is number))) where
  this : P one ⊎ (times one (one ∷ numbers) ≡ 0) → P one
  this (inl p) = p
  this (inr none) = let itself : cond {A = ℕ} (nat_eq one one) 1 0 ≡ 1 = ap (λ b. cond {A = ℕ} b 1 0) (eq-eqb one one refl) in absurd (omega (arith, none, itself))

  rest : (number : ℕ) → P number ⊎ (times number (one ∷ numbers) ≡ 0) → P number ⊎ (times number numbers ≡ 0)
  rest number (inl p) = inl p
  rest number (inr none) = inr (omega (arith, none))

-- each of the positions from one number up to another is shown once, and no other
abbrev pub IsOnceFrom : ℕ → ℕ → List Counted → Type 0
IsOnceFrom least most steps = (position : ℕ) → times position (positions_of steps) ≡ cond (nat_lt position least) 0 (cond (nat_lt position most) 1 0)

pub positions_below : (count : ℕ) (steps : List Counted) → IsEachOnce count steps → All (λ p. p < count) (positions_of steps)
positions_below count steps once = all_of_times (λ p. p < count) (positions_of steps) (λ p. by p (nat_lt p count) refl) where
  by : (p : ℕ) (b : Bool) → nat_lt p count ≡ b → (p < count) ⊎ (times p (positions_of steps) ≡ 0)
  by p true is = inl (ltb-true p count is)
  by p false is = inr (once p ∙ ap (λ b. cond {A = ℕ} b 1 0) is)

pub positions_above : (least most : ℕ) (steps : List Counted) → IsOnceFrom least most steps → All (λ p. least ≤ p) (positions_of steps)
positions_above least most steps once = all_of_times (λ p. least ≤ p) (positions_of steps) (λ p. by p (nat_lt p least) refl) where
  by : (p : ℕ) (b : Bool) → nat_lt p least ≡ b → (least ≤ p) ⊎ (times p (positions_of steps) ≡ 0)
  by p true is = inr (once p ∙ ap (λ b. cond {A = ℕ} b 0 (cond (nat_lt p most) 1 0)) is)
  by p false is = inl (ltb-false p least is)

pub once_then : (least most : ℕ) (kinds more : List LineKind) → least ≤ most → IsEachOnce least (steps_by kinds) → IsOnceFrom least most (steps_by more)
    → IsEachOnce most (steps_by (kinds ++ more))
once_then least most kinds more order once behind position =
    times_both position kinds more ∙ ap₂ (λ (m n : ℕ). m + n) (once position) (behind position)
    ∙ by (nat_lt position least) (nat_lt position most) refl refl where
      by : (b c : Bool) → nat_lt position least ≡ b → nat_lt position most ≡ c → cond b 1 0 + cond b 0 (cond c 1 0) ≡ cond c 1 0
      by true true low high = refl
      by true false low high = absurd (omega (arith, order, ltb-true position least low, ltb-false position most high))
      by false true low high = refl
      by false false low high = refl

-- ---- line by line

-- what holds of each position that a line shows
abbrev pub OfEach : (ℕ → Type 0) → LineKind → Type 0
OfEach P kind = All P (positions_of (steps_in kind))

All-front : (P : ℕ → Type 0) (a b : List ℕ) → All P (a ++ b) → All P a
All-front P a b all k d below = subst P (get_or_append_left a b d k below) (all k d (omega (arith, below, length-append a b)))

All-behind : (P : ℕ → Type 0) (a b : List ℕ) → All P (a ++ b) → All P b
All-behind P a b all k d below = subst P (get_or-append-add a b k d) (all (length a + k) d (omega (arith, below, length-append a b)))

pub of_lines : (P : ℕ → Type 0) (kinds : List LineKind) → All P (positions_of (steps_by kinds)) → All (OfEach P) kinds
of_lines P [] all = All-nil (OfEach P)
of_lines P (kind ∷ kinds) all =
    let parted = subst (All P) (positions-append (steps_in kind) (steps_by kinds)) all in
    All-cons (OfEach P) kind kinds (All-front P (positions_of (steps_in kind)) (positions_of (steps_by kinds)) parted)
    (of_lines P kinds (All-behind P (positions_of (steps_in kind)) (positions_of (steps_by kinds)) parted))

below_at : (least : ℕ) (a b : LineKind) → OfEach (λ p. p < least) a → OfEach (λ p. least ≤ p) b → IsBelow a b
below_at least a b low high =
    All-weaker (λ p. p < least) (λ p. All (λ q. p < q) (positions_of (steps_in b)))
    (λ p less. All-weaker (λ q. least ≤ q) (λ q. p < q) (λ q at. omega (arith, less, at)) (positions_of (steps_in b)) high)
    (positions_of (steps_in a)) low

below_all : (least : ℕ) (a : LineKind) (more : List LineKind) → OfEach (λ p. p < least) a → All (OfEach (λ p. least ≤ p)) more → All (IsBelow a) more
below_all least a more low high = All-weaker (OfEach (λ p. least ≤ p)) (IsBelow a) (λ b at. below_at least a b low at) more high

pub apart_then : (least : ℕ) (earlier kinds more : List LineKind) → All (OfEach (λ p. p < least)) earlier → All (OfEach (λ p. p < least)) kinds
    → All (OfEach (λ p. least ≤ p)) more → AreApartFrom earlier kinds → AreApartFrom (earlier ++ kinds) more → AreApartFrom earlier (kinds ++ more)
apart_then least earlier [] more before low high apart rest = subst (λ e. AreApartFrom e more) (append-nil earlier) rest
apart_then least earlier (kind ∷ kinds) more before low high apart rest = (
  λ of k d under.
      All-append (IsBelow (get_or earlier k d)) kinds more (apart.0 of k d under) (below_all least (get_or earlier k d) more (before k d under) high),
  apart_then least (earlier ++ kind ∷ []) kinds more
      (All-push (OfEach (λ p. p < least)) earlier kind before (All-head (OfEach (λ p. p < least)) kind kinds low))
      (All-tail (OfEach (λ p. p < least)) kind kinds low) high apart.1
      (subst (λ e. AreApartFrom e more) (sym (append_assoc earlier (kind ∷ []) kinds)) rest),
)

pub afar_then : (least : ℕ) (kinds more : List LineKind) → All (OfEach (λ p. p < least)) kinds → All (OfEach (λ p. least ≤ p)) more
    → AreApartAfar kinds → AreApartAfar more → AreApartAfar (kinds ++ more)
afar_then least [] more low high afar rest = rest
afar_then least (kind ∷ kinds) more low high afar rest = (
  All-append (λ b. IsFarBefore kind b → IsBelow kind b) kinds more afar.0
      (All-weaker (OfEach (λ p. least ≤ p)) (λ b. IsFarBefore kind b → IsBelow kind b)
      (λ b at far. below_at least kind b (All-head (OfEach (λ p. p < least)) kind kinds low) at) more high),
  afar_then least kinds more (All-tail (OfEach (λ p. p < least)) kind kinds low) high afar.1 rest,
)
