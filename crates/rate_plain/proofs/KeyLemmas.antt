-- The test on keys says whether they are equal.
use Rattle.std.proofs.Common.{◌≡◌, ℕ, true, List, bytes_eq, Decides, refl, ap, subst, eqb-true, eq-eqb}
use Rattle.std.specs.Cmp.{IsEquivalence, decided}
use Rattle.std.proofs.lemmas.Bool.{and_parts, and_from}
use Rattle.std.proofs.lemmas.Slice.Eq.{bytes_eq-Decides}
use Rattle.rate_plain.specs.KeyParts.{KeyParts}
use Rattle.rate_plain.specs.Keys.{same_key, lane_of_key}

bytes_same : (xs : List ℕ) → bytes_eq xs xs ≡ true
bytes_same xs = (bytes_eq-Decides xs xs).1 refl

-- equal part by part
keys_equal : (a b : KeyParts) → same_key a b ≡ true → a ≡ b
keys_equal a b same =
    let p5 = and_parts _ _ same in
    let p4 = and_parts _ _ p5.0 in
    let p3 = and_parts _ _ p4.0 in
    let p2 = and_parts _ _ p3.0 in
    let p1 = and_parts _ _ p2.0 in
    let set_id = (bytes_eq-Decides a.rule.set_id b.rule.set_id).0 p1.0 in
    let rule = (bytes_eq-Decides a.rule.rule b.rule.rule).0 p1.1 in
    let period = eqb-true a.period b.period p2.1 in
    let threshold = eqb-true a.threshold b.threshold p3.1 in
    let timeout = eqb-true a.timeout b.timeout p4.1 in
    let values = (bytes_eq-Decides a.values b.values).0 p5.1 in
    λ i. record {
      rule = record { set_id = set_id i; rule = rule i };
      period = period i;
      threshold = threshold i;
      timeout = timeout i;
      values = values i;
    }

pub same_key-refl : (a : KeyParts) → same_key a a ≡ true
same_key-refl a =
    and_from _ _ (and_from _ _ (and_from _ _ (and_from _ _ (and_from _ _
    (bytes_same a.rule.set_id) (bytes_same a.rule.rule)) (eq-eqb a.period a.period refl)) (eq-eqb a.threshold a.threshold refl)) (eq-eqb a.timeout a.timeout refl)) (bytes_same a.values)

pub same_key-Decides : (a b : KeyParts) → Decides (same_key a b) (a ≡ b)
same_key-Decides a b = (keys_equal a b, λ e. subst (λ k. same_key a k ≡ true) e (same_key-refl a))

pub same_key-equiv : IsEquivalence same_key
same_key-equiv = decided same_key same_key-Decides

-- equal keys have one lane
pub same_lane : (lanes : ℕ) (a b : KeyParts) → same_key a b ≡ true → lane_of_key lanes a ≡ lane_of_key lanes b
same_lane lanes a b same = ap (lane_of_key lanes) (keys_equal a b same)
