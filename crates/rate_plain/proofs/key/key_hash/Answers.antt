use Rattle.std.proofs.Common.{◌≡◌, [], ◌∷◌, ◌++◌, ◌∙◌, ap, refl, subst}
use Rattle.std.specs.Int.{to_be_bytes, w64}
use Rattle.rate_plain.specs.KeyParts.{KeyParts}
use Rattle.rate_plain.specs.Keys.{key_bytes}
use Rattle.rate_plain.specs.Hash.{fnv1a64_of}
use Rattle.rate_plain.proofs.HashLemmas.{hash_goes_on}
use Rattle.rate_plain.proofs.key.key_hash.Goals as goal

-- the pieces in turn are the bytes of the key
pub returns : goal.returns
returns c =
    let k = c.key.inside in
    let n0 = c.fnv1a64-rule_set.ensures ∙ ap fnv1a64_of c.bytes.ensures in
    let n1 = hash_goes_on k.rule.set_id (0 ∷ []) (0 ∷ []) _ _ n0 refl c.fnv1a64_on-set_end.ensures in
    let n2 = hash_goes_on (k.rule.set_id ++ 0 ∷ []) k.rule.rule _ _ _ n1 c.bytes-2.ensures c.fnv1a64_on-rule.ensures in
    let n3 = hash_goes_on (k.rule.set_id ++ 0 ∷ [] ++ k.rule.rule) (0 ∷ []) (0 ∷ []) _ _ n2 refl c.fnv1a64_on-rule_end.ensures in
    let to_rule = k.rule.set_id ++ 0 ∷ [] ++ k.rule.rule ++ 0 ∷ [] in
    let n4 = hash_goes_on to_rule (to_be_bytes w64 k.period) _ _ _ n3 c.to_be_bytes.ensures c.fnv1a64_on-period.ensures in
    let n5 = hash_goes_on (to_rule ++ to_be_bytes w64 k.period) (to_be_bytes w64 k.threshold) _ _ _ n4 c.to_be_bytes-2.ensures c.fnv1a64_on-threshold.ensures in
    let n6 = hash_goes_on (to_rule ++ to_be_bytes w64 k.period ++ to_be_bytes w64 k.threshold) (to_be_bytes w64 k.timeout) _ _ _ n5 c.to_be_bytes-3.ensures c.fnv1a64_on-timeout.ensures in
    let n7 = hash_goes_on (to_rule ++ to_be_bytes w64 k.period ++ to_be_bytes w64 k.threshold ++ to_be_bytes w64 k.timeout) k.values _ _ _ n6 c.bytes-3.ensures c.fnv1a64_on.ensures in
    let P : KeyParts → Type 0 = λ key. c.fnv1a64_on.result ≡ fnv1a64_of (key_bytes key) in
    subst P c.key.view_is n7
