-- Working vocabulary, which no public clause cites: how a map finds the place of a key among its keys.
use Rattle.std.specs.Prelude.{◌≡◌, ℕ, List, bytes_eq}
use Rattle.std.specs.List.{IsDistinct, position_from}
use Rattle.std.specs.declared.vec.Vec.{Vec}
use Rattle.std.specs.Ordering.{nat_cmp}
use Rattle.std.specs.Cmp.Lexicographic.{slice_cmp}
use Rattle.std.specs.BTreeMap.{BTreeMap, get_by}

-- the keys are distinct, and each is found at its place
pub record ArePlaces {A : Type 0} (keys : List (List ℕ)) (places : BTreeMap (Vec ℕ A) ℕ) : Type 0 where
  pub distinct : IsDistinct bytes_eq keys
  pub found : (key : List ℕ) → get_by (λ name. slice_cmp nat_cmp key name.items) places ≡ position_from (bytes_eq key) 0 keys
