-- A clock over a list of moments, as contracts see it.
use Rattle.std.specs.Prelude.{ℕ, List, [], ◌∷◌, Option}

-- the moments that it will tell, and the one that it told last
pub record Ticks : Type 0 where
  pub left : List ℕ
  pub told : Option ℕ

-- the moments that are left after the first was told: the last one stays
abbrev pub moments_after : List ℕ → List ℕ
moments_after [] = []
moments_after (last ∷ []) = last ∷ []
moments_after (first ∷ second ∷ rest) = second ∷ rest
