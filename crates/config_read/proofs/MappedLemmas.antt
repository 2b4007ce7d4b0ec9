-- Tests over what elements stand for.
use Rattle.std.proofs.Common.{◌≡◌, Bool, not, cond, nat_lt, Some, None, ℕ, suc, ◌+◌, ◌||◌, List, [], ◌∷◌, map, length, refl, ap, ◌∙◌}
use Rattle.std.specs.List.{list_any, prefix_len, position_or_len, position}

pub any_map : {A B : Type 0} (p : B → Bool) (g : A → B) (xs : List A) → list_any (λ x. p (g x)) xs ≡ list_any p (map g xs)
any_map p g [] = refl
any_map p g (x ∷ xs) = ap (λ rest. p (g x) || rest) (any_map p g xs)

prefix_map : {A B : Type 0} (p : B → Bool) (g : A → B) (xs : List A) → prefix_len (λ x. p (g x)) xs ≡ prefix_len p (map g xs)
prefix_map p g [] = refl
prefix_map p g (x ∷ xs) = ap (λ rest. cond (p (g x)) (1 + rest) 0) (prefix_map p g xs)

length_map : {A B : Type 0} (g : A → B) (xs : List A) → length xs ≡ length (map g xs)
length_map g [] = refl
length_map g (x ∷ xs) = ap suc (length_map g xs)

pub position_map : {A B : Type 0} (p : B → Bool) (g : A → B) (xs : List A) → position (λ x. p (g x)) xs ≡ position p (map g xs)
position_map p g xs =
    ap (λ n. cond (nat_lt n (length xs)) (Some n) None) (prefix_map (λ y. not (p y)) g xs)
    ∙ ap (λ n. cond (nat_lt (position_or_len p (map g xs)) n) (Some (position_or_len p (map g xs))) None) (length_map g xs)
