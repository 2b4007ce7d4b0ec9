-- The row of slots, with one slot more at its end.
use Rattle.std.proofs.Common.{◌≡◌, List, [], ◌∷◌, ◌++◌, map, reverse, sym, ap, ◌∙◌}
use Rattle.std.proofs.lemmas.List.{map-append, reverse-append}
use Rattle.tree_eval.specs.declared.sense.Sense.{Sense as Kept}
use Rattle.tree_eval.specs.Seen.{seen}
use Rattle.filter_compile.specs.Steps.{last_slot, other_slots}
use Rattle.filter_compile.specs.Slots.{slots_of}

pub slots_last : (xs : List Kept) (x : Kept) → slots_of (xs ++ x ∷ []) ≡ seen x ∷ slots_of xs
slots_last xs x = ap reverse (map-append seen xs (x ∷ [])) ∙ reverse-append (map seen xs) (seen x ∷ [])

pub last_is : (old new : List Kept) (x : Kept) → old ≡ new ++ x ∷ [] → seen x ≡ last_slot (slots_of old)
last_is old new x is = sym (ap (λ xs. last_slot (slots_of xs)) is ∙ ap last_slot (slots_last new x))

pub others_are : (old new : List Kept) (x : Kept) → old ≡ new ++ x ∷ [] → slots_of new ≡ other_slots (slots_of old)
others_are old new x is = sym (ap (λ xs. other_slots (slots_of xs)) is ∙ ap other_slots (slots_last new x))

pub loaded : (old new : List Kept) (x : Kept) → new ≡ old ++ x ∷ [] → slots_of new ≡ seen x ∷ slots_of old
loaded old new x is = ap slots_of is ∙ slots_last old x
