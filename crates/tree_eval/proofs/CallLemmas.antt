-- What a call gives, by the values of its arguments.
use Rattle.std.proofs.Common.{◌≡◌, ℕ, ◌+◌, ◌<◌, List, [], ◌∷◌, ◌++◌, length, get_or, take, map, Bool, true, false, cond, Option, None, Some, refl, sym, ap, ◌∙◌}
use Rattle.std.specs.List.{cons_option, filter_map}
use Rattle.std.specs.Option.{option_map, option_and_then}
use Rattle.std.proofs.lemmas.List.{take_more, map-append}
use Rattle.std.proofs.lemmas.List.Elements.{filter_map-append}
use Rattle.edge_fields.specs.declared.function_id.FunctionId.{FunctionId}
use Rattle.edge_fields.specs.declared.value.Value.{Value}
use Rattle.edge_fields.specs.declared.value.Value.TheVariants as value
use Rattle.func_lib.specs.Functions.{function_of}
use Rattle.type_check.specs.Meaning.{Setting, Sense, single, spread, alone, all_of, applied, mapped, called, or_false, takes_whole}
use Rattle.tree_eval.specs.Calls.{with_last, result_of, call_of}
use Rattle.tree_eval.specs.declared.sense.Sense.{Sense as Kept}
use Rattle.tree_eval.specs.Seen.{seen}

-- one element more
pub filter_map_step : {X Y : Type 0} (h : X → Option Y) (xs : List X) (i : ℕ) (x : X) (found : Option Y) (results now : List Y) → i < length xs
    → x ≡ get_or xs i x → found ≡ h x → results ≡ filter_map h (take i xs) → now ≡ results ++ cons_option found [] → now ≡ filter_map h (take (i + 1) xs)
filter_map_step h xs i x found results now within is gives past put =
    put
    ∙ ap (λ front. front ++ cons_option found []) past
    ∙ ap (λ o. filter_map h (take i xs) ++ cons_option o []) (gives ∙ ap h is)
    ∙ sym (ap (filter_map h) (take_more xs i x within) ∙ filter_map-append h (take i xs) (get_or xs i x ∷ []))

-- one value more
onto_last : (v : Value) (o : Option (List Value)) (last : Option Value) → option_map (λ rest. v ∷ rest) (with_last o last) ≡ with_last (option_map (λ rest. v ∷ rest) o) last
onto_last v None last = refl
onto_last v (Some vs) None = refl
onto_last v (Some vs) (Some one) = refl

all_of_last : (xs : List (Option Value)) (last : Option Value) → all_of (xs ++ last ∷ []) ≡ with_last (all_of xs) last
all_of_last [] None = refl
all_of_last [] (Some one) = refl
all_of_last (None ∷ xs) last = refl
all_of_last (Some v ∷ xs) last = ap (option_map (λ rest. v ∷ rest)) (all_of_last xs last) ∙ onto_last v (all_of xs) last

pub senses_step : (xs : List Kept) (x : Kept) (values now : Option (List Value)) → values ≡ all_of (map alone (map seen xs)) → now ≡ with_last values (alone (seen x))
    → now ≡ all_of (map alone (map seen (xs ++ x ∷ [])))
senses_step xs x values now past here =
    here
    ∙ ap (λ o. with_last o (alone (seen x))) past
    ∙ sym (ap (λ ys. all_of (map alone ys)) (map-append seen xs (x ∷ []))
    ∙ ap all_of (map-append alone (map seen xs) (seen x ∷ []))
    ∙ all_of_last (map alone (map seen xs)) (alone (seen x)))

module _ (s : Setting) (functions : s.function ≡ function_of) (id : FunctionId) where
  applied_is : (v : Value) (further : List (Option Value)) (o : Option (List Value)) → all_of further ≡ o → applied s id (Some v ∷ further) ≡ result_of id o v
  applied_is v further None is = ap (λ o. option_and_then (s.function id) (option_map (λ rest. v ∷ rest) o)) is
  applied_is v further (Some others) is =
      ap (λ o. option_and_then (s.function id) (option_map (λ rest. v ∷ rest) o)) is ∙ ap (λ f. f id (v ∷ others)) functions

  mapped_is : (further : List (Option Value)) (items : List Value)
      → filter_map (λ v. applied s id (Some v ∷ further)) items ≡ filter_map (result_of id (all_of further)) items
  mapped_is further [] = refl
  mapped_is further (v ∷ items) =
      ap (λ o. cons_option o (filter_map (λ v. applied s id (Some v ∷ further)) items)) (applied_is v further (all_of further) refl)
      ∙ ap (cons_option (result_of id (all_of further) v)) (mapped_is further items)

  unpacked_is : (whole : Bool) (items : Option (List Value)) (further : List (Option Value))
      → cond whole None (option_map (mapped s id further) items)
      ≡ cond whole None (option_map (λ vs. value.Array (filter_map (result_of id (all_of further)) vs)) items)
  unpacked_is true items further = refl
  unpacked_is false None further = refl
  unpacked_is false (Some vs) further = ap (λ found. Some (value.Array found)) (mapped_is further vs)

  pub called_is : (senses : List Sense) → called s id senses ≡ call_of id senses
  called_is [] = ap (λ f. or_false id (f id [])) functions
  called_is (single None ∷ further) = refl
  called_is (single (Some v) ∷ further) = ap (or_false id) (applied_is v (map alone further) (all_of (map alone further)) refl)
  called_is (spread items ∷ further) = unpacked_is (takes_whole id) items (map alone further)
