-- What the steps of a filter do to its slots, which are listed from the last to the first.
use Rattle.std.specs.Prelude.{ℕ, zero, suc, Bool, true, false, not, List, [], ◌∷◌, Some, None, if◌then◌else◌}
use Rattle.std.specs.List.{list_all}
use Rattle.std.specs.Option.{option_and_then}
use Rattle.edge_fields.specs.declared.kind.Basic.{Basic}
use Rattle.edge_fields.specs.Fields.{field_of}
use Rattle.edge_fields.specs.Values.{items_in, value_of_lit}
use Rattle.type_check.specs.Meaning.{Setting, Sense, single, spread, alone, element_at, array_at, is_true, truth, tested, called}
use Rattle.type_check.specs.Trees.{test_of, is_placed}
use Rattle.filter_compile.specs.declared.program.Step.{Step}
use Rattle.filter_compile.specs.declared.program.Step.TheVariants as step

-- what stands in the last slot, or a missing value where there is no slot
abbrev pub last_slot : List Sense → Sense
last_slot [] = single None
last_slot (v ∷ slots) = v

-- the slots before the last
abbrev pub other_slots : List Sense → List Sense
other_slots [] = []
other_slots (v ∷ slots) = slots

-- what stands in this many last slots, the last one first
abbrev pub taken : ℕ → List Sense → List Sense
taken zero slots = []
taken (suc count) slots = last_slot slots ∷ taken count (other_slots slots)

-- the slots before these
abbrev pub without : ℕ → List Sense → List Sense
without zero slots = slots
without (suc count) slots = without count (other_slots slots)

-- whether two truths are the same
abbrev pub is_same : Bool → Bool → Bool
is_same true other = other
is_same false other = not other

-- the slots after a step
abbrev pub slots_after : Setting → Step → List Sense → List Sense
slots_after s (step.Lit l) slots = single (Some (value_of_lit l)) ∷ slots
slots_after s (step.Field id) slots = single (field_of s.request s.reply id) ∷ slots
slots_after s (step.At place) slots = single (option_and_then (element_at place) (alone (last_slot slots))) ∷ other_slots slots
slots_after s (step.Key key) slots = single (option_and_then (array_at key) (alone (last_slot slots))) ∷ other_slots slots
slots_after s step.Each slots = spread (option_and_then items_in (alone (last_slot slots))) ∷ other_slots slots
slots_after s (step.Call id count) slots = single (called s id (taken count slots)) ∷ without count slots
slots_after s (step.Test t) slots = tested s (test_of t) (last_slot slots) ∷ other_slots slots
slots_after s step.Not slots = truth (not (is_true (last_slot slots))) ∷ other_slots slots
slots_after s (step.Leave at over) slots =
    if is_same at (is_true (last_slot slots)) then truth at ∷ other_slots slots else other_slots slots
slots_after s step.Differ slots =
    truth (not (is_same (is_true (last_slot slots)) (is_true (last_slot (other_slots slots))))) ∷ other_slots (other_slots slots)

-- how many of the next steps a step passes over
abbrev pub passed_over : Step → List Sense → ℕ
passed_over (step.Leave at over) slots = if is_same at (is_true (last_slot slots)) then over else 0
passed_over other slots = 0

-- the slots that are left by steps, of which the first few are passed over
abbrev pub left_by : Setting → ℕ → List Step → List Sense → List Sense
left_by s over [] slots = slots
left_by s zero (one ∷ steps) slots = left_by s (passed_over one slots) steps (slots_after s one slots)
left_by s (suc over) (one ∷ steps) slots = left_by s over steps slots

-- whether a test names its list by the place where the scheme has it
abbrev pub is_step_placed : List (List ℕ × Basic) → Step → Bool
is_step_placed lists (step.Test t) = is_placed lists t
is_step_placed lists other = true

abbrev pub are_steps_placed : List (List ℕ × Basic) → List Step → Bool
are_steps_placed lists steps = list_all (is_step_placed lists) steps
