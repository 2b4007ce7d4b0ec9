-- The member `ratelimit`.
use Rattle.std.specs.Prelude.{◌≡◌, ℕ, ◌*◌, Bool, true, false, not, ◌&&◌, ◌||◌, is_none, is_some, nat_lt, nat_le, List, [], ◌∷◌, map, length, codes, Option, None, Some, option_map}
use Rattle.serde_json.specs.Data.{Data}
use Rattle.serde_json.specs.Find.{get, as_str, as_object}
use Rattle.type_check.specs.declared.fault.Place.TheVariants as stand
use Rattle.ruleset_model.specs.declared.phase.Phase.{Phase}
use Rattle.ruleset_model.specs.declared.limit.Characteristic.{Characteristic}
use Rattle.ruleset_model.specs.declared.limit.Counting.{Counting}
use Rattle.ruleset_model.specs.Data.{LimitData}
use Rattle.ruleset_model.specs.Phases.{is_limiting}
use Rattle.config_read.specs.declared.action.Action.{Action}
use Rattle.config_read.specs.declared.fault.Cause.{Cause}
use Rattle.config_read.specs.declared.fault.Cause.TheVariants as cause
use Rattle.config_read.specs.Places.{child, nth}
use Rattle.config_read.specs.Refusals.{Table, ◌▸◌, nothing, refuse, each}
use Rattle.config_read.specs.Members.{text_of, text, texts, elements, member, value_or, if_there, needed, typed, needed_array, needed_object}
use Rattle.config_read.specs.Forms.{integer, number_within}
use Rattle.config_read.specs.Names.{is_execute}
use Rattle.config_read.specs.Judged.{Judgement, expression_or_empty}

-- ---- numbers

-- an integer, refused as a bad limit where it is out of its range
abbrev pub number_table : ℕ → ℕ → List ℕ → Data → Table
number_table first last place d =
    refuse place cause.Shape (is_none (integer d)) ▸ refuse place cause.BadLimit (is_none (number_within first last d))

abbrev pub ranged : ℕ → ℕ → List ℕ → List ℕ → Data → Table
ranged first last place name d = if_there (number_table first last (child place name)) (get name d)

abbrev pub needed_ranged : ℕ → ℕ → List ℕ → List ℕ → Data → Table
needed_ranged first last place name d = needed place name d ▸ ranged first last place name d

-- the number that a member is, by default this one
abbrev pub number_or : ℕ → ℕ → ℕ → List ℕ → Data → ℕ
number_or first last default name d = value_or (number_within first last) default name d

abbrev pub seconds_in_a_day : ℕ
seconds_in_a_day = 86400

-- so many seconds, in milliseconds
abbrev pub milliseconds : ℕ → ℕ
milliseconds seconds = seconds * 1000

-- ---- characteristics

-- whatever is wrong with a characteristic, the limit is bad
abbrev pub characteristic : Judgement → List ℕ → List ℕ → Table
characteristic judge place text None = judge stand.Characteristic text None
characteristic judge place text (Some refused) =
    (refused ≡ record { place = place; cause = cause.BadLimit }) × ((c : Cause) × judge stand.Characteristic text (Some c))

-- the one at the place
abbrev pub one_characteristic_table : Judgement → List ℕ → Data → Table
one_characteristic_table judge place d = refuse place cause.Shape (is_none (as_str d)) ▸ characteristic judge place (text_of d)

-- one behind those before it
unfoldable pub characteristic_table : Judgement → List ℕ → List (List ℕ) → Data → Table
characteristic_table judge items earlier d = one_characteristic_table judge (nth items (length earlier)) d

abbrev pub each_characteristic_table : Judgement → List ℕ → List Data → Table
each_characteristic_table judge items = each (characteristic_table judge items) text_of []

-- one to eight of them
abbrev pub is_miscounted : List Data → Bool
is_miscounted ds = not (nat_le 1 (length ds) && nat_le (length ds) 8)

abbrev pub characteristics_table : Judgement → List ℕ → Data → Table
characteristics_table judge place d =
    needed_array place (codes "characteristics") d
    ▸ refuse (child place (codes "characteristics")) cause.BadLimit (is_miscounted (elements (codes "characteristics") d))
    ▸ each_characteristic_table judge (child place (codes "characteristics")) (elements (codes "characteristics") d)

-- the text of a characteristic that is kept
abbrev pub characteristic_source : Characteristic → List ℕ
characteristic_source made = made.source

-- the texts of all
abbrev pub sources_of : List Characteristic → List (List ℕ)
sources_of made = map characteristic_source made

-- ---- what is counted

-- an expression, which may be absent, or empty for none
abbrev pub counting_table : Judgement → List ℕ → List ℕ → Table
counting_table judge place text = expression_or_empty (judge stand.Count) (child place (codes "counting_expression")) text

abbrev pub typed_counting : Judgement → List ℕ → Data → Table
typed_counting judge place d =
    typed as_str place (codes "counting_expression") d
    ▸ counting_table judge place (text (codes "counting_expression") d)

abbrev pub filled : List ℕ → Option (List ℕ)
filled [] = None
filled (byte ∷ text) = Some (byte ∷ text)

abbrev pub counting_at : Data → Option (List ℕ)
counting_at d = filled (text (codes "counting_expression") d)

-- the text of what is counted, as it is kept
abbrev pub counting_source : Counting → List ℕ
counting_source made = made.source

-- ---- a limit

-- how long a period is, how many requests it lets through, and how long is blocked beyond them
unfoldable pub numbers_table : List ℕ → Data → Table
numbers_table place d =
    needed_ranged 1 seconds_in_a_day place (codes "period") d
    ▸ needed_ranged 1 1000000 place (codes "requests_per_period") d
    ▸ ranged 0 seconds_in_a_day place (codes "mitigation_timeout") d

abbrev pub period_at : Data → ℕ
period_at d = milliseconds (number_or 1 seconds_in_a_day 1 (codes "period") d)

abbrev pub threshold_at : Data → ℕ
threshold_at d = number_or 1 1000000 1 (codes "requests_per_period") d

abbrev pub timeout_at : Data → ℕ
timeout_at d = milliseconds (number_or 0 seconds_in_a_day 0 (codes "mitigation_timeout") d)

unfoldable pub held_limit_table : Judgement → List ℕ → Data → Table
held_limit_table judge place d =
    refuse (child place (codes "score_per_period")) cause.BadLimit (is_some (get (codes "score_per_period") d))
    ▸ characteristics_table judge place d
    ▸ numbers_table place d
    ▸ typed_counting judge place d

unfoldable pub held_limit_at : Data → LimitData
held_limit_at d = record {
  characteristics = texts (codes "characteristics") d;
  period = period_at d;
  threshold = threshold_at d;
  timeout = timeout_at d;
  counting = counting_at d;
}

-- ---- which rules have one

-- those of the phase of limits, but for those that execute
abbrev pub is_limited : Phase → Action → Bool
is_limited phase a = is_limiting phase && not (is_execute a)

abbrev pub limit_table_of : Bool → Judgement → List ℕ → Data → Table
limit_table_of true judge place d =
    needed_object place (codes "ratelimit") d
    ▸ held_limit_table judge (child place (codes "ratelimit")) (member (codes "ratelimit") d)
limit_table_of false judge place d =
    typed as_object place (codes "ratelimit") d
    ▸ refuse (child place (codes "ratelimit")) cause.BadLimit (is_some (get (codes "ratelimit") d))

-- of the rule at a place
abbrev pub limit_table : Judgement → Phase → Action → List ℕ → Data → Table
limit_table judge phase a place d = limit_table_of (is_limited phase a) judge place d

abbrev pub limit_at : Data → Option LimitData
limit_at d = option_map held_limit_at (get (codes "ratelimit") d)
