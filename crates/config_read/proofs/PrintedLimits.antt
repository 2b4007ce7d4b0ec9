-- Limits are read again as they are printed.
use Rattle.std.proofs.Common.{◌≡◌, ◌≤◌, ◌&&◌, ◌*◌, ◌/◌, ◌%◌, ℕ, Bool, true, false, not, List, [], ◌∷◌, map, length, nat_le, nat_lt, is_none, Option, None, Some, option_map, unwrap_or, IfSome, refl, sym, ap, ◌∙◌, subst, codes, arith}
use Rattle.std.specs.List.{AllByRecursion}
use Rattle.std.proofs.lemmas.Bool.{le-leb}
use Rattle.std.proofs.lemmas.List.{length-map}
use Rattle.std.proofs.lemmas.List.Elements.{recursion_from_All}
use Rattle.serde_json.specs.Data.{Data, string}
use Rattle.serde_json.specs.View.{items_of}
use Rattle.list_store.specs.declared.part.ListPart.{ListPart}
use Rattle.type_check.specs.declared.fault.Place.TheVariants as stand
use Rattle.ruleset_model.specs.declared.limit.Characteristic.{Characteristic}
use Rattle.ruleset_model.specs.declared.limit.Counting.{Counting}
use Rattle.ruleset_model.specs.declared.limit.Limit.{Limit}
use Rattle.ruleset_model.specs.FilterParts.{FilterParts}
use Rattle.ruleset_model.specs.Built.{IsBuilt}
use Rattle.ruleset_model.specs.Data.{limit_data}
use Rattle.ruleset_model.specs.Ranges.{HasRanges}
use Rattle.ruleset_model.specs.Valid.{IsLimitValid, IsCountingValid}
use Rattle.config_read.specs.Judged.{Judgement, expression_or_empty}
use Rattle.config_read.specs.Members.{list_of, text_of}
use Rattle.config_read.specs.Forms.{number_within}
use Rattle.config_read.specs.Limits.{characteristic_table, each_characteristic_table, is_miscounted, milliseconds, seconds_in_a_day, numbers_table, held_limit_table, held_limit_at, filled}
use Rattle.config_read.specs.Printed.{printed_number, printed_limit, counting_text, seconds}
use Rattle.config_read.proofs.PrintedEach.{list_of-items_of, each_passes, after_each, texts_back}
use Rattle.config_read.proofs.PrintedLists.{length-printed}
use Rattle.config_read.proofs.PrintedMembers.{is_there, is_it}
use Rattle.config_read.proofs.PrintedValues.{Takes}

-- ---- numbers

within : (first last n : ℕ) → first ≤ n → n ≤ last → (nat_le first n && nat_le n last) ≡ true
within first last n low high = rw (le-leb first n low, le-leb n last high) refl

number_there : (first last n : ℕ) → first ≤ n → n ≤ last → is_none (number_within first last (printed_number n)) ≡ false
number_there first last n low high = is_there (nat_le first n && nat_le n last) n (within first last n low high)

number_back : (first last n default : ℕ) → first ≤ n → n ≤ last → unwrap_or (number_within first last (printed_number n)) default ≡ n
number_back first last n default low high = is_it (nat_le first n && nat_le n last) n default (within first last n low high)

seconds_low : (n : ℕ) → 1000 ≤ n → 1 ≤ seconds n
seconds_low n low = omega arith

seconds_high : (n : ℕ) → n ≤ 86400000 → seconds n ≤ 86400
seconds_high n high = omega arith

whole_again : (n : ℕ) → n % 1000 ≡ 0 → milliseconds (seconds n) ≡ n
whole_again n whole = omega (arith, whole)

-- ---- characteristics

abbrev source_of : Characteristic → List ℕ
source_of one = one.source

sources : (lists : List ListPart) (judge : Judgement) (characteristics : List Characteristic) → Takes lists judge
    → AllByRecursion (λ (one : Characteristic). IsBuilt lists stand.Characteristic one.source one.filter) characteristics
    → AllByRecursion (λ (text : List ℕ). judge stand.Characteristic text None) (map source_of characteristics)
sources lists judge [] takes built = tt
sources lists judge (one ∷ characteristics) takes built =
    (takes.built stand.Characteristic one.source one.filter built.0, sources lists judge characteristics takes built.1)

characteristics_pass : (judge : Judgement) (place : List ℕ) (texts : List (List ℕ)) → AllByRecursion (λ (text : List ℕ). judge stand.Characteristic text None) texts
    → each_characteristic_table judge place (list_of (items_of (map string texts))) None
unfolding characteristic_table
characteristics_pass judge place texts all =
    subst (λ (ds : List Data). each_characteristic_table judge place ds None) (sym (list_of-items_of (map string texts)))
    (each_passes (characteristic_table judge place) text_of string (λ text. text) (λ earlier text. judge stand.Characteristic text None)
    (λ earlier text taken. (refl, taken)) (λ earlier text taken. refl) [] texts
    (after_each (λ (text : List ℕ). judge stand.Characteristic text None) [] texts all))

counted : (texts : List (List ℕ)) → 1 ≤ length texts → length texts ≤ 8 → is_miscounted (list_of (items_of (map string texts))) ≡ false
counted texts low high =
    rw (length-printed string texts) (ap not (within 1 8 (length texts) low high))

-- ---- what is counted

counting_passes : (lists : List ListPart) (judge : Judgement) (place : List ℕ) (counting : Option Counting) → Takes lists judge
    → IfSome counting (IsCountingValid lists) → expression_or_empty (judge stand.Count) place (counting_text counting) None
counting_passes lists judge place None takes valid = refl
counting_passes lists judge place (Some counting) takes valid =
    passes_or_empty counting.source (takes.built stand.Count counting.source counting.filter valid.built)
  where
    passes_or_empty : (text : List ℕ) → judge stand.Count text None → expression_or_empty (judge stand.Count) place text None
    passes_or_empty [] taken = refl
    passes_or_empty (byte ∷ text) taken = taken

-- no filter was built of an empty text
abbrev pub AreSome : List ListPart → Type 0
AreSome lists = (filter : FilterParts) → IsBuilt lists stand.Count [] filter → ⊥

counting_back : (lists : List ListPart) (counting : Option Counting) → AreSome lists → IfSome counting (IsCountingValid lists)
    → filled (counting_text counting) ≡ option_map (λ (one : Counting). one.source) counting
counting_back lists None some valid = refl
counting_back lists (Some counting) some valid = some_back counting.source valid.built
  where
    some_back : (text : List ℕ) → IsBuilt lists stand.Count text counting.filter → filled text ≡ Some text
    some_back [] built = absurd (some counting.filter built)
    some_back (byte ∷ text) built = refl

-- ---- all

pub limit_passes : (lists : List ListPart) (judge : Judgement) (place : List ℕ) (limit : Limit) → Takes lists judge → IsLimitValid lists limit
    → held_limit_table judge place (printed_limit limit) None
unfolding held_limit_table numbers_table printed_limit
limit_passes lists judge place limit takes valid =
    let texts = map source_of limit.characteristics in
    let many = length-map limit.characteristics source_of in (
      refl,
      (
        (
          (refl, refl),
          (
            counted texts (subst (λ (n : ℕ). 1 ≤ n) (sym many) valid.some) (subst (λ (n : ℕ). n ≤ 8) (sym many) valid.few),
            characteristics_pass judge _ texts (sources lists judge limit.characteristics takes
                (recursion_from_All (λ (one : Characteristic). IsBuilt lists stand.Characteristic one.source one.filter) limit.characteristics valid.characteristics)),
          ),
        ),
        (
          (
            (refl, (refl, number_there 1 seconds_in_a_day (seconds limit.period) (seconds_low limit.period limit.ranges.some_period) (seconds_high limit.period limit.ranges.period_within))),
            (
              (refl, (refl, number_there 1 1000000 limit.threshold limit.ranges.some_threshold limit.ranges.threshold_within)),
              (refl, number_there 0 seconds_in_a_day (seconds limit.timeout) (omega arith) (seconds_high limit.timeout limit.ranges.timeout_within)),
            ),
          ),
          (refl, counting_passes lists judge _ limit.counting takes valid.counting),
        ),
      ),
    )

pub limit_back : (lists : List ListPart) (limit : Limit) → AreSome lists → IsLimitValid lists limit
    → held_limit_at (printed_limit limit) ≡ limit_data limit
unfolding held_limit_at printed_limit
limit_back lists limit some valid = λ i. record {
  characteristics = texts_back (map source_of limit.characteristics) i;
  period = (ap milliseconds (number_back 1 seconds_in_a_day (seconds limit.period) 1 (seconds_low limit.period limit.ranges.some_period) (seconds_high limit.period limit.ranges.period_within)) ∙ whole_again limit.period limit.ranges.whole_period) i;
  threshold = number_back 1 1000000 limit.threshold 1 limit.ranges.some_threshold limit.ranges.threshold_within i;
  timeout = (ap milliseconds (number_back 0 seconds_in_a_day (seconds limit.timeout) 0 (omega arith) (seconds_high limit.timeout limit.ranges.timeout_within)) ∙ whole_again limit.timeout limit.ranges.whole_timeout) i;
  counting = counting_back lists limit.counting some valid.counting i;
}
