-- Limits of which nothing is refused are valid.
use Rattle.std.proofs.Common.{◌≡◌, ◌≤◌, ◌&&◌, ℕ, Bool, true, false, not, nat_le, List, [], ◌∷◌, map, length, is_some, is_none, Option, None, Some, option_map, unwrap_or, IfSome, IsUtf8, codes, refl, sym, ap, ◌∙◌, subst, true≢false}
use Rattle.std.specs.List.{All, AllByRecursion}
use Rattle.std.proofs.lemmas.List.{length-map}
use Rattle.std.proofs.lemmas.List.Elements.{All-from_recursion}
use Rattle.serde_json.specs.Data.{Data, null}
use Rattle.serde_json.specs.Find.{get}
use Rattle.list_store.specs.declared.part.ListPart.{ListPart}
use Rattle.list_store.specs.Listed.{list_kinds_of}
use Rattle.type_check.specs.declared.fault.Place.TheVariants as stand
use Rattle.ruleset_model.specs.declared.act.Act.{Act}
use Rattle.ruleset_model.specs.declared.limit.Characteristic.{Characteristic}
use Rattle.ruleset_model.specs.declared.limit.Counting.{Counting}
use Rattle.ruleset_model.specs.declared.limit.Limit.{Limit}
use Rattle.ruleset_model.specs.declared.phase.Phase.{Phase}
use Rattle.ruleset_model.specs.Built.{IsBuilt}
use Rattle.ruleset_model.specs.Data.{LimitData, limit_data}
use Rattle.ruleset_model.specs.Phases.{is_limiting}
use Rattle.ruleset_model.specs.Valid.{IsCountingValid, IsLimitValid, has_limit, is_execute as is_execution}
use Rattle.config_read.specs.declared.action.Action.{Action}
use Rattle.config_read.specs.Judged.{Judgement}
use Rattle.config_read.specs.Members.{text_of, text, texts, elements, member}
use Rattle.config_read.specs.Names.{is_execute}
use Rattle.config_read.specs.Limits.{is_miscounted, filled, counting_at, held_limit_table, held_limit_at, is_limited, limit_table, limit_table_of, limit_at}
use Rattle.config_read.specs.Filters.{IsCharacteristicBuilt, IsCountingBuilt, IsLimitBuilt}
use Rattle.config_read.proofs.BoolLemmas.{shown, at_least, both_left, both_right}
use Rattle.config_read.proofs.FormedLemmas.{IsFormed, member_formed, text_utf8, texts_of_utf8, elements_formed}
use Rattle.config_read.proofs.ValidBuilt.{built_of}

-- ---- characteristics

abbrev source_of : Characteristic → List ℕ
source_of one = one.source

same_first : {A : Type 0} (x y : A) (xs ys : List A) → x ∷ xs ≡ y ∷ ys → x ≡ y
same_first x y xs ys e = cc

same_rest : {A : Type 0} (x y : A) (xs ys : List A) → x ∷ xs ≡ y ∷ ys → xs ≡ ys
same_rest x y xs ys e = cc

characteristics_valid : (lists : List ListPart) (given : List Characteristic) (sources : List (List ℕ)) → map source_of given ≡ sources → AllByRecursion IsUtf8 sources
    → AllByRecursion (IsCharacteristicBuilt (list_kinds_of lists)) given
    → AllByRecursion (λ (one : Characteristic). IsBuilt lists stand.Characteristic one.source one.filter) given
characteristics_valid lists [] sources same are built = tt
characteristics_valid lists (one ∷ given) [] same are built = absurd cc
characteristics_valid lists (one ∷ given) (source ∷ sources) same are built = (
  built_of lists stand.Characteristic one.source one.filter (subst IsUtf8 (sym (same_first one.source source (map source_of given) sources same)) are.0) built.0,
  characteristics_valid lists given sources (same_rest one.source source (map source_of given) sources same) are.1 built.1,
)

-- ---- what is counted

filled_utf8 : (source text : List ℕ) → Some source ≡ filled text → IsUtf8 text → IsUtf8 source
filled_utf8 source [] same is_text = absurd cc
filled_utf8 source (byte ∷ text) same is_text = subst IsUtf8 (sym (same_source source (byte ∷ text) same)) is_text
  where
    same_source : (a b : List ℕ) → Some a ≡ Some b → a ≡ b
    same_source a b e = cc

counting_valid : (lists : List ListPart) (counting : Option Counting) (text : List ℕ) → option_map (λ (one : Counting). one.source) counting ≡ filled text → IsUtf8 text
    → IfSome counting (IsCountingBuilt (list_kinds_of lists)) → IfSome counting (IsCountingValid lists)
counting_valid lists None text same is_text built = tt
counting_valid lists (Some counting) text same is_text built = record {
  built = built_of lists stand.Count counting.source counting.filter (filled_utf8 counting.source text same is_text) built.filter;
  reply = built.reply;
}

-- ---- a limit

pub limit_valid : (lists : List ListPart) (judge : Judgement) (place : List ℕ) (d : Data) (limit : Limit) → IsFormed d → held_limit_table judge place d None
    → limit_data limit ≡ held_limit_at d → IsLimitBuilt (list_kinds_of lists) limit → IsLimitValid lists limit
unfolding held_limit_table held_limit_at
limit_valid lists judge place d limit formed passed same built =
    let given = elements (codes "characteristics") d in
    let sources : map source_of limit.characteristics ≡ texts (codes "characteristics") d = ap (λ (data_of : LimitData). data_of.characteristics) same in
    let counts : length limit.characteristics ≡ length given =
    sym (length-map limit.characteristics source_of) ∙ ap (λ (all : List (List ℕ)). length all) sources ∙ length-map given text_of in
    let counted = shown (nat_le 1 (length given) && nat_le (length given) 8) passed.1.0.1.0 in record {
      some = subst (λ (n : ℕ). 1 ≤ n) (sym counts) (at_least 1 (length given) (both_left (nat_le 1 (length given)) (nat_le (length given) 8) counted));
      few = subst (λ (n : ℕ). n ≤ 8) (sym counts) (at_least (length given) 8 (both_right (nat_le 1 (length given)) (nat_le (length given) 8) counted));
      characteristics = All-from_recursion (λ (one : Characteristic). IsBuilt lists stand.Characteristic one.source one.filter) limit.characteristics
          (characteristics_valid lists limit.characteristics (texts (codes "characteristics") d) sources
          (texts_of_utf8 given (elements_formed (codes "characteristics") d formed)) built.characteristics);
      counting = counting_valid lists limit.counting (text (codes "counting_expression") d) (ap (λ (data_of : LimitData). data_of.counting) same)
          (text_utf8 (codes "counting_expression") d formed) built.counting;
    }

-- ---- which rules have one

some_limit : (limited : Bool) (judge : Judgement) (place : List ℕ) (d : Data) → limit_table_of limited judge place d None → is_some (limit_at d) ≡ limited
some_limit true judge place d passed = there (get (codes "ratelimit") d) passed.0.0
  where
    there : (found : Option Data) → is_none found ≡ false → is_some (option_map held_limit_at found) ≡ true
    there None e = absurd (true≢false e)
    there (Some held) e = refl
some_limit false judge place d passed = not_there (get (codes "ratelimit") d) passed.1
  where
    not_there : (found : Option Data) → is_some found ≡ false → is_some (option_map held_limit_at found) ≡ false
    not_there None e = refl
    not_there (Some held) e = absurd (true≢false e)

mapped_some : (limit : Option Limit) → is_some limit ≡ is_some (option_map limit_data limit)
mapped_some None = refl
mapped_some (Some limit) = refl

pub limited_where : (judge : Judgement) (p : Phase) (a : Action) (place : List ℕ) (d : Data) (done : Act) (limit : Option Limit) → limit_table judge p a place d None
    → option_map limit_data limit ≡ limit_at d → is_execution done ≡ is_execute a → is_some limit ≡ has_limit p done
limited_where judge p a place d done limit passed same executes =
    mapped_some limit ∙ ap (λ (one : Option LimitData). is_some one) same ∙ some_limit (is_limited p a) judge place d passed
    ∙ ap (λ (b : Bool). is_limiting p && not b) (sym executes)

held_by : (lists : List ListPart) (limited : Bool) (judge : Judgement) (place : List ℕ) (d : Data) (found : Option Data) (limit : Option Limit) → IsFormed d
    → get (codes "ratelimit") d ≡ found → limit_table_of limited judge place d None → option_map limit_data limit ≡ option_map held_limit_at found
    → IfSome limit (IsLimitBuilt (list_kinds_of lists)) → IfSome limit (IsLimitValid lists)
held_by lists limited judge place d found None formed e passed same built = tt
held_by lists limited judge place d None (Some limit) formed e passed same built = absurd cc
held_by lists true judge place d (Some held) (Some limit) formed e passed same built =
    limit_valid lists judge _ (member (codes "ratelimit") d) limit (member_formed (codes "ratelimit") d formed) passed.1
    (same_limit (limit_data limit) (held_limit_at held) same ∙ sym (ap (λ (found : Option Data). held_limit_at (unwrap_or found null)) e)) built
  where
    same_limit : (a b : LimitData) → Some a ≡ Some b → a ≡ b
    same_limit a b eq = cc
held_by lists false judge place d (Some held) (Some limit) formed e passed same built =
    absurd (true≢false (sym (ap (λ (found : Option Data). is_some found) e) ∙ passed.1))

pub limits_valid : (lists : List ListPart) (judge : Judgement) (p : Phase) (a : Action) (place : List ℕ) (d : Data) (limit : Option Limit) → IsFormed d
    → limit_table judge p a place d None → option_map limit_data limit ≡ limit_at d → IfSome limit (IsLimitBuilt (list_kinds_of lists))
    → IfSome limit (IsLimitValid lists)
limits_valid lists judge p a place d limit formed passed same built =
    held_by lists (is_limited p a) judge place d (get (codes "ratelimit") d) limit formed refl passed same built
