-- An expression in which nothing is found has a kind where it stands.
use Rattle.std.proofs.Common.{◌≡◌, ℕ, Bool, true, false, not, ◌&&◌, List, [], ◌∷◌, ◌++◌, map, Option, None, Some, option_map, option_and_then, if◌then◌else◌, inl, inr, refl, sym, ap, subst, ◌∙◌}
use Rattle.std.proofs.lemmas.Bool.{cases_Bool}
use Rattle.edge_base.specs.declared.expression.Expr.{Expr}
use Rattle.edge_base.specs.declared.expression.Test.{Test}
use Rattle.edge_base.specs.declared.expression.Expr.TheFolds as folds
use Rattle.edge_base.specs.declared.expression.Expr.TheOpen as open_expr
use Rattle.edge_base.specs.declared.expression.Expr.TheViews.{roll-Expr}
use Rattle.edge_fields.specs.declared.field_id.FieldId.{FieldId}
use Rattle.edge_fields.specs.declared.function_id.FunctionId.{FunctionId}
use Rattle.edge_fields.specs.declared.kind.Basic.{Basic}
use Rattle.edge_fields.specs.declared.kind.Basic.TheVariants as basic
use Rattle.edge_fields.specs.declared.kind.Kind.{Kind}
use Rattle.edge_fields.specs.declared.kind.Kind.TheVariants as kind
use Rattle.edge_fields.specs.Names.{field_kind}
use Rattle.type_check.specs.declared.fault.Place.{Place}
use Rattle.type_check.specs.declared.fault.TypeCause.{TypeCause}
use Rattle.type_check.specs.declared.fault.TypeCause.TheVariants as cause
use Rattle.type_check.specs.declared.sort.Mark.{Mark}
use Rattle.type_check.specs.declared.sort.Sort.{Sort}
use Rattle.type_check.specs.declared.sort.Sort.TheVariants as sort
use Rattle.type_check.specs.declared.sort.Stand.{Stand}
use Rattle.type_check.specs.declared.sort.Stand.TheVariants as stand
use Rattle.type_check.specs.declared.sort.Want.{Want}
use Rattle.type_check.specs.declared.sort.Want.TheVariants as want
use Rattle.type_check.specs.Checking.{Finding, fault, pattern, Report, Judge, is_clean, reported, mismatch, nothing, judge_step, judge_of, call_sort, sorts_of, literals_of, look_field, look_call, look_part, look_test, look_chain, look_lit, look_all, chain_judge, chain_sort, first_of, inner_call, is_regex_replace, test_pattern, call_pattern, wildcard_causes, IsAnswer}
use Rattle.type_check.specs.NamesFound.{field_of_name, function_of_name}
use Rattle.type_check.specs.Places.{findings_of, is_colo, allows_reply, want_at, start, kind_of_sort, kind_at}
use Rattle.type_check.specs.Sorts.{suits, wanted, inner, one, basic_of, first_stand, test_stand}
use Rattle.type_check.specs.TestKinds.{where_so, list_causes, text_causes}

-- ---- nothing is found

-- no cause at the node, and nothing below
no_causes : (node : ℕ) (causes : List TypeCause) (below : List Finding) → IsAnswer (map (fault node) causes ++ below) None
    → (causes ≡ []) × IsAnswer below None
no_causes node [] below sound = (refl, sound)
no_causes node (c ∷ causes) below sound = absurd cc

clean_of : (found : List Finding) → IsAnswer found None → is_clean found ≡ true
clean_of [] sound = refl
clean_of (fault node c ∷ found) sound = absurd cc
clean_of (pattern node text ∷ found) (inl (c, refusal, never)) = absurd cc
clean_of (pattern node text ∷ found) (inr (is, rest)) = clean_of found rest

sound_node : (m : Mark) (causes : List TypeCause) (own : Option (List ℕ)) (below : Report) → IsAnswer (reported m causes own below).found None
    → (causes ≡ []) × (is_clean below.found ≡ true)
sound_node m causes None below sound =
    let (none, rest) = no_causes m.node causes below.found sound in (none, clean_of below.found rest)
sound_node m causes (Some text) below sound =
    let (none, rest) = no_causes m.node causes (pattern m.node text ∷ below.found) sound in (none, clean_of (pattern m.node text ∷ below.found) rest)

nil_left : (a b : List TypeCause) → a ++ b ≡ [] → a ≡ []
nil_left [] b e = refl
nil_left (c ∷ a) b e = absurd cc

nil_right : (a b : List TypeCause) → a ++ b ≡ [] → b ≡ []
nil_right [] b e = e
nil_right (c ∷ a) b e = absurd cc

-- no mismatch where nothing is found below: what is there suits
suited : (place : Stand) (below : List Finding) (s : Option Sort) → is_clean below ≡ true → mismatch place below s ≡ [] → suits place s ≡ true
suited place below s clean none = of_test (suits place s) (sym (ap (λ is. where_so (is && not (suits place s)) cause.Mismatch) clean) ∙ none) where
  of_test : (fits : Bool) → where_so (true && not fits) cause.Mismatch ≡ [] → fits ≡ true
  of_test true e = refl
  of_test false e = absurd cc

-- ---- node by node: where nothing is found, what the node gives suits its place

abbrev Suits : Judge → Type 0
Suits j = (place : Stand) (m : Mark) → IsAnswer (j.look place m).found None → suits place j.sort ≡ true

lit_suits : (s : Option Sort) (place : Stand) (m : Mark) → IsAnswer (look_lit s place m).found None → suits place s ≡ true
lit_suits s place m sound = suited place [] s refl (sound_node m (mismatch place [] s) None (nothing (inner m)) sound).0

field_suits : (replies : Bool) (found : Option FieldId) (place : Stand) (m : Mark) → IsAnswer (look_field replies found place m).found None
    → suits place (option_map (λ id. sort.Plain (field_kind id)) found) ≡ true
field_suits replies None place m sound = absurd cc
field_suits replies (Some id) place m sound =
    suited place [] (Some (sort.Plain (field_kind id))) refl (nil_right _ _ (sound_node m _ None (nothing (inner m)) sound).0)

part_suits : (causes : List TypeCause) (s : Option Sort) (of : Judge) (place : Stand) (m : Mark) → IsAnswer (look_part causes s of place m).found None
    → suits place s ≡ true
part_suits causes s of place m sound =
    let below = of.look stand.Part (inner m) in
    let (none, clean) = sound_node m (causes ++ mismatch place below.found s) None below sound in
    suited place below.found s clean (nil_right causes (mismatch place below.found s) none)

test_suits : (lists : List (List ℕ × Basic)) (t : Test) (s : Option Sort) (of : Judge) (place : Stand) (m : Mark)
    → IsAnswer (look_test lists t s of place m).found None → suits place s ≡ true
test_suits lists t s of place m sound =
    let below = of.look (test_stand place) (inner m) in
    let found = mismatch place below.found s in
    let (none, clean) = sound_node m (list_causes lists t ++ found ++ text_causes t) (test_pattern t) below sound in
    suited place below.found s clean (nil_right (list_causes lists t) found (nil_left (list_causes lists t ++ found) (text_causes t) none))

call_suits : (found : Option FunctionId) (args : List Judge) (place : Stand) (m : Mark) → IsAnswer (look_call found args place m).found None
    → suits place (option_and_then (λ id. call_sort id (literals_of args) (sorts_of args)) found) ≡ true
call_suits None args place m sound = absurd cc
call_suits (Some id) args place m sound =
    let below = look_all (first_stand id) args (inner_call id m) in
    let s = call_sort id (literals_of args) (sorts_of args) in
    let found = mismatch place below.found s in
    let replaced = where_so (is_regex_replace id && m.replaced) cause.Misplaced in
    let wild = wildcard_causes id (literals_of args) in
    let (none, clean) = sound_node m (replaced ++ found ++ wild) (call_pattern id (literals_of args)) below sound in
    suited place below.found s clean (nil_right replaced found (nil_left (replaced ++ found) wild none))

chain_suits : (members : List Judge) → Suits (chain_judge members)
chain_suits members place m sound =
    let below = look_all stand.Part members (inner m) in
    let s = chain_sort (sorts_of members) in
    let (none, clean) = sound_node m (mismatch place below.found s) None below sound in suited place below.found s clean none

step_suits : (lists : List (List ℕ × Basic)) (replies : Bool) (x : open_expr.Expr-F Judge) → Suits (judge_step lists replies x)
step_suits lists replies (open_expr.Lit l) place m sound = lit_suits (one (basic_of l)) place m sound
step_suits lists replies (open_expr.Field name) place m sound = field_suits replies (field_of_name name) place m sound
step_suits lists replies (open_expr.Call name args) place m sound = call_suits (function_of_name name) args place m sound
step_suits lists replies (open_expr.At of n) place m sound = part_suits [] _ of place m sound
step_suits lists replies (open_expr.Key of key) place m sound = part_suits [] _ of place m sound
step_suits lists replies (open_expr.Each of) place m sound = part_suits _ _ of place m sound
step_suits lists replies (open_expr.Test of t) place m sound = test_suits lists t _ of place m sound
step_suits lists replies (open_expr.Not of) place m sound = part_suits [] _ of place m sound
step_suits lists replies (open_expr.And members) place m sound = chain_suits members place m sound
step_suits lists replies (open_expr.Xor members) place m sound = chain_suits members place m sound
step_suits lists replies (open_expr.Or members) place m sound = chain_suits members place m sound

expr_suits : (lists : List (List ℕ × Basic)) (replies : Bool) (e : Expr) → Suits (judge_of lists replies e)
expr_suits lists replies = folds.ind-Expr (λ (e : Expr). Suits (judge_of lists replies e)) (λ x y is. rolled x) where
  rolled : (x : open_expr.Expr-F Expr) → Suits (judge_of lists replies (roll-Expr x))
  rolled x =
      subst Suits (sym (folds.fold-roll-Expr Judge (judge_step lists replies) x))
      (step_suits lists replies (folds.map-Expr Expr Judge (judge_of lists replies) x))

-- ---- the whole

-- what suits a whole expression is plain
never_each : (w : Want) (of : Basic) → ¬ (wanted w (sort.Each of) ≡ true)
never_each want.Anything of fits = let never : false ≡ true = fits in cc
never_each want.Truth of fits = let never : false ≡ true = fits in cc
never_each want.Text of fits = let never : false ≡ true = fits in cc
never_each want.Single of fits = let never : false ≡ true = fits in cc
never_each want.Nothing of fits = let never : false ≡ true = fits in cc

plain_of : (w : Want) (s : Option Sort) → suits (stand.Whole w) s ≡ true → (k : Kind) × (kind_of_sort s ≡ Some k)
plain_of w None fits = absurd cc
plain_of w (Some (sort.Plain k)) fits = (k, refl)
plain_of w (Some (sort.Each of)) fits = absurd (never_each w of fits)

pub kind_found : (lists : List (List ℕ × Basic)) (at : Place) (e : Expr) → IsAnswer (findings_of lists at e) None
    → (k : Kind) × (kind_at lists at e ≡ Some k)
kind_found lists at e sound = of_colo (is_colo at e) sound where
  of_colo : (colo : Bool)
      → IsAnswer (if colo then [] else ((judge_of lists (allows_reply at) e).look (stand.Whole (want_at at e)) start).found) None
      → (k : Kind) × ((if colo then Some (kind.One basic.Num) else kind_of_sort (judge_of lists (allows_reply at) e).sort) ≡ Some k)
  of_colo true clean = (kind.One basic.Num, refl)
  of_colo false clean =
      plain_of (want_at at e) (judge_of lists (allows_reply at) e).sort (expr_suits lists (allows_reply at) e (stand.Whole (want_at at e)) start clean)
