-- What the walk tells of a node, put together from what it tells of the parts.
use Rattle.std.proofs.Common.{◌≡◌, ℕ, Bool, true, false, not, ◌&&◌, inl, inr, List, [], ◌∷◌, ◌++◌, Option, None, Some, Result, Ok, Err, refl, sym, ap, subst, ◌∙◌}
use Rattle.std.specs.Option.{option_map}
use Rattle.edge_base.specs.declared.expression.Test.{Test}
use Rattle.edge_base.specs.declared.expression.Expr.{Expr}
use Rattle.edge_base.specs.declared.expression.Expr.TheVariants as expr
use Rattle.edge_base.specs.declared.expression.Expr.TheOpen as open_expr
use Rattle.edge_fields.specs.declared.kind.Basic.{Basic}
use Rattle.edge_fields.specs.declared.kind.Kind.{Kind}
use Rattle.edge_fields.specs.declared.field_id.FieldId.{FieldId}
use Rattle.edge_fields.specs.Names.{field_kind, is_response}
use Rattle.type_check.specs.declared.fault.Fault.{Fault}
use Rattle.type_check.specs.declared.fault.TypeCause.{TypeCause}
use Rattle.type_check.specs.declared.fault.TypeCause.TheVariants as cause
use Rattle.type_check.specs.declared.fault.TypeFault.{TypeFault}
use Rattle.type_check.specs.declared.judging.Judged.{Judged}
use Rattle.type_check.specs.declared.node.Node.{Node}
use Rattle.type_check.specs.declared.node.Node.TheVariants as node
use Rattle.type_check.specs.declared.sort.Mark.{Mark}
use Rattle.type_check.specs.declared.sort.Sort.{Sort}
use Rattle.type_check.specs.declared.sort.Sort.TheVariants as sort
use Rattle.type_check.specs.declared.sort.Stand.{Stand}
use Rattle.type_check.specs.Checking.{Report, Judge, judge, judge_of, judge_step, is_clean, reported, nothing, mismatch, response_causes, look_field, look_test, test_pattern, IsAnswer}
use Rattle.type_check.specs.Judging.{Makes, Told, IsFaulty, Tells, IsAround, IsTestNode}
use Rattle.type_check.specs.NamesFound.{field_of_name}
use Rattle.type_check.specs.Sorts.{suits, test_stand, inner}
use Rattle.type_check.specs.TestKinds.{head_of, where_so, list_causes, text_causes, test_sort}
use Rattle.type_check.specs.Trees.{tree_of, are_placed}
use Rattle.type_check.proofs.NamesLemmas.{named_field}
use Rattle.type_check.proofs.NodeTrees.{tree-field, tree-test}
use Rattle.type_check.proofs.PlacedLemmas.{placed-field, placed-test}
use Rattle.type_check.proofs.WalkLemmas.{own_cause, own_refused, own_built, clean-reported, mark-reported, mismatch-suited, mismatch-unsuited, mismatch-faulty, at}

pub head-none : (causes : List TypeCause) → head_of causes ≡ None → causes ≡ []
head-none [] h = refl
head-none (c ∷ causes) h = absurd cc

module _ (lists : List (List ℕ × Basic)) where
  -- ---- a node around its parts

  pub around_tells : (k : Judge) (e : Expr) (place : Stand) (m : Mark) (below : Report) (s : Option Sort) (made : Result Node Fault) (end : Mark) (answer : Result Judged TypeFault)
      → k.look place m ≡ reported m (mismatch place below.found s) None below → s ≡ k.sort → is_clean below.found ≡ true → end ≡ below.mark
      → Makes lists below.found e made → IsAround s made place m end answer → Tells lists k e place m answer
  around_tells k e place m below s made end (Ok told) look is_sort clean mark makes around =
      let report : k.look place m ≡ below = look ∙ ap (λ causes. reported m causes None below) (mismatch-suited place below.found s around.0) in
      record {
        clean = ap (λ (r : Report). is_clean r.found) report ∙ clean;
        suited = ap (suits place) around.1 ∙ around.0;
        sort = around.1 ∙ is_sort;
        mark = around.3 ∙ mark ∙ sym (ap (λ (r : Report). r.mark) report);
        node = subst (λ n. Makes lists (k.look place m).found e n) (sym around.2) (subst (λ (r : Report). Makes lists r.found e made) (sym report) makes);
      }
  around_tells k e place m below s made end (Err f) look is_sort clean mark makes around =
      let own = own_cause m (mismatch place below.found s) None below cause.Mismatch (ap head_of (mismatch-unsuited place below.found s clean around.0)) in
      subst (λ g. Tells lists k e place m (Err g)) (sym around.1) (subst (λ (r : Report). IsFaulty r.found (at m cause.Mismatch)) (sym look) own)

  pub around_faulty : (k : Judge) (place : Stand) (m : Mark) (below : Report) (s : Option Sort) (f : Fault)
      → k.look place m ≡ reported m (mismatch place below.found s) None below → IsFaulty below.found f → IsFaulty (k.look place m).found f
  around_faulty k place m below s f look h =
      subst (λ (r : Report). IsFaulty r.found f) (sym (look ∙ ap (λ causes. reported m causes None below) (mismatch-faulty place below.found s h.faulty))) h

  -- ---- fields

  pub field_told : (replies : Bool) (name : List ℕ) (id : FieldId) (place : Stand) (m end : Mark) (k : Kind) (n : Node)
      → field_of_name name ≡ Some id → (is_response id && not replies) ≡ false → k ≡ field_kind id → suits place (Some (sort.Plain k)) ≡ true → end ≡ inner m → n ≡ node.Field id
      → Told lists (judge_step lists replies (open_expr.Field name)) (expr.Field name) place (look_field replies (field_of_name name) place m)
      (record { sort = Some (sort.Plain k); node = Ok n; mark = end })
  field_told replies name id place m end k n found given is_kind suited is_end is_node =
      let rc : response_causes replies id ≡ [] = ap (λ so. where_so so cause.ResponseField) given in
      let mm : mismatch place [] (Some (sort.Plain (field_kind id))) ≡ [] = mismatch-suited place [] (Some (sort.Plain (field_kind id))) (ap (λ kind. suits place (Some (sort.Plain kind))) (sym is_kind) ∙ suited) in
      let report : look_field replies (field_of_name name) place m ≡ nothing (inner m)
      = ap (λ o. look_field replies o place m) found ∙ (λ i. reported m (rc i ++ mm i) None (nothing (inner m))) in
      record {
        clean = ap (λ (r : Report). is_clean r.found) report;
        suited = suited;
        sort = ap (λ kind. Some (sort.Plain kind)) is_kind ∙ sym (ap (option_map (λ x. sort.Plain (field_kind x))) found);
        mark = is_end ∙ sym (ap (λ (r : Report). r.mark) report);
        node = subst (λ (r : Report). Makes lists r.found (expr.Field name) (Ok n)) (sym report)
            (refl, ap tree_of is_node ∙ tree-field id ∙ ap expr.Field (named_field name id found), ap (are_placed lists) is_node ∙ placed-field lists id);
      }

  -- ---- tests

  module _ (t : Test) (j : Judge) (place : Stand) (m : Mark) where
    abbrev below : Report
    below = j.look (test_stand place) (inner m)

    abbrev look : Report
    look = look_test lists t (test_sort lists t j.sort) j place m

    tested_report : list_causes lists t ≡ [] → mismatch place below.found (test_sort lists t j.sort) ≡ [] → look ≡ reported m (text_causes t) (test_pattern t) below
    tested_report listed mm = λ i. reported m (listed i ++ mm i ++ text_causes t) (test_pattern t) below

    pub tested_own : (c : TypeCause) → list_causes lists t ≡ [] → mismatch place below.found (test_sort lists t j.sort) ≡ [] → head_of (text_causes t) ≡ Some c → IsFaulty look.found (at m c)
    tested_own c listed mm own = subst (λ (r : Report). IsFaulty r.found (at m c)) (sym (tested_report listed mm)) (own_cause m (text_causes t) (test_pattern t) below c own)

    pub tested_clean : list_causes lists t ≡ [] → mismatch place below.found (test_sort lists t j.sort) ≡ [] → head_of (text_causes t) ≡ None → look ≡ reported m [] (test_pattern t) below
    tested_clean listed mm own = tested_report listed mm ∙ ap (λ causes. reported m causes (test_pattern t) below) (head-none (text_causes t) own)

    pub test_makes : (e : Expr) (of made : Result Node Fault) → Makes lists below.found e of → IsTestNode lists t of m made → Makes lists (reported m [] (test_pattern t) below).found (expr.Test e t) made
    test_makes e of (Ok n) makes own =
        let b = own.1.2 in let inside = subst (Makes lists below.found e) own.1.1 makes in (
          own_built m (test_pattern t) below None own.0 inside.0,
          ap tree_of b.3 ∙ tree-test own.1.0 b.0 ∙ (λ i. expr.Test (inside.1 i) (b.1 i)),
          ap (are_placed lists) b.3 ∙ placed-test lists own.1.0 b.0 ∙ (λ i. inside.2 i && b.2 i),
        )
    test_makes e of (Err refused) makes (inl own) =
        subst (λ f. IsAnswer (reported m [] (test_pattern t) below).found (Some f)) (sym own.2) (own_refused m (test_pattern t) below own.0 own.1)
    test_makes e of (Err refused) makes (inr own) = own_built m (test_pattern t) below (Some refused) own.0 (subst (Makes lists below.found e) own.1 makes)

    pub tested_told : (e : Expr) (s : Option Sort) (of made : Result Node Fault) (end : Mark) → list_causes lists t ≡ [] → suits place s ≡ true → s ≡ test_sort lists t j.sort → head_of (text_causes t) ≡ None
        → is_clean below.found ≡ true → end ≡ below.mark → Makes lists below.found e of → IsTestNode lists t of m made
        → Told lists (judge (test_sort lists t j.sort) (look_test lists t (test_sort lists t j.sort) j)) (expr.Test e t) place look (record { sort = s; node = made; mark = end })
    tested_told e s of made end listed suited is_sort own clean is_end makes node =
        let report = tested_clean listed (mismatch-suited place below.found (test_sort lists t j.sort) (ap (suits place) (sym is_sort) ∙ suited)) own in
        record {
          clean = ap (λ (r : Report). is_clean r.found) report ∙ clean-reported m (test_pattern t) below ∙ clean;
          suited = suited;
          sort = is_sort;
          mark = is_end ∙ sym (mark-reported m [] (test_pattern t) below) ∙ sym (ap (λ (r : Report). r.mark) report);
          node = subst (λ (r : Report). Makes lists r.found (expr.Test e t) made) (sym report) (test_makes e of made makes node);
        }

-- what is told of an expression, by its form
pub told_as : (lists : List (List ℕ × Basic)) (replies : Bool) (e form : Expr) (k : Judge) (place : Stand) (m : Mark) (answer : Result Judged TypeFault)
    → e ≡ form → judge_of lists replies form ≡ k → Tells lists k form place m answer → Tells lists (judge_of lists replies e) e place m answer
told_as lists replies e form k place m answer is judged h =
    subst (λ x. Tells lists (judge_of lists replies x) x place m answer) (sym is) (subst (λ j. Tells lists j form place m answer) (sym judged) h)
