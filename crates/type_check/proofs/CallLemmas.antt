-- What the walk tells of calls, tests and chains, put together from what it tells of the parts.
use Rattle.std.proofs.Common.{◌≡◌, ℕ, Bool, true, false, ◌&&◌, inl, inr, List, [], ◌∷◌, ◌++◌, map, Option, None, Some, Result, Ok, Err, refl, sym, ap, subst, ◌∙◌}
use Rattle.std.specs.Option.{option_and_then}
use Rattle.edge_base.specs.declared.expression.Expr.{Expr}
use Rattle.edge_base.specs.declared.expression.Expr.TheVariants as expr
use Rattle.edge_base.specs.declared.expression.Expr.TheOpen as open_expr
use Rattle.edge_base.specs.declared.expression.Lit.{Lit}
use Rattle.edge_base.specs.declared.expression.Test.{Test}
use Rattle.edge_fields.specs.declared.kind.Basic.{Basic}
use Rattle.edge_fields.specs.declared.function_id.FunctionId.{FunctionId}
use Rattle.type_check.specs.declared.fault.Fault.{Fault}
use Rattle.type_check.specs.declared.fault.TypeCause.{TypeCause}
use Rattle.type_check.specs.declared.fault.TypeCause.TheVariants as cause
use Rattle.type_check.specs.declared.fault.TypeFault.{TypeFault}
use Rattle.type_check.specs.declared.fault.TypeFault.TheVariants as fault
use Rattle.type_check.specs.declared.judging.Chain.{Chain}
use Rattle.type_check.specs.declared.judging.Judged.{Judged}
use Rattle.type_check.specs.declared.judging.JudgedAll.{JudgedAll}
use Rattle.type_check.specs.declared.node.Node.{Node}
use Rattle.type_check.specs.declared.node.Node.TheVariants as node
use Rattle.type_check.specs.declared.sort.Mark.{Mark}
use Rattle.type_check.specs.declared.sort.Sort.{Sort}
use Rattle.type_check.specs.declared.sort.Stand.{Stand}
use Rattle.type_check.specs.declared.sort.Stand.TheVariants as stand
use Rattle.type_check.specs.Building.{IsRefusedOrNot}
use Rattle.type_check.specs.Checking.{Finding, Report, Judge, judge, judge_of, judge_step, chain_judge, is_clean, reported, mismatch, look_all, look_call, look_test, literals_of, sorts_of, literal_of, call_sort, chain_sort, call_pattern, wildcard_causes, inner_call, is_regex_replace, test_pattern, unpacked_causes, IsAnswer}
use Rattle.type_check.specs.Judging.{Makes, Told, IsFaulty, Tells, MakesAll, ToldAll, TellsAll, IsAround, IsBeforeParts, or_parts, IsCallNode, IsCalled, IsTested, IsChainNode, around_node, chain_expr}
use Rattle.type_check.specs.NamesFound.{function_of_name}
use Rattle.type_check.specs.Sorts.{suits, first_stand, test_stand, unpacked_sort, inner}
use Rattle.type_check.specs.TestKinds.{head_of, where_so, list_causes, text_causes, test_sort}
use Rattle.type_check.specs.Trees.{tree_of, are_placed}
use Rattle.type_check.proofs.JudgeForms.{literals-judge}
use Rattle.type_check.proofs.NamesLemmas.{named_function}
use Rattle.type_check.proofs.NodeTrees.{tree-call, tree-each}
use Rattle.type_check.proofs.PlacedLemmas.{placed-call, placed-each}
use Rattle.type_check.proofs.ToldLemmas.{around_tells, head-none, tested_own, tested_told}
use Rattle.type_check.proofs.WalkLemmas.{own_cause, own_refused, own_built, clean-reported, mark-reported, mismatch-suited, mismatch-unsuited, mismatch-faulty, at}

module _ (lists : List (List ℕ × Basic)) where
  -- a tree around another is that of an expression around another
  pub makes-around : (found : List Finding) (e : Expr) (wrap : Node → Node) (shape : Expr → Expr) (of made : Result Node Fault)
      → ((n : Node) → tree_of (wrap n) ≡ shape (tree_of n)) → ((n : Node) → are_placed lists (wrap n) ≡ are_placed lists n)
      → Makes lists found e of → made ≡ around_node wrap of → Makes lists found (shape e) made
  makes-around found e wrap shape (Ok n) made tree placed h is =
      subst (Makes lists found (shape e)) (sym is) (h.0, tree n ∙ ap shape h.1, placed n ∙ h.2)
  makes-around found e wrap shape (Err refused) made tree placed h is = subst (Makes lists found (shape e)) (sym is) h

  -- ---- faulty parts

  module _ (k : Judge) (e : Expr) (place : Stand) (m : Mark) (pat : Option (List ℕ)) (below : Report) where
    refused_tells : (n : ℕ) (d : TypeCause) (refused : Option TypeCause) → k.look place m ≡ reported m [] pat below → IsFaulty below.found (record { node = n; cause = d }) → IsRefusedOrNot pat refused
        → Tells lists k e place m (Err (or_parts m refused (fault.Bad n d)))
    refused_tells n d None look h built =
        subst (λ (r : Report). IsFaulty r.found (record { node = n; cause = d })) (sym look)
        (record { faulty = clean-reported m pat below ∙ h.faulty; is_answer = own_built m pat below (Some (record { node = n; cause = d })) built h.is_answer })
    refused_tells n d (Some c) look h refused =
        subst (λ (r : Report). IsFaulty r.found (at m c)) (sym look)
        (record { faulty = clean-reported m pat below ∙ h.faulty; is_answer = own_refused m pat below c refused })

    pub before_tells : (causes : List TypeCause) (n : ℕ) (d : TypeCause) (answer : TypeFault) → k.look place m ≡ reported m causes pat below
        → IsFaulty below.found (record { node = n; cause = d }) → IsBeforeParts (head_of causes) pat m (fault.Bad n d) answer → Tells lists k e place m (Err answer)
    before_tells (c ∷ causes) n d answer look h is =
        subst (λ a. Tells lists k e place m (Err a)) (sym is)
        (subst (λ (r : Report). IsFaulty r.found (at m c)) (sym look) (own_cause m (c ∷ causes) pat below c refl))
    before_tells [] n d answer look h (inl memory) = subst (λ a. Tells lists k e place m (Err a)) (sym memory) tt
    before_tells [] n d answer look h (inr is) =
        subst (λ a. Tells lists k e place m (Err a)) (sym is.2) (refused_tells n d is.0 look h is.1)

  -- ---- tests whose operand is faulty

  pub tested_before : (t : Test) (j : Judge) (e : Expr) (place : Stand) (m : Mark) (parts answer : TypeFault) → list_causes lists t ≡ [] → Tells lists j e (test_stand place) (inner m) (Err parts)
      → IsBeforeParts (head_of (text_causes t)) (test_pattern t) m parts answer
      → Tells lists (judge (test_sort lists t j.sort) (look_test lists t (test_sort lists t j.sort) j)) (expr.Test e t) place m (Err answer)
  tested_before t j e place m fault.Memory answer listed tells is = subst (λ a. Tells lists (judge (test_sort lists t j.sort) (look_test lists t (test_sort lists t j.sort) j)) (expr.Test e t) place m (Err a)) (sym is) tt
  tested_before t j e place m (fault.Bad n d) answer listed tells is =
      let below = j.look (test_stand place) (inner m) in
      let mm = mismatch-faulty place below.found (test_sort lists t j.sort) tells.faulty in
      before_tells (judge (test_sort lists t j.sort) (look_test lists t (test_sort lists t j.sort) j)) (expr.Test e t) place m (test_pattern t) below (text_causes t) n d answer
      (λ i. reported m (listed i ++ mm i ++ text_causes t) (test_pattern t) below) tells is

  module _ (t : Test) (j : Judge) (e : Expr) (place : Stand) (m : Mark) where
    abbrev tk : Judge
    tk = judge (test_sort lists t j.sort) (look_test lists t (test_sort lists t j.sort) j)

    abbrev under : Report
    under = j.look (test_stand place) (inner m)

    pub test_tells : (of answer : Result Judged TypeFault) → list_causes lists t ≡ [] → Tells lists j e (test_stand place) (inner m) of → IsTested lists t of place m answer → Tells lists tk (expr.Test e t) place m answer
    test_tells (Ok of) (Ok told) listed tells is =
        subst (λ x. Told lists tk (expr.Test e t) place (tk.look place m) x) (λ i. record { sort = sym is.2 i; node = told.node; mark = sym is.3 i })
        (tested_told lists t j place m e (test_sort lists t of.sort) of.node told.node of.mark listed is.0 (ap (test_sort lists t) tells.sort) is.1 tells.clean tells.mark tells.node is.4)
    test_tells (Ok of) (Err fault.Memory) listed tells is = tt
    test_tells (Ok of) (Err (fault.Bad n c)) listed tells (is_node, inl unsuited) =
        let s_is : test_sort lists t of.sort ≡ test_sort lists t j.sort = ap (test_sort lists t) tells.sort in
        let mm = mismatch-unsuited place under.found (test_sort lists t j.sort) tells.clean (ap (suits place) (sym s_is) ∙ unsuited.0) in
        let report : tk.look place m ≡ reported m (cause.Mismatch ∷ text_causes t) (test_pattern t) under
        = λ i. reported m (listed i ++ mm i ++ text_causes t) (test_pattern t) under in
        subst (λ node. IsFaulty (tk.look place m).found (record { node = node; cause = c })) (sym is_node)
        (subst (λ (r : Report). IsFaulty r.found (at m c)) (sym report) (own_cause m (cause.Mismatch ∷ text_causes t) (test_pattern t) under c (ap Some (sym unsuited.1))))
    test_tells (Ok of) (Err (fault.Bad n c)) listed tells (is_node, inr suited) =
        let s_is : test_sort lists t of.sort ≡ test_sort lists t j.sort = ap (test_sort lists t) tells.sort in
        let mm = mismatch-suited place under.found (test_sort lists t j.sort) (ap (suits place) (sym s_is) ∙ suited.0) in
        subst (λ node. IsFaulty (tk.look place m).found (record { node = node; cause = c })) (sym is_node)
        (tested_own lists t j place m c listed mm suited.1)
    test_tells (Err parts) (Ok told) listed tells is = absurd is
    test_tells (Err parts) (Err answer) listed tells (inl is) = subst (λ a. Tells lists tk (expr.Test e t) place m (Err a)) (sym is) tt
    test_tells (Err parts) (Err answer) listed tells (inr is) = tested_before t j e place m parts answer listed tells is

  -- ---- calls

  module _ (replies : Bool) (name : List ℕ) (id : FunctionId) (args : List Expr) (place : Stand) (m : Mark) where
    abbrev js : List Judge
    js = map (judge_of lists replies) args

    abbrev lits : List (Option Lit)
    lits = map literal_of args

    abbrev below : Report
    below = look_all (first_stand id) js (inner_call id m)

    abbrev k : Judge
    k = judge_step lists replies (open_expr.Call name js)

    abbrev s : Option Sort
    s = call_sort id lits (sorts_of js)

    call_report : function_of_name name ≡ Some id → (is_regex_replace id && m.replaced) ≡ false
        → k.look place m ≡ reported m (mismatch place below.found s ++ wildcard_causes id lits) (call_pattern id lits) below
    call_report found once =
        let same = literals-judge lists replies args in
        ap (λ o. look_call o js place m) found
        ∙ (λ i. reported m (where_so (once i) cause.Misplaced ++ mismatch place below.found (call_sort id (same i) (sorts_of js)) ++ wildcard_causes id (same i)) (call_pattern id (same i)) below)

    call_makes : (nodes : Result (List Node) Fault) (made : Result Node Fault) → function_of_name name ≡ Some id → MakesAll lists below.found args nodes → IsCallNode id (call_pattern id lits) nodes m made
        → Makes lists (reported m [] (call_pattern id lits) below).found (expr.Call name args) made
    call_makes nodes (Ok n) found makes own =
        let inside = subst (MakesAll lists below.found args) own.1.1 makes in (
          own_built m (call_pattern id lits) below None own.0 inside.0,
          ap tree_of own.1.2 ∙ tree-call id own.1.0 ∙ (λ i. expr.Call (named_function name id found i) (inside.1 i)),
          ap (are_placed lists) own.1.2 ∙ placed-call lists id own.1.0 ∙ inside.2,
        )
    call_makes nodes (Err refused) found makes (inl own) =
        subst (λ f. IsAnswer (reported m [] (call_pattern id lits) below).found (Some f)) (sym own.2) (own_refused m (call_pattern id lits) below own.0 own.1)
    call_makes nodes (Err refused) found makes (inr own) = own_built m (call_pattern id lits) below (Some refused) own.0 (subst (MakesAll lists below.found args) own.1 makes)

    sort_is : function_of_name name ≡ Some id → (all : JudgedAll) → all.sorts.items ≡ sorts_of js → call_sort id lits all.sorts.items ≡ k.sort
    sort_is found all sorts =
        ap (call_sort id lits) sorts ∙ ap (λ ls. call_sort id ls (sorts_of js)) (sym (literals-judge lists replies args))
        ∙ sym (ap (option_and_then (λ i. call_sort i (literals_of js) (sorts_of js))) found)

    pub call_tells : (all : Result JudgedAll TypeFault) (answer : Result Judged TypeFault) → function_of_name name ≡ Some id → (is_regex_replace id && m.replaced) ≡ false
        → TellsAll lists replies args (first_stand id) (inner_call id m) all → IsCalled id args all place m answer → Tells lists k (expr.Call name args) place m answer
    call_tells (Ok all) (Ok told) found once tells is =
        let suited : suits place s ≡ true = ap (λ sorts. suits place (call_sort id lits sorts)) (sym tells.sorts) ∙ is.0 in
        let mm = mismatch-suited place below.found s suited in
        let wc = head-none (wildcard_causes id lits) is.1 in
        let report : k.look place m ≡ reported m [] (call_pattern id lits) below
        = call_report found once ∙ (λ i. reported m (mm i ++ wc i) (call_pattern id lits) below) in
        record {
          clean = ap (λ (r : Report). is_clean r.found) report ∙ clean-reported m (call_pattern id lits) below ∙ tells.clean;
          suited = ap (suits place) is.2 ∙ is.0;
          sort = is.2 ∙ sort_is found all tells.sorts;
          mark = is.3 ∙ tells.mark ∙ sym (mark-reported m [] (call_pattern id lits) below) ∙ sym (ap (λ (r : Report). r.mark) report);
          node = subst (λ (r : Report). Makes lists r.found (expr.Call name args) told.node) (sym report) (call_makes all.nodes told.node found tells.nodes is.4);
        }
    call_tells (Ok all) (Err fault.Memory) found once tells is = tt
    call_tells (Ok all) (Err (fault.Bad n c)) found once tells (is_node, inl unsuited) =
        let s_is : call_sort id lits all.sorts.items ≡ s = ap (call_sort id lits) tells.sorts in
        let mm = mismatch-unsuited place below.found s tells.clean (ap (suits place) (sym s_is) ∙ unsuited.0) in
        let causes : head_of (mismatch place below.found s ++ wildcard_causes id lits) ≡ Some c = ap (λ front. head_of (front ++ wildcard_causes id lits)) mm ∙ ap Some (sym unsuited.1) in
        subst (λ node. IsFaulty (k.look place m).found (record { node = node; cause = c })) (sym is_node)
        (subst (λ (r : Report). IsFaulty r.found (at m c)) (sym (call_report found once)) (own_cause m (mismatch place below.found s ++ wildcard_causes id lits) (call_pattern id lits) below c causes))
    call_tells (Ok all) (Err (fault.Bad n c)) found once tells (is_node, inr suited) =
        let s_is : call_sort id lits all.sorts.items ≡ s = ap (call_sort id lits) tells.sorts in
        let mm = mismatch-suited place below.found s (ap (suits place) (sym s_is) ∙ suited.0) in
        let causes : head_of (mismatch place below.found s ++ wildcard_causes id lits) ≡ Some c = ap (λ front. head_of (front ++ wildcard_causes id lits)) mm ∙ suited.1 in
        subst (λ node. IsFaulty (k.look place m).found (record { node = node; cause = c })) (sym is_node)
        (subst (λ (r : Report). IsFaulty r.found (at m c)) (sym (call_report found once)) (own_cause m (mismatch place below.found s ++ wildcard_causes id lits) (call_pattern id lits) below c causes))
    call_tells (Err parts) (Ok told) found once tells is = absurd is
    call_tells (Err fault.Memory) (Err answer) found once tells (inl is) = subst (λ a. Tells lists k (expr.Call name args) place m (Err a)) (sym is) tt
    call_tells (Err fault.Memory) (Err answer) found once tells (inr is) = subst (λ a. Tells lists k (expr.Call name args) place m (Err a)) (sym is) tt
    call_tells (Err (fault.Bad n d)) (Err answer) found once tells (inl is) = subst (λ a. Tells lists k (expr.Call name args) place m (Err a)) (sym is) tt
    call_tells (Err (fault.Bad n d)) (Err answer) found once tells (inr is) =
        let mm = mismatch-faulty place below.found s tells.faulty in
        before_tells k (expr.Call name args) place m (call_pattern id lits) below (wildcard_causes id lits) n d answer
        (call_report found once ∙ (λ i. reported m (mm i ++ wildcard_causes id lits) (call_pattern id lits) below)) tells is

  -- ---- chains

  pub chain_makes : (found : List Finding) (c : Chain) (es : List Expr) (nodes : Result (List Node) Fault) (made : Result Node Fault) → MakesAll lists found es nodes → IsChainNode c nodes made → Makes lists found (chain_expr c es) made
  chain_makes found c es (Ok nodes) (Ok n) h is = (h.0, is.0 ∙ ap (chain_expr c) h.1, is.1 lists ∙ h.2)
  chain_makes found c es (Ok nodes) (Err f) h is = absurd is
  chain_makes found c es (Err f) (Ok n) h is = absurd is
  chain_makes found c es (Err f) (Err g) h is = subst (λ x. IsAnswer found (Some x)) (sym is) h

  pub chain_tells : (replies : Bool) (c : Chain) (es : List Expr) (place : Stand) (m : Mark) (told : JudgedAll) (s : Option Sort) (made : Result Node Fault) (answer : Result Judged TypeFault)
      → ToldAll lists (map (judge_of lists replies) es) es (look_all stand.Part (map (judge_of lists replies) es) (inner m)) told → s ≡ chain_sort told.sorts.items → IsChainNode c told.nodes made
      → IsAround s made place m told.mark answer → Tells lists (chain_judge (map (judge_of lists replies) es)) (chain_expr c es) place m answer
  chain_tells replies c es place m told s made answer tells is_sort is_made around =
      let below : Report = look_all stand.Part (map (judge_of lists replies) es) (inner m) in
      let s_is : s ≡ chain_sort (sorts_of (map (judge_of lists replies) es)) = is_sort ∙ ap chain_sort tells.sorts in
      around_tells lists (chain_judge (map (judge_of lists replies) es)) (chain_expr c es) place m below s made told.mark answer
      (ap (λ x. reported m (mismatch place below.found x) None below) (sym s_is)) s_is tells.clean tells.mark (chain_makes below.found c es told.nodes made tells.nodes is_made) around

  pub each_tells : (replies : Bool) (e : Expr) (place : Stand) (m : Mark) (told : Judged) (s : Option Sort) (made : Result Node Fault) (answer : Result Judged TypeFault)
      → unpacked_causes place ≡ [] → Told lists (judge_of lists replies e) e stand.Part ((judge_of lists replies e).look stand.Part (inner m)) told → s ≡ unpacked_sort told.sort → made ≡ around_node (λ n. node.Each n) told.node
      → IsAround s made place m told.mark answer → Tells lists (judge_step lists replies (open_expr.Each (judge_of lists replies e))) (expr.Each e) place m answer
  each_tells replies e place m told s made answer placed tells is_sort is_made around =
      let below : Report = (judge_of lists replies e).look stand.Part (inner m) in
      let s_is : s ≡ unpacked_sort (judge_of lists replies e).sort = is_sort ∙ ap unpacked_sort tells.sort in
      around_tells lists (judge_step lists replies (open_expr.Each (judge_of lists replies e))) (expr.Each e) place m below s made told.mark answer
      (ap (λ causes. reported m (causes ++ mismatch place below.found (unpacked_sort (judge_of lists replies e).sort)) None below) placed ∙ ap (λ x. reported m (mismatch place below.found x) None below) (sym s_is))
      s_is tells.clean tells.mark (makes-around below.found e (λ n. node.Each n) (λ x. expr.Each x) told.node made tree-each (placed-each lists) tells.node is_made) around

-- the same in other words
pub same_all : (lists : List (List ℕ × Basic)) (replies : Bool) (es fs : List Expr) (place other : Stand) (m n : Mark) (answer : Result JudgedAll TypeFault)
    → es ≡ fs → place ≡ other → m ≡ n → TellsAll lists replies es place m answer → TellsAll lists replies fs other n answer
same_all lists replies es fs place other m n answer a b c h =
    subst (λ x. TellsAll lists replies x other n answer) a (subst (λ x. TellsAll lists replies es x n answer) b (subst (λ x. TellsAll lists replies es place x answer) c h))

pub same_one : (lists : List (List ℕ × Basic)) (replies : Bool) (e f : Expr) (place other : Stand) (m n : Mark) (answer : Result Judged TypeFault)
    → e ≡ f → place ≡ other → m ≡ n → Tells lists (judge_of lists replies e) e place m answer → Tells lists (judge_of lists replies f) f other n answer
same_one lists replies e f place other m n answer a b c h =
    subst (λ x. Tells lists (judge_of lists replies x) x other n answer) a
    (subst (λ x. Tells lists (judge_of lists replies e) e x n answer) b (subst (λ x. Tells lists (judge_of lists replies e) e place x answer) c h))
