-- The walk over expressions in a row: what was found so far, and what the rest will add.
use Rattle.std.proofs.Common.{◌≡◌, ℕ, zero, suc, ◌+◌, ◌<◌, Bool, true, false, ◌&&◌, List, [], ◌∷◌, ◌++◌, map, length, take, drop, get_or, Option, None, Some, Result, Ok, Err, refl, sym, ap, subst, ◌∙◌, arith, append_assoc, append-nil}
use Rattle.std.proofs.lemmas.List.{map-append, take_more}
use native.Mathlib.Numerals.{unary_clauses}
use Rattle.std.specs.List.{list_all}
use Rattle.std.specs.Option.{option_or}
use Rattle.edge_base.specs.declared.expression.Expr.{Expr}
use Rattle.edge_fields.specs.declared.kind.Basic.{Basic}
use Rattle.type_check.specs.declared.fault.Fault.{Fault}
use Rattle.type_check.specs.declared.fault.TypeCause.{TypeCause}
use Rattle.type_check.specs.declared.fault.TypeFault.{TypeFault}
use Rattle.type_check.specs.declared.fault.TypeFault.TheVariants as fault
use Rattle.type_check.specs.declared.judging.Gathered.{Gathered}
use Rattle.type_check.specs.declared.judging.Judged.{Judged}
use Rattle.type_check.specs.declared.judging.JudgedAll.{JudgedAll}
use Rattle.type_check.specs.declared.node.Node.{Node}
use Rattle.type_check.specs.declared.sort.Mark.{Mark}
use Rattle.type_check.specs.declared.sort.Stand.{Stand}
use Rattle.type_check.specs.declared.sort.Stand.TheVariants as stand
use Rattle.type_check.specs.Checking.{Finding, Report, Judge, judge_of, is_clean, look_all, sorts_of, IsAnswer}
use Rattle.type_check.specs.Judging.{Makes, Told, IsFaulty, Tells, MakesAll, TellsAll, Gathers, before_fault, refusal_of, nodes_of, made_of, IsEnd}
use Rattle.type_check.specs.Trees.{tree_of, are_placed}
use Rattle.type_check.proofs.WalkLemmas.{answer-front, answer-behind, clean-append, unclean-front}

-- what was found first, and then what a report has
abbrev pub onto : List Finding → Report → Report
onto found report = record { found = found ++ report.found; mark = report.mark }

pub record SoFar (lists : List (List ℕ × Basic)) (replies : Bool) (es : List Expr) (first : Stand) (m : Mark) (i : ℕ) (all : Gathered) : Type 0 where
  pub found : List Finding
  pub clean : is_clean found ≡ true
  pub report : look_all first (map (judge_of lists replies) es) m ≡ onto found (look_all all.stand (map (judge_of lists replies) (drop i es)) all.mark)
  pub sorts : all.sorts.items ≡ sorts_of (map (judge_of lists replies) (take i es))
  pub answer : IsAnswer found all.refused
  pub nodes : all.refused ≡ None → (map tree_of all.nodes ≡ take i es) × (list_all (are_placed lists) all.nodes ≡ true)

drop_cons : {A : Type 0} (xs : List A) (i : ℕ) (d : A) → i < length xs → drop i xs ≡ get_or xs i d ∷ drop (i + 1) xs
drop_cons [] i d below = absurd (omega arith)
drop_cons (x ∷ xs) zero d below = refl
drop_cons (x ∷ xs) (suc i) d below =
    let more : i + 1 ≡ suc i = omega arith in
    simp unary_clauses (drop_cons xs i d (omega arith) ∙ ap (λ n. get_or xs i d ∷ drop n xs) more)

drop_all : {A : Type 0} (xs : List A) → drop (length xs) xs ≡ []
drop_all [] = refl
drop_all (x ∷ xs) = drop_all xs

take_all : {A : Type 0} (xs : List A) → take (length xs) xs ≡ xs
take_all [] = refl
take_all (x ∷ xs) = ap (λ rest. x ∷ rest) (take_all xs)

list_all-first : (b some all : Bool) → (b && some) ≡ true → (some ≡ true → all ≡ true) → (b && all) ≡ true
list_all-first true some all h further = further h
list_all-first false some all h further = h

list_all-append : {A : Type 0} (p : A → Bool) (xs ys : List A) → list_all p xs ≡ true → list_all p ys ≡ true → list_all p (xs ++ ys) ≡ true
list_all-append p [] ys h k = k
list_all-append p (x ∷ xs) ys h k = list_all-first (p x) (list_all p xs) (list_all p (xs ++ ys)) h (λ more. list_all-append p xs ys more k)

module _ (lists : List (List ℕ × Basic)) (replies : Bool) (es : List Expr) (first : Stand) (m : Mark) where
  abbrev j : Expr → Judge
  j = judge_of lists replies

  pub none_so_far : (all : Gathered) → all.sorts.items ≡ [] → all.nodes ≡ [] → all.refused ≡ None → all.stand ≡ first → all.mark ≡ m → SoFar lists replies es first m 0 all
  none_so_far all sorts nodes refused is_stand is_mark = record {
    found = [];
    clean = refl;
    report = λ i. look_all (sym is_stand i) (map j es) (sym is_mark i);
    sorts = sorts;
    answer = refused;
    nodes = λ _. (ap (map tree_of) nodes, ap (list_all (are_placed lists)) nodes);
  }

  module _ (i : ℕ) (all : Gathered) (e : Expr) (below : i < length es) (is : e ≡ get_or es i e) (so_far : SoFar lists replies es first m i all) where
    here : drop i es ≡ e ∷ drop (i + 1) es
    here = drop_cons es i e below ∙ ap (λ x. x ∷ drop (i + 1) es) (sym is)

    abbrev at_e : Report
    at_e = (j e).look all.stand all.mark

    abbrev rest : Mark → Report
    rest mark = look_all stand.Part (map j (drop (i + 1) es)) mark

    whole : look_all first (map j es) m ≡ onto (so_far.found ++ at_e.found) (rest at_e.mark)
    whole = so_far.report ∙ ap (λ xs. onto so_far.found (look_all all.stand (map j xs) all.mark)) here
        ∙ ap (λ found. record { found = found; mark = (rest at_e.mark).mark }) (sym (append_assoc so_far.found at_e.found (rest at_e.mark).found))

    -- the answer behind what was found
    answer_more : (refused : Option Fault) (found : List Finding) (more : List Finding) (made : Result Node Fault) → IsAnswer found refused → Makes lists more e made → IsAnswer (found ++ more) (option_or refused (refusal_of made))
    answer_more (Some f) found more made h makes = answer-front found more f h
    answer_more None found more (Ok n) h makes = answer-behind found more None h makes.0
    answer_more None found more (Err f) h makes = answer-behind found more (Some f) h makes

    nodes_more : (refused : Option Fault) (nodes : List Node) (made : Result Node Fault) → (refused ≡ None → (map tree_of nodes ≡ take i es) × (list_all (are_placed lists) nodes ≡ true)) → Makes lists at_e.found e made
        → option_or refused (refusal_of made) ≡ None → (map tree_of (nodes ++ nodes_of made) ≡ take (i + 1) es) × (list_all (are_placed lists) (nodes ++ nodes_of made) ≡ true)
    nodes_more (Some f) nodes made h makes none = absurd cc
    nodes_more None nodes (Err f) h makes none = absurd cc
    nodes_more None nodes (Ok n) h makes none =
        let before = h refl in (
          map-append tree_of nodes (n ∷ []) ∙ (λ t. before.0 t ++ makes.1 t ∷ []) ∙ ap (λ x. take i es ++ x ∷ []) is ∙ sym (take_more es i e below),
          list_all-append (are_placed lists) nodes (n ∷ []) before.1 (ap (λ b. b && true) makes.2),
        )

    pub one_more : (told : Judged) (after : Gathered) → Told lists (j e) e all.stand at_e told → Gathers all told after → SoFar lists replies es first m (i + 1) after
    one_more told after tells gathers = record {
      found = so_far.found ++ at_e.found;
      clean = clean-append so_far.found at_e.found so_far.clean ∙ tells.clean;
      report = whole ∙ (λ t. onto (so_far.found ++ at_e.found) (look_all (sym gathers.stand t) (map j (drop (i + 1) es)) (sym (gathers.mark ∙ tells.mark) t)));
      sorts = gathers.sorts ∙ (λ t. so_far.sorts t ++ tells.sort t ∷ [])
          ∙ sym (ap (λ xs. sorts_of (map j xs)) (take_more es i e below ∙ ap (λ x. take i es ++ x ∷ []) (sym is))
          ∙ ap sorts_of (map-append j (take i es) (e ∷ [])) ∙ map-append (λ (k : Judge). k.sort) (map j (take i es)) (j e ∷ []));
      answer = subst (IsAnswer (so_far.found ++ at_e.found)) (sym gathers.refused) (answer_more all.refused so_far.found at_e.found told.node so_far.answer tells.node);
      nodes = λ none. subst (λ ns. (map tree_of ns ≡ take (i + 1) es) × (list_all (are_placed lists) ns ≡ true)) (sym gathers.nodes)
          (nodes_more all.refused all.nodes told.node so_far.nodes tells.node (sym gathers.refused ∙ none));
    }

    whole_found : (look_all first (map j es) m).found ≡ (so_far.found ++ at_e.found) ++ (rest at_e.mark).found
    whole_found = ap (λ (r : Report). r.found) whole

    faulty_all : is_clean at_e.found ≡ false → is_clean ((so_far.found ++ at_e.found) ++ (rest at_e.mark).found) ≡ false
    faulty_all faulty = unclean-front (so_far.found ++ at_e.found) (rest at_e.mark).found (clean-append so_far.found at_e.found so_far.clean ∙ faulty)

    fault_before : (refused : Option Fault) (n : ℕ) (c : TypeCause) (answer : TypeFault) → IsAnswer so_far.found refused → IsFaulty at_e.found (record { node = n; cause = c })
        → answer ≡ before_fault refused (fault.Bad n c) → TellsAll lists replies es first m (Err answer)
    fault_before (Some f) n c answer h faulty is =
        subst (λ a. TellsAll lists replies es first m (Err a)) (sym is)
        (subst (λ found. IsFaulty found f) (sym whole_found)
        (record { faulty = faulty_all faulty.faulty; is_answer = answer-front (so_far.found ++ at_e.found) (rest at_e.mark).found f (answer-front so_far.found at_e.found f h) }))
    fault_before None n c answer h faulty is =
        subst (λ a. TellsAll lists replies es first m (Err a)) (sym is)
        (subst (λ found. IsFaulty found (record { node = n; cause = c })) (sym whole_found)
        (record { faulty = faulty_all faulty.faulty; is_answer = answer-front (so_far.found ++ at_e.found) (rest at_e.mark).found (record { node = n; cause = c }) (answer-behind so_far.found at_e.found (Some (record { node = n; cause = c })) h faulty.is_answer) }))

    memory_before : (refused : Option Fault) (answer : TypeFault) → answer ≡ before_fault refused fault.Memory → TellsAll lists replies es first m (Err answer)
    memory_before None answer is = subst (λ a. TellsAll lists replies es first m (Err a)) (sym is) tt
    memory_before (Some f) answer is = subst (λ a. TellsAll lists replies es first m (Err a)) (sym is) tt

    pub fault_here : (f answer : TypeFault) → Tells lists (j e) e all.stand all.mark (Err f) → answer ≡ before_fault all.refused f → TellsAll lists replies es first m (Err answer)
    fault_here (fault.Bad n c) answer tells is = fault_before all.refused n c answer so_far.answer tells is
    fault_here fault.Memory answer tells is = memory_before all.refused answer is

  all_made : (refused : Option Fault) (found : List Finding) (nodes : List Node) → IsAnswer found refused → (refused ≡ None → (map tree_of nodes ≡ es) × (list_all (are_placed lists) nodes ≡ true)) → MakesAll lists found es (made_of refused nodes)
  all_made None found nodes h made = (h, (made refl).0, (made refl).1)
  all_made (Some f) found nodes h made = h

  pub all_told : (all : Gathered) (told : JudgedAll) → SoFar lists replies es first m (length es) all → IsEnd all told → TellsAll lists replies es first m (Ok told)
  all_told all told so_far end =
      let whole : look_all first (map j es) m ≡ record { found = so_far.found; mark = all.mark }
      = so_far.report ∙ ap (λ xs. onto so_far.found (look_all all.stand (map j xs) all.mark)) (drop_all es)
      ∙ ap (λ found. record { found = found; mark = all.mark }) (append-nil so_far.found) in
      record {
        clean = ap (λ (r : Report). is_clean r.found) whole ∙ so_far.clean;
        sorts = end.sorts ∙ so_far.sorts ∙ ap (λ xs. sorts_of (map j xs)) (take_all es);
        mark = end.mark ∙ sym (ap (λ (r : Report). r.mark) whole);
        nodes = subst (λ found. MakesAll lists found es told.nodes) (sym (ap (λ (r : Report). r.found) whole))
            (subst (MakesAll lists so_far.found es) (sym end.nodes)
            (all_made all.refused so_far.found all.nodes so_far.answer (λ none. let made = so_far.nodes none in (made.0 ∙ take_all es, made.1))));
      }
