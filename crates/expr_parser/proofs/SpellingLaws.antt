-- How a tree is spelled, by its node.
use Rattle.std.proofs.Common.{◌≡◌, ℕ, zero, suc, ◌+◌, ◌<◌, ◌≤◌, arith, ◌==◌, ◌||◌, cond, ℤ, List, [], ◌∷◌, ◌++◌, length, take, get_or, map, refl, ap, ◌∙◌, sym, nat_lt, append_assoc, append-nil}
use Rattle.std.proofs.lemmas.List.{map-append, take_more}
use Rattle.std.specs.Prelude.{codes}
use Rattle.edge_base.specs.declared.expression.Item.{Item}
use Rattle.edge_base.specs.declared.expression.Lit.{Lit}
use Rattle.edge_base.specs.declared.expression.Test.{Test}
use Rattle.edge_base.specs.declared.expression.Expr.{Expr}
use Rattle.edge_base.specs.declared.expression.Expr.TheVariants as expr
use Rattle.edge_base.specs.declared.expression.Expr.TheOpen as open_expr
use Rattle.edge_base.specs.declared.expression.Expr.TheFolds as folds
use Rattle.expr_parser.specs.Spelling.{escaped_text, lit_spelling, quoted, item_spelling, items_spelling, test_spelling, SpelledAt, joined, within, spelling_step, spelling_at}
use Rattle.edge_base.specs.Printed.{signed}

pub spelled_lit : (l : Lit) (n : ℕ) → spelling_at (expr.Lit l) n ≡ lit_spelling l
spelled_lit l n = ap (λ (f : SpelledAt). f n) (ap spelling_at (sym (expr.rolls-Lit l)) ∙ folds.fold-roll-Expr SpelledAt spelling_step (open_expr.Lit l))

pub spelled_field : (name : List ℕ) (n : ℕ) → spelling_at (expr.Field name) n ≡ name
spelled_field name n = ap (λ (f : SpelledAt). f n) (ap spelling_at (sym (expr.rolls-Field name)) ∙ folds.fold-roll-Expr SpelledAt spelling_step (open_expr.Field name))

pub spelled_call : (name : List ℕ) (args : List Expr) (n : ℕ) → spelling_at (expr.Call name args) n ≡ name ++ codes "(" ++ joined (codes ", ") 0 (map spelling_at args) ++ codes ")"
spelled_call name args n = ap (λ (f : SpelledAt). f n) (ap spelling_at (sym (expr.rolls-Call name args)) ∙ folds.fold-roll-Expr SpelledAt spelling_step (open_expr.Call name args))

pub spelled_at : (e : Expr) (at : ℤ) (n : ℕ) → spelling_at (expr.At e at) n ≡ spelling_at e 3 ++ codes "[" ++ signed at ++ codes "]"
spelled_at e at n = ap (λ (f : SpelledAt). f n) (ap spelling_at (sym (expr.rolls-At e at)) ∙ folds.fold-roll-Expr SpelledAt spelling_step (open_expr.At e at))

pub spelled_key : (e : Expr) (key : List ℕ) (n : ℕ) → spelling_at (expr.Key e key) n ≡ spelling_at e 3 ++ codes "[" ++ quoted key ++ codes "]"
spelled_key e key n = ap (λ (f : SpelledAt). f n) (ap spelling_at (sym (expr.rolls-Key e key)) ∙ folds.fold-roll-Expr SpelledAt spelling_step (open_expr.Key e key))

pub spelled_each : (e : Expr) (n : ℕ) → spelling_at (expr.Each e) n ≡ spelling_at e 3 ++ codes "[*]"
spelled_each e n = ap (λ (f : SpelledAt). f n) (ap spelling_at (sym (expr.rolls-Each e)) ∙ folds.fold-roll-Expr SpelledAt spelling_step (open_expr.Each e))

pub spelled_test : (e : Expr) (t : Test) (n : ℕ) → spelling_at (expr.Test e t) n ≡ spelling_at e 3 ++ codes " " ++ test_spelling t
spelled_test e t n = ap (λ (f : SpelledAt). f n) (ap spelling_at (sym (expr.rolls-Test e t)) ∙ folds.fold-roll-Expr SpelledAt spelling_step (open_expr.Test e t))

pub spelled_not : (e : Expr) (n : ℕ) → spelling_at (expr.Not e) n ≡ codes "not " ++ spelling_at e 3
spelled_not e n = ap (λ (f : SpelledAt). f n) (ap spelling_at (sym (expr.rolls-Not e)) ∙ folds.fold-roll-Expr SpelledAt spelling_step (open_expr.Not e))

pub spelled_and : (es : List Expr) (n : ℕ) → spelling_at (expr.And es) n ≡ within (nat_lt 2 n) (joined (codes " and ") 3 (map spelling_at es))
spelled_and es n = ap (λ (f : SpelledAt). f n) (ap spelling_at (sym (expr.rolls-And es)) ∙ folds.fold-roll-Expr SpelledAt spelling_step (open_expr.And es))

pub spelled_xor : (es : List Expr) (n : ℕ) → spelling_at (expr.Xor es) n ≡ within (nat_lt 1 n) (joined (codes " xor ") 2 (map spelling_at es))
spelled_xor es n = ap (λ (f : SpelledAt). f n) (ap spelling_at (sym (expr.rolls-Xor es)) ∙ folds.fold-roll-Expr SpelledAt spelling_step (open_expr.Xor es))

pub spelled_or : (es : List Expr) (n : ℕ) → spelling_at (expr.Or es) n ≡ within (nat_lt 0 n) (joined (codes " or ") 1 (map spelling_at es))
spelled_or es n = ap (λ (f : SpelledAt). f n) (ap spelling_at (sym (expr.rolls-Or es)) ∙ folds.fold-roll-Expr SpelledAt spelling_step (open_expr.Or es))

-- texts and items are spelled one after the other
abbrev escaped_one : ℕ → List ℕ
escaped_one byte = cond (byte == 34 || byte == 92) (92 ∷ byte ∷ []) (byte ∷ [])

escaped_text-append : (xs ys : List ℕ) → escaped_text (xs ++ ys) ≡ escaped_text xs ++ escaped_text ys
escaped_text-append [] ys = refl
escaped_text-append (x ∷ xs) ys =
    ap (λ rest. escaped_one x ++ rest) (escaped_text-append xs ys) ∙ sym (append_assoc (escaped_one x) (escaped_text xs) (escaped_text ys))

pub escaped_text-take_more : (text : List ℕ) (i : ℕ) → i < length text
    → escaped_text (take (i + 1) text) ≡ escaped_text (take i text) ++ cond (get_or text i 0 == 34 || get_or text i 0 == 92) (92 ∷ get_or text i 0 ∷ []) (get_or text i 0 ∷ [])
escaped_text-take_more text i below =
    ap escaped_text (take_more text i 0 below)
    ∙ escaped_text-append (take i text) (get_or text i 0 ∷ [])
    ∙ ap (λ rest. escaped_text (take i text) ++ rest) (append-nil (escaped_one (get_or text i 0)))

items_spelling-append : (xs ys : List Item) → items_spelling (xs ++ ys) ≡ items_spelling xs ++ items_spelling ys
items_spelling-append [] ys = refl
items_spelling-append (x ∷ xs) ys =
    ap (λ rest. item_spelling x ++ 32 ∷ rest) (items_spelling-append xs ys) ∙ sym (append_assoc (item_spelling x) (32 ∷ items_spelling xs) (items_spelling ys))

pub items_spelling-take_more : (items : List Item) (i : ℕ) (d : Item) → i < length items
    → items_spelling (take (i + 1) items) ≡ items_spelling (take i items) ++ (item_spelling (get_or items i d) ++ 32 ∷ [])
items_spelling-take_more items i d below =
    ap items_spelling (take_more items i d below) ∙ items_spelling-append (take i items) (get_or items i d ∷ [])

-- one member more
abbrev pub joint_behind : List ℕ → List SpelledAt → List ℕ
joint_behind joint [] = []
joint_behind joint (s ∷ rest) = joint

joined-push : (joint : List ℕ) (n : ℕ) (xs : List SpelledAt) (y : SpelledAt) → joined joint n (xs ++ y ∷ []) ≡ joined joint n xs ++ (joint_behind joint xs ++ y n)
joined-push joint n [] y = refl
joined-push joint n (x ∷ []) y = append_assoc (x n) joint (y n)
joined-push joint n (x ∷ z ∷ xs) y =
    ap (λ rest. x n ++ joint ++ rest) (joined-push joint n (z ∷ xs) y) ∙ sym (append_assoc (x n ++ joint) (joined joint n (z ∷ xs)) (joint ++ y n))

pub behind_none : (joint : List ℕ) (members : List Expr) (at : ℕ) → at ≤ 0 → joint_behind joint (map spelling_at (take at members)) ≡ []
behind_none joint members zero h = refl
behind_none joint members (suc at) h = absurd (omega arith)

pub behind_some : (joint : List ℕ) (members : List Expr) (at : ℕ) → 0 < at → at < length members → joint_behind joint (map spelling_at (take at members)) ≡ joint
behind_some joint [] at h q = absurd (omega arith)
behind_some joint (m ∷ members) zero h q = absurd (omega arith)
behind_some joint (m ∷ members) (suc at) h q = refl

pub joined-take_more : (joint : List ℕ) (n : ℕ) (members : List Expr) (at : ℕ) (d : Expr) (begun out mid new : List ℕ) → at < length members → d ≡ get_or members at d
    → out ≡ begun ++ joined joint n (map spelling_at (take at members))
    → mid ≡ out ++ joint_behind joint (map spelling_at (take at members))
    → new ≡ mid ++ spelling_at d n
    → new ≡ begun ++ joined joint n (map spelling_at (take (at + 1) members))
joined-take_more joint n members at d begun out mid new below same p q r =
    let front : List SpelledAt = map spelling_at (take at members) in
    let more : map spelling_at (take (at + 1) members) ≡ front ++ spelling_at d ∷ [] =
    ap (λ v. map spelling_at v) (take_more members at d below) ∙ map-append spelling_at (take at members) (get_or members at d ∷ [])
    ∙ ap (λ e. front ++ spelling_at e ∷ []) (sym same) in
    let regroup : ((begun ++ joined joint n front) ++ joint_behind joint front) ++ spelling_at d n
    ≡ begun ++ (joined joint n front ++ (joint_behind joint front ++ spelling_at d n))
    = simp append_assoc in
    r ∙ ap (λ v. v ++ spelling_at d n) (q ∙ ap (λ v. v ++ joint_behind joint front) p)
    ∙ regroup
    ∙ ap (λ v. begun ++ v) (sym (joined-push joint n front (spelling_at d)))
    ∙ ap (λ v. begun ++ joined joint n v) (sym more)
