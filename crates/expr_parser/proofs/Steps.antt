-- The machine's states stand for the terminals read, from step to step: so what is read is derived.
use Rattle.std.proofs.Common.{◌≡◌, ℕ, pos, negsuc, true, false, List, [], ◌∷◌, ◌++◌, refl, ap, subst, ◌∙◌, sym, append_assoc, append-nil}
use Rattle.std.specs.declared.option.Option.{Option}
use Rattle.std.specs.declared.option.Option.TheVariants.{None, Some}
use Rattle.std.specs.Option.{option_map, option_and_then}
use Rattle.edge_base.specs.declared.expression.Lit.{Lit}
use Rattle.edge_base.specs.declared.expression.Lit.TheVariants as lit
use Rattle.edge_base.specs.declared.expression.Expr.{Expr}
use Rattle.edge_base.specs.declared.expression.Expr.TheVariants as expr
use Rattle.edge_base.specs.declared.terminal.Terminal.{Terminal}
use Rattle.edge_base.specs.declared.terminal.Terminal.TheVariants as terminal
use Rattle.edge_base.specs.Grammar.{together, IsLiteral, text_literal, number_literal, address_literal, contains, matches, wildcard, literal, chain, IsChain, IsUnit, group, untested, tested, IsOperand, true_word, false_word, path, IsPath, name, call, index, key, each, one_argument, more_arguments, Derives}
use Rattle.expr_parser.specs.declared.testing.TextTest.TheVariants as text
use Rattle.expr_parser.specs.declared.testing.Testing.{Testing}
use Rattle.expr_parser.specs.declared.testing.Testing.TheVariants as testing
use Rattle.expr_parser.specs.declared.testing.Tested.{Tested}
use Rattle.expr_parser.specs.declared.testing.Tested.TheVariants as tested
use Rattle.expr_parser.specs.declared.state.Frame.{Frame}
use Rattle.expr_parser.specs.declared.state.Opened.{Opened}
use Rattle.expr_parser.specs.declared.state.Opened.TheVariants as opened
use Rattle.expr_parser.specs.declared.state.Level.{Level}
use Rattle.expr_parser.specs.declared.state.Mode.{Mode}
use Rattle.expr_parser.specs.declared.state.Mode.TheVariants as mode
use Rattle.expr_parser.specs.declared.state.State.{State}
use Rattle.expr_parser.specs.Testing.{test_step}
use Rattle.expr_parser.specs.Machine.{fresh, level, state, start, xor_of, chain_of, at_want, at_begin, closed, further, at_whole, at_end, at_operand, at_path, at_named, at_index, at_index_end, mode_of, at_mode, step, ended, outcome}
use Rattle.expr_parser.proofs.Standing.{Spells, Opening, Around, TakesIn, Takes, TestFront, TestedBy, Inside, StandsAt, StandsIn, StandsFor, Next, Completed, CompletedIn, WholeIn, moved, fresh_spells, chain_whole, level_not, level_and, level_xor, level_or}
use Rattle.expr_parser.proofs.TestSteps.{TestNext, test_next}

-- a chain and a literal complete what is open
chain_completed_in : (o : Opened) (a : List Terminal) (es : List Expr) → IsChain a es → Completed o a (together expr.Or es)
chain_completed_in opened.Group a es d = (es, d, refl)
chain_completed_in (opened.Call n args) a es d = chain d

chain_completed : (below : List Level) (a : List Terminal) (es : List Expr) → IsChain a es → CompletedIn below a (together expr.Or es)
chain_completed [] a es d = chain d
chain_completed (l ∷ below) a es d = chain_completed_in l.opened a es d

literal_completed_in : (o : Opened) (t : Terminal) (l : Lit) → TakesIn o → IsLiteral t l → Completed o (t ∷ []) (expr.Lit l)
literal_completed_in opened.Group t l h d = absurd h
literal_completed_in (opened.Call n args) t l h d = literal d

literal_completed : (below : List Level) (t : Terminal) (l : Lit) → Takes below → IsLiteral t l → CompletedIn below (t ∷ []) (expr.Lit l)
literal_completed [] t l h d = literal d
literal_completed (o ∷ below) t l h d = literal_completed_in o.opened t l h d

-- `)` behind what completes a group or a call
group_unit : (opening a : List Terminal) (e : Expr) → opening ≡ terminal.Open ∷ [] → Completed opened.Group a e → IsUnit (opening ++ (a ++ terminal.Close ∷ [])) e
group_unit opening a e p c = rw (p, c.2) (group c.1)

close_next : (o : Opened) (e : Expr) (f : Frame) (below : List Level) (outer inner opening a : List Terminal) → Around below outer → Spells f inner → Opening o opening
    → Completed o a e
    → StandsFor (closed e o f below) (((outer ++ (inner ++ opening)) ++ a) ++ terminal.Close ∷ [])
close_next opened.Group e f below outer inner opening a around spells p c = record {
  outer = outer;
  inner = inner;
  part = opening ++ (a ++ terminal.Close ∷ []);
  around = around;
  spells = spells;
  inside = group_unit opening a e p c;
  spelled = simp append_assoc;
}
close_next (opened.Call n args) e f below outer inner opening a around spells h c = record {
  outer = outer;
  inner = inner;
  part = opening ++ (a ++ terminal.Close ∷ []);
  around = around;
  spells = spells;
  inside = h a (e ∷ []) (one_argument c);
  spelled = simp append_assoc;
}

-- `,` behind an argument
path_at : (x y : List Terminal) (e f : Expr) → IsPath x e → x ≡ y → e ≡ f → IsPath y f
path_at x y e f d p q = subst (λ z. IsPath z f) p (subst (λ z. IsPath x z) q d)

further_next : (o : Opened) (e : Expr) (f : Frame) (below : List Level) (outer inner opening a : List Terminal) → Around below outer → Spells f inner → Opening o opening
    → Completed o a e
    → Next (further e o f below) (((outer ++ (inner ++ opening)) ++ a) ++ terminal.Comma ∷ [])
further_next opened.Group e f below outer inner opening a around spells p c = tt
further_next (opened.Call n args) e f below outer inner opening a around spells h c = (
  refl,
  tt,
  (
    outer,
    inner,
    opening ++ (a ++ terminal.Comma ∷ []),
    around,
    spells,
    λ b more q. path_at _ _ _ _ (h (a ++ terminal.Comma ∷ b) (e ∷ more) (more_arguments c q)) (simp append_assoc)
        (ap (λ es. expr.Call n es) (sym (append_assoc args (e ∷ []) more))),
    simp append_assoc,
  ),
)

whole_next : (t : Terminal) (e : Expr) (below : List Level) (x : List Terminal) → WholeIn e below x → Next (at_whole t e below) (x ++ t ∷ [])
whole_next terminal.Close e [] x w = tt
whole_next terminal.Close e (l ∷ below) x w =
    rw (w.spelled, w.around.6) (close_next l.opened e l.outer below w.around.0 w.around.1 w.around.2 w.a w.around.3 w.around.4 w.around.5 w.completed)
whole_next terminal.Comma e [] x w = tt
whole_next terminal.Comma e (l ∷ below) x w =
    rw (w.spelled, w.around.6) (further_next l.opened e l.outer below w.around.0 w.around.1 w.around.2 w.a w.around.3 w.around.4 w.around.5 w.completed)
whole_next t e below x w = tt

-- a state that wants a unit, where nothing of it was read
wanting : (f : Frame) (below : List Level) (x outer inner : List Terminal) → Around below outer → Spells f inner → x ≡ outer ++ inner → StandsAt (Inside mode.Want) f below x
wanting f below x outer inner around spells p = record {
  outer = outer;
  inner = inner;
  part = [];
  around = around;
  spells = spells;
  inside = refl;
  spelled = p ∙ ap (λ v. outer ++ v) (sym (append-nil inner));
}

behind : (x outer inner part z : List Terminal) → x ≡ outer ++ (inner ++ part) → x ++ z ≡ outer ++ (inner ++ (part ++ z))
behind x outer inner part z p = rw p (simp append_assoc)

end_next : (t : Terminal) (e : Expr) (f : Frame) (below : List Level) (x : List Terminal) → StandsAt (Inside (mode.Done e)) f below x → Next (at_end t e f below) (x ++ t ∷ [])
end_next terminal.And e f below x s =
    wanting _ below _ s.outer (s.inner ++ (s.part ++ terminal.And ∷ [])) s.around (level_and f s.inner s.part e s.spells s.inside)
    (behind x s.outer s.inner s.part (terminal.And ∷ []) s.spelled)
end_next terminal.Xor e f below x s =
    wanting _ below _ s.outer (s.inner ++ (s.part ++ terminal.Xor ∷ [])) s.around (level_xor f s.inner s.part e s.spells s.inside)
    (behind x s.outer s.inner s.part (terminal.Xor ∷ []) s.spelled)
end_next terminal.Or e f below x s =
    wanting _ below _ s.outer (s.inner ++ (s.part ++ terminal.Or ∷ [])) s.around (level_or f s.inner s.part e s.spells s.inside)
    (behind x s.outer s.inner s.part (terminal.Or ∷ []) s.spelled)
end_next t e f below x s = whole_next t (chain_of f e) below x (record {
  outer = s.outer;
  a = s.inner ++ s.part;
  around = s.around;
  completed = chain_completed below (s.inner ++ s.part) (f.ors ++ xor_of f e ∷ []) (chain_whole f s.inner s.part e s.spells s.inside);
  spelled = s.spelled;
})

-- an operand behind which a test may begin
begins_test : (e : Expr) (k : Testing) (t : Terminal) (f : Frame) (below : List Level) (x : List Terminal) → TestFront k (t ∷ []) → StandsAt (λ y. IsOperand y e) f below x
    → StandsAt (Inside (mode.Testing e k)) f below (x ++ t ∷ [])
begins_test e k t f below x h s = moved (λ y. IsOperand y e) (Inside (mode.Testing e k)) (t ∷ []) (λ y d. (y, t ∷ [], d, h, refl)) f below x s

as_unit : (e : Expr) (f : Frame) (below : List Level) (x : List Terminal) → StandsAt (λ y. IsOperand y e) f below x → StandsAt (Inside (mode.Done e)) f below x
as_unit e f below x s = record { outer = s.outer; inner = s.inner; part = s.part; around = s.around; spells = s.spells; inside = untested s.inside; spelled = s.spelled }

operand_next : (t : Terminal) (e : Expr) (f : Frame) (below : List Level) (x : List Terminal) → StandsAt (λ y. IsOperand y e) f below x
    → Next (at_operand t e f below) (x ++ t ∷ [])
operand_next (terminal.Order o) e f below x s = begins_test e (testing.Order o) (terminal.Order o) f below x refl s
operand_next terminal.Contains e f below x s = begins_test e (testing.Text text.Contains) terminal.Contains f below x (λ t. contains) s
operand_next terminal.Matches e f below x s = begins_test e (testing.Text text.Matches) terminal.Matches f below x (λ t. matches) s
operand_next terminal.Wildcard e f below x s = begins_test e (testing.Text text.Wild) terminal.Wildcard f below x (λ t. wildcard) s
operand_next terminal.Strict e f below x s = begins_test e testing.Strict terminal.Strict f below x refl s
operand_next terminal.In e f below x s = begins_test e testing.In terminal.In f below x refl s
operand_next t e f below x s = end_next t e f below x (as_unit e f below x s)

as_operand : (e : Expr) (f : Frame) (below : List Level) (x : List Terminal) → StandsAt (Inside (mode.Path e)) f below x → StandsAt (λ y. IsOperand y e) f below x
as_operand e f below x s = record { outer = s.outer; inner = s.inner; part = s.part; around = s.around; spells = s.spells; inside = path s.inside; spelled = s.spelled }

path_next : (t : Terminal) (e : Expr) (f : Frame) (below : List Level) (x : List Terminal) → StandsAt (Inside (mode.Path e)) f below x → Next (at_path t e f below) (x ++ t ∷ [])
path_next terminal.OpenIndex e f below x s = moved (Inside (mode.Path e)) (Inside (mode.Index e)) (terminal.OpenIndex ∷ []) (λ y d. (y, d, refl)) f below x s
path_next t e f below x s = operand_next t e f below x (as_operand e f below x s)

as_path : (n : List ℕ) (f : Frame) (below : List Level) (x : List Terminal) → StandsAt (Inside (mode.Named n)) f below x → StandsAt (Inside (mode.Path (expr.Field n))) f below x
as_path n f below x s = record { outer = s.outer; inner = s.inner; part = s.part; around = s.around; spells = s.spells; inside = rw s.inside name; spelled = s.spelled }

call_opens : (n : List ℕ) (y : List Terminal) → y ≡ terminal.Name n ∷ [] → Opening (opened.Call n []) (y ++ terminal.Open ∷ [])
call_opens n y p = rw p (λ a args d. call d)

named_next : (t : Terminal) (n : List ℕ) (f : Frame) (below : List Level) (x : List Terminal) → StandsAt (Inside (mode.Named n)) f below x
    → Next (at_named t n f below) (x ++ t ∷ [])
named_next terminal.Open n f below x s =
    (refl, tt, (s.outer, s.inner, s.part ++ terminal.Open ∷ [], s.around, s.spells, call_opens n s.part s.inside, behind x s.outer s.inner s.part (terminal.Open ∷ []) s.spelled))
named_next t n f below x s = path_next t (expr.Field n) f below x (as_path n f below x s)

-- an index behind a path
indexed : (y z : List Terminal) (t : Terminal) (e : Expr) → y ≡ z ++ terminal.OpenIndex ∷ [] → IsPath (z ++ terminal.OpenIndex ∷ t ∷ terminal.CloseIndex ∷ []) e
    → IsPath ((y ++ t ∷ []) ++ terminal.CloseIndex ∷ []) e
indexed y z t e p d = rw p (subst (λ v. IsPath v e) (simp append_assoc) d)

index_next : (t : Terminal) (e : Expr) (f : Frame) (below : List Level) (x : List Terminal) → StandsAt (Inside (mode.Index e)) f below x → Next (at_index t e f below) (x ++ t ∷ [])
index_next (terminal.Number (pos n)) e f below x s =
    moved (Inside (mode.Index e)) (Inside (mode.IndexEnd (expr.At e (pos n)))) (terminal.Number (pos n) ∷ [])
    (λ y d. indexed y d.0 (terminal.Number (pos n)) _ d.2 (index d.1)) f below x s
index_next (terminal.Number (negsuc n)) e f below x s = tt
index_next (terminal.Text k) e f below x s =
    moved (Inside (mode.Index e)) (Inside (mode.IndexEnd (expr.Key e k))) (terminal.Text k ∷ []) (λ y d. indexed y d.0 (terminal.Text k) _ d.2 (key d.1)) f below x s
index_next terminal.Star e f below x s =
    moved (Inside (mode.Index e)) (Inside (mode.IndexEnd (expr.Each e))) (terminal.Star ∷ []) (λ y d. indexed y d.0 terminal.Star _ d.2 (each d.1)) f below x s
index_next t e f below x s = tt

index_end_next : (t : Terminal) (e : Expr) (f : Frame) (below : List Level) (x : List Terminal) → StandsAt (Inside (mode.IndexEnd e)) f below x
    → Next (at_index_end t e f below) (x ++ t ∷ [])
index_end_next terminal.CloseIndex e f below x s = moved (Inside (mode.IndexEnd e)) (Inside (mode.Path e)) (terminal.CloseIndex ∷ []) (λ y d. d) f below x s
index_end_next t e f below x s = tt

-- a test goes on, or is whole
test_goes : (p : Tested) (e : Expr) (k : Testing) (t : Terminal) (f : Frame) (below : List Level) (x : List Terminal)
    → ((z : List Terminal) → TestFront k z → TestedBy p (z ++ t ∷ [])) → StandsAt (Inside (mode.Testing e k)) f below x → StandsFor (state (mode_of e p) f below) (x ++ t ∷ [])
test_goes (tested.Part j) e k t f below x h s = moved (Inside (mode.Testing e k)) (Inside (mode.Testing e j)) (t ∷ [])
    (λ y d. (d.0, d.1 ++ t ∷ [], d.2, h d.1 d.3, rw d.4 (append_assoc d.0 d.1 (t ∷ [])))) f below x s
test_goes (tested.Whole u) e k t f below x h s = moved (Inside (mode.Testing e k)) (Inside (mode.Done (expr.Test e u))) (t ∷ [])
    (λ y d. rw (d.4, append_assoc) (tested d.2 (h d.1 d.3))) f below x s

testing_goes : (o : Option Tested) (e : Expr) (k : Testing) (t : Terminal) (f : Frame) (below : List Level) (x : List Terminal)
    → ((z : List Terminal) → TestFront k z → TestNext o (z ++ t ∷ [])) → StandsAt (Inside (mode.Testing e k)) f below x
    → Next (option_map (λ p. state (mode_of e p) f below) o) (x ++ t ∷ [])
testing_goes None e k t f below x h s = tt
testing_goes (Some p) e k t f below x h s = test_goes p e k t f below x h s

-- a unit begins
named : (n : List ℕ) (y : List Terminal) → y ≡ [] → y ++ terminal.Name n ∷ [] ≡ terminal.Name n ∷ []
named n y p = ap (λ v. v ++ terminal.Name n ∷ []) p

want_next : (t : Terminal) (f : Frame) (below : List Level) (x : List Terminal) → StandsAt (Inside mode.Want) f below x → Next (at_want t f below) (x ++ t ∷ [])
want_next (terminal.Name n) f below x s = moved (Inside mode.Want) (Inside (mode.Named n)) (terminal.Name n ∷ []) (named n) f below x s
want_next terminal.True f below x s = moved (Inside mode.Want) (Inside (mode.Truth true)) (terminal.True ∷ []) (λ y p. rw p true_word) f below x s
want_next terminal.False f below x s = moved (Inside mode.Want) (Inside (mode.Truth false)) (terminal.False ∷ []) (λ y p. rw p false_word) f below x s
want_next terminal.Not f below x s = wanting _ below _ s.outer (s.inner ++ terminal.Not ∷ []) s.around (level_not f s.inner s.spells)
    (behind x s.outer s.inner s.part (terminal.Not ∷ []) s.spelled ∙ ap (λ v. s.outer ++ (s.inner ++ (v ++ terminal.Not ∷ []))) s.inside)
want_next terminal.Open f below x s = wanting fresh (level opened.Group f ∷ below) _ (x ++ terminal.Open ∷ []) [] (
  s.outer,
  s.inner,
  terminal.Open ∷ [],
  s.around,
  s.spells,
  refl,
  behind x s.outer s.inner s.part (terminal.Open ∷ []) s.spelled
      ∙ ap (λ v. s.outer ++ (s.inner ++ (v ++ terminal.Open ∷ []))) s.inside,
)
    fresh_spells (sym (append-nil (x ++ terminal.Open ∷ [])))
want_next t f below x s = tt

-- an expression begins
as_want : (f : Frame) (below : List Level) (x : List Terminal) → StandsIn mode.Begin f below x → StandsAt (Inside mode.Want) f below x
as_want f below x s = wanting f below x x [] s.2 (rw s.0 fresh_spells) (sym (append-nil x))

begin_next : (t : Terminal) (f : Frame) (below : List Level) (x : List Terminal) → StandsIn mode.Begin f below x → Next (at_begin t f below) (x ++ t ∷ [])
begin_next (terminal.Text v) f below x s = (terminal.Text v, x, text_literal, s.1, s.2, refl)
begin_next (terminal.Number n) f below x s = (terminal.Number n, x, number_literal, s.1, s.2, refl)
begin_next (terminal.Address a) f below x s = (terminal.Address a, x, address_literal, s.1, s.2, refl)
begin_next t f below x s = want_next t f below x (as_want f below x s)

literal_whole : (l : Lit) (f : Frame) (below : List Level) (x : List Terminal) → StandsIn (mode.Literal l) f below x → WholeIn (expr.Lit l) below x
literal_whole l f below x s = record { outer = s.1; a = s.0 ∷ []; around = s.4; completed = literal_completed below s.0 l s.3 s.2; spelled = s.5 }

mode_next : (m : Mode) (t : Terminal) (f : Frame) (below : List Level) (x : List Terminal) → StandsIn m f below x → Next (at_mode m f below t) (x ++ t ∷ [])
mode_next mode.Begin t f below x s = begin_next t f below x s
mode_next mode.Want t f below x s = want_next t f below x s
mode_next (mode.Literal l) t f below x s = whole_next t (expr.Lit l) below x (literal_whole l f below x s)
mode_next (mode.Named n) t f below x s = named_next t n f below x s
mode_next (mode.Path e) t f below x s = path_next t e f below x s
mode_next (mode.Truth b) t f below x s = operand_next t (expr.Lit (lit.Bool b)) f below x s
mode_next (mode.Index e) t f below x s = index_next t e f below x s
mode_next (mode.IndexEnd e) t f below x s = index_end_next t e f below x s
mode_next (mode.Testing e k) t f below x s = testing_goes (test_step k t) e k t f below x (test_next k t) s
mode_next (mode.Done e) t f below x s = end_next t e f below x s

-- at the end
unit_ends : (u : Expr) (f : Frame) (x : List Terminal) → StandsAt (Inside (mode.Done u)) f [] x → Derives x (chain_of f u)
unit_ends u f x s = let whole = chain (chain_whole f s.inner s.part u s.spells s.inside) in
    subst (λ v. Derives v (chain_of f u)) (sym (s.spelled ∙ ap (λ v. v ++ (s.inner ++ s.part)) s.around)) whole

literal_ends : (l : Lit) (f : Frame) (x : List Terminal) → StandsIn (mode.Literal l) f [] x → Derives x (expr.Lit l)
literal_ends l f x s = subst (λ v. Derives v (expr.Lit l)) (sym (s.5 ∙ ap (λ v. v ++ s.0 ∷ []) s.4)) (literal s.2)

ended_as : (x : List Terminal) (d e : Expr) → Derives x d → Some d ≡ Some e → Derives x e
ended_as x d e h q = let same : d ≡ e = cc in subst (λ v. Derives x v) same h

ended_derives : (m : Mode) (f : Frame) (below : List Level) (x : List Terminal) (e : Expr) → StandsIn m f below x → ended m f below ≡ Some e → Derives x e
ended_derives mode.Begin f below x e s q = absurd cc
ended_derives mode.Want f below x e s q = absurd cc
ended_derives (mode.Literal l) f [] x e s q = ended_as x _ e (literal_ends l f x s) q
ended_derives (mode.Literal l) f (o ∷ below) x e s q = absurd cc
ended_derives (mode.Named n) f [] x e s q = ended_as x _ e (unit_ends (expr.Field n) f x (as_unit (expr.Field n) f [] x (as_operand (expr.Field n) f [] x (as_path n f [] x s)))) q
ended_derives (mode.Named n) f (o ∷ below) x e s q = absurd cc
ended_derives (mode.Path u) f [] x e s q = ended_as x _ e (unit_ends u f x (as_unit u f [] x (as_operand u f [] x s))) q
ended_derives (mode.Path u) f (o ∷ below) x e s q = absurd cc
ended_derives (mode.Truth b) f [] x e s q = ended_as x _ e (unit_ends (expr.Lit (lit.Bool b)) f x (as_unit (expr.Lit (lit.Bool b)) f [] x s)) q
ended_derives (mode.Truth b) f (o ∷ below) x e s q = absurd cc
ended_derives (mode.Index u) f below x e s q = absurd cc
ended_derives (mode.IndexEnd u) f below x e s q = absurd cc
ended_derives (mode.Testing u k) f below x e s q = absurd cc
ended_derives (mode.Done u) f [] x e s q = ended_as x _ e (unit_ends u f x s) q
ended_derives (mode.Done u) f (o ∷ below) x e s q = absurd cc

-- what is read behind the terminals that a state stands for
reads_on : (ts x : List Terminal) (e : Expr) (o : Option State) → Next o x → ((s : State) → StandsFor s x → outcome ts s ≡ Some e → Derives (x ++ ts) e)
    → option_and_then (λ next. outcome ts next) o ≡ Some e → Derives (x ++ ts) e
reads_on ts x e None h k q = absurd cc
reads_on ts x e (Some s) h k q = k s h q

reads : (ts : List Terminal) (s : State) (x : List Terminal) (e : Expr) → StandsFor s x → outcome ts s ≡ Some e → Derives (x ++ ts) e
reads [] s x e h q = subst (λ v. Derives v e) (sym (append-nil x)) (ended_derives s.mode s.top s.below x e h q)
reads (t ∷ ts) s x e h q = subst (λ v. Derives v e) (append_assoc x (t ∷ []) ts)
    (reads_on ts (x ++ t ∷ []) e (step s t) (mode_next s.mode t s.top s.below x h) (λ next k r. reads ts next (x ++ t ∷ []) e k r) q)

-- what is read as a tree derives it
pub read_is_derived : (ts : List Terminal) (e : Expr) → outcome ts start ≡ Some e → Derives ts e
read_is_derived ts e q = reads ts start [] e (refl, tt, refl) q
