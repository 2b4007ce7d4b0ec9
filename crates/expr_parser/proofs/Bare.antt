-- What may follow doesn't depend on the trees that were read.
use Rattle.std.proofs.Common.{◌≡◌, ℕ, suc, ◌+◌, pos, negsuc, true, false, List, [], ◌∷◌, length, refl, ap, subst, ◌∙◌, sym, arith, is_some}
use Rattle.std.specs.declared.option.Option.{Option}
use Rattle.std.specs.declared.option.Option.TheVariants.{None, Some}
use Rattle.std.specs.Option.{option_map, option_and_then}
use Rattle.edge_base.specs.declared.expression.Lit.{Lit}
use Rattle.edge_base.specs.declared.expression.Lit.TheVariants as lit
use Rattle.edge_base.specs.declared.expression.Expr.{Expr}
use Rattle.edge_base.specs.declared.expression.Expr.TheVariants as expr
use Rattle.edge_base.specs.declared.terminal.Terminal.{Terminal}
use Rattle.edge_base.specs.declared.terminal.Terminal.TheVariants as terminal
use Rattle.edge_base.specs.Grammar.{Derives, IsFault}
use Rattle.expr_parser.specs.declared.testing.Testing.{Testing}
use Rattle.expr_parser.specs.declared.testing.Tested.{Tested}
use Rattle.expr_parser.specs.declared.testing.Tested.TheVariants as tested
use Rattle.expr_parser.specs.declared.state.Frame.{Frame}
use Rattle.expr_parser.specs.declared.state.Opened.{Opened}
use Rattle.expr_parser.specs.declared.state.Opened.TheVariants as opened
use Rattle.expr_parser.specs.declared.state.Level.{Level}
use Rattle.expr_parser.specs.declared.state.Mode.{Mode}
use Rattle.expr_parser.specs.declared.state.Mode.TheVariants as mode
use Rattle.expr_parser.specs.declared.state.State.{State}
use Rattle.expr_parser.specs.Testing.{test_step}
use Rattle.expr_parser.specs.Machine.{fresh, level, state, start, chain_of, closed, further, at_want, at_begin, at_whole, at_end, at_operand, at_path, at_named, at_index, at_index_end, mode_of, at_mode, step, ended, ending, outcome, counted, taken, stub, bare_mode, bared}
use Rattle.expr_parser.proofs.Steps.{read_is_derived}
use Rattle.expr_parser.proofs.Faults.{refused_is_fault}

-- the state without its trees
abbrev bare_opened : Opened → Opened
bare_opened opened.Group = opened.Group
bare_opened (opened.Call n es) = opened.Call [] []

abbrev bare_levels : List Level → List Level
bare_levels [] = []
bare_levels (l ∷ below) = level (bare_opened l.opened) fresh ∷ bare_levels below

abbrev bare_name : Mode → Mode
bare_name (mode.Literal l) = mode.Literal (lit.Bool false)
bare_name (mode.Named n) = mode.Named []
bare_name (mode.Truth b) = mode.Truth false
bare_name (mode.Path e) = mode.Path stub
bare_name (mode.Index e) = mode.Index stub
bare_name (mode.IndexEnd e) = mode.IndexEnd stub
bare_name (mode.Testing e x) = mode.Testing stub x
bare_name (mode.Done e) = mode.Done stub
bare_name m = m

abbrev bare : State → State
bare s = state (bare_name s.mode) fresh (bare_levels s.below)

abbrev Alike : Option State → Option State → Type 0
Alike o p = option_map bare o ≡ option_map bare p

want_alike : (t : Terminal) (f g : Frame) (b c : List Level) → bare_levels b ≡ bare_levels c → Alike (at_want t f b) (at_want t g c)
want_alike (terminal.Name n) f g b c p = ap (λ v. Some (state (mode.Named []) fresh v)) p
want_alike terminal.True f g b c p = ap (λ v. Some (state (mode.Truth false) fresh v)) p
want_alike terminal.False f g b c p = ap (λ v. Some (state (mode.Truth false) fresh v)) p
want_alike terminal.Not f g b c p = ap (λ v. Some (state mode.Want fresh v)) p
want_alike terminal.Open f g b c p = ap (λ v. Some (state mode.Want fresh (level opened.Group fresh ∷ v))) p
want_alike t f g b c p = refl

literal_alike : (l : Lit) (f g : Frame) (b c : List Level) → bare_levels b ≡ bare_levels c → Alike (Some (state (mode.Literal l) f b)) (Some (state (mode.Literal l) g c))
literal_alike l f g b c p = ap (λ v. Some (state (mode.Literal (lit.Bool false)) fresh v)) p

begin_alike : (t : Terminal) (f g : Frame) (b c : List Level) → bare_levels b ≡ bare_levels c → Alike (at_begin t f b) (at_begin t g c)
begin_alike (terminal.Text x) f g b c p = literal_alike (lit.Text x) f g b c p
begin_alike (terminal.Number n) f g b c p = literal_alike (lit.Num n) f g b c p
begin_alike (terminal.Address a) f g b c p = literal_alike (lit.Addr a) f g b c p
begin_alike t f g b c p = want_alike t f g b c p

closed_alike : (o q : Opened) (d e : Expr) (f g : Frame) (b c : List Level) → bare_opened o ≡ bare_opened q → bare_levels b ≡ bare_levels c
    → Alike (Some (closed d o f b)) (Some (closed e q g c))
closed_alike opened.Group opened.Group d e f g b c h p = ap (λ v. Some (state (mode.Done stub) fresh v)) p
closed_alike opened.Group (opened.Call n es) d e f g b c h p = absurd cc
closed_alike (opened.Call n es) opened.Group d e f g b c h p = absurd cc
closed_alike (opened.Call n es) (opened.Call m ds) d e f g b c h p = ap (λ v. Some (state (mode.Path stub) fresh v)) p

further_alike : (o q : Opened) (d e : Expr) (f g : Frame) (b c : List Level) → bare_opened o ≡ bare_opened q → bare_levels b ≡ bare_levels c
    → Alike (further d o f b) (further e q g c)
further_alike opened.Group opened.Group d e f g b c h p = refl
further_alike opened.Group (opened.Call n es) d e f g b c h p = absurd cc
further_alike (opened.Call n es) opened.Group d e f g b c h p = absurd cc
further_alike (opened.Call n es) (opened.Call m ds) d e f g b c h p = ap (λ v. Some (state mode.Begin fresh (level (opened.Call [] []) fresh ∷ v))) p

abbrev first_opened : List Level → Opened
first_opened [] = opened.Group
first_opened (l ∷ below) = l.opened

abbrev behind_first : List Level → List Level
behind_first [] = []
behind_first (l ∷ below) = below

abbrev found_state : State → Option State → State
found_state other None = other
found_state other (Some s) = s

head_alike : (l m : Level) (b c : List Level) → bare_levels (l ∷ b) ≡ bare_levels (m ∷ c) → bare_opened l.opened ≡ bare_opened m.opened
head_alike l m b c p = ap first_opened p

tail_alike : (l m : Level) (b c : List Level) → bare_levels (l ∷ b) ≡ bare_levels (m ∷ c) → bare_levels b ≡ bare_levels c
tail_alike l m b c p = ap behind_first p

whole_alike : (t : Terminal) (d e : Expr) (b c : List Level) → bare_levels b ≡ bare_levels c → Alike (at_whole t d b) (at_whole t e c)
whole_alike terminal.Close d e [] [] p = refl
whole_alike terminal.Close d e [] (m ∷ c) p = absurd cc
whole_alike terminal.Close d e (l ∷ b) [] p = absurd cc
whole_alike terminal.Close d e (l ∷ b) (m ∷ c) p = closed_alike l.opened m.opened d e l.outer m.outer b c (head_alike l m b c p) (tail_alike l m b c p)
whole_alike terminal.Comma d e [] [] p = refl
whole_alike terminal.Comma d e [] (m ∷ c) p = absurd cc
whole_alike terminal.Comma d e (l ∷ b) [] p = absurd cc
whole_alike terminal.Comma d e (l ∷ b) (m ∷ c) p = further_alike l.opened m.opened d e l.outer m.outer b c (head_alike l m b c p) (tail_alike l m b c p)
whole_alike t d e b c p = refl

end_alike : (t : Terminal) (d e : Expr) (f g : Frame) (b c : List Level) → bare_levels b ≡ bare_levels c → Alike (at_end t d f b) (at_end t e g c)
end_alike terminal.And d e f g b c p = ap (λ v. Some (state mode.Want fresh v)) p
end_alike terminal.Xor d e f g b c p = ap (λ v. Some (state mode.Want fresh v)) p
end_alike terminal.Or d e f g b c p = ap (λ v. Some (state mode.Want fresh v)) p
end_alike t d e f g b c p = whole_alike t (chain_of f d) (chain_of g e) b c p

testing_alike : (x : Testing) (d e : Expr) (f g : Frame) (b c : List Level) → bare_levels b ≡ bare_levels c
    → Alike (Some (state (mode.Testing d x) f b)) (Some (state (mode.Testing e x) g c))
testing_alike x d e f g b c p = ap (λ v. Some (state (mode.Testing stub x) fresh v)) p

operand_alike : (t : Terminal) (d e : Expr) (f g : Frame) (b c : List Level) → bare_levels b ≡ bare_levels c → Alike (at_operand t d f b) (at_operand t e g c)
operand_alike (terminal.Order o) d e f g b c p = testing_alike _ d e f g b c p
operand_alike terminal.Contains d e f g b c p = testing_alike _ d e f g b c p
operand_alike terminal.Matches d e f g b c p = testing_alike _ d e f g b c p
operand_alike terminal.Wildcard d e f g b c p = testing_alike _ d e f g b c p
operand_alike terminal.Strict d e f g b c p = testing_alike _ d e f g b c p
operand_alike terminal.In d e f g b c p = testing_alike _ d e f g b c p
operand_alike t d e f g b c p = end_alike t d e f g b c p

path_alike : (t : Terminal) (d e : Expr) (f g : Frame) (b c : List Level) → bare_levels b ≡ bare_levels c → Alike (at_path t d f b) (at_path t e g c)
path_alike terminal.OpenIndex d e f g b c p = ap (λ v. Some (state (mode.Index stub) fresh v)) p
path_alike t d e f g b c p = operand_alike t d e f g b c p

named_alike : (t : Terminal) (n m : List ℕ) (f g : Frame) (b c : List Level) → bare_levels b ≡ bare_levels c → Alike (at_named t n f b) (at_named t m g c)
named_alike terminal.Open n m f g b c p = ap (λ v. Some (state mode.Begin fresh (level (opened.Call [] []) fresh ∷ v))) p
named_alike t n m f g b c p = path_alike t (expr.Field n) (expr.Field m) f g b c p

index_alike : (t : Terminal) (d e : Expr) (f g : Frame) (b c : List Level) → bare_levels b ≡ bare_levels c → Alike (at_index t d f b) (at_index t e g c)
index_alike (terminal.Number (pos n)) d e f g b c p = ap (λ v. Some (state (mode.IndexEnd stub) fresh v)) p
index_alike (terminal.Number (negsuc n)) d e f g b c p = refl
index_alike (terminal.Text k) d e f g b c p = ap (λ v. Some (state (mode.IndexEnd stub) fresh v)) p
index_alike terminal.Star d e f g b c p = ap (λ v. Some (state (mode.IndexEnd stub) fresh v)) p
index_alike t d e f g b c p = refl

index_end_alike : (t : Terminal) (d e : Expr) (f g : Frame) (b c : List Level) → bare_levels b ≡ bare_levels c → Alike (at_index_end t d f b) (at_index_end t e g c)
index_end_alike terminal.CloseIndex d e f g b c p = ap (λ v. Some (state (mode.Path stub) fresh v)) p
index_end_alike t d e f g b c p = refl

tested_alike : (o : Option Tested) (d e : Expr) (f g : Frame) (b c : List Level) → bare_levels b ≡ bare_levels c
    → Alike (option_map (λ p. state (mode_of d p) f b) o) (option_map (λ p. state (mode_of e p) g c) o)
tested_alike None d e f g b c p = refl
tested_alike (Some (tested.Part x)) d e f g b c p = testing_alike x d e f g b c p
tested_alike (Some (tested.Whole t)) d e f g b c p = ap (λ v. Some (state (mode.Done stub) fresh v)) p

-- a mode and the mode without its tree go on alike
mode_alike : (m : Mode) (t : Terminal) (f g : Frame) (b c : List Level) → bare_levels b ≡ bare_levels c → Alike (at_mode m f b t) (at_mode (bare_name m) g c t)
mode_alike mode.Begin t f g b c p = begin_alike t f g b c p
mode_alike mode.Want t f g b c p = want_alike t f g b c p
mode_alike (mode.Literal l) t f g b c p = whole_alike t (expr.Lit l) (expr.Lit (lit.Bool false)) b c p
mode_alike (mode.Named n) t f g b c p = named_alike t n [] f g b c p
mode_alike (mode.Path e) t f g b c p = path_alike t e stub f g b c p
mode_alike (mode.Truth v) t f g b c p = operand_alike t (expr.Lit (lit.Bool v)) stub f g b c p
mode_alike (mode.Index e) t f g b c p = index_alike t e stub f g b c p
mode_alike (mode.IndexEnd e) t f g b c p = index_end_alike t e stub f g b c p
mode_alike (mode.Testing e x) t f g b c p = tested_alike (test_step x t) e stub f g b c p
mode_alike (mode.Done e) t f g b c p = end_alike t e stub f g b c p

bare_opened_twice : (o : Opened) → bare_opened o ≡ bare_opened (bare_opened o)
bare_opened_twice opened.Group = refl
bare_opened_twice (opened.Call n es) = refl

bare_levels_twice : (b : List Level) → bare_levels b ≡ bare_levels (bare_levels b)
bare_levels_twice [] = refl
bare_levels_twice (l ∷ b) =
    ap (λ v. level (bare_opened l.opened) fresh ∷ v) (bare_levels_twice b) ∙ ap (λ o. level o fresh ∷ bare_levels (bare_levels b)) (bare_opened_twice l.opened)

step_bare : (s : State) (t : Terminal) → Alike (step s t) (step (bare s) t)
step_bare s t = mode_alike s.mode t s.top fresh s.below (bare_levels s.below) (bare_levels_twice s.below)

step_alike : (s r : State) (t : Terminal) → bare s ≡ bare r → Alike (step s t) (step r t)
step_alike s r t p = step_bare s t ∙ ap (λ v. option_map bare (step v t)) p ∙ sym (step_bare r t)

ended_bare : (m : Mode) (f g : Frame) (b c : List Level) → bare_levels b ≡ bare_levels c → is_some (ended m f b) ≡ is_some (ended (bare_name m) g c)
ended_bare mode.Begin f g b c p = refl
ended_bare mode.Want f g b c p = refl
ended_bare (mode.Literal l) f g [] [] p = refl
ended_bare (mode.Literal l) f g [] (o ∷ c) p = absurd cc
ended_bare (mode.Literal l) f g (o ∷ b) [] p = absurd cc
ended_bare (mode.Literal l) f g (o ∷ b) (q ∷ c) p = refl
ended_bare (mode.Named n) f g [] [] p = refl
ended_bare (mode.Named n) f g [] (o ∷ c) p = absurd cc
ended_bare (mode.Named n) f g (o ∷ b) [] p = absurd cc
ended_bare (mode.Named n) f g (o ∷ b) (q ∷ c) p = refl
ended_bare (mode.Path e) f g [] [] p = refl
ended_bare (mode.Path e) f g [] (o ∷ c) p = absurd cc
ended_bare (mode.Path e) f g (o ∷ b) [] p = absurd cc
ended_bare (mode.Path e) f g (o ∷ b) (q ∷ c) p = refl
ended_bare (mode.Truth v) f g [] [] p = refl
ended_bare (mode.Truth v) f g [] (o ∷ c) p = absurd cc
ended_bare (mode.Truth v) f g (o ∷ b) [] p = absurd cc
ended_bare (mode.Truth v) f g (o ∷ b) (q ∷ c) p = refl
ended_bare (mode.Index e) f g b c p = refl
ended_bare (mode.IndexEnd e) f g b c p = refl
ended_bare (mode.Testing e x) f g b c p = refl
ended_bare (mode.Done e) f g [] [] p = refl
ended_bare (mode.Done e) f g [] (o ∷ c) p = absurd cc
ended_bare (mode.Done e) f g (o ∷ b) [] p = absurd cc
ended_bare (mode.Done e) f g (o ∷ b) (q ∷ c) p = refl

ending_alike : (s r : State) → bare s ≡ bare r → is_some (ending s) ≡ is_some (ending r)
ending_alike s r p =
    ended_bare s.mode s.top fresh s.below (bare_levels s.below) (bare_levels_twice s.below)
    ∙ ap (λ v. is_some (ending v)) p
    ∙ sym (ended_bare r.mode r.top fresh r.below (bare_levels r.below) (bare_levels_twice r.below))

-- states that differ only in their trees take as many terminals, and both end well or neither
taken_on : (o p : Option State) (ts : List Terminal) → Alike o p → ((s r : State) → bare s ≡ bare r → taken ts s ≡ taken ts r)
    → counted (λ next. taken ts next) o ≡ counted (λ next. taken ts next) p
taken_on None None ts h k = refl
taken_on None (Some r) ts h k = absurd cc
taken_on (Some s) None ts h k = absurd cc
taken_on (Some s) (Some r) ts h k = let same : bare s ≡ bare r = ap (found_state (bare s)) h in ap suc (k s r same)

taken_alike : (ts : List Terminal) (s r : State) → bare s ≡ bare r → taken ts s ≡ taken ts r
taken_alike [] s r p = refl
taken_alike (t ∷ ts) s r p = taken_on (step s t) (step r t) ts (step_alike s r t p) (λ a b q. taken_alike ts a b q)

outcome_on : (o p : Option State) (ts : List Terminal) → Alike o p → ((s r : State) → bare s ≡ bare r → is_some (outcome ts s) ≡ is_some (outcome ts r))
    → is_some (option_and_then (λ next. outcome ts next) o) ≡ is_some (option_and_then (λ next. outcome ts next) p)
outcome_on None None ts h k = refl
outcome_on None (Some r) ts h k = absurd cc
outcome_on (Some s) None ts h k = absurd cc
outcome_on (Some s) (Some r) ts h k = let same : bare s ≡ bare r = ap (found_state (bare s)) h in k s r same

outcome_alike : (ts : List Terminal) (s r : State) → bare s ≡ bare r → is_some (outcome ts s) ≡ is_some (outcome ts r)
outcome_alike [] s r p = ending_alike s r p
outcome_alike (t ∷ ts) s r p = outcome_on (step s t) (step r t) ts (step_alike s r t p) (λ a b q. outcome_alike ts a b q)

bared_mode_alike : (m : Mode) → bare_name m ≡ bare_name (bare_mode m)
bared_mode_alike mode.Begin = refl
bared_mode_alike mode.Want = refl
bared_mode_alike (mode.Literal l) = refl
bared_mode_alike (mode.Named n) = refl
bared_mode_alike (mode.Path e) = refl
bared_mode_alike (mode.Truth v) = refl
bared_mode_alike (mode.Index e) = refl
bared_mode_alike (mode.IndexEnd e) = refl
bared_mode_alike (mode.Testing e x) = refl
bared_mode_alike (mode.Done e) = refl

bared_alike : (s : State) → bare s ≡ bare (bared s)
bared_alike s = ap (λ m. state m fresh (bare_levels s.below)) (bared_mode_alike s.mode)

-- as far as the loop without trees has come
pub record GoingBare (ts rest : List Terminal) (at : ℕ) (s : State) : Type 0 where
  pub all : length ts ≡ at + length rest
  pub ends : is_some (outcome rest s) ≡ is_some (outcome ts start)
  pub place : at + taken rest s ≡ taken ts start

pub bare_goes_on : (ts rest : List Terminal) (t : Terminal) (at : ℕ) (s next : State) → GoingBare ts (t ∷ rest) at s → step s t ≡ Some next
    → GoingBare ts rest (at + 1) (bared next)
bare_goes_on ts rest t at s next g q = record {
  all = g.all ∙ omega arith;
  ends = sym (outcome_alike rest next (bared next) (bared_alike next)) ∙ sym (ap (λ o. is_some (option_and_then (λ n. outcome rest n) o)) q) ∙ g.ends;
  place = (let p : counted (λ n. taken rest n) (step s t) ≡ suc (taken rest next) = ap (λ o. counted (λ n. taken rest n) o) q in
      let same : taken rest next ≡ taken rest (bared next) = taken_alike rest next (bared next) (bared_alike next) in
      omega (arith, g.place));
}

none_of : (o : Option Expr) → is_some o ≡ false → o ≡ None
none_of None h = refl
none_of (Some e) h = absurd cc

some_of : (o : Option Expr) → is_some o ≡ true → (e : Expr) × (o ≡ Some e)
some_of None h = absurd cc
some_of (Some e) h = (e, refl)

pub bare_refused : (ts rest : List Terminal) (t : Terminal) (at : ℕ) (s : State) → GoingBare ts (t ∷ rest) at s → step s t ≡ None → IsFault ts at
bare_refused ts rest t at s g q =
    let none : outcome ts start ≡ None = none_of (outcome ts start) (sym g.ends ∙ ap (λ o. is_some (option_and_then (λ n. outcome rest n) o)) q) in
    let p : counted (λ n. taken rest n) (step s t) ≡ 0 = ap (λ o. counted (λ n. taken rest n) o) q in
    let same : taken ts start ≡ at = omega (arith, g.place) in
    subst (λ k. IsFault ts k) same (refused_is_fault ts none)

pub bare_cut_short : (ts : List Terminal) (at : ℕ) (s : State) → GoingBare ts [] at s → is_some (ending s) ≡ false → IsFault ts at
bare_cut_short ts at s g q =
    let none : outcome ts start ≡ None = none_of (outcome ts start) (sym g.ends ∙ q) in
    let same : taken ts start ≡ at = omega (arith, g.place) in
    subst (λ k. IsFault ts k) same (refused_is_fault ts none)

pub bare_ended_well : (ts : List Terminal) (at : ℕ) (s : State) → GoingBare ts [] at s → is_some (ending s) ≡ true → (e : Expr) × Derives ts e
bare_ended_well ts at s g q =
    let some = some_of (outcome ts start) (sym g.ends ∙ q) in
    (some.0, read_is_derived ts some.0 some.1)
