use Rattle.std.proofs.Common.{◌≡◌, ℕ, suc, ◌+◌, ◌-◌, ◌*◌, ◌<◌, ◌≤◌, true, cond, nat_le, List, ◌∷◌, get_or, drop, ◌∙◌, sym, ap, arith, drop-cons}
use Rattle.std.specs.declared.option.Option.TheVariants.{None, Some}
use Rattle.std.specs.Char.{digit_value}
use Rattle.std.specs.List.{list_all}
use Rattle.std.specs.Str.Parse.{digits_value_after}
use Rattle.std.proofs.lemmas.Bool.{and_parts}
use Rattle.std.proofs.lemmas.Bool.Decides.{nat_tests}
use Rattle.edge_base.specs.Token.{is_digit}
use Rattle.edge_base.proofs.DigitLemmas.{digits_grow}
use Rattle.expr_lexer.proofs.StateLemmas.{digit_is}
use Rattle.expr_parser.proofs.numbers.value_up_to.Goals as goal

over : (w most : ℕ) → most < w → None ≡ cond (nat_le w most) (Some w) None
over w most h = grind (arith, nat_tests)

too_great : (most v d : ℕ) (left rest : List ℕ) (w : ℕ) → left ≡ d ∷ rest → list_all is_digit left ≡ true → digits_value_after 10 v left ≡ w → most < v * 10 + (d - 48)
    → None ≡ cond (nat_le w most) (Some w) None
too_great most v d left rest w p h q less =
    let digit : is_digit d ≡ true = (and_parts (is_digit d) (list_all is_digit rest) (ap (list_all is_digit) (sym p) ∙ h)).0 in
    let same : digit_value d ≡ d - 48 = digit_is d digit in
    let value : digits_value_after 10 (v * 10 + digit_value d) rest ≡ w = ap (digits_value_after 10 v) (sym p) ∙ q in
    let most_of : v * 10 + digit_value d ≤ digits_value_after 10 (v * 10 + digit_value d) rest = digits_grow (v * 10 + digit_value d) rest in
    over w most (omega arith)

pub returns-then-from-longer : goal.returns-then-from-longer
returns-then-from-longer c =
    let ds = c.args.digits.now in
    let i = c.loop-digit.digit-index in
    too_great c.args.most c.loop-digit.value (get_or ds i 0) _ (drop (suc i) ds) _
    (drop-cons ds i 0 c.loop-digit-test.true) c.loop-digit.invariant.rest c.loop-digit.invariant.whole (omega arith)
