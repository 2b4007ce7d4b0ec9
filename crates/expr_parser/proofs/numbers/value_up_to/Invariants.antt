use Rattle.std.proofs.Common.{◌≡◌, ◌≤◌, true, drop}
use Rattle.std.specs.List.{list_all}
use Rattle.std.specs.Str.Parse.{digits_value, digits_value_after}
use Rattle.edge_base.specs.Token.{is_digit}
use Rattle.expr_parser.proofs.numbers.value_up_to.Given as goal

-- the digits that are left follow those of the value so far
abbrev pub invariant-loop-digit : goal.invariant-loop-digit
invariant-loop-digit l = record {
  few : l.value ≤ l.most;
  rest : list_all is_digit (drop l.digit-index l.digits) ≡ true;
  whole : digits_value_after 10 l.value (drop l.digit-index l.digits) ≡ digits_value 10 l.digits;
}
