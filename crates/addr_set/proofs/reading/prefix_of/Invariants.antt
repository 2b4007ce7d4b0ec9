use Rattle.std.proofs.Common.{◌≡◌, ◌<◌, ◌≤◌, take}
use Rattle.std.specs.Str.Parse.{AllDigits, digits_value}
use Rattle.addr_set.proofs.reading.prefix_of.Given as goal

-- the digits so far, their number, and how great it can be
abbrev pub invariant-loop-digit : goal.invariant-loop-digit
invariant-loop-digit l = record {
  digits : AllDigits 10 (take l.digit-index l.digits);
  number : l.bits ≡ digits_value 10 (take l.digit-index l.digits);
  none : l.digit-index ≤ 0 → l.bits < 1;
  one : l.digit-index ≤ 1 → l.bits < 10;
  two : l.digit-index ≤ 2 → l.bits < 100;
}
