use Rattle.std.proofs.Common.{◌≡◌, [], length}
use Rattle.rate_shared.specs.Rule.{knowing}
use Rattle.rate_shared.specs.Callers.{AllOpen}
use Rattle.rate_shared.proofs.making.seens_of.Given as goal

-- the callers so far have their numbers, and the first seat has the others
abbrev pub invariant-loop-caller : goal.invariant-loop-caller
invariant-loop-caller l = record {
  table : l.place.table_id ≡ l.board.table_id;
  first : l.place.me ≡ (knowing l.board.key l.caller l.board.key.callers [], []);
  count : length l.seens.items ≡ l.caller;
  fresh : AllOpen l.board.table_id l.board.key l.seens.items;
}
