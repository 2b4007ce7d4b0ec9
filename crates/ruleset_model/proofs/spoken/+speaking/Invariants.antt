use Rattle.std.proofs.Common.{◌≡◌, false, take}
use Rattle.std.specs.List.{list_any}
use Rattle.ruleset_model.specs.Built.{speaks_of_reply}
use Rattle.ruleset_model.proofs.spoken.+speaking.Given as goal

-- no expression before this one speaks of a reply
abbrev pub invariant-is_one_of_reply-loop-expr : goal.invariant-is_one_of_reply-loop-expr
invariant-is_one_of_reply-loop-expr l = list_any speaks_of_reply (take l.expr-index l.exprs) ≡ false
