-- the bytes of the values before the next one stand in the text
use Rattle.std.proofs.Common.{◌≡◌, take, map, Some}
use Rattle.std.specs.List.{concat}
use Rattle.judge_core.specs.Limits.{bytes_of_value}
use Rattle.judge_core.proofs.limits.+pushing.Given as goal

abbrev pub invariant-push_values-loop-item : goal.invariant-push_values-loop-item
invariant-push_values-loop-item l = l.all ≡ concat (map (λ item. bytes_of_value (Some item)) (take l.item-index l.items))
