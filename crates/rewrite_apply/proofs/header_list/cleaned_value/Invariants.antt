-- the bytes before the next one are taken
use Rattle.std.proofs.Common.{◌≡◌, take}
use Rattle.rewrite_apply.specs.Rewrites.{cleaned_value}
use Rattle.rewrite_apply.proofs.header_list.cleaned_value.Given as goal

abbrev pub invariant-loop-byte : goal.invariant-loop-byte
invariant-loop-byte l = l.text ≡ cleaned_value (take l.byte-index l.value)
