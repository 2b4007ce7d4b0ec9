-- what was kept, and what will be of the rest, is the text without those bytes
use Rattle.std.proofs.Common.{◌≡◌, ◌++◌, drop}
use Rattle.func_lib.specs.Texts.{without}
use Rattle.func_lib.proofs.text.without.Given as goal

abbrev pub invariant-loop-byte : goal.invariant-loop-byte
invariant-loop-byte l = l.rest.items ++ without l.removed (drop l.byte-index l.text) ≡ without l.removed l.text
