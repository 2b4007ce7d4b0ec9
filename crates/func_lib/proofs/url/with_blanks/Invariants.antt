-- what was put down, with the rest as it will be, is the text with its blanks
use Rattle.std.proofs.Common.{◌≡◌, ◌++◌, map, drop}
use Rattle.func_lib.specs.Urls.{unescaped}
use Rattle.func_lib.proofs.url.with_blanks.Given as goal

abbrev pub invariant-loop-byte : goal.invariant-loop-byte
invariant-loop-byte l = l.blanks.items ++ map unescaped (drop l.byte-index l.text) ≡ map unescaped l.text
