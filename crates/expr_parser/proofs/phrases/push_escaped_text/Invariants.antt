use Rattle.std.proofs.Common.{◌≡◌, ◌++◌, take}
use Rattle.expr_parser.specs.Spelling.{escaped_text}
use Rattle.expr_parser.proofs.phrases.push_escaped_text.Given as goal

abbrev pub invariant-loop-byte : goal.invariant-loop-byte
invariant-loop-byte l = l.out ≡ l.fn.out ++ escaped_text (take l.byte-index l.text)
