-- what is left decides the fault, and gets shorter
use Rattle.std.proofs.Common.{◌≡◌, length}
use Rattle.text_match.specs.Wildcards.{fault_of}
use Rattle.text_match.proofs.reading.first_fault.Given as goal

abbrev pub invariant-loop-rest : goal.invariant-loop-rest
invariant-loop-rest l = fault_of l.rest ≡ fault_of l.pattern

abbrev pub decreases-loop-rest : goal.decreases-loop-rest
decreases-loop-rest l = length l.rest
