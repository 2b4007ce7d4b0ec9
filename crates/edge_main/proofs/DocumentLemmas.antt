-- The reading of a document.
use Rattle.std.proofs.Common.{◌≡◌, Ok, Err, Result, sym, ◌∙◌, ap}
use Rattle.std.specs.Result.{IsErrAnd}
use Rattle.edge_main.specs.declared.document.ReadingFault.{ReadingFault}
use Rattle.edge_main.specs.declared.document.ReadingFault.TheVariants as fault

-- a reading that was refused memory didn't end for the length of the input
pub memory_alone : {A : Type 0} (r : Result A ReadingFault) → IsErrAnd r (λ f. f ≡ fault.Memory) → ¬ (r ≡ Err fault.LongInput)
memory_alone (Ok x) is long = is
memory_alone (Err f) is long = let never : fault.Memory ≡ fault.LongInput = cc in cc
