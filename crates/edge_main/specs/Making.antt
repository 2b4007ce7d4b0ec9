-- What `make` writes, and what it promises where it ended with a status.
use Rattle.std.specs.Prelude.{◌≡◌, ℕ, zero, suc, ◌+◌, List, [], ◌++◌, Option, Some}
use Rattle.std.specs.Io.KnownBytes.{Appends}
use Rattle.trace_form.specs.Made.{made_line}
use Rattle.edge_main.specs.declared.making.MakingFault.{MakingFault}
use Rattle.edge_main.specs.declared.making.MakingFault.TheVariants as fault
use Rattle.edge_main.specs.declared.statuses.Status.{Status}
use Rattle.edge_main.specs.declared.statuses.Status.TheVariants as status

-- the first lines that are made from a seed, so many
unfoldable pub made_lines : ℕ → ℕ → List ℕ
made_lines seed zero = []
made_lines seed (suc lines) = made_lines seed lines ++ made_line seed lines

-- the deployment, and the lines of so many requests
abbrev pub made_trace : ℕ → ℕ → List ℕ
made_trace seed requests = made_lines seed (requests + 1)

-- a front of a text was written
abbrev pub WroteFrontOf : List ℕ → Option (List ℕ) → Option (List ℕ) → Type 0
WroteFrontOf text before now = (written more : List ℕ) × Appends before now written × (text ≡ written ++ more)

-- the run ended with this status, where this was to be written
abbrev pub EndedMake : Status → List ℕ → Option (List ℕ) → Option (List ℕ) → Type 0
EndedMake status.Done trace before now = Appends before now trace
EndedMake status.WriteFault trace before now = WroteFrontOf trace before now
EndedMake status.Memory trace before now = WroteFrontOf trace before now
EndedMake status.Usage trace before now = Appends before now []
EndedMake status.BadItems trace before now = ⊥
EndedMake status.ReadFault trace before now = ⊥
EndedMake status.AcceptFault trace before now = ⊥
EndedMake status.LongInput trace before now = ⊥
EndedMake status.Spent trace before now = ⊥

-- what was written for this seed and so many requests is what the status promises
abbrev pub MakesAs : {O : Type 0} → (O → Option (List ℕ)) → ℕ → ℕ → Status → O → O → Type 0
MakesAs got seed requests ended before after = EndedMake ended (made_trace seed requests) (got before) (got after)

-- ---- inside a run of `make`; no public clause cites these words
-- the lines from one index up to another were added: where all before the first stand before the text, all before the
-- second stand in it
abbrev pub AddsLines : ℕ → ℕ → ℕ → List ℕ → List ℕ → Type 0
AddsLines seed from to before now =
    (written : List ℕ) → written ++ before ≡ made_lines seed from → written ++ now ≡ made_lines seed to

-- the status that this ends the run with
abbrev pub making_status : MakingFault → Status
making_status fault.Write = status.WriteFault
making_status fault.Memory = status.Memory
