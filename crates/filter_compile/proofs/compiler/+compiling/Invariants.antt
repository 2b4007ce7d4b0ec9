-- the parts that were taken have the steps so far, and what is left is no deeper
use Rattle.std.proofs.Common.{length}
use Rattle.filter_compile.specs.Compiled.{IsCodeOfAll, IsCodeOfChain, IsCodeOfXor}
use Rattle.filter_compile.proofs.PartLemmas.{HasCode}
use Rattle.filter_compile.proofs.compiler.+compiling.Given as goal

abbrev pub invariant-steps_of_all-nodes : goal.invariant-steps_of_all-nodes
invariant-steps_of_all-nodes l = record { depth : goal.no_deeper-steps_of_all-nodes l; code : HasCode l.fn.nodes l.left (IsCodeOfAll l.steps) }

abbrev pub decreases-steps_of_all-nodes : goal.decreases-steps_of_all-nodes
decreases-steps_of_all-nodes l = length l.left

abbrev pub invariant-steps_of_chain-members : goal.invariant-steps_of_chain-members
invariant-steps_of_chain-members l =
    record { depth : goal.no_deeper-steps_of_chain-members l; code : HasCode l.fn.members l.left (IsCodeOfChain l.steps l.at) }

abbrev pub decreases-steps_of_chain-members : goal.decreases-steps_of_chain-members
decreases-steps_of_chain-members l = length l.left

abbrev pub invariant-steps_of_xor-members : goal.invariant-steps_of_xor-members
invariant-steps_of_xor-members l = record { depth : goal.no_deeper-steps_of_xor-members l; code : HasCode l.fn.members l.left (IsCodeOfXor l.steps) }

abbrev pub decreases-steps_of_xor-members : goal.decreases-steps_of_xor-members
decreases-steps_of_xor-members l = length l.left
