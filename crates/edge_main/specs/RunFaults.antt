-- What ends a run where a step was refused.
use Rattle.rate_plain.specs.declared.fault.StepFault.{StepFault}
use Rattle.rate_plain.specs.declared.fault.StepFault.TheVariants as step
use Rattle.edge_main.specs.declared.replay.RunFault.{RunFault}
use Rattle.edge_main.specs.declared.replay.RunFault.TheVariants as fault

abbrev pub run_fault : StepFault → RunFault
run_fault step.Memory = fault.Memory
run_fault step.Spent = fault.Spent
