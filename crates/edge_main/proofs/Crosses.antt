-- A worker, with its pass and its jobs, may go to another thread.
use denote.Param.Send.{IsSend, sendable}
use Rattle.std.proofs.Crossing.{crosses}
use Rattle.gate_run.proofs.Crosses.{picked_send, pass_send}
use Rattle.trace_form.specs.contracts.item.Recorded as recorded
use Rattle.edge_main.specs.contracts.working.Job as job
use Rattle.edge_main.specs.contracts.working.Worker as worker

recorded_send : IsSend (recorded.the_field).row
recorded_send = search (crosses, sendable) depth 60 fits 100000

job_send : IsSend (job.the_field).row
job_send = search (picked_send, recorded_send, crosses, sendable) depth 60 fits 100000

pub worker_send : IsSend (worker.the_field).row
worker_send = search (pass_send, job_send, crosses, sendable) depth 60 fits 100000
