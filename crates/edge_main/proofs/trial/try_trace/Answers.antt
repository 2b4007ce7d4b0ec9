use Rattle.std.proofs.KnownBytes.{Appends-nil}
use Rattle.edge_main.specs.Making.{made_trace}
use Rattle.edge_main.proofs.trial.try_trace.Goals as goal

pub returns-in-Ok-clause-ended : goal.returns-in-Ok-clause-ended
returns-in-Ok-clause-ended g c = c.write.ensures.writes (made_trace c.args.seed c.args.requests) c.in-Ok.ensures.tried

pub returns-in-Err-Memory-clause-ended : goal.returns-in-Err-Memory-clause-ended
returns-in-Err-Memory-clause-ended g c = Appends-nil (g.K.Sink.got c.args.out.now)
