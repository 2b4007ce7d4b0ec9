use Rattle.judge_core.proofs.backing.proceed_back.Goals as goal

pub returns-clause-goes : goal.returns-clause-goes
returns-clause-goes g c = rw (c.deref-config.ensures, c.as_slice.ensures) at c.back_on.ensures
