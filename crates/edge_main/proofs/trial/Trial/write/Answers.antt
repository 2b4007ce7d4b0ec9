use Rattle.std.proofs.Common.{◌≡◌, ℕ, List, subst}
use Rattle.std.proofs.KnownBytes.{Appends-nil}
use Rattle.std.specs.Io.KnownBytes.{Appends}
use Rattle.edge_outside.specs.Lines.{lines_of}
use Rattle.edge_outside.specs.Told.{AppendsFront}
use Rattle.edge_main.proofs.TrialLemmas.{summary_of, summary_written, summary_cut}
use Rattle.edge_main.proofs.trial.Trial.write.Goals as goal

pub returns-in_default-clause-writes : goal.returns-in_default-clause-writes
returns-in_default-clause-writes g c input tried = Appends-nil (g.K.Sink.got c.args.out.now)

pub returns-in-Ok-write_all-clause-writes : goal.returns-in-Ok-write_all-clause-writes
returns-in-Ok-write_all-clause-writes g c input (to, t) =
    let before = g.K.Sink.got c.args.out.now in
    let after = g.K.Sink.got c.write_all.new.sink in
    let text = c.in-Ok.text in
    let wrote = subst (λ (bytes : List ℕ). Appends before after bytes) c.bytes.ensures c.in-Ok-write_all.ensures.ok in
    summary_written c.ending.result c.args.self.now.run to input text before after t.come c.ending.ensures
    (summary_of c.args.self.now input text to t (c.in-Ok.ensures (lines_of input) to t)) wrote

pub returns-clause-writes : goal.returns-clause-writes
returns-clause-writes g c input (to, t) =
    let before = g.K.Sink.got c.args.out.now in
    let after = g.K.Sink.got c.write_all.new.sink in
    let text = c.in-Ok.text in
    let wrote = subst (λ (bytes : List ℕ). AppendsFront before after bytes) c.bytes.ensures c.in-Err.ensures.err in
    summary_cut to input text before after (summary_of c.args.self.now input text to t (c.in-Ok.ensures (lines_of input) to t)) wrote
