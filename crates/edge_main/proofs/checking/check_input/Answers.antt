use Rattle.std.proofs.Common.{◌≡◌, sym, ◌∙◌}
use Rattle.edge_main.specs.declared.statuses.Status.TheVariants as status
use Rattle.edge_main.proofs.CheckLemmas.{line_ended, took_whole}
use Rattle.edge_main.proofs.RunningLemmas.{judged-or-cut}
use Rattle.edge_main.proofs.checking.check_input.Goals as goal

pub returns-in-Ok-say_kept-clause-ended : goal.returns-in-Ok-say_kept-clause-ended
returns-in-Ok-say_kept-clause-ended g c text told =
    line_ended c.in-Ok-say_kept.ended c.write_line.result text c.say_kept.new.line (g.K.Sink.got c.args.out.now) (g.K.Sink.got c.write_line.new.out)
    c.in-Ok-say_kept.ensures.judged (c.in-Ok-say_kept.ensures.line text (c.in-Ok.ensures.kept text told).1) c.write_line.ensures.writes

pub returns-in-Ok-say_kept-clause-read : goal.returns-in-Ok-say_kept-clause-read
returns-in-Ok-say_kept-clause-read g c failed =
    absurd ((judged-or-cut c.write_line.result c.write_line.ensures.status).1 failed)

pub returns-in-Ok-say_kept-clause-took : goal.returns-in-Ok-say_kept-clause-took
returns-in-Ok-say_kept-clause-took g c =
    took_whole (g.S.Source.left c.args.input.now) (g.S.Source.left c.document_of.new.input) (g.S.Source.taken c.args.input.now)
    (g.S.Source.taken c.document_of.new.input) c.in-Ok.kept c.write_line.result
    (judged-or-cut c.write_line.result c.write_line.ensures.status).0 c.in-Ok.ensures.took
