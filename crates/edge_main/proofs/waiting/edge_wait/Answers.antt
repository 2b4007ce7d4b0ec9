use Rattle.edge_main.proofs.EndingLemmas.{is-complete}
use Rattle.edge_main.proofs.waiting.edge_wait.Goals as goal

pub returns-clause-complete : goal.returns-clause-complete
returns-clause-complete g c =
    let ran = c.spread_input-status in
    is-complete g.S.Source.faults g.S.Source.left g.K.Sink.faults ran.result c.args.input.now ran.new.input c.args.out.now ran.new.out
    (g.S.Source.taken c.args.input.now) (g.S.Source.taken ran.new.input) ran.ensures.read ran.ensures.write ran.ensures.took ran.ensures.plain
