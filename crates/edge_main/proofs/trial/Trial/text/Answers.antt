use Rattle.std.proofs.Common.{ℕ, List, ◌++◌, ap, ◌∙◌}
use Rattle.edge_main.specs.Summary.{requests_of}
use Rattle.edge_main.specs.Summing.{text_of}
use Rattle.edge_main.proofs.TrialLemmas.{text_is}
use Rattle.edge_main.proofs.trial.Trial.text.Goals as goal

pub returns : goal.returns
returns c lines to t =
    let summary = c.args.self.now.summary in
    let steps = c.length.result in
    c.in_ok-push.ensures ∙ ap (λ (text : List ℕ). text ++ text_of summary steps) c.new-text.ensures
    ∙ text_is summary (requests_of t.run) steps _ t.counted (c.length.ensures 64 4096 to.history t.come.counter)
