use Rattle.std.proofs.Common.{◌≡◌, ap, ◌∙◌, arith}
use Rattle.edge_main.specs.Summary.{ended_in_all}
use Rattle.edge_main.proofs.RunLemmas.{OnOk-said}
use Rattle.edge_main.proofs.SummaryLemmas.{more_in_all}
use Rattle.edge_main.proofs.summary.count_ending.Goals as goal

pub returns-in_ok-name_of-in-Some-clause-few : goal.returns-in_ok-name_of-in-Some-clause-few
returns-in_ok-name_of-in-Some-clause-few c =
    OnOk-said c.count_name.result _ _ (λ is. let more = ap ended_in_all is ∙ more_in_all _ c.args.counts.now.items in omega (arith, more)) c.count_name.ensures.ok
