use Rattle.std.proofs.Common.{◌+◌, refl, sym, ap, ◌∙◌, subst}
use Rattle.std.specs.Arc.{arc_value}
use Rattle.ruleset_model.specs.ConfigParts.{ConfigParts}
use Rattle.trace_form.specs.declared.output.LineParts.{LineParts}
use Rattle.edge_main.specs.Answered as line
use Rattle.gate_run.specs.Named.{IsMeaningOf}
use Rattle.gate_run.proofs.MeaningLemmas.{meaning_of, meaning_is}
use Rattle.edge_main.proofs.TalkedLemmas.{same_fault}
use Rattle.edge_main.proofs.run.Run.judge.Goals as goal

pub judge_recorded-requires : goal.judge_recorded-requires
judge_recorded-requires c =
    let (s, at) = c.requires.somewhere in (
      record { told = (meaning_is (arc_value c.in_ok-picked.picked.config).lists c.in_ok-picked.ensures.valid.lists_fine).told },
      (s.history, at.counter),
    )

pub returns-clause-judged : goal.returns-clause-judged
returns-clause-judged c s at =
    let picked = c.in_ok-picked.picked in
    let listed = meaning_of (arc_value picked.config).lists in
    let same = c.in_ok-picked.ensures.config ∙ at.config in
    let told = c.in_ok-parts.ensures.told s at.counter (c.in_ok-picked.ensures.number ∙ at.version) same (ap (λ n. n + 1) at.requests) in (
      listed,
      subst (λ (config : ConfigParts). IsMeaningOf config.lists listed) same (meaning_is (arc_value picked.config).lists c.in_ok-picked.ensures.valid.lists_fine),
      (
        ap (λ (parts : LineParts). line.request parts) (sym told.parts_are),
        record {
          lines = ap (λ n. n + 1) at.lines;
          requests = ap (λ n. n + 1) at.requests;
          version = at.version;
          config = at.config;
          any_bad = at.any_bad;
          counter = told.counter_is;
        },
      ),
    )

pub returns-in_err-parts-clause-spent : goal.returns-in_err-parts-clause-spent
returns-in_err-parts-clause-spent c is s at =
    let picked = c.in_ok-picked.picked in
    let listed = meaning_of (arc_value picked.config).lists in
    let same = c.in_ok-picked.ensures.config ∙ at.config in (
      listed,
      subst (λ (config : ConfigParts). IsMeaningOf config.lists listed) same (meaning_is (arc_value picked.config).lists c.in_ok-picked.ensures.valid.lists_fine),
      c.in_err-parts.ensures.spent (same_fault c.from_residual-in_err-parts.result _ c.from_residual-in_err-parts.ensures.1 is) s at.counter (c.in_ok-picked.ensures.number ∙ at.version) same (ap (λ n. n + 1) at.requests),
    )
