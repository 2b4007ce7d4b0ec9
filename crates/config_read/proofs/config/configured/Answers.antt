use Rattle.std.proofs.Common.{List, sym, subst, ◌∙◌}
use Rattle.serde_json.specs.View.{view}
use Rattle.list_store.specs.declared.part.ListPart.{ListPart}
use Rattle.ruleset_model.specs.Valid.{IsValid}
use Rattle.config_read.proofs.FormedLemmas.{view_formed}
use Rattle.ruleset_model.specs.declared.ruleset.Ruleset.{Ruleset}
use Rattle.config_read.specs.Answered.{AreRulesetsOfTexts}
use Rattle.list_store.specs.Listed.{list_kinds_of}
use Rattle.config_read.proofs.OfTexts.{rulesets_of_texts}
use Rattle.config_read.proofs.ValidRules.{document_valid, document_lists}
use Rattle.config_read.proofs.config.configured.Goals as goal

pub built-requires : goal.built-requires
built-requires c =
    let lists = document_lists (view c.args.value.now) c.args.lists (view_formed c.args.value.now) c.requires.passed c.requires.lists in
    record { few = lists.few; formed = lists.formed; fine = lists.fine }

pub of-requires : goal.of-requires
of-requires c =
    subst (λ (parts : List ListPart). IsValid parts c.args.rulesets) (sym c.in-Ok.ensures)
    (document_valid (view c.args.value.now) c.args.lists c.args.rulesets (view_formed c.args.value.now) c.requires.passed c.requires.lists c.requires.rulesets
    c.requires.built)

pub returns-in-Ok-clause-built : goal.returns-in-Ok-clause-built
returns-in-Ok-clause-built c =
    let lists = c.of.ensures.lists ∙ c.in-Ok.ensures in
    subst (λ (parts : List ListPart). AreRulesetsOfTexts (list_kinds_of parts) c.of.result.rulesets) (sym lists)
    (subst (λ (sets : List Ruleset). AreRulesetsOfTexts (list_kinds_of c.args.lists) sets) (sym c.of.ensures.rulesets)
    (rulesets_of_texts (list_kinds_of c.args.lists) c.args.rulesets c.requires.built))
