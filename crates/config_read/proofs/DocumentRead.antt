-- Each document is taken or refused.
use Rattle.std.proofs.Common.{◌≡◌, ◌⊎◌, List, map, length, codes, inl, inr, refl, sym, ap, ◌∙◌, None, Some, Ok}
use Rattle.serde_json.specs.Data.{Data}
use Rattle.list_store.specs.Listed.{list_kinds_of}
use Rattle.list_store.specs.Parts.{AreFineBefore}
use Rattle.ruleset_model.specs.ConfigParts.{ConfigParts}
use Rattle.ruleset_model.specs.Data.{ConfigData, RulesetData, set_data, config_data}
use Rattle.ruleset_model.specs.declared.ruleset.Ruleset.{Ruleset}
use Rattle.config_read.specs.Answered.{IsTaken, IsRefused, AreRulesetsOfTexts, DocumentsAreRead}
use Rattle.config_read.specs.Judged.{judged}
use Rattle.config_read.specs.ListsOf.{lists_at}
use Rattle.config_read.specs.Reads.{document_table, stands}
use Rattle.config_read.specs.Refusals.{Refusal}
use Rattle.config_read.specs.Members.{elements}
use Rattle.config_read.specs.Places.{child, top}
use Rattle.config_read.specs.RulesetsOf.{rulesets_table, rulesets_at}
use Rattle.config_read.proofs.BuiltFound.{rulesets_found}
use Rattle.config_read.proofs.DocumentMet.{reading_met}
use Rattle.config_read.proofs.ValidLists.{lists_fine}

-- the rulesets of a document of which nothing is refused can be built of its texts
pub rulesets_built : (d : Data) → document_table judged d None
    → (sets : List Ruleset) × (map set_data sets ≡ rulesets_at d) × AreRulesetsOfTexts (list_kinds_of (lists_at d)) sets
unfolding document_table rulesets_table
rulesets_built d passed =
    rulesets_found (list_kinds_of (lists_at d)) (elements (codes "rulesets") d) (child top (codes "rulesets")) (elements (codes "rulesets") d)
    passed.1.1.1.1.1

taken : (d : Data) → document_table judged d None → IsTaken d
taken d passed =
    let (sets, read, built) = rulesets_built d passed in
    let config : ConfigParts = record { lists = lists_at d; rulesets = sets } in
    let same : config_data config ≡ stands d = ap (λ (all : List RulesetData). record { lists = lists_at d; rulesets = all }) read in
    (config, record { built = built; reads = (passed, same) })

-- the lists of a document of which nothing is refused are fine
pub document_fine : (d : Data) → document_table judged d None → AreFineBefore (lists_at d) (length (lists_at d))
unfolding document_table
document_fine d passed = lists_fine d passed.1.1.0

pub documents_are_read : DocumentsAreRead
documents_are_read d = of_found (reading_met d).found where
  of_found : document_table judged d None ⊎ ((r : Refusal) × document_table judged d (Some r)) → IsTaken d ⊎ IsRefused d
  of_found (inl passed) = inl (taken d passed)
  of_found (inr (r, refused)) = inr (r.place, r.cause, refused)
