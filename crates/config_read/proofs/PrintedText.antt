-- The text of a printed configuration is read as the configuration.
use Rattle.std.proofs.Common.{◌≡◌, ◌≤◌, ℕ, List, Some, sym, subst, IsUtf8}
use Rattle.serde_json.specs.Data.{Data, depth}
use Rattle.serde_json.specs.Read.{read, max_depth}
use Rattle.ruleset_model.specs.ConfigParts.{ConfigParts}
use Rattle.ruleset_model.specs.Valid.{IsValid}
use Rattle.config_read.specs.Judged.{judged, judged_without_patterns}
use Rattle.config_read.specs.Printed.{printed}
use Rattle.config_read.specs.Prints.{IsPrintOf}
use Rattle.config_read.proofs.PrintedDepth.{printed_shallow}
use Rattle.config_read.proofs.PrintedDocument.{printed_passes, printed_stands}
use Rattle.config_read.proofs.PrintedTaken.{taken, taken_without_patterns, some_text}

pub text_of_print : (config : ConfigParts) (text : List ℕ) (shown : Data) → IsValid config.lists config.rulesets → shown ≡ printed config
    → IsUtf8 text → (depth shown ≤ max_depth → read text ≡ Some shown) → IsPrintOf text config
text_of_print config text shown valid same is_text again = record {
  document = printed config;
  is_json = (is_text, subst (λ (d : Data). (depth d ≤ max_depth → read text ≡ Some d)) same again (printed_shallow config));
  is_refused_nowhere = printed_passes judged_without_patterns config (taken_without_patterns config.lists) (some_text config.lists) valid;
  is_read = (printed_passes judged config (taken config.lists) (some_text config.lists) valid, sym (printed_stands config (some_text config.lists) valid));
}
