-- A deployment: what stands after one that is taken, and after one that is refused.
use Rattle.std.proofs.Common.{◌≡◌, ℕ, ◌+◌, ◌^◌, false, List, [], ◌∷◌, ◌++◌, Err, refl, sym, ap, subst, ◌∙◌}
use Rattle.std.specs.Arc.{arc_value}
use Rattle.serde_json.specs.Data.{Data}
use Rattle.rate_plain.specs.Step.{Standing}
use Rattle.ruleset_model.specs.ConfigParts.{ConfigParts}
use Rattle.config_read.specs.Answered.{StandsFor}
use Rattle.config_read.specs.Reads.{Reads}
use Rattle.config_read.specs.declared.fault.Cause.{Cause}
use Rattle.config_read.specs.declared.fault.ConfigFault.TheVariants as refusal
use Rattle.version_store.specs.Notices.{IsVersion}
use Rattle.version_store.specs.declared.notice.Notice.TheVariants.{Put}
use Rattle.version_store.proofs.NoticeLemmas.{version_put}
use Rattle.edge_core.specs.declared.event.Shown.TheVariants as shown
use Rattle.edge_core.specs.declared.world.World.{World}
use Rattle.edge_core.specs.World.{WorldParts, Terms}
use Rattle.edge_core.specs.Stands.{AreCallers, DeploysTo, IsWorld}
use Rattle.edge_core.specs.Steps.{number_of, with_config}
use Rattle.edge_core.proofs.WorldLemmas.{number_is}

module _ {T : Type 0} (stands : T → Standing) (terms : Terms) (before : World T) (parts : WorldParts) (is : IsWorld stands terms before parts) where
  -- the document's configuration is the next version
  pub deployed : (after : World T) (value : Data) (config : ConfigParts) → StandsFor value config → after.version.number ≡ before.version.number + 1
      → arc_value after.version.config ≡ config → after.tally ≡ before.tally → after.callers ≡ before.callers
      → DeploysTo stands value after (shown.Deployed after.version.number) terms parts
  deployed after value config taken numbered config_is tally callers =
      let put = version_put parts.published before.version.number false (arc_value before.version.config) config is.version in
      let version : IsVersion (parts.published ++ Put config ∷ []) after.version.number false (arc_value after.version.config) =
      subst (λ (c : ConfigParts). IsVersion (parts.published ++ Put config ∷ []) after.version.number false c) (sym config_is)
      (subst (λ n. IsVersion (parts.published ++ Put config ∷ []) n false config) (sym numbered) put) in (
        record { world = with_config config parts; shown = shown.Deployed after.version.number },
        (config, taken, refl, sym (number_is (parts.published ++ Put config ∷ []) after.version.number (arc_value after.version.config) version)),
        record {
          world_is = record {
            tally = subst (λ t. stands t terms.lanes terms.cap parts.history) (sym tally) is.tally;
            version = version;
            callers = subst (λ xs. AreCallers terms.meaning xs.items parts.callers) (sym callers) is.callers;
          };
          shown_is = refl;
        },
      )

  -- it is refused: the world stays
  pub turned_down : (after : World T) (value : Data) (place : List ℕ) (cause : Cause) → after ≡ before → Reads value (Err (refusal.Refused place cause))
      → DeploysTo stands value after (shown.Refused place cause) terms parts
  turned_down after value place cause same reads = (
    record { world = parts; shown = shown.Refused place cause },
    (reads, refl),
    record { world_is = subst (λ (w : World T). IsWorld stands terms w parts) (sym same) is; shown_is = refl },
  )

  pub stays : (after : World T) → after ≡ before → IsWorld stands terms after parts
  stays after same = subst (λ (w : World T). IsWorld stands terms w parts) (sym same) is

  pub numbered_so : number_of parts.published ≡ before.version.number
  numbered_so = number_is parts.published before.version.number (arc_value before.version.config) is.version
