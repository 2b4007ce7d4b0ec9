use Rattle.std.proofs.Common.{subst}
use Rattle.edge_fields.specs.Schemes.{IsUnlisted}
use Rattle.type_check.proofs.ListLemmas.{not_unlisted}
use Rattle.type_check.proofs.building.build_listed.Goals as goal

pub unreachable-requires : goal.unreachable-requires
unreachable-requires c =
    not_unlisted c.args.scheme.now c.args.name.now
    (subst (λ name. IsUnlisted c.args.scheme.now name) c.bytes.ensures c.in-None.ensures) c.requires
