use Rattle.std.proofs.Common.{subst, sym}
use Rattle.atomic_table.specs.Table.{opening}
use Rattle.rate_shared.specs.Rule.{maker, IsKept}
use Rattle.rate_shared.proofs.Kept.{starts}
use Rattle.rate_shared.proofs.making.table_of.Goals as goal

pub new-requires : goal.new-requires
new-requires c =
    subst (λ ws. IsKept c.args.shape.now (opening ws c.args.slots.items (maker c.args.shape.now))) (sym c.requires.words)
    (starts c.args.shape.now c.args.slots.items c.requires.slots.0 c.requires.shape.callers.1 c.requires.slots.1)
