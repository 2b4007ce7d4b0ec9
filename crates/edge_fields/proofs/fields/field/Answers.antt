use Rattle.std.specs.Option.{option_copied}
use Rattle.edge_fields.proofs.KindsLemmas.{IfOk-at, field_of-none, HasKind-field_of}
use Rattle.edge_fields.proofs.fields.field.Goals as goal

pub returns-clause-missing : goal.returns-clause-missing
returns-clause-missing c = IfOk-at _ _ (field_of-none c.args.request.now (option_copied c.args.reply) c.args.id) c.computed.result c.computed.ensures

pub returns-clause-kind : goal.returns-clause-kind
returns-clause-kind c = IfOk-at _ _ (HasKind-field_of c.args.request.now (option_copied c.args.reply) c.args.id) c.computed.result c.computed.ensures
