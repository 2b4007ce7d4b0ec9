use Rattle.std.proofs.Common.{IfOk, IfSome, sym, subst}
use Rattle.edge_fields.specs.declared.function_id.FunctionId.TheVariants as function
use Rattle.edge_fields.specs.Kinds.{HasKind}
use Rattle.edge_fields.specs.Names.{function_kind}
use Rattle.func_lib.proofs.KindLemmas.{kind_is_kept}
use Rattle.func_lib.proofs.functions.call.Goals as goal

pub returns-in-Split-clause-kind : goal.returns-in-Split-clause-kind
returns-in-Split-clause-kind c =
    subst (λ id. IfOk c.split.result (λ found. IfSome found (HasKind (function_kind id)))) (sym c.in-Split.is)
    (kind_is_kept function.Split c.args.args.now c.split.result c.split.ensures)
