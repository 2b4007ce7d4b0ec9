use Rattle.filter_compile.proofs.CodeLemmas.{code_placed}
use Rattle.filter_compile.proofs.compiler.compile.Goals as goal

pub of-requires : goal.of-requires
of-requires c =
    code_placed c.into_parts-root.result.1 c.into_parts-root.result.0 c.into_inner.result c.in_ok-steps.steps c.into_inner.ensures c.in_ok-steps.ensures c.into_parts-root.ensures.placed
