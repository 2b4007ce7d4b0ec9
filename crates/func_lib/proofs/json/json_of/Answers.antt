use Rattle.std.proofs.Common.{sym, ◌∙◌}
use Rattle.func_lib.proofs.JsonLemmas.{json_at_utf8, no_json}
use Rattle.func_lib.proofs.json.json_of.Goals as goal

pub returns-in-Ok : goal.returns-in-Ok
returns-in-Ok c =
    let ok = c.in-Ok.ensures.ok in
    sym (json_at_utf8 c.args.text.now ok.0 ∙ ok.1)

pub returns-else-is_memory : goal.returns-else-is_memory
returns-else-is_memory c =
    sym (no_json c.args.text.now (c.in-Err.ensures.err (λ h. cc (c.is_memory.ensures.1 h))))
