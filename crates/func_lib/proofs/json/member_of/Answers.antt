use Rattle.std.proofs.Common.{sym, ap, ◌∙◌}
use Rattle.serde_json.specs.Find.{get}
use Rattle.serde_json.specs.View.{view}
use Rattle.func_lib.proofs.JsonLemmas.{member_at_utf8, no_member}
use Rattle.func_lib.proofs.json.member_of.Goals as goal

pub returns-in-Ok : goal.returns-in-Ok
returns-in-Ok c =
    let read = c.in-Ok.ensures.cases in
    let same = member_at_utf8 c.args.name.now (view c.args.json.now) read.1 in
    c.get.ensures ∙ ap (λ name. get name (view c.args.json.now)) read.0 ∙ sym same

pub returns-in-Err : goal.returns-in-Err
returns-in-Err c = sym (no_member c.args.name.now (view c.args.json.now) c.in-Err.ensures.cases.0)
