use Rattle.std.proofs.lemmas.Result.{IfOk-weaker}
use Rattle.judge_core.proofs.KeepLemmas.{kept_both}
use Rattle.judge_core.proofs.changing.keep_rewrite.Goals as goal

pub returns : goal.returns
returns g c =
    IfOk-weaker c.keep_some_uri.result _ _
    (λ done uri. kept_both g.listed c.args.config.now c.args.rewrite.now c.args.state.now c.keep_some_headers.new.state c.keep_some_uri.new.state
    c.in_ok-keep_some_headers.ensures uri)
    c.keep_some_uri.ensures
