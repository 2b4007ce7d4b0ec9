-- Working vocabulary, which no public clause cites.
-- What the state is once a rule's changes are kept, and the key of a rule on a state.
use Rattle.std.specs.Prelude.{◌≡◌, List, Option, Some}
use Rattle.rate_plain.specs.KeyParts.{KeyParts}
use Rattle.ruleset_model.specs.ConfigParts.{ConfigParts}
use Rattle.ruleset_model.specs.declared.limit.Limit.{Limit}
use Rattle.ruleset_model.specs.declared.rewrite.HeaderRewrite.{HeaderRewrite}
use Rattle.ruleset_model.specs.declared.rewrite.Rewrite.{Rewrite}
use Rattle.ruleset_model.specs.declared.rewrite.UriRewrite.{UriRewrite}
use Rattle.ruleset_model.specs.declared.ruleset.Rule.{Rule}
use Rattle.ruleset_model.specs.declared.ruleset.Ruleset.{Ruleset}
use Rattle.judge_core.specs.declared.carried.State.{State}
use Rattle.judge_core.specs.Acting.{name_of}
use Rattle.judge_core.specs.Carried.{Carried}
use Rattle.judge_core.specs.Changing.{header_kept, headers_kept, all_kept, path_kept, query_kept, rewriting}
use Rattle.judge_core.specs.Limits.{key_on}
use Rattle.judge_core.specs.Places.{carried_of, with_headers, with_uri}
use Rattle.judge_core.specs.Values.{Listed}

abbrev pub KeepsHeader : Listed → ConfigParts → HeaderRewrite → State → State → Type 0
KeepsHeader listed config header before after =
    after ≡ with_headers (header_kept listed header (carried_of config before) before.changes.headers) before

abbrev pub KeepsHeaders : Listed → ConfigParts → List HeaderRewrite → State → State → Type 0
KeepsHeaders listed config headers before after =
    after ≡ with_headers (headers_kept listed headers (carried_of config before) before.changes.headers) before

abbrev pub KeepsUri : Listed → ConfigParts → UriRewrite → State → State → Type 0
KeepsUri listed config uri before after =
    let c : Carried = carried_of config before in
    after ≡ with_uri (path_kept listed (Some uri) c) (query_kept listed (Some uri) c) before

abbrev pub KeepsSomeUri : Listed → ConfigParts → Option UriRewrite → State → State → Type 0
KeepsSomeUri listed config uri before after =
    let c : Carried = carried_of config before in
    after ≡ with_uri (path_kept listed uri c) (query_kept listed uri c) before

abbrev pub KeepsSomeHeaders : Listed → ConfigParts → Option (List HeaderRewrite) → State → State → Type 0
KeepsSomeHeaders listed config headers before after =
    after ≡ with_headers (all_kept listed headers (carried_of config before)) before

abbrev pub KeepsRewrite : Listed → ConfigParts → Rewrite → State → State → Type 0
KeepsRewrite listed config rewrite before after =
    carried_of config after ≡ rewriting listed rewrite (carried_of config before)

-- the key of a rule
abbrev pub IsKeyOn : Listed → ConfigParts → Ruleset → Rule → Limit → State → KeyParts → Type 0
IsKeyOn listed config set rule limit state key = key ≡ key_on listed (name_of set rule) limit (carried_of config state)
