use Rattle.std.proofs.Common.{◌∙◌}
use Rattle.std.specs.Str.{str_eq_ignore_ascii_case}
use Rattle.ruleset_model.specs.Data.{HeaderRewriteData, header_data}
use Rattle.config_read.proofs.MappedLemmas.{any_map}
use Rattle.config_read.proofs.headers.has_header.Goals as goal

pub returns : goal.returns
returns c =
    c.has_own_header.ensures
    ∙ any_map (λ (header : HeaderRewriteData). str_eq_ignore_ascii_case c.args.name.now header.name) header_data c.args.headers.now
