use Rattle.std.proofs.Common.{◌∙◌, ap}
use Rattle.std.specs.Bool.{one_answer}
use Rattle.text_match.specs.Wildcards.{pieces_of}
use Rattle.text_match.specs.Matching.{is_matched}
use Rattle.text_match.proofs.MatchingLemmas.{is_matched-Decides}
use Rattle.type_check.proofs.wildcard.Wildcard.matches.Goals as goal

pub returns : goal.returns
returns c =
    one_answer _ _ c.matches.ensures (is_matched-Decides c.self.inside.wild c.args.strict c.args.text.now)
    ∙ ap (λ pieces. is_matched pieces c.args.strict c.args.text.now) (c.self.invariant ∙ ap pieces_of c.self.view_is)
