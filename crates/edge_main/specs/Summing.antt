-- The counts of a summary under way. No public clause cites these words.
use Rattle.std.specs.Prelude.{◌≡◌, ℕ, List, [], ◌∷◌, ◌++◌, length}
use Rattle.std.specs.List.{sum_by}
use Rattle.trace_form.specs.declared.output.LineParts.{LineParts}
use Rattle.edge_main.specs.Summary.{judged_so, is_passed, is_blocked, is_challenged, is_redirected, full_in, endings_after, text_by}
use Rattle.edge_main.specs.declared.summary.Summary.{Summary}

-- what was counted is what these requests come to
pub record IsOfRequests (summary : Summary) (requests : List LineParts) : Type 0 where
  pub count : summary.requests ≡ length requests
  pub pass : summary.kinds.pass ≡ judged_so is_passed requests
  pub block : summary.kinds.block ≡ judged_so is_blocked requests
  pub challenge : summary.kinds.challenge ≡ judged_so is_challenged requests
  pub redirect : summary.kinds.redirect ≡ judged_so is_redirected requests
  pub full : summary.full ≡ sum_by full_in requests
  pub endings : summary.endings.items ≡ endings_after [] requests

-- whatever requests were counted, then these parts are one more
abbrev pub CountsOneMore : Summary → LineParts → Summary → Type 0
CountsOneMore before parts after = (requests : List LineParts) → IsOfRequests before requests → IsOfRequests after (requests ++ parts ∷ [])

-- what is written for these counts, and for so many steps
abbrev pub text_of : Summary → ℕ → List ℕ
text_of summary steps =
    text_by summary.requests summary.kinds.pass summary.kinds.block summary.kinds.challenge summary.kinds.redirect summary.full
    steps summary.endings.items
