-- The pieces of a query that a loop saw are all of them.
use Rattle.std.proofs.Common.{◌≡◌, List, Option, None, map}
use Rattle.std.specs.Iterator.{Yields}
use Rattle.std.proofs.lemmas.Iterator.{YieldsList}
use Rattle.std.proofs.lemmas.Iterator.Consumers.{YieldsList-end}

-- `YieldsList-end`, with the run first, so that it says what the steps are
pub all_seen : {S A B : Type 0} {steps : S → Option A → S → Type 0} {v : A → B} {s : S} {all : List B} (xs : List A) (t : S) → Yields steps s xs t → (r : Option A) (u : S) → r ≡ None → steps t r u → YieldsList steps v s all → map v xs ≡ all
all_seen xs t run r u none step pieces = (YieldsList-end pieces xs t run r u none step).0
