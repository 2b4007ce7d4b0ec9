-- A published list with one more notice.
use Rattle.std.proofs.Common.{◌≡◌, ℕ, suc, ◌+◌, Bool, true, false, List, [], ◌∷◌, ◌++◌, refl, ap, ◌∙◌, arith, Option, Some, None}
use Rattle.ruleset_model.specs.ConfigParts.{ConfigParts}
use Rattle.version_store.specs.declared.notice.Notice.{Notice}
use Rattle.version_store.specs.declared.notice.Notice.TheVariants.{Put, Stop}
use Rattle.version_store.specs.Notices.{puts_of, has_stop, last_put, IsVersion}

puts_of-put : (notices : List Notice) (config : ConfigParts) → puts_of (notices ++ Put config ∷ []) ≡ suc (puts_of notices)
puts_of-put [] config = refl
puts_of-put (Put c ∷ notices) config = ap suc (puts_of-put notices config)
puts_of-put (Stop ∷ notices) config = puts_of-put notices config

puts_of-stop : (notices : List Notice) → puts_of (notices ++ Stop ∷ []) ≡ puts_of notices
puts_of-stop [] = refl
puts_of-stop (Put c ∷ notices) = ap suc (puts_of-stop notices)
puts_of-stop (Stop ∷ notices) = puts_of-stop notices

has_stop-put : (notices : List Notice) (config : ConfigParts) → has_stop (notices ++ Put config ∷ []) ≡ has_stop notices
has_stop-put [] config = refl
has_stop-put (Put c ∷ notices) config = has_stop-put notices config
has_stop-put (Stop ∷ notices) config = refl

has_stop-stop : (notices : List Notice) → has_stop (notices ++ Stop ∷ []) ≡ true
has_stop-stop [] = refl
has_stop-stop (Put c ∷ notices) = has_stop-stop notices
has_stop-stop (Stop ∷ notices) = refl

last_put-put : (found : Option ConfigParts) (notices : List Notice) (config : ConfigParts) → last_put found (notices ++ Put config ∷ []) ≡ Some config
last_put-put found [] config = refl
last_put-put found (Put c ∷ notices) config = last_put-put (Some c) notices config
last_put-put found (Stop ∷ notices) config = last_put-put found notices config

last_put-stop : (found : Option ConfigParts) (notices : List Notice) → last_put found (notices ++ Stop ∷ []) ≡ last_put found notices
last_put-stop found [] = refl
last_put-stop found (Put c ∷ notices) = last_put-stop (Some c) notices
last_put-stop found (Stop ∷ notices) = last_put-stop found notices

pub version_put : (notices : List Notice) (number : ℕ) (stopped : Bool) (before config : ConfigParts) → IsVersion notices number stopped before → IsVersion (notices ++ Put config ∷ []) (number + 1) stopped config
version_put notices number stopped before config is = record {
  numbered = omega (arith, puts_of-put notices config, is.numbered);
  stop = has_stop-put notices config ∙ is.stop;
  last = last_put-put None notices config;
}

pub version_stop : (notices : List Notice) (number : ℕ) (stopped : Bool) (config : ConfigParts) → IsVersion notices number stopped config → IsVersion (notices ++ Stop ∷ []) number true config
version_stop notices number stopped config is = record {
  numbered = puts_of-stop notices ∙ is.numbered;
  stop = has_stop-stop notices;
  last = last_put-stop None notices ∙ is.last;
}
