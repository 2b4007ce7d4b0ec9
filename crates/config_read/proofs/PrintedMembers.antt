-- What is found in an object that was built of members.
use Rattle.std.proofs.Common.{◌≡◌, ◌&&◌, ℕ, Bool, true, false, not, List, [], ◌∷◌, ◌++◌, map, bytes_eq, is_none, Option, None, Some, option_map, unwrap_or, refl, sym, ap, ◌∙◌, true≢false, Less, Equal, Greater, nat_cmp}
use Rattle.std.specs.Bool.{then_some}
use Rattle.std.proofs.lemmas.Slice.Eq.{bytes_eq-Decides}
use Rattle.serde_json.specs.Data.{Data, object, Members, no_members, member, put}
use Rattle.serde_json.specs.Find.{get, get_member}
use Rattle.serde_json.proofs.Views.{get_member-put, get_member-put_other}
use Rattle.config_read.specs.Printed.{put_some}

-- two names that are told apart
pub apart : (name other : List ℕ) → bytes_eq name other ≡ false → name ≡ other → ⊥
apart name other told same = true≢false (sym ((bytes_eq-Decides name other).1 same) ∙ told)

-- a member that was put, or one behind it
pub got : (name : List ℕ) (value : Option Data) (rest : Members) → get_member name rest ≡ None → get name (object (put_some name value rest)) ≡ value
got name None rest none = none
got name (Some d) rest none = get_member-put name d rest

pub got_other : (name other : List ℕ) (value : Option Data) (rest : Members) → bytes_eq name other ≡ false
    → get name (object (put_some other value rest)) ≡ get name (object rest)
got_other name other None rest told = refl
got_other name other (Some d) rest told = get_member-put_other name other d rest (apart name other told)

-- what passes a test is there
pub is_there : {A : Type 0} (test : Bool) (a : A) → test ≡ true → is_none (then_some test a) ≡ false
is_there true a passed = refl
is_there false a passed = absurd (true≢false (sym passed))

pub is_it : {A : Type 0} (test : Bool) (a default : A) → test ≡ true → unwrap_or (then_some test a) default ≡ a
is_it true a default passed = refl
is_it false a default passed = absurd (true≢false (sym passed))
