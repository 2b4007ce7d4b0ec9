-- Overrides are read again as they are printed.
use Rattle.std.proofs.Common.{◌≡◌, ℕ, Bool, true, false, List, [], ◌∷◌, map, bytes_eq, is_none, Option, None, Some, option_map, option_and_then, unwrap_or, refl, sym, ap, ◌∙◌, subst, codes}
use Rattle.serde_json.specs.Data.{Data, boolean, string, array, object, Members, no_members, member, put}
use Rattle.serde_json.specs.Find.{get, get_member, as_bool, as_str, as_array}
use Rattle.serde_json.specs.View.{items_of}
use Rattle.override_plan.specs.declared.overrides.Override.{Override}
use Rattle.override_plan.specs.declared.overrides.Overrides.{Overrides}
use Rattle.override_plan.specs.declared.plain.Plain.{Plain}
use Rattle.override_plan.specs.declared.plain.Plain.TheVariants as plain
use Rattle.override_plan.specs.Given.{IsGiven}
use Rattle.config_read.specs.Places.{child}
use Rattle.config_read.specs.Members.{list_of, differs}
use Rattle.config_read.specs.Executions.{override_action, override_table, override_at, entry_table, entry_at, each_entry_table, entries_table, overrides_table, overrides_at}
use Rattle.config_read.specs.Printed.{put_some, put_override, plain_name, printed_entry, printed_overrides}
use Rattle.config_read.proofs.PrintedEach.{list_of-items_of, each_passes, each_back, after_none}
use Rattle.config_read.proofs.PrintedMembers.{got, got_other}

-- members without those of an override
pub record IsBare (rest : Members) : Type 0 where
  pub enabled : get_member (codes "enabled") rest ≡ None
  pub action : get_member (codes "action") rest ≡ None

said_action : Option Plain → Option Data
said_action action = option_map (λ given. string (plain_name given)) action

enabled_got : (said : Override) (rest : Members) → IsBare rest → get (codes "enabled") (object (put_override said rest)) ≡ option_map boolean said.enabled
enabled_got said rest bare = got (codes "enabled") (option_map boolean said.enabled) _ (got_other (codes "enabled") (codes "action") _ rest refl ∙ bare.enabled)

action_got : (said : Override) (rest : Members) → IsBare rest → get (codes "action") (object (put_override said rest)) ≡ said_action said.action
unfolding said_action
action_got said rest bare = got_other (codes "action") (codes "enabled") (option_map boolean said.enabled) _ refl ∙ got (codes "action") _ rest bare.action

other_got : (name : List ℕ) (said : Override) (rest : Members) → bytes_eq name (codes "enabled") ≡ false → bytes_eq name (codes "action") ≡ false
    → get name (object (put_override said rest)) ≡ get name (object rest)
other_got name said rest enabled action =
    got_other name (codes "enabled") (option_map boolean said.enabled) _ enabled ∙ got_other name (codes "action") _ rest action

-- ---- one override

bool_fits : (o : Option Bool) → differs as_bool (option_map boolean o) ≡ false
bool_fits None = refl
bool_fits (Some b) = refl

bool_read : (o : Option Bool) → option_and_then as_bool (option_map boolean o) ≡ o
bool_read None = refl
bool_read (Some b) = refl

action_text : (action : Option Plain) → differs as_str (said_action action) ≡ false
unfolding said_action
action_text None = refl
action_text (Some given) = refl

action_known : (action : Option Plain) → IsGiven action → differs override_action (said_action action) ≡ false
unfolding said_action
action_known None given = refl
action_known (Some plain.Block) given = refl
action_known (Some plain.Log) given = refl
action_known (Some plain.ManagedChallenge) given = refl
action_known (Some plain.JsChallenge) given = refl
action_known (Some plain.Challenge) given = refl
action_known (Some plain.Other) given = absurd (given plain.Other refl refl)

action_read : (action : Option Plain) → IsGiven action → option_and_then override_action (said_action action) ≡ action
unfolding said_action
action_read None given = refl
action_read (Some plain.Block) given = refl
action_read (Some plain.Log) given = refl
action_read (Some plain.ManagedChallenge) given = refl
action_read (Some plain.JsChallenge) given = refl
action_read (Some plain.Challenge) given = refl
action_read (Some plain.Other) given = absurd (given plain.Other refl refl)

override_passes : (place : List ℕ) (said : Override) (rest : Members) → IsBare rest → override_table place (object (put_override said rest)) None
unfolding override_table
override_passes place said rest bare = (
  ap (λ (o : Option Data). differs as_bool o) (enabled_got said rest bare) ∙ bool_fits said.enabled,
  (
    ap (λ (o : Option Data). differs as_str o) (action_got said rest bare) ∙ action_text said.action,
    ap (λ (o : Option Data). differs override_action o) (action_got said rest bare) ∙ action_known said.action said.given,
  ),
)

nothing_twice : (a b : ⊥) → a ≡ b
nothing_twice a b = absurd a

given_once : (action : Option Plain) (g h : IsGiven action) → g ≡ h
given_once action g h = λ i x same other. nothing_twice (g x same other) (h x same other) i

abbrev said_as : Option Bool → (action : Option Plain) → IsGiven action → Override
said_as enabled action given = record { enabled = enabled; action = action; given = given }

same_given : (enabled : Option Bool) (x y : Option Plain) → x ≡ y → (g : IsGiven x) (h : IsGiven y) → said_as enabled x g ≡ said_as enabled y h
same_given enabled x y same g =
    subst (λ (z : Option Plain). (h : IsGiven z) → said_as enabled x g ≡ said_as enabled z h) same
    (λ h. ap (λ (k : IsGiven x). said_as enabled x k) (given_once x g h))

-- what an override says is all of it
same_said : (a b : Override) → a.enabled ≡ b.enabled → a.action ≡ b.action → a ≡ b
same_said a b enabled action =
    ap (λ (e : Option Bool). said_as e a.action a.given) enabled ∙ same_given b.enabled a.action b.action action a.given b.given

override_back : (said : Override) (rest : Members) → IsBare rest → override_at (object (put_override said rest)) ≡ said
override_back said rest bare =
    same_said _ said
    (ap (λ (o : Option Data). option_and_then as_bool o) (enabled_got said rest bare) ∙ bool_read said.enabled)
    (ap (λ (o : Option Data). option_and_then override_action o) (action_got said rest bare) ∙ action_read said.action said.given)

-- ---- overrides with what they are for

pub record IsEntryName (name : List ℕ) : Type 0 where
  pub enabled : bytes_eq name (codes "enabled") ≡ false
  pub action : bytes_eq name (codes "action") ≡ false
  pub found : (d : Data) → get_member name (member name d no_members) ≡ Some d
  pub bare : (d : Data) → IsBare (member name d no_members)

category_name : IsEntryName (codes "category")
category_name = record { enabled = refl; action = refl; found = λ d. refl; bare = λ d. record { enabled = refl; action = refl } }

id_name : IsEntryName (codes "id")
id_name = record { enabled = refl; action = refl; found = λ d. refl; bare = λ d. record { enabled = refl; action = refl } }

entry_got : (name : List ℕ) (entry : List ℕ × Override) → IsEntryName name → get name (printed_entry name entry) ≡ Some (string entry.0)
unfolding printed_entry
entry_got name entry is = other_got name entry.1 _ is.enabled is.action ∙ is.found (string entry.0)

entry_passes : (name entries : List ℕ) (earlier : List (List ℕ × Override)) (entry : List ℕ × Override) → IsEntryName name
    → entry_table name entries earlier (printed_entry name entry) None
unfolding entry_table printed_entry
entry_passes name entries earlier entry is = (
  refl,
  (
    (ap (λ (o : Option Data). is_none o) (entry_got name entry is), ap (λ (o : Option Data). differs as_str o) (entry_got name entry is)),
    override_passes _ entry.1 _ (is.bare (string entry.0)),
  ),
)

entry_back : (name : List ℕ) (entry : List ℕ × Override) → IsEntryName name → entry_at name (printed_entry name entry) ≡ entry
unfolding printed_entry
entry_back name entry is =
    λ i. (unwrap_or (option_and_then as_str (entry_got name entry is i)) [], override_back entry.1 _ (is.bare (string entry.0)) i)

entries_pass : (name place : List ℕ) (entries : List (List ℕ × Override)) → IsEntryName name
    → each_entry_table name place (list_of (items_of (map (printed_entry name) entries))) None
entries_pass name place entries is =
    subst (λ (ds : List Data). each_entry_table name place ds None) (sym (list_of-items_of (map (printed_entry name) entries)))
    (each_passes (entry_table name place) (entry_at name) (printed_entry name) (λ entry. entry) (λ earlier entry. Unit {0})
    (λ earlier entry kept. entry_passes name place (map (λ e. e) earlier) entry is)
    (λ earlier entry kept. entry_back name entry is) [] entries (after_none [] entries))

entries_back : (name : List ℕ) (entries : List (List ℕ × Override)) → IsEntryName name
    → map (entry_at name) (list_of (items_of (map (printed_entry name) entries))) ≡ entries
entries_back name [] is = refl
entries_back name (entry ∷ entries) is = λ i. entry_back name entry is i ∷ entries_back name entries is i

-- ---- all of an `execute`

entries_of_name : (name member_name place : List ℕ) (d : Data) (entries : List (List ℕ × Override)) → IsEntryName name
    → get member_name d ≡ Some (array (items_of (map (printed_entry name) entries))) → entries_table name place member_name d None
entries_of_name name member_name place d entries is found = (
  ap (λ (o : Option Data). differs as_array o) found,
  subst (λ (o : Option Data). each_entry_table name (child place member_name) (unwrap_or (option_map list_of (option_and_then as_array o)) []) None)
      (sym found) (entries_pass name (child place member_name) entries is),
)

categories_got : (overrides : Overrides) → get (codes "categories") (printed_overrides overrides) ≡ Some (array (items_of (map (printed_entry (codes "category")) overrides.tags)))
unfolding printed_overrides
categories_got overrides = other_got (codes "categories") overrides.whole _ refl refl

rules_got : (overrides : Overrides) → get (codes "rules") (printed_overrides overrides) ≡ Some (array (items_of (map (printed_entry (codes "id")) overrides.rules)))
unfolding printed_overrides
rules_got overrides = other_got (codes "rules") overrides.whole _ refl refl

-- what stands beside the members of the whole
abbrev beside : Overrides → Members
beside overrides =
    member (codes "categories") (array (items_of (map (printed_entry (codes "category")) overrides.tags)))
    (member (codes "rules") (array (items_of (map (printed_entry (codes "id")) overrides.rules))) no_members)

pub overrides_pass : (place : List ℕ) (overrides : Overrides) → overrides_table place (printed_overrides overrides) None
unfolding overrides_table printed_overrides
overrides_pass place overrides = (
  override_passes place overrides.whole (beside overrides) (record { enabled = refl; action = refl }),
  (
    entries_of_name (codes "category") (codes "categories") place (printed_overrides overrides) overrides.tags category_name (categories_got overrides),
    entries_of_name (codes "id") (codes "rules") place (printed_overrides overrides) overrides.rules id_name (rules_got overrides),
  ),
)

pub overrides_back : (overrides : Overrides) → overrides_at (printed_overrides overrides) ≡ overrides
unfolding overrides_at printed_overrides
overrides_back overrides = λ i. record {
  whole = override_back overrides.whole (beside overrides) (record { enabled = refl; action = refl }) i;
  tags = (ap (λ (o : Option Data). map (entry_at (codes "category")) (unwrap_or (option_map list_of (option_and_then as_array o)) [])) (categories_got overrides) ∙ entries_back (codes "category") overrides.tags category_name) i;
  rules = (ap (λ (o : Option Data). map (entry_at (codes "id")) (unwrap_or (option_map list_of (option_and_then as_array o)) [])) (rules_got overrides) ∙ entries_back (codes "id") overrides.rules id_name) i;
}
