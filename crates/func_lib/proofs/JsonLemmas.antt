-- Texts that aren't UTF-8 are no JSON, and names that aren't are no members.
use Rattle.std.proofs.Common.{◌≡◌, ℕ, Bool, true, false, cond, List, Option, None, refl, ap}
use Rattle.std.specs.Str.{IsUtf8, is_utf8}
use Rattle.std.proofs.lemmas.Str.{IsUtf8-from_is_utf8, is_utf8-from_IsUtf8}
use Rattle.serde_json.specs.Data.{Data}
use Rattle.serde_json.specs.Find.{get}
use Rattle.serde_json.specs.Read.{read}
use Rattle.func_lib.specs.Json.{json_of, member_of}

none_at : (b : Bool) (found : Option Data) → (b ≡ true → found ≡ None) → cond b found None ≡ None
none_at true found h = h refl
none_at false found h = refl

pub json_at_utf8 : (text : List ℕ) → IsUtf8 text → json_of text ≡ read text
json_at_utf8 text h = ap (λ b. cond b (read text) None) (is_utf8-from_IsUtf8 text h)

pub no_json : (text : List ℕ) → (IsUtf8 text → read text ≡ None) → json_of text ≡ None
no_json text h = none_at (is_utf8 text) (read text) (λ e. h (IsUtf8-from_is_utf8 text e))

pub member_at_utf8 : (name : List ℕ) (d : Data) → IsUtf8 name → member_of name d ≡ get name d
member_at_utf8 name d h = ap (λ b. cond b (get name d) None) (is_utf8-from_IsUtf8 name h)

pub no_member : (name : List ℕ) (d : Data) → ¬ (IsUtf8 name) → member_of name d ≡ None
no_member name d h = none_at (is_utf8 name) (get name d) (λ e. absurd (h (IsUtf8-from_is_utf8 name e)))
