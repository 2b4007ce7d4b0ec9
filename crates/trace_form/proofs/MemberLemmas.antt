-- What is taken out of an object leaves its other members, and what these tell.
use Rattle.std.proofs.Common.{◌≡◌, ◌≢◌, Bool, true, false, true≢false, cond, List, [], ◌∷◌, ℕ, Some, codes, refl, sym, ap, ◌∙◌, string_bytes, nat_cmp, is_eq, bytes_eq}
use Rattle.std.proofs.lemmas.Map.Text.{is_eq-slice_cmp}
use Rattle.std.proofs.lemmas.Slice.Eq.{bytes_eq-Decides}
use Rattle.std.specs.Cmp.Lexicographic.{slice_cmp}
use Rattle.std.specs.Map.{remove_entry}
use Rattle.std.specs.BTreeMap.{is_at}
use Rattle.std.specs.Ordering.{match_ordering}
use Rattle.serde_json.specs.Data.{Data}
use Rattle.serde_json.specs.Find.{get_member, as_bool, as_str, as_number}
use Rattle.serde_json.specs.View.{view, members_view}
use Rattle.serde_json.proofs.Views.{Entry, member_later}
use Rattle.std.specs.Prelude.{option_and_then}
use Rattle.trace_form.specs.Asked.{moment_in, member_or, minor_in, is_method, is_target, headers_in, Told, IsTold}
use Rattle.std.specs.Bool.{then_some}
use Rattle.trace_form.specs.Sent.{Sent, IsSent}
use Rattle.trace_form.specs.Found.{HasOthers}

pub removed-others : (name other : List ℕ) (es : List Entry) → other ≢ name
    → get_member other (members_view (remove_entry (is_at (λ k. slice_cmp nat_cmp name (string_bytes k))) es)) ≡ get_member other (members_view es)
removed-others name other [] apart = refl
removed-others name other (e ∷ es) apart = of_test (is_eq (slice_cmp nat_cmp name (string_bytes e.0))) refl (removed-others name other es apart) where
  of_test : (test : Bool) → is_eq (slice_cmp nat_cmp name (string_bytes e.0)) ≡ test
      → get_member other (members_view (remove_entry (is_at (λ k. slice_cmp nat_cmp name (string_bytes k))) es)) ≡ get_member other (members_view es)
      → get_member other (members_view (cond test es (e ∷ remove_entry (is_at (λ k. slice_cmp nat_cmp name (string_bytes k))) es))) ≡ get_member other (members_view (e ∷ es))
  of_test true is later =
      let same = (bytes_eq-Decides name (string_bytes e.0)).0 (sym (is_eq-slice_cmp name (string_bytes e.0)) ∙ is) in
      sym (member_later other e es (λ other_is. apart (other_is ∙ sym same)))
  of_test false is later = ap (λ found. match_ordering (slice_cmp nat_cmp other (string_bytes e.0)) found (Some (view e.1)) found) later

not-reply : (name : List ℕ) → bytes_eq name (codes "reply") ≡ false → name ≢ codes "reply"
not-reply name other same = absurd (true≢false (sym ((bytes_eq-Decides name (codes "reply")).1 same) ∙ other))

-- a request is told by the members beside the reply
pub told-beside : (value rest : Data) (told : Told) → HasOthers (codes "reply") value rest → IsTold rest told → IsTold value told
told-beside value rest told others is = record {
  at = sym (ap (λ found. option_and_then moment_in (option_and_then as_number found)) (others (codes "at") (not-reply (codes "at") refl))) ∙ is.at;
  ip = sym (ap (λ found. option_and_then as_str found) (others (codes "ip") (not-reply (codes "ip") refl))) ∙ is.ip;
  ssl = sym (ap (λ found. member_or false as_bool found) (others (codes "ssl") (not-reply (codes "ssl") refl))) ∙ is.ssl;
  method = sym (ap (λ found. option_and_then (λ text. then_some (is_method text) text) (option_and_then as_str found)) (others (codes "method") (not-reply (codes "method") refl))) ∙ is.method;
  target = sym (ap (λ found. option_and_then (λ text. then_some (is_target text) text) (option_and_then as_str found)) (others (codes "target") (not-reply (codes "target") refl))) ∙ is.target;
  minor = sym (ap (λ found. member_or 1 (λ version. option_and_then minor_in (as_str version)) found) (others (codes "version") (not-reply (codes "version") refl))) ∙ is.minor;
  headers = sym (ap (λ found. member_or [] headers_in found) (others (codes "headers") (not-reply (codes "headers") refl))) ∙ is.headers;
}

-- and so is one that stands as it was sent
pub sent-beside : (value rest : Data) (sent : Sent) → HasOthers (codes "reply") value rest → IsSent rest sent → IsSent value sent
sent-beside value rest sent others is = record {
  at = sym (ap (λ found. option_and_then moment_in (option_and_then as_number found)) (others (codes "at") (not-reply (codes "at") refl))) ∙ is.at;
  ip = sym (ap (λ found. option_and_then as_str found) (others (codes "ip") (not-reply (codes "ip") refl))) ∙ is.ip;
  ssl = sym (ap (λ found. member_or false as_bool found) (others (codes "ssl") (not-reply (codes "ssl") refl))) ∙ is.ssl;
  bytes = sym (ap (λ found. option_and_then as_str found) (others (codes "raw") (not-reply (codes "raw") refl))) ∙ is.bytes;
}

pub others-back : (name : List ℕ) (value rest : Data) → HasOthers name value rest → HasOthers name rest value
others-back name value rest others other apart = sym (others other apart)
