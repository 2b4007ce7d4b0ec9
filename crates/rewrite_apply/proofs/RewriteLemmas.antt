-- Lists that grow by one at their end, and the place at which a header is set.
use Rattle.std.proofs.Common.{◌≡◌, ℕ, suc, ◌+◌, ◌<◌, Bool, true, false, cond, not, ◌&&◌, if◌then◌else◌, List, [], ◌∷◌, ◌++◌, Option, None, Some, length, take, drop, get_or, position, refl, sym, ap, subst, ◌∙◌, arith, append_assoc, append-nil}
use Rattle.std.specs.List.{position_from}
use Rattle.std.specs.Option.{is_none}
use Rattle.std.proofs.lemmas.Iterator.Adapters.{position_from-zero}
use Rattle.std.proofs.lemmas.List.{take_more}
use Rattle.std.proofs.lemmas.Option.{same_Some}
use Rattle.edge_base.specs.declared.message.Header.{Header}
use Rattle.edge_fields.specs.Fields.{has_name}
use Rattle.rewrite_apply.specs.declared.changes.HeaderChange.{HeaderChange}
use Rattle.rewrite_apply.specs.declared.escapes.Part.{Part}
use Rattle.rewrite_apply.specs.Rewrites.{escaped_byte, escaped_in, with_query, joined, changed_target, without, with_header, changed, headers_after}

pub escaped_in-push : (part : Part) (text : List ℕ) (byte : ℕ) → escaped_in part (text ++ byte ∷ []) ≡ escaped_in part text ++ escaped_byte part byte
escaped_in-push part [] byte = append-nil (escaped_byte part byte)
escaped_in-push part (first ∷ text) byte =
    ap (λ rest. escaped_byte part first ++ rest) (escaped_in-push part text byte)
    ∙ sym (append_assoc (escaped_byte part first) (escaped_in part text) (escaped_byte part byte))

pub headers_after-push : (changes : List HeaderChange) (change : HeaderChange) (headers : List Header) → headers_after (changes ++ change ∷ []) headers ≡ changed change (headers_after changes headers)
headers_after-push [] change headers = refl
headers_after-push (first ∷ changes) change headers = headers_after-push changes change (changed first headers)

pub escaped_in-take_more : (part : Part) (text : List ℕ) (i : ℕ) → i < length text → escaped_in part (take (i + 1) text) ≡ escaped_in part (take i text) ++ escaped_byte part (get_or text i 0)
escaped_in-take_more part text i below = ap (escaped_in part) (take_more text i 0 below) ∙ escaped_in-push part (take i text) (get_or text i 0)

pub headers_after_take_more : (changes : List HeaderChange) (headers : List Header) (i : ℕ) (d : HeaderChange) → i < length changes → headers_after (take (i + 1) changes) headers ≡ changed (get_or changes i d) (headers_after (take i changes) headers)
headers_after_take_more changes headers i d below = ap (λ front. headers_after front headers) (take_more changes i d below) ∙ headers_after-push (take i changes) (get_or changes i d) headers

-- ---- the place of a header that is set
module _ (new : Header) where
  abbrev test : Header → Bool
  test = has_name new.name

  abbrev kept : List Header → List Header
  kept headers = without new.name headers

  set_from : (i at : ℕ) (headers : List Header) → position_from test i headers ≡ Some at → (place : ℕ) × (at ≡ i + place) × (take place headers ++ new ∷ kept (drop place headers) ≡ with_header new headers)
  set_from i at [] found = absurd cc
  set_from i at (header ∷ headers) found = by (set_from (i + 1) at headers) (test header) refl
    where
      by : (position_from test (i + 1) headers ≡ Some at → (place : ℕ) × (at ≡ i + 1 + place) × (take place headers ++ new ∷ kept (drop place headers) ≡ with_header new headers)) → (there : Bool) → test header ≡ there → (place : ℕ) × (at ≡ i + place) × (take place (header ∷ headers) ++ new ∷ kept (drop place (header ∷ headers)) ≡ with_header new (header ∷ headers))
      by rest true there =
          let same : i ≡ at = same_Some _ _ (sym (ap (λ c. cond c (Some i) (position_from test (i + 1) headers)) there) ∙ found) in (
            0,
            omega arith,
            ap (λ c. new ∷ (cond (not c) (header ∷ kept headers) (kept headers))) there
                ∙ sym (ap (λ c. if c then new ∷ kept headers else header ∷ with_header new headers) there),
          )
      by rest false there =
          let later = rest (sym (ap (λ c. cond c (Some i) (position_from test (i + 1) headers)) there) ∙ found) in
          let same : at ≡ i + 1 + later.0 = later.1 in (
            suc later.0,
            omega arith,
            ap (λ made. header ∷ made) later.2
                ∙ sym (ap (λ c. if c then new ∷ kept headers else header ∷ with_header new headers) there),
          )

  set_last : (i : ℕ) (headers : List Header) → position_from test i headers ≡ None → headers ++ new ∷ [] ≡ with_header new headers
  set_last i [] none = refl
  set_last i (header ∷ headers) none = by (set_last (i + 1) headers) (test header) refl
    where
      by : (position_from test (i + 1) headers ≡ None → headers ++ new ∷ [] ≡ with_header new headers) → (there : Bool) → test header ≡ there → (header ∷ headers) ++ new ∷ [] ≡ with_header new (header ∷ headers)
      by rest true there = absurd cc (sym (ap (λ c. cond c (Some i) (position_from test (i + 1) headers)) there) ∙ none)
      by rest false there =
          ap (λ made. header ∷ made) (rest (sym (ap (λ c. cond c (Some i) (position_from test (i + 1) headers)) there) ∙ none))
          ∙ sym (ap (λ c. if c then new ∷ kept headers else header ∷ with_header new headers) there)

  pub set_at : (at : ℕ) (headers : List Header) → position test headers ≡ Some at → take at headers ++ new ∷ kept (drop at headers) ≡ with_header new headers
  set_at at headers found =
      let made = set_from 0 at headers (sym (position_from-zero test headers) ∙ found) in
      let same : made.0 ≡ at = omega (arith, made.1) in
      subst (λ place. take place headers ++ new ∷ kept (drop place headers) ≡ with_header new headers) same made.2

  pub set_at_end : (headers : List Header) → position test headers ≡ None → headers ++ new ∷ [] ≡ with_header new headers
  set_at_end headers none = set_last 0 headers (sym (position_from-zero test headers) ∙ none)

-- ---- the parts of a target
pub no_query : (path query : List ℕ) → length query ≡ 0 → path ≡ with_query path query
no_query path [] empty = refl
no_query path (byte ∷ query) empty = absurd (omega (arith, empty))

pub some_query : (path query : List ℕ) → 0 < length query → path ++ 63 ∷ query ≡ with_query path query
some_query path [] has = absurd (omega (arith, has))
some_query path (byte ∷ query) has = refl

pub both_stay : (path query : Option (List ℕ)) (target : List ℕ) → path ≡ None → query ≡ None → target ≡ changed_target path query target
both_stay None None target no_path no_query = refl
both_stay None (Some q) target no_path no_query = absurd cc
both_stay (Some p) query target no_path no_query = absurd cc

pub one_changes : (path query : Option (List ℕ)) (target : List ℕ) → (is_none path && is_none query) ≡ false → joined path query target ≡ changed_target path query target
one_changes None None target some = absurd cc
one_changes None (Some q) target some = refl
one_changes (Some p) query target some = refl
