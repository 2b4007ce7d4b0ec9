-- The longest token of some kinds, and of all.
use Rattle.std.proofs.Common.{◌≡◌, ℕ, ◌<◌, ◌≤◌, Bool, true, false, cond, ◌||◌, nat_lt, List, take, Option, Some, None, MatchOption, inl, inr, refl, sym, ◌∙◌, subst, arith, ltb-true, ltb-false}
use Rattle.std.proofs.lemmas.Bool.{cases_Bool, not_from_false}
use Rattle.edge_base.specs.declared.token.TokenKind.{TokenKind}
use Rattle.edge_base.specs.declared.token.TokenKind.TheVariants as kind
use Rattle.edge_base.specs.Token.{is_reserved, IsTokenOf}
use Rattle.edge_base.specs.Cut.{IsLongest}
use Rattle.expr_lexer.specs.declared.scanner.State.TheVariants as state
use Rattle.expr_lexer.specs.declared.fronts.Front.{Front}
use Rattle.expr_lexer.specs.Scan.{kind_from}
use Rattle.expr_lexer.specs.Fronts.{is_scanned, is_block, is_address, kind_of_name, longer_of, HasNoneAmong, HasNoToken, IsAtLeast, IsLongestAmong}
use Rattle.expr_lexer.proofs.KindLemmas.{Shape, scan_gives}
use Rattle.expr_lexer.proofs.TakenLemmas.{scan_takes, reserved_is_name}
use Rattle.expr_lexer.proofs.FrontLemmas.{HasNoneRead, IsLongestRead}

-- ---- what the scanner reads

-- the kind that the scanner gives a token, a reserved word being a name
abbrev pub shape_of : TokenKind → TokenKind
shape_of kind.Reserved = kind.Name
shape_of token_kind = token_kind

name_token : (text : List ℕ) (test : Bool) → is_reserved text ≡ test → Shape kind.Name text → IsTokenOf (cond test kind.Reserved kind.Name) text
name_token text true reserved h = reserved
name_token text false plain h = (h, not_from_false _ plain)

token_of_shape : (token_kind : TokenKind) (text : List ℕ) → Shape token_kind text → IsTokenOf (kind_of_name token_kind text) text
token_of_shape kind.Name text h = name_token text (is_reserved text) refl h
token_of_shape kind.Reserved text h = absurd h
token_of_shape kind.Number text h = h
token_of_shape kind.Address text h = absurd h
token_of_shape kind.Block text h = absurd h
token_of_shape kind.Text text h = h
token_of_shape kind.RawText text h = h
token_of_shape kind.ListName text h = h
token_of_shape kind.Symbol text h = h

-- a token of the kinds that the scanner reads is read
pub token_is_read : (token_kind : TokenKind) (text : List ℕ) → is_scanned token_kind ≡ true → IsTokenOf token_kind text → kind_from state.Start text ≡ Some (shape_of token_kind)
token_is_read kind.Name text among h = scan_takes text kind.Name h.0
token_is_read kind.Reserved text among h = scan_takes text kind.Name (reserved_is_name text h)
token_is_read kind.Number text among h = scan_takes text kind.Number h
token_is_read kind.Address text among h = absurd (cc)
token_is_read kind.Block text among h = absurd (cc)
token_is_read kind.Text text among h = scan_takes text kind.Text h
token_is_read kind.RawText text among h = scan_takes text kind.RawText h
token_is_read kind.ListName text among h = scan_takes text kind.ListName h
token_is_read kind.Symbol text among h = scan_takes text kind.Symbol h

pub none_scanned : (text : List ℕ) → HasNoneRead state.Start text → HasNoneAmong is_scanned text
none_scanned text none size token_kind among within h =
    let bad : None ≡ Some (shape_of token_kind) = sym (none size within) ∙ token_is_read token_kind (take size text) among h in absurd (cc)

pub longest_is_scanned : (text : List ℕ) (front : Front) → IsLongestRead state.Start text front
    → IsAtLeast is_scanned text (record { size = front.size; kind = kind_of_name front.kind (take front.size text) })
longest_is_scanned text front h = record {
  within = h.within;
  is_token = token_of_shape front.kind (take front.size text) (scan_gives (take front.size text) front.kind h.read);
  longest = λ other other_kind among within token. h.longest other (shape_of other_kind) within (token_is_read other_kind (take other text) among token);
}

-- ---- the longer of two

abbrev pub either : (TokenKind → Bool) → (TokenKind → Bool) → TokenKind → Bool
either some more token_kind = some token_kind || more token_kind

pub longer_is : (some more : TokenKind → Bool) (text : List ℕ) (one other : Option Front)
    → IsLongestAmong some text one → IsLongestAmong more text other → IsLongestAmong (either some more) text (longer_of one other)
longer_is some more text None None h k = λ size token_kind among within token. elim (cases_Bool (some token_kind)) [
  | inl here ↦ h size token_kind here within token
  | inr there ↦ k size token_kind (rw there at among) within token
]
longer_is some more text None (Some front) h k = record {
  within = k.within;
  is_token = k.is_token;
  longest = λ size token_kind among within token. elim (cases_Bool (some token_kind)) [
    | inl here ↦ absurd (h size token_kind here within token)
    | inr there ↦ k.longest size token_kind (rw there at among) within token
  ];
}
longer_is some more text (Some front) None h k = record {
  within = h.within;
  is_token = h.is_token;
  longest = λ size token_kind among within token. elim (cases_Bool (some token_kind)) [
    | inl here ↦ h.longest size token_kind here within token
    | inr there ↦ absurd (k size token_kind (rw there at among) within token)
  ];
}
longer_is some more text (Some front) (Some next) h k = elim (cases_Bool (nat_lt front.size next.size)) [
  | inl less ↦ let below : front.size < next.size = ltb-true front.size next.size less in
      subst (IsLongestAmong (either some more) text) (let e : Some next ≡ longer_of (Some front) (Some next) = rw less refl in e) record {
        within = k.within;
        is_token = k.is_token;
        longest = λ size token_kind among within token. elim (cases_Bool (some token_kind)) [
          | inl here ↦ omega (arith, h.longest size token_kind here within token)
          | inr there ↦ k.longest size token_kind (rw there at among) within token
        ];
      }
  | inr more_or_same ↦ let above : next.size ≤ front.size = ltb-false front.size next.size more_or_same in
      subst (IsLongestAmong (either some more) text) (let e : Some front ≡ longer_of (Some front) (Some next) = rw more_or_same refl in e) record {
        within = h.within;
        is_token = h.is_token;
        longest = λ size token_kind among within token. elim (cases_Bool (some token_kind)) [
          | inl here ↦ h.longest size token_kind here within token
          | inr there ↦ omega (arith, k.longest size token_kind (rw there at among) within token)
        ];
      }
]

every_kind : (token_kind : TokenKind) → either (either is_scanned is_address) is_block token_kind ≡ true
every_kind kind.Name = refl
every_kind kind.Reserved = refl
every_kind kind.Number = refl
every_kind kind.Address = refl
every_kind kind.Block = refl
every_kind kind.Text = refl
every_kind kind.RawText = refl
every_kind kind.ListName = refl
every_kind kind.Symbol = refl

pub longest_of_all : (text : List ℕ) (found : Option Front) → IsLongestAmong (either (either is_scanned is_address) is_block) text found
    → MatchOption found (HasNoToken text) (λ front. IsLongest text front.size front.kind)
longest_of_all text None h = λ size token_kind within token. h size token_kind (every_kind token_kind) within token
longest_of_all text (Some front) h = record {
  within = h.within;
  is_token = h.is_token;
  longest = λ size token_kind within token. h.longest size token_kind (every_kind token_kind) within token;
}
