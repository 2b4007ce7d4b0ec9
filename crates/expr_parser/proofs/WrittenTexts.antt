-- Written texts put together: signs, blanks and words before a text, one text behind another, and parentheses.
use Rattle.std.proofs.Common.{◌≡◌, ℕ, Bool, true, false, List, [], ◌∷◌, ◌++◌, IsTrue, refl, sym, subst, append_assoc}
use Rattle.std.specs.declared.option.Option.TheVariants.{Some}
use Rattle.edge_base.specs.declared.terminal.Terminal.{Terminal}
use Rattle.edge_base.specs.declared.terminal.Terminal.TheVariants as terminal
use Rattle.edge_base.specs.declared.token.TokenKind.{TokenKind}
use Rattle.edge_base.specs.declared.token.TokenKind.TheVariants as kind
use Rattle.edge_base.specs.Token.{is_reserved}
use Rattle.edge_base.specs.Terminal.{reserved, symbol}
use Rattle.expr_lexer.specs.Scan.{is_lone}
use Rattle.expr_parser.specs.Spelling.{within}
use Rattle.expr_parser.proofs.TreeTerminals.{grouped}
use Rattle.expr_parser.proofs.Written.{ends_before, StandsFor, IsCutInto, cut_blank, cut_token, IsWritten}
use Rattle.expr_parser.proofs.NamesStand.{word_stands}
use Rattle.expr_parser.proofs.SignsStand.{sign_stands}

-- a token, wherever its text stands for its terminal
pub one_written : (k : TokenKind) (text : List ℕ) (t : Terminal) → ((rest : List ℕ) → ends_before rest ≡ true → StandsFor k text rest t) → IsWritten text (t ∷ [])
one_written k text t stands rest us ends cut = cut_token (stands rest ends) cut

pub blank_before : (text : List ℕ) (ts : List Terminal) → IsWritten text ts → IsWritten (32 ∷ text) ts
blank_before text ts h rest us ends cut = cut_blank refl (h rest us ends cut)

pub sign_before : (byte : ℕ) (t : Terminal) → is_lone byte ≡ true → symbol (byte ∷ []) ≡ Some t → (text : List ℕ) (ts : List Terminal)
    → IsWritten text ts → IsWritten (byte ∷ text) (t ∷ ts)
sign_before byte t lone is text ts h rest us ends cut = cut_token (sign_stands byte (text ++ rest) t lone is) (h rest us ends cut)

pub sign_written : (byte : ℕ) (t : Terminal) → is_lone byte ≡ true → symbol (byte ∷ []) ≡ Some t → IsWritten (byte ∷ []) (t ∷ [])
sign_written byte t lone is rest us ends cut = cut_token (sign_stands byte rest t lone is) cut

pub regrouped : (a b rest : List ℕ) (ts us vs : List Terminal) → IsCutInto (a ++ (b ++ rest)) (ts ++ (us ++ vs)) → IsCutInto ((a ++ b) ++ rest) ((ts ++ us) ++ vs)
regrouped a b rest ts us vs h =
    subst (λ v. IsCutInto v ((ts ++ us) ++ vs)) (sym (append_assoc a b rest))
    (subst (λ v. IsCutInto (a ++ (b ++ rest)) v) (sym (append_assoc ts us vs)) h)

-- the first ends where the second begins
pub append_written : (a b : List ℕ) (ts us : List Terminal) → IsWritten a ts → IsWritten b us → ((rest : List ℕ) → ends_before (b ++ rest) ≡ true)
    → IsWritten (a ++ b) (ts ++ us)
append_written a b ts us h k begins rest vs ends cut = regrouped a b rest ts us vs (h (b ++ rest) (us ++ vs) (begins rest) (k rest vs ends cut))

pub same_written : (a b : List ℕ) (ts us : List Terminal) → a ≡ b → ts ≡ us → IsWritten b us → IsWritten a ts
same_written a b ts us p q h = subst (λ v. IsWritten v ts) (sym p) (subst (λ v. IsWritten b v) (sym q) h)

pub word_written : (text : List ℕ) (t : Terminal) → IsTrue (is_reserved text) → reserved text ≡ Some t → IsWritten text (t ∷ [])
word_written text t is_word is = one_written kind.Reserved text t (λ rest ends. word_stands text rest t is_word is ends)

pub word_before : (text : List ℕ) (t : Terminal) → IsTrue (is_reserved text) → reserved text ≡ Some t → (b : List ℕ) (us : List Terminal)
    → IsWritten b us → IsWritten (text ++ 32 ∷ b) (t ∷ us)
word_before text t is_word is b us h = append_written text (32 ∷ b) (t ∷ []) us (word_written text t is_word is) (blank_before b us h) (λ rest. refl)

pub in_parentheses : (text : List ℕ) (ts : List Terminal) → IsWritten text ts → IsWritten (40 ∷ text ++ 41 ∷ []) (terminal.Open ∷ ts ++ terminal.Close ∷ [])
in_parentheses text ts h = sign_before 40 terminal.Open refl refl (text ++ 41 ∷ []) (ts ++ terminal.Close ∷ [])
    (append_written text (41 ∷ []) ts (terminal.Close ∷ []) h (sign_written 41 terminal.Close refl refl) (λ rest. refl))

pub grouped_written : (needed : Bool) (text : List ℕ) (ts : List Terminal) → IsWritten text ts → IsWritten (within needed text) (grouped needed ts)
grouped_written true text ts h = in_parentheses text ts h
grouped_written false text ts h = h
