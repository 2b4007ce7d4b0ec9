-- The terminals of a text's tokens have the values of some tokens.
use Rattle.std.proofs.Common.{◌≡◌, ℕ, ◌==◌, ◌&&◌, Bool, true, false, not, cond, ℤ, List, [], ◌∷◌, ◌++◌, length, refl, sym, subst, eqb-true, bytes_eq}
use Rattle.std.specs.Prelude.{option_map}
use Rattle.std.specs.List.{list_all}
use Rattle.std.proofs.lemmas.Bool.{and_parts}
use Rattle.std.specs.declared.option.Option.{Option}
use Rattle.std.specs.declared.option.Option.TheVariants.{None, Some}
use Rattle.edge_base.specs.declared.terminal.Terminal.{Terminal}
use Rattle.edge_base.specs.declared.terminal.Terminal.TheVariants as terminal
use Rattle.edge_base.specs.declared.token.Token.{Token}
use Rattle.edge_base.specs.declared.token.TokenKind.{TokenKind}
use Rattle.edge_base.specs.declared.token.TokenKind.TheVariants as kind
use Rattle.edge_base.specs.Token.{number_of, quoted_text_of, raw_text_of, list_name_of, is_name_byte, IsTokenOf, words_of}
use Rattle.edge_base.specs.Cut.{IsCutBetween, IsCut}
use Rattle.edge_base.specs.Spellings.{Spelling, reserved_words, symbols}
use Rattle.edge_base.specs.Terminal.{spelled, IsTerminalOf, AreTerminals}
use Rattle.expr_parser.proofs.Written.{IsSound, AreSound}

abbrev AreSoundSpellings : List Spelling → Type 0
AreSoundSpellings [] = Unit {0}
AreSoundSpellings (s ∷ rest) = IsSound s.stands_for × AreSoundSpellings rest

spelled_by : (here : Bool) (x t : Terminal) (rest : Option Terminal) → cond here (Some x) rest ≡ Some t → IsSound x → (rest ≡ Some t → IsSound t) → IsSound t
spelled_by true x t rest h sound later = (let same : x ≡ t = cc in subst IsSound same sound)
spelled_by false x t rest h sound later = later h

spelled_is_sound : (table : List Spelling) (text : List ℕ) (t : Terminal) → AreSoundSpellings table → spelled table text ≡ Some t → IsSound t
spelled_is_sound [] text t sound h = absurd cc
spelled_is_sound (s ∷ rest) text t sound h = spelled_by (bytes_eq text s.spelling) s.stands_for t (spelled rest text) h sound.0 (spelled_is_sound rest text t sound.1)

number_is_sound : (text : List ℕ) (t : Terminal) (found : Option ℤ) → number_of text ≡ found → option_map terminal.Number found ≡ Some t → IsSound t
number_is_sound text t None eq h = absurd cc
number_is_sound text t (Some n) eq h = (let same : terminal.Number n ≡ t = cc in subst IsSound same (text, eq))

text_is_sound : (t : Terminal) (found : Option (List ℕ)) → option_map terminal.Text found ≡ Some t → IsSound t
text_is_sound t None h = absurd cc
text_is_sound t (Some text) h = (let same : terminal.Text text ≡ t = cc in subst IsSound same tt)

-- a list's name that is taken has its `$` and is the rest
list_name_by : (byte : ℕ) (text : List ℕ) (t : Terminal) (here : Bool) → (here ≡ true → byte ≡ 36) → list_name_of (byte ∷ text) ≡ cond here (Some text) None
    → option_map terminal.ListName (cond here (Some text) None) ≡ Some t → IsSound t
list_name_by byte text t false first is h = absurd cc
list_name_by byte text t true first is h =
    let same : terminal.ListName text ≡ t = cc in
    subst IsSound same (subst (λ b. list_name_of (b ∷ text) ≡ Some text) (first refl) is)

dollar : (byte : ℕ) (a b : Bool) → (byte == 36 && a && b) ≡ true → byte ≡ 36
dollar byte a b h = eqb-true byte 36 (and_parts (byte == 36) a (and_parts (byte == 36 && a) b h).0).0

list_name_is_sound : (text : List ℕ) (t : Terminal) → option_map terminal.ListName (list_name_of text) ≡ Some t → IsSound t
list_name_is_sound [] t h = absurd cc
list_name_is_sound (byte ∷ text) t h =
    list_name_by byte text t (byte == 36 && not (length text == 0) && list_all is_name_byte text) (dollar byte (not (length text == 0)) (list_all is_name_byte text)) refl h

sound_terminal : (k : TokenKind) (text : List ℕ) (t : Terminal) → IsTokenOf k text → IsTerminalOf k text t → IsSound t
sound_terminal kind.Name text t token h = subst IsSound (sym h) token
sound_terminal kind.Reserved text t token h =
    spelled_is_sound reserved_words text t
    (tt, (tt, (tt, (tt, (tt, (tt, (tt, (tt, (tt, (tt, (tt, (tt, (tt, (tt, (tt, (tt, (tt, tt))))))))))))))))) h
sound_terminal kind.Number text t token h = number_is_sound text t (number_of text) refl h
sound_terminal kind.Address text t token h = subst IsSound (sym h.2) (text, h.1)
sound_terminal kind.Block text t token h = subst IsSound (sym h.3) (text, h.2)
sound_terminal kind.Text text t token h = text_is_sound t (quoted_text_of text) h
sound_terminal kind.RawText text t token h = text_is_sound t (raw_text_of text) h
sound_terminal kind.ListName text t token h = list_name_is_sound text t h
sound_terminal kind.Symbol text t token h =
    spelled_is_sound symbols text t
    (tt, (tt, (tt, (tt, (tt, (tt, (tt, (tt, (tt, (tt, (tt, (tt, (tt, (tt, (tt, (tt, (tt, (tt, (tt, (tt, tt)))))))))))))))))))) h

sound_between : (text : List ℕ) (start end : ℕ) (tokens : List Token) (ts : List Terminal) → IsCutBetween text start end tokens → AreTerminals (words_of text tokens) ts
    → AreSound ts
sound_between text start end [] [] cut h = tt
sound_between text start end [] (t ∷ ts) cut h = absurd h
sound_between text start end (token ∷ tokens) [] cut h = absurd h
sound_between text start end (token ∷ tokens) (t ∷ ts) cut h =
    (sound_terminal token.kind _ t cut.2.is_longest.is_token h.0, sound_between text token.end end tokens ts cut.3 h.1)

pub sound_of_cut : (text : List ℕ) (tokens : List Token) (ts : List Terminal) → IsCut text tokens → AreTerminals (words_of text tokens) ts → AreSound ts
sound_of_cut text tokens ts cut h = sound_between text 0 (length text) tokens ts cut h

-- ---- in parts

pub sound_front : (ts us : List Terminal) → AreSound (ts ++ us) → AreSound ts
sound_front [] us h = tt
sound_front (t ∷ ts) us h = (h.0, sound_front ts us h.1)

pub sound_back : (ts us : List Terminal) → AreSound (ts ++ us) → AreSound us
sound_back [] us h = h
sound_back (t ∷ ts) us h = sound_back ts us h.1
