-- A text that falls into tokens of some terminals has a cut whose tokens are these terminals.
use Rattle.std.proofs.Common.{◌≡◌, ℕ, suc, ◌+◌, ◌-◌, ◌≤◌, true, List, [], ◌∷◌, ◌++◌, length, take, drop, IsTrue, refl, ap, ◌∙◌, sym, subst, arith, append_assoc, append-nil}
use Rattle.std.proofs.Common.{length-append}
use Rattle.std.proofs.lemmas.Bool.{and_from}
use Rattle.std.proofs.Math.Seq.{drop-append_seam, take-append_seam}
use Rattle.std.specs.List.{list_all, between}
use Rattle.edge_base.specs.declared.terminal.Terminal.{Terminal}
use Rattle.edge_base.specs.declared.token.Token.{Token}
use Rattle.edge_base.specs.declared.token.TokenKind.{TokenKind}
use Rattle.edge_base.specs.Token.{is_blank_byte, words_of}
use Rattle.edge_base.specs.Cut.{IsLongest, IsTokenAt, IsCutBetween, IsCut, may_stand_before}
use Rattle.edge_base.specs.Terminal.{IsTerminalOf, AreTerminals}
use Rattle.expr_parser.proofs.Written.{StandsFor, IsCutInto, cut_end, cut_blank, cut_token}

-- what a cut of the rest of a text gives
record HasCut (text : List ℕ) (start : ℕ) (ts : List Terminal) : Type 0 where
  tokens : List Token
  is_cut : IsCutBetween text start (length text) tokens
  are_terminals : AreTerminals (words_of text tokens) ts

-- the bytes from the end of a front on
between_behind : (before text : List ℕ) (start end size : ℕ) → start ≡ length before → end - start ≡ size → between start end (before ++ text) ≡ take size text
between_behind before text start end size h k =
    ap (λ n. take n (drop start (before ++ text))) k ∙ ap (λ n. take size (drop n (before ++ text))) h ∙ ap (λ v. take size v) (drop-append_seam before text)

none_between : (text : List ℕ) (start : ℕ) → list_all is_blank_byte (between start start text) ≡ true
none_between text start = (let nothing : start - start ≡ 0 = omega arith in ap (λ n. list_all is_blank_byte (take n (drop start text))) nothing)

-- a blank before a run of blanks
blank_before : (before rest : List ℕ) (byte start end : ℕ) → is_blank_byte byte ≡ true → start ≡ length before → start + 1 ≤ end
    → list_all is_blank_byte (between (start + 1) end (before ++ byte ∷ rest)) ≡ true → list_all is_blank_byte (between start end (before ++ byte ∷ rest)) ≡ true
blank_before before rest byte start end blank h less all =
    let more : before ++ byte ∷ rest ≡ (before ++ byte ∷ []) ++ rest = sym (append_assoc before (byte ∷ []) rest) in
    let behind : start + 1 ≡ length (before ++ byte ∷ []) = simp length-append (omega (arith, h)) in
    let later : between (start + 1) end (before ++ byte ∷ rest) ≡ take (end - (start + 1)) rest =
    ap (λ v. between (start + 1) end v) more ∙ between_behind (before ++ byte ∷ []) rest (start + 1) end (end - (start + 1)) behind refl in
    let here : between start end (before ++ byte ∷ rest) ≡ take (suc (end - (start + 1))) (byte ∷ rest)
    = between_behind before (byte ∷ rest) start end (suc (end - (start + 1))) h (omega arith) in
    ap (λ v. list_all is_blank_byte v) here ∙ and_from _ _ blank (sym (ap (λ v. list_all is_blank_byte v) later) ∙ all)

cut_behind_blank : (before rest : List ℕ) (byte start end : ℕ) (tokens : List Token) → is_blank_byte byte ≡ true → start ≡ length before
    → IsCutBetween (before ++ byte ∷ rest) (start + 1) end tokens → IsCutBetween (before ++ byte ∷ rest) start end tokens
cut_behind_blank before rest byte start end [] blank h cut = (omega (arith, cut.0), blank_before before rest byte start end blank h cut.0 cut.1)
cut_behind_blank before rest byte start end (token ∷ tokens) blank h cut =
    (omega (arith, cut.0), blank_before before rest byte start token.start blank h cut.0 cut.1, cut.2, cut.3)

module _ (k : TokenKind) (before text rest whole : List ℕ) (t : Terminal) (stands : StandsFor k text rest t) (is : whole ≡ before ++ (text ++ rest)) where
  abbrev here : Token
  here = record { kind = k; start = length before; end = length before + length text }

  size_here : length before + length text - length before ≡ length text
  size_here = omega arith

  from_here : drop (length before) whole ≡ text ++ rest
  from_here = ap (λ v. drop (length before) v) is ∙ drop-append_seam before (text ++ rest)

  behind_here : drop (length before + length text) whole ≡ rest
  behind_here =
      let behind : length before + length text ≡ length (before ++ text) = sym (length-append before text) in
      ap (λ v. drop (length before + length text) v) (is ∙ sym (append_assoc before text rest)) ∙ ap (λ n. drop n ((before ++ text) ++ rest)) behind
      ∙ drop-append_seam (before ++ text) rest

  token_here : IsTokenAt whole here
  token_here = record {
    in_order = omega arith;
    is_longest = subst (λ v. IsLongest v (length before + length text - length before) k) (sym from_here)
        (subst (λ n. IsLongest (text ++ rest) n k) (sym size_here) stands.longest);
    neighbour = subst (λ v. IsTrue (may_stand_before k v)) (sym behind_here) stands.neighbour;
  }

  text_here : between (length before) (length before + length text) whole ≡ text
  text_here =
      ap (λ v. between (length before) (length before + length text) v) is
      ∙ between_behind before (text ++ rest) (length before) (length before + length text) (length text) refl size_here ∙ take-append_seam text rest

  with_token : {ts : List Terminal} → HasCut whole (length before + length text) ts → HasCut whole (length before) (t ∷ ts)
  with_token later = record {
    tokens = here ∷ later.tokens;
    is_cut = (omega arith, none_between whole (length before), token_here, later.is_cut);
    are_terminals = (subst (λ v. IsTerminalOf k v t) (sym text_here) stands.is_terminal, later.are_terminals);
  }

cut_behind : (before text : List ℕ) (ts : List Terminal) → IsCutInto text ts → HasCut (before ++ text) (length before) ts
cut_behind before [] [] cut_end = record {
  tokens = [];
  is_cut = (
    simp length-append (omega arith),
    ap (λ v. list_all is_blank_byte (take (length v - length before) (drop (length before) v))) (append-nil before)
        ∙ none_between before (length before),
  );
  are_terminals = tt;
}
cut_behind before _ _ (cut_blank {byte = byte} {rest = rest} {ts = ts} blank h) =
    let later : HasCut ((before ++ byte ∷ []) ++ rest) (length (before ++ byte ∷ [])) ts = cut_behind (before ++ byte ∷ []) rest ts h in
    let same : (before ++ byte ∷ []) ++ rest ≡ before ++ byte ∷ rest = append_assoc before (byte ∷ []) rest in
    let behind : length (before ++ byte ∷ []) ≡ length before + 1 = length-append before (byte ∷ []) in
    let moved : HasCut (before ++ byte ∷ rest) (length before + 1) ts
    = subst (λ n. HasCut (before ++ byte ∷ rest) n ts) behind (subst (λ v. HasCut v (length (before ++ byte ∷ [])) ts) same later) in
    record {
      tokens = moved.tokens;
      is_cut = cut_behind_blank before rest byte (length before)
          (length (before ++ byte ∷ rest)) moved.tokens blank refl moved.is_cut;
      are_terminals = moved.are_terminals;
    }
cut_behind before _ _ (cut_token {k = k} {text = text} {rest = rest} {t = t} {ts = ts} stands h) =
    let later : HasCut ((before ++ text) ++ rest) (length (before ++ text)) ts = cut_behind (before ++ text) rest ts h in
    let same : (before ++ text) ++ rest ≡ before ++ (text ++ rest) = append_assoc before text rest in
    let moved : HasCut (before ++ (text ++ rest)) (length before + length text) ts
    = subst (λ n. HasCut (before ++ (text ++ rest)) n ts) (length-append before text) (subst (λ v. HasCut v (length (before ++ text)) ts) same later) in
    with_token k before text rest (before ++ (text ++ rest)) t stands refl moved

-- the cut of the whole text
pub cut_of : (text : List ℕ) (ts : List Terminal) → IsCutInto text ts → (tokens : List Token) × IsCut text tokens × AreTerminals (words_of text tokens) ts
cut_of text ts h = (let found = cut_behind [] text ts h in (found.tokens, found.is_cut, found.are_terminals))
