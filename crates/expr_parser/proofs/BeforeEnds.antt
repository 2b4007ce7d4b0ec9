-- A token that an end byte follows is the longest one at its place.
use Rattle.std.proofs.Common.{◌≡◌, ℕ, ◌+◌, ◌-◌, ◌*◌, ◌^◌, Bool, true, false, cond, not, ◌&&◌, nat_le, ◌==◌, List, [], ◌∷◌, ◌++◌, length, take, Option, Some, None, inl, inr, refl, sym, ◌∙◌, ap, subst, arith, eqb-true}
use Rattle.std.proofs.lemmas.Bool.{cases_Bool, and_parts, both_ways}
use Rattle.std.proofs.lemmas.Bool.Decides.{nat_tests}
use Rattle.std.proofs.lemmas.List.Folds.{list_all-append}
use Rattle.std.specs.List.{list_all}
use Rattle.edge_base.specs.declared.terminal.Terminal.{Terminal}
use Rattle.edge_base.specs.declared.token.TokenKind.{TokenKind}
use Rattle.edge_base.specs.Token.{is_blank_byte, is_digit, is_name_start, is_name_byte, is_word_byte, IsTokenOf}
use Rattle.edge_base.specs.Cut.{IsLongest, stands_apart, may_stand_before}
use Rattle.edge_base.specs.Terminal.{IsTerminalOf}
use Rattle.expr_lexer.specs.declared.scanner.State.{State}
use Rattle.expr_lexer.specs.declared.scanner.State.TheVariants as state
use Rattle.expr_lexer.specs.Scan.{next_of, kind_in, kind_from, with_next, first_of, leading_digit_of, digit_of, is_lone, is_comparison, is_doubled}
use Rattle.expr_lexer.specs.Fronts.{is_scanned}
use Rattle.expr_lexer.proofs.ByteLemmas.{case_at, begins_with}
use Rattle.expr_lexer.proofs.LongestLemmas.{shape_of, token_is_read}
use Rattle.expr_parser.proofs.BlockBytes.{is_block_byte, is_first_byte, unscanned_bytes, unscanned_begins}
use Rattle.expr_parser.proofs.LongestWhere.{EndsThere, longest_where, read_no_further}
use Rattle.expr_parser.proofs.Written.{is_end_byte, ends_before, StandsFor}

blank_cases : (P : ℕ → Type 0) (byte : ℕ) → is_blank_byte byte ≡ true → P 32 → P 9 → P 13 → P 10 → P byte
blank_cases P byte h p32 p9 p13 p10 =
    case_at P byte 10 _ h (λ h. case_at P byte 13 _ h (λ h. case_at P byte 9 _ h (λ h. subst P (sym (eqb-true byte 32 h)) p32) p9) p13) p10

end_cases : (P : ℕ → Type 0) (byte : ℕ) → is_end_byte byte ≡ true → P 32 → P 9 → P 13 → P 10 → P 40 → P 41 → P 44 → P 91 → P 93 → P byte
end_cases P byte h p32 p9 p13 p10 p40 p41 p44 p91 p93 =
    case_at P byte 93 _ h (λ h. case_at P byte 91 _ h (λ h. case_at P byte 44 _ h (λ h. case_at P byte 41 _ h (λ h. case_at P byte 40 _ h
    (λ h. blank_cases P byte h p32 p9 p13 p10) p40) p41) p44) p91) p93

-- ---- what is read from a state at which a token ends

no_kind : (from : State) (k : TokenKind) (byte : ℕ) → ◌≡◌ {A = Option TokenKind} None (Some k) → next_of from byte ≡ None
no_kind from k byte h = absurd (cc)

stops_at_end : (k : TokenKind) (byte : ℕ) → is_end_byte byte ≡ true → (from : State) → kind_in from ≡ Some k → next_of from byte ≡ None
stops_at_end k byte ends state.Letter h = end_cases (λ (b : ℕ). next_of state.Letter b ≡ None) byte ends refl refl refl refl refl refl refl refl refl
stops_at_end k byte ends state.Part h = end_cases (λ (b : ℕ). next_of state.Part b ≡ None) byte ends refl refl refl refl refl refl refl refl refl
stops_at_end k byte ends (state.Digits most size) h = end_cases (λ (b : ℕ). next_of (state.Digits most size) b ≡ None) byte ends refl refl refl refl refl refl refl refl refl
stops_at_end k byte ends state.ListName h = end_cases (λ (b : ℕ). next_of state.ListName b ≡ None) byte ends refl refl refl refl refl refl refl refl refl
stops_at_end k byte ends state.Comparison h = end_cases (λ (b : ℕ). next_of state.Comparison b ≡ None) byte ends refl refl refl refl refl refl refl refl refl
stops_at_end k byte ends (state.Whole token_kind) h = refl
stops_at_end k byte ends state.Start h = no_kind state.Start k byte h
stops_at_end k byte ends state.Bits h = no_kind state.Bits k byte h
stops_at_end k byte ends state.Dot h = no_kind state.Dot k byte h
stops_at_end k byte ends state.Minus h = no_kind state.Minus k byte h
stops_at_end k byte ends state.Quoted h = no_kind state.Quoted k byte h
stops_at_end k byte ends state.Escaped h = no_kind state.Escaped k byte h
stops_at_end k byte ends (state.Marks marks) h = no_kind (state.Marks marks) k byte h
stops_at_end k byte ends (state.Raw marks) h = no_kind (state.Raw marks) k byte h
stops_at_end k byte ends (state.Closing marks left) h = no_kind (state.Closing marks left) k byte h
stops_at_end k byte ends state.Dollar h = no_kind state.Dollar k byte h
stops_at_end k byte ends (state.Half first) h = no_kind (state.Half first) k byte h

-- ---- what is read from the first byte of an address

-- a state in which the scanner can be there: behind some of a name, some of a number, or a dot
abbrev is_bare : State → Bool
is_bare state.Part = true
is_bare state.Dot = true
is_bare (state.Digits most size) = true
is_bare (state.Whole token_kind) = true
is_bare (state.Half first) = first == 46
is_bare other = false

abbrev leads_to_bare : Option State → Bool
leads_to_bare read = with_next read true is_bare

either_way : (test : Bool) (one other : Option State) → leads_to_bare one ≡ true → leads_to_bare other ≡ true → leads_to_bare (cond test one other) ≡ true
either_way true one other h k = h
either_way false one other h k = k

digit_leads : (most size byte : ℕ) → leads_to_bare (digit_of most size byte) ≡ true
digit_leads most size byte = either_way (is_digit byte) _ None (either_way (nat_le (size * 10 + (byte - 48)) most) _ None refl refl) refl

bare_leads : (from : State) (byte : ℕ) → is_bare from ≡ true → leads_to_bare (next_of from byte) ≡ true
bare_leads state.Part byte h = either_way (byte == 46) _ _ refl (either_way (is_name_byte byte) _ None refl refl)
bare_leads state.Dot byte h = either_way (is_name_start byte) _ None refl refl
bare_leads (state.Digits most size) byte h = digit_leads most size byte
bare_leads (state.Whole token_kind) byte h = refl
bare_leads (state.Half first) byte h = either_way (byte == first) _ None refl refl
bare_leads state.Letter byte h = absurd (cc)
bare_leads state.ListName byte h = absurd (cc)
bare_leads state.Comparison byte h = absurd (cc)
bare_leads state.Start byte h = absurd (cc)
bare_leads state.Bits byte h = absurd (cc)
bare_leads state.Minus byte h = absurd (cc)
bare_leads state.Quoted byte h = absurd (cc)
bare_leads state.Escaped byte h = absurd (cc)
bare_leads (state.Marks marks) byte h = absurd (cc)
bare_leads (state.Raw marks) byte h = absurd (cc)
bare_leads (state.Closing marks left) byte h = absurd (cc)
bare_leads state.Dollar byte h = absurd (cc)

half_stops : (first byte : ℕ) → (first == 46) ≡ true → is_end_byte byte ≡ true → (byte == first) ≡ false
half_stops first byte h ends = rw (eqb-true first 46 h) (end_cases (λ (b : ℕ). (b == 46) ≡ false) byte ends refl refl refl refl refl refl refl refl refl)

bare_stops : (from : State) (byte : ℕ) → is_bare from ≡ true → is_end_byte byte ≡ true → next_of from byte ≡ None
bare_stops state.Part byte h ends = end_cases (λ (b : ℕ). next_of state.Part b ≡ None) byte ends refl refl refl refl refl refl refl refl refl
bare_stops state.Dot byte h ends = end_cases (λ (b : ℕ). next_of state.Dot b ≡ None) byte ends refl refl refl refl refl refl refl refl refl
bare_stops (state.Digits most size) byte h ends = end_cases (λ (b : ℕ). next_of (state.Digits most size) b ≡ None) byte ends refl refl refl refl refl refl refl refl refl
bare_stops (state.Whole token_kind) byte h ends = refl
bare_stops (state.Half first) byte h ends = rw (half_stops first byte h ends) refl
bare_stops state.Letter byte h ends = absurd (cc)
bare_stops state.ListName byte h ends = absurd (cc)
bare_stops state.Comparison byte h ends = absurd (cc)
bare_stops state.Start byte h ends = absurd (cc)
bare_stops state.Bits byte h ends = absurd (cc)
bare_stops state.Minus byte h ends = absurd (cc)
bare_stops state.Quoted byte h ends = absurd (cc)
bare_stops state.Escaped byte h ends = absurd (cc)
bare_stops (state.Marks marks) byte h ends = absurd (cc)
bare_stops (state.Raw marks) byte h ends = absurd (cc)
bare_stops (state.Closing marks left) byte h ends = absurd (cc)
bare_stops state.Dollar byte h ends = absurd (cc)

none_behind : (read : Option State) (text : List ℕ) → leads_to_bare read ≡ true → ((next : State) → is_bare next ≡ true → kind_from next text ≡ None)
    → with_next read None (λ next. kind_from next text) ≡ None
none_behind None text h later = refl
none_behind (Some next) text h later = later next h

bare_reads_none : (byte : ℕ) (more : List ℕ) → is_end_byte byte ≡ true
    → (from : State) (text : List ℕ) → is_bare from ≡ true → kind_from from (text ++ byte ∷ more) ≡ None
bare_reads_none byte more ends from [] bare = ap (λ (read : Option State). with_next read None (λ next. kind_from next more)) (bare_stops from byte bare ends)
bare_reads_none byte more ends from (first ∷ text) bare =
    none_behind (next_of from first) (text ++ byte ∷ more) (bare_leads from first bare) (λ next. bare_reads_none byte more ends next text)

-- `r` and the signs are none of those bytes
record IsNoFirst (byte : ℕ) : Type 0 where
  letter : (byte == 114) ≡ false
  minus : (byte == 45) ≡ false
  quote : (byte == 34) ≡ false
  dollar : (byte == 36) ≡ false
  lone : is_lone byte ≡ false
  comparison : is_comparison byte ≡ false
  doubled : is_doubled byte ≡ false

no_first : (byte : ℕ) → is_first_byte byte ≡ true → IsNoFirst byte
no_first byte h = record {
  letter = grind (arith, nat_tests);
  minus = grind (arith, nat_tests);
  quote = grind (arith, nat_tests);
  dollar = grind (arith, nat_tests);
  lone = grind (arith, nat_tests);
  comparison = grind (arith, nat_tests);
  doubled = grind (arith, nat_tests);
}

first_leads : (byte : ℕ) → is_first_byte byte ≡ true → leads_to_bare (first_of byte) ≡ true
first_leads byte h = let no : IsNoFirst byte = no_first byte h in
    rw (no.letter, no.minus, no.quote, no.dollar, no.lone, no.comparison, no.doubled)
    (either_way (is_name_start byte) _ _ refl (either_way (is_digit byte) (leading_digit_of (2 ^ 63 - 1) byte) None
    (either_way (byte == 48) _ _ refl (either_way (byte == 48) None _ refl (digit_leads (2 ^ 63 - 1) 0 byte))) refl))

address_reads_none : (text : List ℕ) (byte : ℕ) (more : List ℕ) → begins_with is_first_byte text ≡ true → is_end_byte byte ≡ true
    → kind_from state.Start (text ++ byte ∷ more) ≡ None
address_reads_none [] byte more begins ends = absurd (cc)
address_reads_none (first ∷ text) byte more begins ends =
    none_behind (first_of first) (text ++ byte ∷ more) (first_leads first begins) (λ next. bare_reads_none byte more ends next text)

-- ---- no token goes on past one before an end byte

end_is_no_block_byte : (byte : ℕ) → is_end_byte byte ≡ true → is_block_byte byte ≡ false
end_is_no_block_byte byte ends = end_cases (λ (b : ℕ). is_block_byte b ≡ false) byte ends refl refl refl refl refl refl refl refl refl

unread_past : (k : TokenKind) (text : List ℕ) (byte : ℕ) (more : List ℕ) → IsTokenOf k text → is_end_byte byte ≡ true → kind_from state.Start (text ++ byte ∷ more) ≡ None
unread_past k text byte more token ends = elim (cases_Bool (is_scanned k)) [
  | inl here ↦ read_no_further (shape_of k) byte more (stops_at_end (shape_of k) byte ends) state.Start text (token_is_read k text here token)
  | inr there ↦ address_reads_none text byte more (unscanned_begins k text there token) ends
]

none_past : (k other : TokenKind) (text : List ℕ) (byte : ℕ) (more : List ℕ) → IsTokenOf k text → is_end_byte byte ≡ true → IsTokenOf other (text ++ byte ∷ more) → ⊥
none_past k other text byte more token ends longer = elim (cases_Bool (is_scanned other)) [
  | inl here ↦ let bad : None ≡ Some (shape_of other) = sym (unread_past k text byte more token ends) ∙ token_is_read other (text ++ byte ∷ more) here longer in cc
  | inr there ↦
      let bytes : (list_all is_block_byte text ≡ true) × (list_all is_block_byte (byte ∷ more) ≡ true)
      = and_parts _ _ (sym (list_all-append is_block_byte text (byte ∷ more)) ∙ unscanned_bytes other (text ++ byte ∷ more) there longer) in
      both_ways (is_block_byte byte) (end_is_no_block_byte byte ends) (and_parts _ _ bytes.1).0
]

ends_there : (k : TokenKind) (text rest : List ℕ) → IsTokenOf k text → ends_before rest ≡ true → EndsThere text rest
ends_there k text [] token ends = tt
ends_there k text (byte ∷ behind) token ends = λ size other longer. none_past k other text byte (take size behind) token ends longer

longest_before_end : (k : TokenKind) (text rest : List ℕ) → IsTokenOf k text → ends_before rest ≡ true → IsLongest (text ++ rest) (length text) k
longest_before_end k text rest token ends = longest_where k text rest token (ends_there k text rest token ends)

apart : (one other : Bool) → other ≡ false → not (one && other) ≡ true
apart true other h = rw h refl
apart false other h = refl

may_stand_before_end : (k : TokenKind) (rest : List ℕ) → ends_before rest ≡ true → may_stand_before k rest ≡ true
may_stand_before_end k [] ends = refl
may_stand_before_end k (byte ∷ rest) ends =
    apart (stands_apart k) (is_word_byte byte) (end_cases (λ (b : ℕ). is_word_byte b ≡ false) byte ends refl refl refl refl refl refl refl refl refl)

pub stands_before_end : (k : TokenKind) (text rest : List ℕ) (t : Terminal) → IsTokenOf k text → IsTerminalOf k text t → ends_before rest ≡ true → StandsFor k text rest t
stands_before_end k text rest t token stands ends = record {
  longest = longest_before_end k text rest token ends;
  neighbour = may_stand_before_end k rest ends;
  is_terminal = stands;
}
