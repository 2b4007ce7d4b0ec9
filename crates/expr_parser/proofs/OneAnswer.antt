-- A text has one answer, but for want of memory.
use Rattle.std.proofs.Common.{◌≡◌, ℕ, List, [], ◌∷◌, length, refl, ap, subst, ◌∙◌, sym, arith}
use Rattle.std.specs.Prelude.{Ok, Err}
use Rattle.edge_base.specs.declared.terminal.Terminal.{Terminal}
use Rattle.edge_base.specs.declared.terminal.Terminal.TheVariants as terminal
use Rattle.edge_base.specs.declared.token.Token.{Token}
use Rattle.edge_base.specs.declared.token.TokenKind.{TokenKind}
use Rattle.edge_base.specs.declared.token.TokenKind.TheVariants as kind
use Rattle.edge_base.specs.Address.{AddressIsUnique}
use Rattle.edge_base.specs.Token.{Word, words_of}
use Rattle.edge_base.specs.Cut.{IsFirstFault, CutsAreUnique, FaultsAreUnique}
use Rattle.edge_base.specs.Terminal.{IsTerminalOf, AreTerminals}
use Rattle.edge_base.specs.Grammar.{Derives, IsFault}
use Rattle.edge_base.specs.Nesting.{nesting}
use Rattle.expr_parser.specs.declared.grammar.ParseFault.TheVariants as fault
use Rattle.expr_parser.specs.Parsed.{IsTokenized, place_of, AnswersAreUnique}
use Rattle.expr_parser.proofs.ReadExpressions.{one_tree}
use Rattle.expr_parser.proofs.Places.{one_fault}

-- a token is one terminal
one_terminal : AddressIsUnique → (k : TokenKind) (text : List ℕ) (t u : Terminal) → IsTerminalOf k text t → IsTerminalOf k text u → t ≡ u
one_terminal unique kind.Name text t u p q = p ∙ sym q
one_terminal unique kind.Reserved text t u p q = cc
one_terminal unique kind.Number text t u p q = cc
one_terminal unique kind.Address text t u p q = p.2 ∙ ap (λ a. terminal.Address a) (unique text p.0 q.0 p.1 q.1) ∙ sym q.2
one_terminal unique kind.Block text t u p q =
    let addr : p.0 ≡ q.0 = unique _ p.0 q.0 p.2.0 q.2.0 in
    let bits : p.1 ≡ q.1 = (let left = p.2.1 in let right = q.2.1 in cc) in
    p.3 ∙ ap (λ a. terminal.Block a p.1) addr ∙ ap (λ n. terminal.Block q.0 n) bits ∙ sym q.3
one_terminal unique kind.Text text t u p q = cc
one_terminal unique kind.RawText text t u p q = cc
one_terminal unique kind.ListName text t u p q = cc
one_terminal unique kind.Symbol text t u p q = cc

pub same_terminals : AddressIsUnique → (words : List Word) (ts us : List Terminal) → AreTerminals words ts → AreTerminals words us → ts ≡ us
same_terminals unique [] [] [] p q = refl
same_terminals unique [] [] (u ∷ us) p q = absurd q
same_terminals unique [] (t ∷ ts) us p q = absurd p
same_terminals unique (w ∷ words) [] us p q = absurd p
same_terminals unique (w ∷ words) (t ∷ ts) [] p q = absurd q
same_terminals unique (w ∷ words) (t ∷ ts) (u ∷ us) p q =
    ap (λ v. v ∷ ts) (one_terminal unique w.kind w.spelling t u p.0 q.0) ∙ ap (λ v. u ∷ v) (same_terminals unique words ts us p.1 q.1)

module _ (unique : AddressIsUnique) (cuts : CutsAreUnique) (faults : FaultsAreUnique) where
  same_tokens : (text : List ℕ) (tokens others : List Token) (ts us : List Terminal) → IsTokenized text tokens ts → IsTokenized text others us → tokens ≡ others
  same_tokens text tokens others ts us p q = cuts text tokens others p.is_cut q.is_cut

  same_reading : (text : List ℕ) (tokens others : List Token) (ts us : List Terminal) → IsTokenized text tokens ts → IsTokenized text others us → ts ≡ us
  same_reading text tokens others ts us p q =
      same_terminals unique (words_of text others) ts us (subst (λ v. AreTerminals (words_of text v) ts) (same_tokens text tokens others ts us p q) p.are_terminals) q.are_terminals

  no_lex_fault : (text : List ℕ) (at : ℕ) (tokens : List Token) (ts : List Terminal) → IsFirstFault text at → IsTokenized text tokens ts → ⊥
  no_lex_fault text at tokens ts h p = (faults text at h).0 tokens p.is_cut

  pub one_answer : AnswersAreUnique
  one_answer text (Ok d) (Ok e) p q m n =
      ap (λ v. Ok v) (one_tree q.1 d e (subst (λ v. Derives v d) (same_reading text p.0 q.0 p.1 q.1 p.2 q.2) p.3) q.3)
  one_answer text (Ok d) (Err fault.TooLong) p q m n = (let few = p.2.few in absurd (omega arith))
  one_answer text (Ok d) (Err (fault.Lex at)) p q m n = absurd (no_lex_fault text at p.0 p.1 q.1 p.2)
  one_answer text (Ok d) (Err (fault.Syntax at)) p q m n =
      absurd (q.4.none d (subst (λ v. Derives v d) (same_reading text p.0 q.0 p.1 q.1 p.2 q.3) p.3))
  one_answer text (Ok d) (Err fault.TooDeep) p q m n =
      (let deep = ap nesting (same_reading text p.0 q.0 p.1 q.1 p.2 q.3) in let less = p.4 in let more = q.5 in absurd (omega arith))
  one_answer text (Err fault.TooLong) (Ok e) p q m n = (let few = q.2.few in absurd (omega arith))
  one_answer text (Err fault.TooLong) (Err fault.TooLong) p q m n = refl
  one_answer text (Err fault.TooLong) (Err (fault.Lex at)) p q m n = (let few = q.0 in absurd (omega arith))
  one_answer text (Err fault.TooLong) (Err (fault.Syntax at)) p q m n = (let few = q.3.few in absurd (omega arith))
  one_answer text (Err fault.TooLong) (Err fault.TooDeep) p q m n = (let few = q.3.few in absurd (omega arith))
  one_answer text (Err (fault.Lex at)) (Ok e) p q m n = absurd (no_lex_fault text at q.0 q.1 p.1 q.2)
  one_answer text (Err (fault.Lex at)) (Err fault.TooLong) p q m n = (let few = p.0 in absurd (omega arith))
  one_answer text (Err (fault.Lex at)) (Err (fault.Lex other)) p q m n = ap (λ v. Err (fault.Lex v)) ((faults text at p.1).1 other q.1)
  one_answer text (Err (fault.Lex at)) (Err (fault.Syntax other)) p q m n = absurd (no_lex_fault text at q.0 q.1 p.1 q.3)
  one_answer text (Err (fault.Lex at)) (Err fault.TooDeep) p q m n = absurd (no_lex_fault text at q.0 q.1 p.1 q.3)
  one_answer text (Err (fault.Syntax at)) (Ok e) p q m n =
      absurd (p.4.none e (subst (λ v. Derives v e) (sym (same_reading text p.0 q.0 p.1 q.1 p.3 q.2)) q.3))
  one_answer text (Err (fault.Syntax at)) (Err fault.TooLong) p q m n = (let few = p.3.few in absurd (omega arith))
  one_answer text (Err (fault.Syntax at)) (Err (fault.Lex other)) p q m n = absurd (no_lex_fault text other p.0 p.1 q.1 p.3)
  one_answer text (Err (fault.Syntax at)) (Err (fault.Syntax other)) p q m n =
      let tokens = same_tokens text p.0 q.0 p.1 q.1 p.3 q.3 in
      let place = one_fault q.1 p.2 q.2 (subst (λ v. IsFault v p.2) (same_reading text p.0 q.0 p.1 q.1 p.3 q.3) p.4) q.4 in
      ap (λ v. Err (fault.Syntax v)) (p.5 ∙ ap (λ v. place_of v (length text) p.2) tokens ∙ ap (λ v. place_of q.0 (length text) v) place ∙ sym q.5)
  one_answer text (Err (fault.Syntax at)) (Err fault.TooDeep) p q m n =
      absurd (p.4.none q.2 (subst (λ v. Derives v q.2) (sym (same_reading text p.0 q.0 p.1 q.1 p.3 q.3)) q.4))
  one_answer text (Err fault.TooDeep) (Ok e) p q m n =
      (let deep = ap nesting (same_reading text p.0 q.0 p.1 q.1 p.3 q.2) in let more = p.5 in let less = q.4 in absurd (omega arith))
  one_answer text (Err fault.TooDeep) (Err fault.TooLong) p q m n = (let few = p.3.few in absurd (omega arith))
  one_answer text (Err fault.TooDeep) (Err (fault.Lex at)) p q m n = absurd (no_lex_fault text at p.0 p.1 q.1 p.3)
  one_answer text (Err fault.TooDeep) (Err (fault.Syntax at)) p q m n =
      absurd (q.4.none p.2 (subst (λ v. Derives v p.2) (same_reading text p.0 q.0 p.1 q.1 p.3 q.3) p.4))
  one_answer text (Err fault.TooDeep) (Err fault.TooDeep) p q m n = refl
  one_answer text (Err fault.Memory) b p q m n = absurd (m refl)
  one_answer text a (Err fault.Memory) p q m n = absurd (n refl)
