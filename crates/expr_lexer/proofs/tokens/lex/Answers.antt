use Rattle.std.proofs.Common.{ℕ, ◌<◌, ◌≤◌, List, length, All, sym, ◌∙◌, subst, arith}
use Rattle.std.proofs.lemmas.List.Elements.{All-push}
use Rattle.edge_base.specs.declared.token.Token.{Token}
use Rattle.edge_base.specs.Cut.{IsCutBetween, IsFirstFault}
use Rattle.expr_lexer.specs.Lexed.{IsInside}
use Rattle.expr_lexer.proofs.CutLemmas.{cut_more_blank, cut_more_token, fault_has_no_cut}
use Rattle.expr_lexer.proofs.tokens.lex.Goals as goal

pub loop-at-preserved-then-is_blank_byte : goal.loop-at-preserved-then-is_blank_byte
loop-at-preserved-then-is_blank_byte c = record {
  here = omega (arith, c.loop-at-test.true);
  cut = cut_more_blank c.args.text.now 0 c.loop-at.at c.loop-at.tokens c.loop-at.invariant.cut c.loop-at-test.true (sym c.is_blank_byte.ensures ∙ c.if-is_blank_byte.true);
  within = c.loop-at.invariant.within;
}

pub returns-in_default-clause-fault : goal.returns-in_default-clause-fault
returns-in_default-clause-fault c =
    let fault : IsFirstFault c.args.text.now c.loop-at.at = record {
      before = c.loop-at.tokens;
      is_cut = c.loop-at.invariant.cut;
      within = c.loop-at-test.true;
      no_blank = sym c.is_blank_byte.ensures ∙ c.if-is_blank_byte.false;
      no_token = c.in_default.ensures;
    } in
    (fault, fault_has_no_cut c.args.text.now c.loop-at.at fault)

pub loop-at-preserved : goal.loop-at-preserved
loop-at-preserved c = record {
  here = c.in-Some.ensures.2;
  cut = subst (IsCutBetween c.args.text.now 0 c.in-Some.token.end) (sym c.in_ok-push.ensures.ok)
      (cut_more_token c.args.text.now 0 c.loop-at.tokens c.in-Some.token
      (subst (λ (n : ℕ). IsCutBetween c.args.text.now 0 n c.loop-at.tokens) (sym c.in-Some.ensures.0) c.loop-at.invariant.cut) c.in-Some.ensures.3);
  within = subst (All (IsInside c.args.text.now)) (sym c.in_ok-push.ensures.ok)
      (All-push (IsInside c.args.text.now) c.loop-at.tokens c.in-Some.token c.loop-at.invariant.within
      (omega (arith, c.in-Some.ensures.0, c.in-Some.ensures.1), c.in-Some.ensures.2));
}
