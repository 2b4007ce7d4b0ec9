use Rattle.std.proofs.Common.{[], ◌∷◌, ◌++◌, ◌∙◌, refl, sym, ap, append-nil}
use Rattle.edge_main.specs.Answered as line
use Rattle.edge_main.specs.Spread as spread
use Rattle.edge_main.proofs.SpreadingLemmas.{line-taken, goes-on}
use Rattle.edge_main.proofs.spreading.Spreading.pass_by.Goals as goal

pub returns-clause-takes : goal.returns-clause-takes
returns-clause-takes g c given blank before now text left under =
    let mid = c.settle.new.self in
    let st = c.in_ok-settle.ensures.settles before now text (given ∷ left) under in
    let came = c.pass_by.ensures.passes st.history st.s [] st.at in
    line-taken mid (record mid { crew = c.pass_by.new.self }) st.history st.s before now text given c.pass_by.new.answer left line.blank
    st.reached came (spread.blank blank refl) (λ of. of)
    (sym (append-nil mid.pending) ∙ ap (λ xs. mid.pending ++ xs) (sym came.text_is))

pub returns-clause-goes : goal.returns-clause-goes
returns-clause-goes g c =
    let (history, s, at) = c.in_ok-settle.ensures.idle in
    goes-on c.args.self.now.crew c.settle.new.self.crew c.pass_by.new.self history s c.pass_by.new.answer line.blank
    c.in_ok-settle.ensures.lines c.pass_by.ensures.lines (c.pass_by.ensures.passes history s [] at)
