use Rattle.std.proofs.Common.{[], ◌∷◌, ◌++◌, ◌+◌, ◌∙◌, refl, ap}
use Rattle.edge_main.specs.Answered as line
use Rattle.edge_main.specs.Spread as spread
use Rattle.edge_main.proofs.SpreadingLemmas.{line-taken, goes-on, keeps-settled, on-err}
use Rattle.edge_main.proofs.spreading.Spreading.refuse.Goals as goal

pub returns-clause-takes : goal.returns-clause-takes
returns-clause-takes g c given none before now text left under =
    let mid = c.settle.new.self in
    let st = c.in_ok-settle.ensures.settles before now text (given ∷ left) under in
    let came = c.in_ok-refuse.ensures.refuses st.history st.s [] st.at in
    line-taken mid (record mid { crew = c.refuse.new.self; pending = c.push.new.self }) st.history st.s before now text given
    c.refuse.new.answer left (line.bad (st.s.lines + 1) c.args.why) st.reached came (spread.bad c.args.why none refl) (λ of. of)
    (c.in_ok-push.ensures.ok ∙ ap (λ xs. mid.pending ++ xs) c.bytes.ensures)

pub returns-clause-goes : goal.returns-clause-goes
returns-clause-goes g c =
    let (history, s, at) = c.in_ok-settle.ensures.idle in
    goes-on c.args.self.now.crew c.settle.new.self.crew c.refuse.new.self history s c.refuse.new.answer (line.bad (s.lines + 1) c.args.why)
    c.in_ok-settle.ensures.lines c.in_ok-refuse.ensures.lines (c.in_ok-refuse.ensures.refuses history s [] at)

pub returns-in_err-refuse-clause-err : goal.returns-in_err-refuse-clause-err
returns-in_err-refuse-clause-err g c =
    let mid = c.settle.new.self in
    on-err c.from_residual-in_err-refuse.result
    (keeps-settled c.args.self.now mid (record mid { crew = c.refuse.new.self }) c.in_ok-settle.ensures.settles refl)

pub returns-in_err-push-clause-err : goal.returns-in_err-push-clause-err
returns-in_err-push-clause-err g c =
    let mid = c.settle.new.self in
    on-err c.from_residual-in_err-push.result
    (keeps-settled c.args.self.now mid (record mid { crew = c.refuse.new.self; pending = c.push.new.self }) c.in_ok-settle.ensures.settles
    c.in_err-push.ensures.err)
