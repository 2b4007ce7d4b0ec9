use Rattle.std.proofs.Common.{[], ◌∷◌, ◌++◌, ◌∙◌, refl, ap}
use Rattle.serde_json.specs.View.{view}
use Rattle.edge_main.proofs.SpreadingLemmas.{deployment-taken, crew-somewhere, idle-somewhere, goes-on-deployed, keeps-settled, on-err}
use Rattle.edge_main.proofs.spreading.Spreading.deploy.Goals as goal

pub returns-clause-takes : goal.returns-clause-takes
returns-clause-takes g c given deploy before now text left under =
    let mid = c.settle.new.self in
    let st = c.in_ok-settle.ensures.settles before now text (given ∷ left) under in
    deployment-taken mid (record mid { crew = c.deploy.new.self; pending = c.push.new.self }) st.history st.s before now text given
    c.deploy.new.answer left (view c.args.value.now) st.reached (c.in_ok-deploy.ensures.deploys st.history st.s [] st.at) deploy
    (c.in_ok-push.ensures.ok ∙ ap (λ xs. mid.pending ++ xs) c.bytes.ensures)

pub returns-clause-goes : goal.returns-clause-goes
returns-clause-goes g c =
    let (history, s, at) = c.in_ok-settle.ensures.idle in
    goes-on-deployed c.args.self.now.crew c.settle.new.self.crew c.deploy.new.self history s c.deploy.new.answer (view c.args.value.now)
    c.in_ok-settle.ensures.lines c.in_ok-deploy.ensures.lines (c.in_ok-deploy.ensures.deploys history s [] at)

pub returns-in_err-deploy-clause-err : goal.returns-in_err-deploy-clause-err
returns-in_err-deploy-clause-err g c =
    let mid = c.settle.new.self in
    on-err c.from_residual-in_err-deploy.result
    (keeps-settled c.args.self.now mid (record mid { crew = c.deploy.new.self }) c.in_ok-settle.ensures.settles refl)

pub returns-in_err-push-clause-err : goal.returns-in_err-push-clause-err
returns-in_err-push-clause-err g c =
    let mid = c.settle.new.self in
    on-err c.from_residual-in_err-push.result
    (keeps-settled c.args.self.now mid (record mid { crew = c.deploy.new.self; pending = c.push.new.self }) c.in_ok-settle.ensures.settles
    c.in_err-push.ensures.err)
