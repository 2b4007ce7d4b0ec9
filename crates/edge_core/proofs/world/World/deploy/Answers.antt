use Rattle.std.proofs.Common.{Err, refl, sym, subst}
use Rattle.serde_json.specs.View.{view}
use Rattle.config_read.specs.Answered.{StandsFor}
use Rattle.config_read.specs.Reads.{Reads}
use Rattle.config_read.specs.declared.fault.ConfigFault.{ConfigFault}
use Rattle.edge_core.specs.Stands.{DeploysTo, terms_of}
use Rattle.edge_core.specs.declared.event.Shown.{Shown}
use Rattle.edge_core.proofs.DeployLemmas.{deployed, turned_down}
use Rattle.edge_core.proofs.FaultLemmas.{if_ok_by}
use Rattle.edge_core.proofs.world.World.deploy.Goals as goal

pub returns-in-Ok-clause-ok : goal.returns-in-Ok-clause-ok
returns-in-Ok-clause-ok g c =
    let value = view c.args.value.now in
    let after = c.publish.new.self in
    let taken : StandsFor value c.in-Ok.config = record { built = c.in-Ok.ensures.built; reads = c.in-Ok.ensures.reads } in
    if_ok_by c.publish.result _ _ _
    (λ shown numbered config_is meaning lanes cap parts is.
    subst (λ (s : Shown). DeploysTo g.T.Tally.stands value after s (terms_of meaning lanes cap) parts) (sym numbered.1)
    (deployed g.T.Tally.stands (terms_of meaning lanes cap) c.args.self.now parts is after value c.in-Ok.config taken numbered.0 config_is
    c.publish.ensures.tally c.publish.ensures.callers)) c.publish.ensures.number c.publish.ensures.config

pub returns-in-Err-Refused-clause-ok : goal.returns-in-Err-Refused-clause-ok
returns-in-Err-Refused-clause-ok g c meaning lanes cap parts is =
    let refused = subst (λ (f : ConfigFault). Reads (view c.args.value.now) (Err f)) c.in-Err-Refused.field-0-is c.in-Err-Refused.ensures.reads in
    rw c.in-Err-Refused.field-0-is
    (turned_down g.T.Tally.stands (terms_of meaning lanes cap) c.args.self.now parts is c.args.self.now (view c.args.value.now) c.in-Err-Refused.place
    c.in-Err-Refused.cause refl refused)
