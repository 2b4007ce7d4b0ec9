use Rattle.std.proofs.Common.{◌≡◌}
use Rattle.version_store.proofs.Fronts.{prefix_trans}
use Rattle.version_store.proofs.reader.VersionReader.pick.Goals as goal

pub returns-clause-known : goal.returns-clause-known
returns-clause-known c =
    let inside = c.self.inside in
    let found = c.in_ok-found.found.front in
    rw (c.again.ensures, ← c.self.view_is) (prefix_trans inside.known.notices inside.due.notices found.notices c.self.invariant.1 (c.reaches.ensures.reaches c.if-not-reaches.false))
