-- A link and a listener in memory as contracts see them, and what a call of `accept` makes of the listener.
use Rattle.std.specs.Prelude.{ℕ, ◌==◌, Bool, false, List, [], ◌∷◌, ◌++◌, length, Option, None, Some, map}
use Rattle.edge_base.specs.declared.address.Addr.{Addr}
use Rattle.edge_base.specs.declared.address.Addr.TheVariants as addr
use Rattle.edge_outside.specs.declared.memory_link.MemoryLink.{MemoryLink}
use Rattle.edge_outside.specs.Faults.{next_count}
use Rattle.edge_outside.specs.InMemory.{source_shown, sink_shown}
use Rattle.edge_outside.specs.Shown.{LinkShown}
use Rattle.edge_outside.specs.Doors.{GivenLink}

-- what a link in memory shows
abbrev pub link_shown : MemoryLink → LinkShown
link_shown link = record { source = source_shown link.source; sink = sink_shown link.sink }

-- a listener: the links that it will give, what those showed that it gave, the links taken back, the numbers of the calls
-- that fail, and the counts of calls and of faults
pub record Door : Type 0 where
  pub waiting : List MemoryLink
  pub given : List LinkShown
  pub returned : List MemoryLink
  pub fail_at : List ℕ
  pub calls : ℕ
  pub faults : ℕ

-- a link as a listener in memory gives it
abbrev pub as_given : LinkShown → GivenLink
as_given link = record { link = link; from = addr.V4 0; ssl = false }

-- what a call gives
abbrev pub next_link : List MemoryLink → Option (MemoryLink × Addr × Bool)
next_link [] = None
next_link (link ∷ links) = Some (link, addr.V4 0, false)

-- after the first of these links was given, if there is one
abbrev pub after_links : List MemoryLink → Door → Door
after_links [] door = door
after_links (link ∷ links) door = record door { waiting = links; given = door.given ++ link_shown link ∷ [] }

-- after a call that didn't fail
abbrev pub after_accept : Door → Door
after_accept door = after_links door.waiting (record door { calls = next_count door.calls })

-- after a call that failed
abbrev pub after_failed_accept : Door → Door
after_failed_accept door = record door { calls = next_count door.calls; faults = next_count door.faults }
