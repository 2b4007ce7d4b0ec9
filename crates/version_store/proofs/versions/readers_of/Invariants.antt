use Rattle.std.proofs.Common.{◌≡◌, length}
use Rattle.std.specs.List.{All}
use Rattle.version_store.specs.Books.{Opens}
use Rattle.version_store.proofs.versions.readers_of.Given as goal

-- the readers so far know the list as it is
abbrev pub invariant-loop : goal.invariant-loop
invariant-loop l = (l.deployer ≡ l.fn.deployer) × (length l.readers.items ≡ l.counter) × All (Opens l.fn.deployer) l.readers.items
