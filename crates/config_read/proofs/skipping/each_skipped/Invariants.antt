use Rattle.std.proofs.Common.{◌≡◌, ◌++◌, map, drop}
use Rattle.config_read.specs.Members.{shown}
use Rattle.config_read.specs.Skipped.{skipped_table, skipped_at, each_skipped_table}
use Rattle.config_read.proofs.EachLemmas.{Goes}
use Rattle.config_read.proofs.skipping.each_skipped.Given as goal

-- the entries so far and those of the members that are left are all, and what these come to is what all come to
abbrev pub invariant-loop-entry : goal.invariant-loop-entry
invariant-loop-entry l = record {
  rules : l.rules ++ map skipped_at (map shown (drop l.entry-index l.entries)) ≡ map skipped_at (map shown l.entries);
  tables : Goes (λ earlier. skipped_table l.place) skipped_at l.rules (map shown (drop l.entry-index l.entries)) (each_skipped_table l.place (map shown l.entries));
}
