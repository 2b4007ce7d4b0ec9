use Rattle.std.proofs.Common.{◌≡◌, ◌++◌, map, drop}
use Rattle.ruleset_model.specs.Data.{header_data}
use Rattle.config_read.specs.Members.{shown}
use Rattle.config_read.specs.Judged.{judged}
use Rattle.std.specs.List.{AllByRecursion}
use Rattle.config_read.specs.Filters.{IsHeaderBuilt}
use Rattle.config_read.specs.Rewrites.{header_table, header_at, each_header_table}
use Rattle.config_read.proofs.EachLemmas.{Goes}
use Rattle.config_read.proofs.headers.each_header.Given as goal

-- the changes so far and those of the members that are left are all, and what these come to is what all come to
abbrev pub invariant-loop-entry : goal.invariant-loop-entry
invariant-loop-entry l = record {
  headers : map header_data l.made ++ map header_at (map shown (drop l.entry-index l.entries)) ≡ map header_at (map shown l.entries);
  tables : Goes (header_table (judged l.scheme) l.at l.place) header_at (map header_data l.made) (map shown (drop l.entry-index l.entries)) (each_header_table (judged l.scheme) l.at l.place (map shown l.entries));
  built : AllByRecursion (IsHeaderBuilt l.scheme l.at) l.made;
}
