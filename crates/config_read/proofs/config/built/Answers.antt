use Rattle.config_read.proofs.ValidLists.{listed_kinds, only_memory}
use Rattle.config_read.proofs.config.built.Goals as goal

pub build-requires-clause-kinds : goal.build-requires-clause-kinds
build-requires-clause-kinds c = listed_kinds c.args.parts c.requires.formed

pub want_of-requires : goal.want_of-requires
want_of-requires c =
    only_memory c.args.parts c.build.result c.in-Err.fault c.list_faults_are_unique.ensures c.requires.fine c.in-Err.is c.build.ensures.duplicate_list
    c.build.ensures.too_many_items c.build.ensures.bad_list_item
