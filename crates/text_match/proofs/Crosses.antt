-- A built pattern is plain owned data, so it may go to another thread and be shared: the syntax tree, the program, and what holds it.
use denote.Param.Send.{IsSend, IsSync, sendable}
use Rattle.std.proofs.Crossing.{crosses}
use Rattle.std.specs.contracts.alloc.Global as handle
use Rattle.std.specs.contracts.boxed.Box as boxed
use Rattle.std.specs.contracts.impls.GlobalAllocator.TheImpl.{ghosts}
use Rattle.regex_hir.specs.contracts.hir.Hir as hir
use Rattle.regex_hir.proofs.hir.Hir.TheLaws.TheKnot as knot
use Rattle.regex_meta.specs.contracts.plan.Plan as plan
use Rattle.regex_meta.specs.contracts.signs.Signs as signs
use Rattle.regex_meta.specs.contracts.program.Program as program
use Rattle.regex.specs.contracts.bytes.regex.Regex as bytes_regex

ruleset tree = (crosses, knot.crosses, sendable)

hir_send : IsSend (hir.the_field).row
hir_send = search tree depth 60 fits 20000

hir_sync : IsSync (hir.the_field).row
hir_sync = search tree depth 60 fits 20000

ruleset parts = (crosses, hir_send, hir_sync, sendable)

plan_send : IsSend (plan.the_field).row
plan_send = search parts depth 60 fits 100000

plan_sync : IsSync (plan.the_field).row
plan_sync = search parts depth 60 fits 100000

signs_send : IsSend (signs.the_field).row
signs_send = search parts depth 60 fits 100000

signs_sync : IsSync (signs.the_field).row
signs_sync = search parts depth 60 fits 100000

ruleset engines = (plan_send, plan_sync, signs_send, signs_sync, parts)

program_send : IsSend (program.the_field).row
program_send = search engines depth 60 fits 100000

program_sync : IsSync (program.the_field).row
program_sync = search engines depth 60 fits 100000

ruleset whole = (program_send, program_sync, crosses, sendable)

pub boxed_send : IsSend (boxed.the_field bytes_regex.the_row handle.the_row ghosts).row
boxed_send = search whole depth 60 fits 20000

pub boxed_sync : IsSync (boxed.the_field bytes_regex.the_row handle.the_row ghosts).row
boxed_sync = search whole depth 60 fits 20000
