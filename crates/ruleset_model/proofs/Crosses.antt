-- A configuration is plain owned data, so it may go to another thread and be shared.
use denote.Param.Send.{IsSend, IsSync, sendable, view_send, view_sync}
use Rattle.std.proofs.Crossing.{crosses}
use Rattle.edge_base.proofs.expression.Lit.TheSendSync as lit
use Rattle.list_store.proofs.lists.Lists.TheSendSync as lists
use Rattle.type_check.proofs.node.BuiltTest.TheSendSync as built_test
use Rattle.type_check.proofs.node.Node.TheLaws.TheKnot as knot
use Rattle.type_check.specs.contracts.node.Node as node
use Rattle.type_check.specs.contracts.typed.Typed as typed
use Rattle.ruleset_model.specs.contracts.filter.Filter as filter
use Rattle.ruleset_model.specs.contracts.filter.Filter.TheInside as filter_inside
use Rattle.ruleset_model.specs.contracts.act.Act as act
use Rattle.ruleset_model.specs.contracts.dynamic.Dynamic as dynamic
use Rattle.ruleset_model.specs.contracts.limit.Limit as limit
use Rattle.ruleset_model.specs.contracts.rewrite.Rewrite as rewrite
use Rattle.ruleset_model.specs.contracts.ruleset.Rule as rule
use Rattle.ruleset_model.specs.contracts.ruleset.Ruleset as set
use Rattle.ruleset_model.specs.contracts.config.Config as config
use Rattle.ruleset_model.specs.contracts.config.Config.TheInside as config_inside

ruleset tree = (knot.crosses, lit.the_field_send, lit.the_field_sync, built_test.the_field_send, built_test.the_field_sync, crosses, sendable)

node_send : IsSend (node.the_field).row
node_send = search tree depth 60 fits 100000

node_sync : IsSync (node.the_field).row
node_sync = search tree depth 60 fits 100000

ruleset nodes = (node_send, node_sync, crosses, sendable)

typed_send : IsSend (typed.the_field).row
typed_send = search nodes depth 60 fits 100000

typed_sync : IsSync (typed.the_field).row
typed_sync = search nodes depth 60 fits 100000

ruleset held = (typed_send, typed_sync, crosses, sendable)

filter_inside_send : IsSend filter_inside.the_row
filter_inside_send = search held depth 60 fits 100000

filter_inside_sync : IsSync filter_inside.the_row
filter_inside_sync = search held depth 60 fits 100000

filter_send : IsSend (filter.the_field).row
filter_send = view_send _ _ _ _ _ filter_inside_send

filter_sync : IsSync (filter.the_field).row
filter_sync = view_sync _ _ _ _ _ filter_inside_sync

ruleset built = (filter_send, filter_sync, crosses, sendable)

dynamic_send : IsSend (dynamic.the_field).row
dynamic_send = search built depth 60 fits 100000

dynamic_sync : IsSync (dynamic.the_field).row
dynamic_sync = search built depth 60 fits 100000

limit_send : IsSend (limit.the_field).row
limit_send = search built depth 60 fits 100000

limit_sync : IsSync (limit.the_field).row
limit_sync = search built depth 60 fits 100000

ruleset computed = (dynamic_send, dynamic_sync, crosses, sendable)

rewrite_send : IsSend (rewrite.the_field).row
rewrite_send = search computed depth 60 fits 100000

rewrite_sync : IsSync (rewrite.the_field).row
rewrite_sync = search computed depth 60 fits 100000

ruleset changed = (rewrite_send, rewrite_sync, computed)

act_send : IsSend (act.the_field).row
act_send = search changed depth 60 fits 100000

act_sync : IsSync (act.the_field).row
act_sync = search changed depth 60 fits 100000

ruleset acting = (act_send, act_sync, limit_send, limit_sync, built)

rule_send : IsSend (rule.the_field).row
rule_send = search acting depth 60 fits 100000

rule_sync : IsSync (rule.the_field).row
rule_sync = search acting depth 60 fits 100000

ruleset ruled = (rule_send, rule_sync, crosses, sendable)

set_send : IsSend (set.the_field).row
set_send = search ruled depth 60 fits 100000

set_sync : IsSync (set.the_field).row
set_sync = search ruled depth 60 fits 100000

ruleset whole = (set_send, set_sync, lists.the_send, lists.the_sync, crosses, sendable)

config_inside_send : IsSend config_inside.the_row
config_inside_send = search whole depth 60 fits 100000

config_inside_sync : IsSync config_inside.the_row
config_inside_sync = search whole depth 60 fits 100000

pub config_send : IsSend (config.the_field).row
config_send = view_send _ _ _ _ _ config_inside_send

pub config_sync : IsSync (config.the_field).row
config_sync = view_sync _ _ _ _ _ config_inside_sync
