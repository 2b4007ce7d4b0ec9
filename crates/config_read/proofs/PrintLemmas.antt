-- Objects and arrays as they are built.
use Rattle.std.proofs.Common.{◌≡◌, List, map, take, ap, ◌∙◌}
use Rattle.serde_json.specs.Data.{Data, array}
use Rattle.serde_json.specs.View.{view, items_of}
use Rattle.serde_json.proofs.Views.{view-Array, view-Object}

pub ruleset building = (view-Array, view-Object)
