use Rattle.std.proofs.Common.{◌≡◌, map, take}
use Rattle.serde_json.specs.View.{view}
use Rattle.api.specs.Bodies.{row_data}
use Rattle.api.proofs.values.row_values.Given as goal

abbrev pub invariant-rows : goal.invariant-rows
invariant-rows l = map view l.values.items ≡ map (row_data l.fn.setup) (take l.row-index l.rows)
