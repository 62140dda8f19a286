use Rattle.std.proofs.Common.{◌≡◌, map, take}
use Rattle.serde_json.specs.View.{view}
use Rattle.api.specs.Bodies.{team_data}
use Rattle.api.proofs.values.team_values.Given as goal

abbrev pub invariant-rows : goal.invariant-rows
invariant-rows l = map view l.values.items ≡ map (team_data l.fn.setup) (take l.row-index l.rows)
