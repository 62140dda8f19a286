use Rattle.std.proofs.Common.{arith}
use Rattle.ranking.proofs.Players.{room_for_all}
use Rattle.ranking.proofs.table.Table.len.Goals as goal

pub overflow_cast-result : goal.overflow_cast-result
overflow_cast-result c = omega (arith, room_for_all c.self.inside.lines.items c.self.inside.numbers.items c.self.invariant.0.numbered, c.self.invariant.0.few, c.self.inside.lines.ok.0, c.len.ensures)
