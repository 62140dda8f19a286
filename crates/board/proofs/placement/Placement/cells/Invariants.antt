use Rattle.std.proofs.Common.{◌≡◌, take, length}
use Rattle.board.proofs.placement.Placement.cells.Given as goal

abbrev pub invariant-loop-s : goal.invariant-loop-s
invariant-loop-s l = (length l.cells ≡ 64) × (take l.s l.cells ≡ take l.s l.self)
