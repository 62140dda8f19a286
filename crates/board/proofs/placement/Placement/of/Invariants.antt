use Rattle.std.proofs.Common.{◌≡◌, take, length}
use Rattle.board.proofs.placement.Placement.of.Given as goal

abbrev pub invariant-loop-s : goal.invariant-loop-s
invariant-loop-s l = (length l.placement ≡ 64) × (take l.s l.placement ≡ take l.s l.cells)
