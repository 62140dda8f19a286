use Rattle.std.proofs.Common.{◌∙◌, arith, None}
use Rattle.std.proofs.Math.ListN.{length-set}
use Rattle.board.proofs.Kept.{placed_more, placed_all}
use Rattle.board.proofs.placement.Placement.cells.Goals as goal

pub loop-s-preserved : goal.loop-s-preserved
loop-s-preserved c = (
  length-set c.loop-s.cells c.loop-s.s c.at.result ∙ c.loop-s.invariant.0,
  placed_more _ _ c.loop-s.s _ None c.loop-s.invariant.0 c.keeps.ensures c.loop-s-test.true c.loop-s.invariant.1 (rw (c.of.ensures) at c.at.ensures),
)

pub returns : goal.returns
returns c = placed_all _ _ c.loop-s.s c.loop-s.invariant.0 c.keeps.ensures (omega arith) c.loop-s-test.false c.loop-s.invariant.1
