use Rattle.std.proofs.Common.{◌≡◌, ◌∙◌, arith, refl, length, None}
use Rattle.board.proofs.Kept.{placed_more, placed_all}
use Rattle.std.proofs.Math.ListN.{length-set}
use Rattle.board.proofs.placement.Placement.of.Goals as goal

pub loop-s-init : goal.loop-s-init
loop-s-init c = (rw (c.empty-placement.ensures) refl, refl)

pub loop-s-preserved : goal.loop-s-preserved
loop-s-preserved c =
    let long : length c.with-placement.result ≡ 64 = rw (c.with-placement.ensures) (length-set _ _ _ ∙ c.loop-s.invariant.0) in
    (long, rw (c.with-placement.ensures, c.of.ensures) (placed_more _ _ c.loop-s.s _ None c.loop-s.invariant.0 c.told-cells c.loop-s-test.true c.loop-s.invariant.1 refl))

pub returns : goal.returns
returns c = placed_all _ _ c.loop-s.s c.loop-s.invariant.0 c.told-cells (omega arith) c.loop-s-test.false c.loop-s.invariant.1
