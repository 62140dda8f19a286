use Rattle.std.proofs.Common.{◌<◌, refl, arith}
use Rattle.board.proofs.Lines.{on_the_way-between}
use Rattle.board.proofs.attack.square_between.Goals as goal

pub returns : goal.returns
returns c =
    let from : c.args.from < 64 = omega (arith, c.index-from.ensures.is, c.index-from.ensures.on_board) in
    let to : c.args.to < 64 = omega (arith, c.index-to.ensures.is, c.index-to.ensures.on_board) in
    let t = on_the_way-between c.args.from c.args.to c.args.i from to c.requires.line c.requires.within in
    rw (c.index-from.ensures.is, c.index-to.ensures.is, c.distance-steps.ensures.is)
    (record { is = refl; steps = t.steps; left = t.left; straight = t.straight_too; diagonal = t.diagonal_too })
