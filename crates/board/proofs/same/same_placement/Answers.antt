use Rattle.std.proofs.Common.{◌∙◌}
use Rattle.board.proofs.SameBoards.{sets_same}
use Rattle.board.proofs.same.same_placement.Goals as goal

pub returns : goal.returns
returns c = c.eq.ensures ∙ sets_same c.args.a.now c.args.b.now c.keeps.ensures c.keeps-2.ensures
