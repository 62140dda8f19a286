use Rattle.board.proofs.Kept.{tells}
use Rattle.board.proofs.placement.Placement.keeps.Goals as goal

pub returns : goal.returns
returns c = let k = tells c.self.inside.steps c.self.inside.slants c.self.inside.runs c.self.inside.black c.args.self.now c.self.view_is c.self.invariant in k.long
