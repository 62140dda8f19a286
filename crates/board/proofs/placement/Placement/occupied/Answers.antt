use Rattle.board.proofs.Kept.{tells, occupied_of}
use Rattle.board.proofs.placement.Placement.occupied.Goals as goal

pub returns : goal.returns
returns c =
    let k = tells c.self.inside.steps c.self.inside.slants c.self.inside.runs c.self.inside.black c.args.self.now c.self.view_is c.self.invariant in
    occupied_of _ _ _ _ _ k
