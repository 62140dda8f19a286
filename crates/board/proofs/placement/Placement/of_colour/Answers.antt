use Rattle.board.proofs.Kept.{tells, white_of, black_of}
use Rattle.board.proofs.placement.Placement.of_colour.Goals as goal

pub returns-in-White : goal.returns-in-White
returns-in-White c =
    let k = tells c.self.inside.steps c.self.inside.slants c.self.inside.runs c.self.inside.black c.args.self.now c.self.view_is c.self.invariant in
    λ s on. rw (c.in-White.is) (white_of _ _ _ _ _ k s on)

pub returns-in-Black : goal.returns-in-Black
returns-in-Black c =
    let k = tells c.self.inside.steps c.self.inside.slants c.self.inside.runs c.self.inside.black c.args.self.now c.self.view_is c.self.invariant in
    λ s on. rw (c.in-Black.is) (black_of _ _ _ _ _ k s on)
