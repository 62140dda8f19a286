use Rattle.board.proofs.Kept.{tells, pawns_of, knights_of, bishops_of, rooks_of, queens_of, kings_of}
use Rattle.board.proofs.placement.Placement.of_kind.Goals as goal

pub returns-in-Pawn : goal.returns-in-Pawn
returns-in-Pawn c =
    let k = tells c.self.inside.steps c.self.inside.slants c.self.inside.runs c.self.inside.black c.args.self.now c.self.view_is c.self.invariant in
    λ s on. rw (c.in-Pawn.is) (pawns_of _ _ _ _ _ k s on)

pub returns-in-Knight : goal.returns-in-Knight
returns-in-Knight c =
    let k = tells c.self.inside.steps c.self.inside.slants c.self.inside.runs c.self.inside.black c.args.self.now c.self.view_is c.self.invariant in
    λ s on. rw (c.in-Knight.is) (knights_of _ _ _ _ _ k s on)

pub returns-in-Bishop : goal.returns-in-Bishop
returns-in-Bishop c =
    let k = tells c.self.inside.steps c.self.inside.slants c.self.inside.runs c.self.inside.black c.args.self.now c.self.view_is c.self.invariant in
    λ s on. rw (c.in-Bishop.is) (bishops_of _ _ _ _ _ k s on)

pub returns-in-Rook : goal.returns-in-Rook
returns-in-Rook c =
    let k = tells c.self.inside.steps c.self.inside.slants c.self.inside.runs c.self.inside.black c.args.self.now c.self.view_is c.self.invariant in
    λ s on. rw (c.in-Rook.is) (rooks_of _ _ _ _ _ k s on)

pub returns-in-Queen : goal.returns-in-Queen
returns-in-Queen c =
    let k = tells c.self.inside.steps c.self.inside.slants c.self.inside.runs c.self.inside.black c.args.self.now c.self.view_is c.self.invariant in
    λ s on. rw (c.in-Queen.is) (queens_of _ _ _ _ _ k s on)

pub returns-in-King : goal.returns-in-King
returns-in-King c =
    let k = tells c.self.inside.steps c.self.inside.slants c.self.inside.runs c.self.inside.black c.args.self.now c.self.view_is c.self.invariant in
    λ s on. rw (c.in-King.is) (kings_of _ _ _ _ _ k s on)
