-- What stands on a board may be sent to another thread.
use denote.Param.Send.{IsSend, sendable}
use Rattle.std.proofs.Crossing.{crosses}
use Rattle.board.specs.contracts.piece.Colour as colour
use Rattle.board.specs.contracts.piece.Kind as kind
use Rattle.board.specs.contracts.square.Square as square
use Rattle.board.specs.contracts.parts.Rights as rights
use Rattle.board.specs.contracts.placement.Placement as placement
use Rattle.board.specs.contracts.position.Status as status
use Rattle.board.specs.contracts.position.Position as position
use Rattle.board.specs.contracts.moves.Move as moves

pub a_colour : IsSend colour.the_row
a_colour = search (sendable, crosses) depth 20

pub a_kind : IsSend kind.the_row
a_kind = search (sendable, crosses) depth 20

pub a_square : IsSend square.the_row
a_square = search (sendable, crosses) depth 20

pub the_rights : IsSend rights.the_row
the_rights = search (sendable, crosses) depth 20

pub a_placement : IsSend placement.the_row
a_placement = search (sendable, crosses) depth 20

the_status : IsSend status.the_field.row
the_status = search (sendable, crosses, a_colour, the_rights, a_square) depth 20

pub a_position : IsSend position.the_row
a_position = search (sendable, crosses, a_placement, the_status) depth 20

pub a_move : IsSend moves.the_row
a_move = search (sendable, crosses, a_square, a_kind) depth 20
