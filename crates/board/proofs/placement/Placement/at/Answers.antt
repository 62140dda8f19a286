use Rattle.std.proofs.Common.{◌∙◌, ap, sym, List, Option}
use Rattle.board.specs.declared.piece.Piece.{Piece}
use Rattle.board.specs.Attack.{piece_on}
use Rattle.board.proofs.Kept.{cell_at}
use Rattle.board.proofs.placement.Placement.at.Goals as goal

pub returns : goal.returns
returns c =
    c.cell_in.ensures
    ∙ rw (c.has.ensures.is, c.has-2.ensures.is, c.has-3.ensures.is, c.has-4.ensures.is) (sym (cell_at c.self.inside.steps c.self.inside.slants c.self.inside.runs c.self.inside.black c.args.s c.has.ensures.on_board))
    ∙ ap (λ (xs : List (Option Piece)). piece_on xs c.args.s) c.self.view_is
