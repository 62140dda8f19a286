use Rattle.std.proofs.Common.{◌≡◌, List, Option, Some, ℕ, sym, ◌∙◌, ap, arith}
use Rattle.std.proofs.lemmas.Bool.{both_ways}
use Rattle.board.specs.declared.piece.Piece.{Piece}
use Rattle.board.specs.Position.{IsBoard}
use Rattle.board.specs.Fen.{board_text}
use Rattle.board.specs.Reading.{ranks_in}
use Rattle.board.proofs.BoardTexts.{ranks_in-spells, ranks_in-text}
use Rattle.board.proofs.FieldTexts.{says, says_nothing, says_wrong}
use Rattle.board.proofs.fen.values.read_board.Goals as goal

spells : (field : List ℕ) (cells : List (Option Piece)) → ranks_in 7 field ≡ Some cells → board_text cells ≡ field
spells field cells h = (ranks_in-spells 7 field cells h).0

read : (field : List ℕ) (cells : List (Option Piece)) → board_text cells ≡ field → IsBoard cells → ranks_in 7 field ≡ Some cells
read field cells e good = ap (ranks_in 7) (sym e) ∙ ranks_in-text 7 cells (let size = good.squares in omega arith)

pub returns-in-Some : goal.returns-in-Some
returns-in-Some c =
    let f = c.args.field.now in
    says board_text IsBoard f (ranks_in 7 f) (spells f) (read f) c.in-Some.cells (sym c.in-Some.ensures)
    (c.is_board.ensures.0 c.if-is_board.true)

pub returns-in_default : goal.returns-in_default
returns-in_default c =
    let f = c.args.field.now in
    says_wrong board_text IsBoard f (ranks_in 7 f) (spells f) (read f) c.in-Some.cells (sym c.in-Some.ensures)
    (λ good. both_ways c.is_board.result c.if-is_board.false (c.is_board.ensures.1 good))

pub returns-in_default-2 : goal.returns-in_default-2
returns-in_default-2 c =
    let f = c.args.field.now in
    says_nothing board_text IsBoard f (ranks_in 7 f) (spells f) (read f) (sym c.read_cells.ensures ∙ c.in_default.is)
