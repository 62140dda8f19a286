use Rattle.std.proofs.Common.{◌≡◌, ◌∙◌, ap, sym, ◌||◌, bit_and}
use Rattle.std.specs.List.{list_any}
use Rattle.board.specs.declared.piece.Colour.{Colour}
use Rattle.board.specs.Attack.{attacked}
use Rattle.bitboards.specs.Squares.{squares_in}
use Rattle.board.proofs.SetLaws.{and_of}
use Rattle.bitboards.proofs.Strikers.{kings_asked, found_in, nothing_in}
use Rattle.bitboards.proofs.attack.is_king_attacked.Goals as goal

pub loop-kings-init : goal.loop-kings-init
loop-kings-init c =
    ap (λ (by : Colour). list_any (λ s. attacked c.args.board.now s by) (squares_in (bit_and c.of_kind.result c.of_colour.result))) c.other-by.ensures
    ∙ kings_asked c.args.board.now c.args.colour (bit_and c.of_kind.result c.of_colour.result) (and_of _ _ _ _ c.of_kind.ensures c.of_colour.ensures)

pub loop-kings-preserved : goal.loop-kings-preserved
loop-kings-preserved c =
    let rest = c.without_first-kings.ensures.rest c.first_square.result c.first_square.ensures.in_set c.first_square.ensures.first in
    let missed = sym c.is_attacked.ensures ∙ c.if-is_attacked.false in
    sym (ap (list_any (λ s. attacked c.args.board.now s c.other-by.result)) rest ∙ ap (λ b. b || list_any (λ s. attacked c.args.board.now s c.other-by.result) (squares_in c.without_first-kings.result)) missed)
    ∙ c.loop-kings.invariant

pub returns-then-is_attacked : goal.returns-then-is_attacked
returns-then-is_attacked c =
    sym (sym c.loop-kings.invariant ∙ found_in c.loop-kings.kings c.first_square.result (λ s. attacked c.args.board.now s c.other-by.result) c.first_square.ensures.on_board c.first_square.ensures.in_set (sym c.is_attacked.ensures ∙ c.if-is_attacked.true))

pub returns : goal.returns
returns c =
    let none : squares_in c.loop-kings.kings ≡ squares_in 0 = ap squares_in c.loop-kings-test.false in
    sym (ap (list_any (λ s. attacked c.args.board.now s c.other-by.result)) (none ∙ nothing_in)) ∙ c.loop-kings.invariant
