use Rattle.std.proofs.Common.{◌∙◌, ap, sym, ◌||◌, bit_and}
use Rattle.std.proofs.Math.Bool.{or_assoc, or-false}
use Rattle.std.specs.List.{list_any}
use Rattle.board.specs.Sets.{has}
use Rattle.board.proofs.SetLaws.{and_of, has-or}
use Rattle.bitboards.specs.Squares.{squares_in}
use Rattle.bitboards.specs.Sight.{sees}
use Rattle.bitboards.proofs.Masks.{has-nothing}
use Rattle.bitboards.proofs.Strikers.{kings_see, nothing_in}
use Rattle.bitboards.proofs.attack.seen_by_king.Goals as goal

pub loop-kings-init : goal.loop-kings-init
loop-kings-init c = λ t on.
    ap (λ b. b || list_any (λ s. sees c.args.board.now s t) (squares_in (bit_and c.of_kind.result c.of_colour.result))) (has-nothing t)
    ∙ kings_see c.args.board.now c.args.colour (bit_and c.of_kind.result c.of_colour.result) t (and_of c.of_kind.result c.of_colour.result _ _ c.of_kind.ensures c.of_colour.ensures)

pub loop-kings-preserved : goal.loop-kings-preserved
loop-kings-preserved c = λ t on.
    let rest = c.without_first-kings.ensures.rest c.first_square.result c.first_square.ensures.in_set c.first_square.ensures.first in
    let later = list_any (λ s. sees c.args.board.now s t) (squares_in c.without_first-kings.result) in
    ap (λ b. b || later) (has-or c.loop-kings.seen c.queen_strikes-seen.result t ∙ ap (λ b. has c.loop-kings.seen t || b) (c.queen_strikes-seen.ensures t on))
    ∙ or_assoc (has c.loop-kings.seen t) (sees c.args.board.now c.first_square.result t) later
    ∙ ap (λ b. has c.loop-kings.seen t || b) (sym (ap (list_any (λ s. sees c.args.board.now s t)) rest))
    ∙ c.loop-kings.invariant t on

pub returns : goal.returns
returns c = λ t on.
    sym (ap (λ xs. has c.loop-kings.seen t || list_any (λ s. sees c.args.board.now s t) xs) (ap squares_in c.loop-kings-test.false ∙ nothing_in) ∙ or-false (has c.loop-kings.seen t))
    ∙ c.loop-kings.invariant t on
