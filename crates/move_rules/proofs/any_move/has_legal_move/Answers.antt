use Rattle.std.proofs.Common.{◌∙◌, sym}
use Rattle.std.specs.List.{list_any}
use Rattle.bitboards.proofs.Strikers.{found_in}
use Rattle.move_rules.specs.Legal.{legal}
use Rattle.move_rules.specs.Lists.{moves_from}
use Rattle.move_rules.proofs.MoveLists.{any_of_all, any_first, any_over}
use Rattle.move_rules.proofs.any_move.has_legal_move.Goals as goal

pub loop-own-init : goal.loop-own-init
loop-own-init c = any_of_all c.args.p.now c.of_colour-own.result (rw (c.placement.ensures, c.turn.ensures) at c.of_colour-own.ensures)

pub loop-own-preserved : goal.loop-own-preserved
loop-own-preserved c =
    any_first (λ a. list_any (legal c.args.p.now) (moves_from a)) c.first_square.result _ _ (c.without_first-own.ensures.rest c.first_square.result c.first_square.ensures.in_set c.first_square.ensures.first) (sym c.has_legal_from.ensures ∙ c.if-has_legal_from.false) ∙ c.loop-own.invariant

pub returns-then-has_legal_from : goal.returns-then-has_legal_from
returns-then-has_legal_from c =
    sym (sym c.loop-own.invariant ∙ found_in c.loop-own.own c.first_square.result (λ a. list_any (legal c.args.p.now) (moves_from a)) c.first_square.ensures.on_board c.first_square.ensures.in_set (sym c.has_legal_from.ensures ∙ c.if-has_legal_from.true))

pub returns : goal.returns
returns c = any_over (λ a. list_any (legal c.args.p.now) (moves_from a)) c.loop-own.own c.loop-own-test.false ∙ c.loop-own.invariant
