use Rattle.move_rules.specs.Lists.{moves_from}
use Rattle.move_rules.proofs.MoveLists.{listed_more, listed_all, own_listed}
use Rattle.move_rules.proofs.MoveOrder.{legal_once, legal_exactly}
use Rattle.move_rules.proofs.list.legal_moves.Goals as goal

pub loop-own-init : goal.loop-own-init
loop-own-init c = rw (c.new-moves.ensures.items) (own_listed c.args.p.now c.of_colour-own.result (rw (c.placement.ensures, c.turn.ensures) at c.of_colour-own.ensures))

pub loop-own-preserved : goal.loop-own-preserved
loop-own-preserved c =
    let pushed = rw (c.of_position-bits.ensures) at c.in_ok-push_from.ensures in
    listed_more c.args.p.now moves_from c.first_square.result _ _ _ _ _ (c.without_first-own.ensures.rest c.first_square.result c.first_square.ensures.in_set c.first_square.ensures.first) c.loop-own.invariant pushed

pub returns : goal.returns
returns c =
    let listed = listed_all c.args.p.now moves_from c.loop-own.own _ _ c.loop-own-test.false c.loop-own.invariant in
    record { is = listed; once = rw listed (legal_once c.args.p.now); exact = rw listed (legal_exactly c.args.p.now) }
