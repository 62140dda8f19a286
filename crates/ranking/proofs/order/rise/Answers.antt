use Rattle.std.proofs.Common.{◌≡◌, ◌-◌, length, arith, subst, sym, ◌∙◌}
use Rattle.ranking.specs.Kept.{ArePlaced}
use Rattle.ranking.proofs.Moving.{moves_up, moved_up}
use Rattle.ranking.proofs.order.rise.Goals as goal

pub rising-preserved : goal.rising-preserved
rising-preserved c =
    let long : length c.rising.order ≡ length c.args.lines.now = c.rising.invariant.at_places.all_ordered in
    let are : ArePlaced (length c.args.lines.now) c.swap.new.order c.swap.new.places = subst (λ n. ArePlaced n c.swap.new.order c.swap.new.places) long c.swap.ensures.at_places in
    moves_up c.args.lines.now c.rising.order c.rising.places c.args.number c.rising.place c.rising.invariant c.swap.new.order c.swap.new.places (c.rising.place - 1) (omega arith) c.swap.ensures.order are

pub returns-else-comes_before-clause-above : goal.returns-else-comes_before-clause-above
returns-else-comes_before-clause-above c = moved_up c.args.lines.now c.rising.order c.rising.places c.args.number c.rising.place c.rising.invariant (c.rising.place - 1) (omega arith) (sym c.comes_before.ensures ∙ c.if-comes_before.false)
