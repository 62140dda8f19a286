use Rattle.std.proofs.Common.{◌≡◌, ◌+◌, ◌<◌, length, arith, subst, sym, ◌∙◌}
use Rattle.ranking.specs.Kept.{ArePlaced}
use Rattle.ranking.proofs.Moving.{moves_down, moved_down, at_end}
use Rattle.ranking.proofs.order.sink.Goals as goal

pub sinking-preserved : goal.sinking-preserved
sinking-preserved c =
    let long : length c.sinking.order ≡ length c.args.lines.now = c.sinking.invariant.moving.at_places.all_ordered in
    let are : ArePlaced (length c.args.lines.now) c.swap.new.order c.swap.new.places = subst (λ n. ArePlaced n c.swap.new.order c.swap.new.places) long c.swap.ensures.at_places in
    let next : c.sinking.place + 1 < length c.args.lines.now = let lt : c.sinking.place + 1 < length c.sinking.order = c.sinking-test.true in omega arith in
    moves_down c.args.lines.now c.sinking.order c.sinking.places c.args.number c.sinking.place c.sinking.invariant c.swap.new.order c.swap.new.places next c.swap.ensures.order are (sym c.comes_before.ensures ∙ c.if-comes_before.true)

pub returns-else-comes_before-clause-ordered : goal.returns-else-comes_before-clause-ordered
returns-else-comes_before-clause-ordered c = moved_down c.args.lines.now c.sinking.order c.sinking.places c.args.number c.sinking.place c.sinking.invariant (sym c.comes_before.ensures ∙ c.if-comes_before.false)

pub returns-after-sinking-clause-ordered : goal.returns-after-sinking-clause-ordered
returns-after-sinking-clause-ordered c = at_end c.args.lines.now c.sinking.order c.sinking.places c.args.number c.sinking.place c.sinking.invariant c.sinking-test.false
