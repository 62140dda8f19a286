use Rattle.std.proofs.Common.{◌≡◌, ◌<◌, ◌++◌, List, length, false, Some, arith, subst, sym, ap, ◌∙◌, take, drop}
use Rattle.std.specs.Prelude.{slice_set}
use Rattle.std.proofs.lemmas.List.{take_at}
use Rattle.ranking.specs.Order.{Line}
use Rattle.ranking.specs.Rows.{Listed, fresh, has}
use Rattle.ranking.specs.Kept.{ArePlaced, AreInOrder, IsKept}
use Rattle.ranking.proofs.Players.{room_for_all, room_for_one}
use Rattle.ranking.proofs.Tables.{entered_places, entered_others, entered_kept}
use Rattle.ranking.proofs.table.Table.enter.Goals as goal

pub overflow_cast-number : goal.overflow_cast-number
overflow_cast-number c = omega (arith, c.len-number.ensures, room_for_all c.self.inside.lines.items c.self.inside.numbers.items c.self.invariant.0.numbered, c.self.invariant.0.few, c.self.inside.lines.ok.0)

pub push_reserved-requires : goal.push_reserved-requires
push_reserved-requires c =
    let new : has c.self.inside.lines.items c.args.p ≡ false = ap (λ (t : Listed). has t.lines c.args.p) c.self.view_is ∙ c.requires.new in
    let below : c.args.p < c.self.inside.numbers.len = subst (λ (t : Listed). c.args.p < t.room) (sym c.self.view_is) c.requires.player in
    omega (arith, room_for_one c.self.inside.lines.items c.self.inside.numbers.items c.self.invariant.0.numbered c.args.p (omega (arith, c.self.inside.numbers.ok.0)) new, c.self.inside.numbers.ok.0, c.self.inside.lines.ok.0, c.self.invariant.1)

pub push_reserved-requires-2 : goal.push_reserved-requires-2
push_reserved-requires-2 c =
    let new : has c.self.inside.lines.items c.args.p ≡ false = ap (λ (t : Listed). has t.lines c.args.p) c.self.view_is ∙ c.requires.new in
    let below : c.args.p < c.self.inside.numbers.len = subst (λ (t : Listed). c.args.p < t.room) (sym c.self.view_is) c.requires.player in
    omega (arith, room_for_one c.self.inside.lines.items c.self.inside.numbers.items c.self.invariant.0.numbered c.args.p (omega (arith, c.self.inside.numbers.ok.0)) new, c.self.inside.numbers.ok.0, c.self.inside.order.ok.0, c.self.invariant.0.at_places.all_ordered, c.self.invariant.2)

pub push_reserved-requires-3 : goal.push_reserved-requires-3
push_reserved-requires-3 c =
    let new : has c.self.inside.lines.items c.args.p ≡ false = ap (λ (t : Listed). has t.lines c.args.p) c.self.view_is ∙ c.requires.new in
    let below : c.args.p < c.self.inside.numbers.len = subst (λ (t : Listed). c.args.p < t.room) (sym c.self.view_is) c.requires.player in
    omega (arith, room_for_one c.self.inside.lines.items c.self.inside.numbers.items c.self.invariant.0.numbered c.args.p (omega (arith, c.self.inside.numbers.ok.0)) new, c.self.inside.numbers.ok.0, c.self.inside.places.ok.0, c.self.invariant.0.at_places.all_placed, c.self.invariant.3)

pub settle-requires-clause-at_places : goal.settle-requires-clause-at_places
settle-requires-clause-at_places c =
    entered_places c.self.inside.lines.items c.as_slice.result.now (fresh c.args.p c.args.rating) c.len-number.result (c.as_slice.ensures.value ∙ c.push_reserved.ensures.items) (c.len-number.ensures ∙ c.self.inside.lines.ok.0) c.self.inside.order.items c.self.inside.places.items c.as_mut_slice.result.now c.as_mut_slice-2.result.now
    (c.as_mut_slice.ensures.value ∙ c.push_reserved-2.ensures.items) (c.as_mut_slice-2.ensures.value ∙ c.push_reserved-3.ensures.items) c.self.invariant.0.at_places

pub settle-requires-clause-others : goal.settle-requires-clause-others
settle-requires-clause-others c =
    entered_others c.self.inside.lines.items c.as_slice.result.now (fresh c.args.p c.args.rating) c.len-number.result (c.as_slice.ensures.value ∙ c.push_reserved.ensures.items) (c.len-number.ensures ∙ c.self.inside.lines.ok.0) c.self.inside.order.items c.self.inside.places.items c.as_mut_slice.result.now c.as_mut_slice-2.result.now
    (c.as_mut_slice.ensures.value ∙ c.push_reserved-2.ensures.items) c.self.invariant.0.at_places c.self.invariant.0.ordered

pub invariant_of-self : goal.invariant_of-self
invariant_of-self c =
    let new : has c.self.inside.lines.items c.args.p ≡ false = ap (λ (t : Listed). has t.lines c.args.p) c.self.view_is ∙ c.requires.new in
    let below : c.args.p < c.self.inside.numbers.len = subst (λ (t : Listed). c.args.p < t.room) (sym c.self.view_is) c.requires.player in
    let order : take c.push_reserved-2.new.self.len (c.settle.new.order ++ drop (length c.settle.new.order) c.push_reserved-2.new.self.items) ≡ c.settle.new.order = take_at c.settle.new.order (drop (length c.settle.new.order) c.push_reserved-2.new.self.items) c.push_reserved-2.new.self.len (c.settle.auto.order ∙ c.as_mut_slice.ensures.len) in
    let places : take c.push_reserved-3.new.self.len (c.settle.new.places ++ drop (length c.settle.new.places) c.push_reserved-3.new.self.items) ≡ c.settle.new.places = take_at c.settle.new.places (drop (length c.settle.new.places) c.push_reserved-3.new.self.items) c.push_reserved-3.new.self.len (c.settle.auto.places ∙ c.as_mut_slice-2.ensures.len) in
    let are : ArePlaced (length c.push_reserved.new.self.items) c.settle.new.order c.settle.new.places = subst (λ (l : List Line). ArePlaced (length l) c.settle.new.order c.settle.new.places) c.as_slice.ensures.value c.settle.ensures.at_places in
    let ordered : AreInOrder c.push_reserved.new.self.items c.settle.new.order = subst (λ (l : List Line). AreInOrder l c.settle.new.order) c.as_slice.ensures.value c.settle.ensures.ordered in
    let kept : IsKept c.push_reserved.new.self.items (slice_set c.self.inside.numbers.items c.args.p (Some c.len-number.result)) c.settle.new.order c.settle.new.places =
    entered_kept c.self.inside.lines.items c.push_reserved.new.self.items (fresh c.args.p c.args.rating) c.len-number.result c.self.inside.numbers.items c.self.inside.order.items c.self.inside.places.items c.settle.new.order c.settle.new.places
    c.push_reserved.ensures.items (c.len-number.ensures ∙ c.self.inside.lines.ok.0) c.self.invariant.0 (omega (arith, c.self.inside.numbers.ok.0)) new are ordered in (
      subst (λ l. IsKept c.push_reserved.new.self.items (slice_set c.self.inside.numbers.items c.args.p (Some c.len-number.result)) l (take c.push_reserved-3.new.self.len (c.settle.new.places ++ drop (length c.settle.new.places) c.push_reserved-3.new.self.items))) (sym order) (
          subst (λ l. IsKept c.push_reserved.new.self.items (slice_set c.self.inside.numbers.items c.args.p (Some c.len-number.result)) c.settle.new.order l) (sym places) kept),
      omega (arith, c.self.invariant.1, c.push_reserved.ensures.capacity),
      omega (arith, c.self.invariant.2, c.push_reserved-2.ensures.capacity),
      omega (arith, c.self.invariant.3, c.push_reserved-3.ensures.capacity),
    )
