use Rattle.std.proofs.Common.{◌≡◌, ◌++◌, List, length, true, arith, subst, sym, ap, ◌∙◌, take, drop, refl, w64}
use Rattle.std.specs.Prelude.{slice_set}
use Rattle.std.proofs.lemmas.List.{take_at}
use Rattle.std.proofs.lemmas.Int.{to_z-of_z}
use Rattle.ranking.specs.Order.{Line, line_at}
use Rattle.ranking.specs.Rows.{Listed, given, has, listed, scored}
use Rattle.ranking.specs.Kept.{ArePlaced, AreInOrder, IsKept}
use Rattle.ranking.proofs.Players.{player_at, player_once, is_player, never_none, number_read, line_read}
use Rattle.ranking.proofs.Tables.{scored_kept, scored-set}
use Rattle.ranking.proofs.table.Table.score.Goals as goal

pub index-requires : goal.index-requires
index-requires c =
    let entered : has c.self.inside.lines.items c.args.p ≡ true = ap (λ (t : Listed). has t.lines c.args.p) c.self.view_is ∙ c.requires in
    omega (arith, is_player c.self.inside.lines.items c.self.inside.numbers.items c.self.invariant.0.numbered c.args.p entered, c.self.inside.numbers.ok.0)

pub unreachable-requires : goal.unreachable-requires
unreachable-requires c =
    let entered : has c.self.inside.lines.items c.args.p ≡ true = ap (λ (t : Listed). has t.lines c.args.p) c.self.view_is ∙ c.requires in
    never_none c.self.inside.lines.items c.self.inside.numbers.items c.self.invariant.0.numbered c.args.p c.index.result.now entered c.index.ensures c.in_default.is

pub index-requires-2 : goal.index-requires-2
index-requires-2 c =
    let entered : has c.self.inside.lines.items c.args.p ≡ true = ap (λ (t : Listed). has t.lines c.args.p) c.self.view_is ∙ c.requires in
    let below = is_player c.self.inside.lines.items c.self.inside.numbers.items c.self.invariant.0.numbered c.args.p entered in
    omega (arith, number_read c.self.inside.lines.items c.self.inside.numbers.items c.self.invariant.0.numbered c.args.p c.index.result.now c.in-Some.number below c.index.ensures c.in-Some.is, c.self.inside.lines.ok.0)

pub index_mut-requires : goal.index_mut-requires
index_mut-requires c =
    let entered : has c.self.inside.lines.items c.args.p ≡ true = ap (λ (t : Listed). has t.lines c.args.p) c.self.view_is ∙ c.requires in
    let below = is_player c.self.inside.lines.items c.self.inside.numbers.items c.self.invariant.0.numbered c.args.p entered in
    omega (arith, number_read c.self.inside.lines.items c.self.inside.numbers.items c.self.invariant.0.numbered c.args.p c.index.result.now c.in-Some.number below c.index.ensures c.in-Some.is, c.self.inside.lines.ok.0)

pub settle-requires-clause-number : goal.settle-requires-clause-number
settle-requires-clause-number c =
    let entered : has c.self.inside.lines.items c.args.p ≡ true = ap (λ (t : Listed). has t.lines c.args.p) c.self.view_is ∙ c.requires in
    let below = is_player c.self.inside.lines.items c.self.inside.numbers.items c.self.invariant.0.numbered c.args.p entered in
    omega (arith, number_read c.self.inside.lines.items c.self.inside.numbers.items c.self.invariant.0.numbered c.args.p c.index.result.now c.in-Some.number below c.index.ensures c.in-Some.is, c.self.inside.lines.ok.0, c.as_slice.ensures.len)

pub invariant_of-self : goal.invariant_of-self
invariant_of-self c =
    let entered : has c.self.inside.lines.items c.args.p ≡ true = ap (λ (t : Listed). has t.lines c.args.p) c.self.view_is ∙ c.requires in
    let below = is_player c.self.inside.lines.items c.self.inside.numbers.items c.self.invariant.0.numbered c.args.p entered in
    let number = number_read c.self.inside.lines.items c.self.inside.numbers.items c.self.invariant.0.numbered c.args.p c.index.result.now c.in-Some.number below c.index.ensures c.in-Some.is in
    let line : c.index-2.result.now ≡ line_at c.self.inside.lines.items c.in-Some.number = line_read c.self.inside.lines.items c.in-Some.number c.index-2.result.now number.0 c.index-2.ensures in
    let same : c.given-line.result.player ≡ player_at c.self.inside.lines.items c.in-Some.number = ap (λ (l : Line). l.player) c.given-line.ensures ∙ ap (λ (l : Line). l.player) line in
    let new = slice_set c.self.inside.lines.items c.in-Some.number c.given-line.result in
    let order : take c.self.inside.order.len (c.settle.new.order ++ drop (length c.settle.new.order) c.self.inside.order.items) ≡ c.settle.new.order = take_at c.settle.new.order (drop (length c.settle.new.order) c.self.inside.order.items) c.self.inside.order.len (c.settle.auto.order ∙ c.as_mut_slice.ensures.len) in
    let places : take c.self.inside.places.len (c.settle.new.places ++ drop (length c.settle.new.places) c.self.inside.places.items) ≡ c.settle.new.places = take_at c.settle.new.places (drop (length c.settle.new.places) c.self.inside.places.items) c.self.inside.places.len (c.settle.auto.places ∙ c.as_mut_slice-2.ensures.len) in
    let are : ArePlaced (length new) c.settle.new.order c.settle.new.places = subst (λ (l : List Line). ArePlaced (length l) c.settle.new.order c.settle.new.places) c.as_slice.ensures.value c.settle.ensures.at_places in
    let ordered : AreInOrder new c.settle.new.order = subst (λ (l : List Line). AreInOrder l c.settle.new.order) c.as_slice.ensures.value c.settle.ensures.ordered in
    let kept : IsKept new c.self.inside.numbers.items c.settle.new.order c.settle.new.places =
    scored_kept c.self.inside.lines.items new c.in-Some.number c.given-line.result c.self.inside.numbers.items c.self.inside.order.items c.self.inside.places.items c.settle.new.order c.settle.new.places refl c.self.invariant.0 number.0 same are ordered in (
      subst (λ l. IsKept new c.self.inside.numbers.items l (take c.self.inside.places.len (c.settle.new.places ++ drop (length c.settle.new.places) c.self.inside.places.items))) (sym order) (subst (λ l. IsKept new c.self.inside.numbers.items c.settle.new.order l) (sym places) kept),
      c.self.invariant.1,
      c.self.invariant.2,
      c.self.invariant.3,
    )

pub returns : goal.returns
returns c =
    let entered : has c.self.inside.lines.items c.args.p ≡ true = ap (λ (t : Listed). has t.lines c.args.p) c.self.view_is ∙ c.requires in
    let below = is_player c.self.inside.lines.items c.self.inside.numbers.items c.self.invariant.0.numbered c.args.p entered in
    let number = number_read c.self.inside.lines.items c.self.inside.numbers.items c.self.invariant.0.numbered c.args.p c.index.result.now c.in-Some.number below c.index.ensures c.in-Some.is in
    let line : c.index-2.result.now ≡ line_at c.self.inside.lines.items c.in-Some.number = line_read c.self.inside.lines.items c.in-Some.number c.index-2.result.now number.0 c.index-2.ensures in
    let new : c.given-line.result ≡ given c.args.points c.args.performance c.args.games c.args.fire (line_at c.self.inside.lines.items c.in-Some.number) =
    c.given-line.ensures ∙ (ap (λ z. given c.args.points z c.args.games c.args.fire c.index-2.result.now) (to_z-of_z w64 c.args.performance c.ranges.performance) ∙ ap (given c.args.points c.args.performance c.args.games c.args.fire) line) in
    let set : scored c.args.p c.args.points c.args.performance c.args.games c.args.fire c.self.inside.lines.items ≡ slice_set c.self.inside.lines.items c.in-Some.number c.given-line.result =
    scored-set c.self.inside.lines.items c.args.p c.in-Some.number c.args.points c.args.performance c.args.games c.args.fire number.0 number.1 (λ j lt is. player_once c.self.inside.lines.items c.self.inside.numbers.items c.self.invariant.0.numbered j c.in-Some.number lt number.0 (is ∙ sym number.1))
    ∙ ap (slice_set c.self.inside.lines.items c.in-Some.number) (sym new) in
    ap (λ (l : List Line). listed c.self.inside.numbers.len l) (sym set) ∙ ap (λ (t : Listed). listed t.room (scored c.args.p c.args.points c.args.performance c.args.games c.args.fire t.lines)) c.self.view_is
