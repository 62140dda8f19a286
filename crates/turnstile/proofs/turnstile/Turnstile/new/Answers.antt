use Rattle.std.proofs.Common.{rules, ◌≡◌, ◌∙◌, sym, ap, subst, arith, List, [], ◌∷◌, ◌++◌, length, zero-add, Option, Some}
use Rattle.atomic_table.specs.Table.{opening}
use Rattle.std.proofs.lemmas.List.FromFn.{map-range_with_len_more, length-map-range_with_len}
use Rattle.turnstile.specs.Passes.{Lock, new_pass}
use Rattle.turnstile.specs.Rule.{Kept}
use Rattle.turnstile.specs.Steps.{newcomer, one_more_made}
use Rattle.turnstile.specs.Views.{maker_view}
use Rattle.turnstile.proofs.Hands.{same_state}
use Rattle.turnstile.proofs.Making.{starts, cuts}
use Rattle.turnstile.proofs.Newcomers.{numbers_new, of_new, outside_new, unused_new}
use Rattle.turnstile.proofs.turnstile.Turnstile.new.Goals as goal

pub new-requires : goal.new-requires
new-requires g c =
    let items : c.push_reserved.new.self.items ≡ Some c.args.value ∷ [] = c.push_reserved.ensures.items ∙ ap (λ l. l ++ Some c.args.value ∷ []) c.in_ok-slots.ensures.items in
    let few = c.requires.some.1 in
    let from : c.from.result ≡ c.args.passes = c.from.ensures in
    subst (λ (xs : List (Option g.row.V.Denot)). Kept g.V.Historied.entries g.V.Historied.by g.V.Historied.fixed (g.V.Historied.fixed c.of.result.value) c.from.result (opening (0 ∷ 0 ∷ 0 ∷ []) xs (maker_view (g.V.Historied.fixed c.of.result.value) c.from.result 0 []))) (sym items)
    (starts g.V.Historied.entries g.V.Historied.by g.V.Historied.fixed (g.V.Historied.fixed c.of.result.value) c.from.result c.args.value c.requires.empty (ap g.V.Historied.fixed (sym c.of.ensures)) (omega arith))

pub split_seat-seat-requires : goal.split_seat-seat-requires
split_seat-seat-requires g c =
    let kept = c.loop-number.invariant in
    let words = c.in-Ok.ensures.ok.0 in
    let from : c.from.result ≡ c.args.passes = c.from.ensures in
    let below = c.loop-number-test.true in (
      kept.0,
      omega arith,
      cuts g.V.Historied.entries g.V.Historied.by g.V.Historied.fixed _ _ c.loop-number.maker.id c.loop-number.number [] c.loop-number.maker.me.0 (g.V.Historied.fixed c.of.result.value) c.from.result
          (ap (λ m. m.0.role) kept.1) (ap (λ m. m.0.stage) kept.1) (ap (λ m. m.0.lock) kept.1) (omega arith),
    )

pub push_reserved-requires-in-loop-number : goal.push_reserved-requires-in-loop-number
push_reserved-requires-in-loop-number g c =
    let kept = c.loop-number.invariant in
    let room = kept.3 in
    let below = c.loop-number-test.true in
    let long : length c.loop-number.list.items ≡ c.loop-number.number = ap length kept.2 ∙ length-map-range_with_len _ 0 c.loop-number.number in
    omega arith

pub loop-number-preserved : goal.loop-number-preserved
loop-number-preserved g c =
    let kept = c.loop-number.invariant in
    let cut = c.split_seat-seat.ensures in
    let lock : Lock g.row.V-Fixed.Denot = record { id = c.in-Ok.made.0.shared.table_id; fixed = g.V.Historied.fixed c.of.result.value; passes = c.from.result } in
    let table = cut.3 ∙ kept.0 in
    let view = cut.4 ∙ ap (λ m. (newcomer m.0, [])) kept.1 in
    let items = c.push_reserved-in-loop-number.ensures.items in
    let pass = same_state g.V.Historied.fixed _ _ c.loop-number.number _ _ _ _ table c.of-in-loop-number.ensures view in
    let more = map-range_with_len_more (new_pass {E = g.row.V-Entry.Denot} lock) 0 c.loop-number.number c.loop-number.number (zero-add c.loop-number.number) in (
      cut.0 ∙ kept.0,
      cut.2 ∙ ap (λ m. (one_more_made m.0, m.1)) kept.1,
      items ∙ ((λ i. kept.2 i ++ pass i ∷ []) ∙ sym more),
      (search rules),
    )

pub returns-clause-passes : goal.returns-clause-passes
returns-clause-passes g c = search rules

pub returns-clause-len : goal.returns-clause-len
returns-clause-len g c = ap length (returns-clause-passes g c) ∙ length-map-range_with_len _ 0 c.args.passes

pub returns-clause-numbers : goal.returns-clause-numbers
returns-clause-numbers g c = numbers_new _ _ _ (returns-clause-passes g c)

pub returns-clause-of : goal.returns-clause-of
returns-clause-of g c = of_new _ _ _ (returns-clause-passes g c)

pub returns-clause-outside : goal.returns-clause-outside
returns-clause-outside g c = outside_new _ _ _ (returns-clause-passes g c)

pub returns-clause-unused : goal.returns-clause-unused
returns-clause-unused g c = unused_new _ _ _ (returns-clause-passes g c)
