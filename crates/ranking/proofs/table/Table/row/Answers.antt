use Rattle.std.proofs.Common.{◌≡◌, ◌<◌, ◌≤◌, Some, get_or, length, arith, subst, sym, ap, ◌∙◌}
use Rattle.std.specs.Prelude.{slice_get}
use Rattle.std.proofs.lemmas.Bool.{ltb-true, ltb-false}
use Rattle.std.proofs.lemmas.List.{get_or_default}
use Rattle.ranking.specs.Order.{line_at}
use Rattle.ranking.specs.Rows.{Listed, rows}
use Rattle.ranking.proofs.Players.{line_read}
use Rattle.ranking.proofs.Ranks.{row_read, slice_get-rows_past}
use Rattle.ranking.proofs.table.Table.row.Goals as goal

pub returns-in-Some-clause-row : goal.returns-in-Some-clause-row
returns-in-Some-clause-row c =
    let kept = c.self.invariant.0 in
    let order : c.deref.result.now ≡ c.self.inside.order.items = c.deref.ensures.value in
    let below : c.args.rank < length c.deref.result.now = ltb-true c.args.rank (length c.deref.result.now) (sym c.in-Some.ensures.lookup.0) in
    let within : c.args.rank < length c.self.inside.order.items = subst (λ l. c.args.rank < length l) order below in
    let lt : c.args.rank < length c.self.inside.lines.items = omega (arith, kept.at_places.all_ordered) in
    let number : c.in-Some.number.now ≡ get_or c.self.inside.order.items c.args.rank 0 = c.in-Some.ensures.lookup.1 ∙ (ap (λ l. get_or l c.args.rank c.in-Some.number.now) order ∙ get_or_default c.self.inside.order.items c.args.rank c.in-Some.number.now 0 within) in
    let least : c.in-Some.number.now < length c.self.inside.lines.items = subst (λ m. m < length c.self.inside.lines.items) (sym number) (kept.at_places.numbers c.args.rank lt) in
    let line : c.index.result.now ≡ line_at c.self.inside.lines.items c.in-Some.number.now = line_read c.self.inside.lines.items c.in-Some.number.now c.index.result.now least c.index.ensures in
    ap Some c.row_of.ensures ∙ (sym (row_read c.self.inside.lines.items c.self.inside.numbers.items c.self.inside.order.items c.self.inside.places.items kept c.args.rank c.in-Some.number.now c.index.result.now lt number line) ∙ ap (λ (t : Listed). slice_get (rows t.lines) c.args.rank) c.self.view_is)

pub returns-in-None-clause-row : goal.returns-in-None-clause-row
returns-in-None-clause-row c =
    let kept = c.self.invariant.0 in
    let past : length c.deref.result.now ≤ c.args.rank = ltb-false c.args.rank (length c.deref.result.now) (sym c.in-None.ensures.lookup.0) in
    let none : length c.self.inside.order.items ≤ c.args.rank = subst (λ l. length l ≤ c.args.rank) c.deref.ensures.value past in
    sym (slice_get-rows_past c.self.inside.lines.items c.self.inside.numbers.items c.self.inside.order.items c.self.inside.places.items kept c.args.rank (omega (arith, kept.at_places.all_ordered))) ∙ ap (λ (t : Listed). slice_get (rows t.lines) c.args.rank) c.self.view_is
