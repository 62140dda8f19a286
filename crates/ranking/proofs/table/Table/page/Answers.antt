use Rattle.std.proofs.Common.{◌≡◌, ◌+◌, ◌-◌, ◌<◌, [], ◌∷◌, ◌++◌, get_or, length, min, arith, subst, sym, ap, ◌∙◌}
use Rattle.std.proofs.lemmas.List.{get_or_default}
use Rattle.ranking.specs.Order.{line_at}
use Rattle.ranking.specs.Rows.{Listed, row_at, page}
use Rattle.ranking.proofs.Players.{line_read}
use Rattle.ranking.proofs.Ranks.{more_rows, page_cut}
use Rattle.ranking.proofs.table.Table.page.Goals as goal

pub listing-preserved : goal.listing-preserved
listing-preserved c =
    let kept = c.self.invariant.0 in
    let long : c.len-len.result ≡ length c.self.inside.lines.items = c.len-len.ensures ∙ sym (ap (λ (t : Listed). length t.lines) c.self.view_is) in
    let lt : c.listing.rank < length c.self.inside.lines.items = omega arith in
    let number : c.index-number.result.now ≡ get_or c.self.inside.order.items c.listing.rank 0 = c.index-number.ensures ∙ get_or_default c.self.inside.order.items c.listing.rank c.index-number.result.now 0 (omega (arith, kept.at_places.all_ordered)) in
    let least : c.index-number.result.now < length c.self.inside.lines.items = subst (λ m. m < length c.self.inside.lines.items) (sym number) (kept.at_places.numbers c.listing.rank lt) in
    let line : c.index.result.now ≡ line_at c.self.inside.lines.items (get_or c.self.inside.order.items c.listing.rank 0) = line_read c.self.inside.lines.items c.index-number.result.now c.index.result.now least c.index.ensures ∙ ap (line_at c.self.inside.lines.items) number in
    let row = c.row_of.ensures ∙ ap (row_at c.listing.rank) line in
    c.in_ok-push.ensures.items ∙ (ap (λ l. l ++ c.row_of.result ∷ []) c.listing.invariant ∙ sym (more_rows c.self.inside.lines.items c.self.inside.numbers.items c.self.inside.order.items c.self.inside.places.items kept c.min-first.result c.listing.rank c.listing.auto.rank lt c.row_of.result row))

pub returns : goal.returns
returns c =
    let kept = c.self.invariant.0 in
    let long : c.len-len.result ≡ length c.self.inside.lines.items = c.len-len.ensures ∙ sym (ap (λ (t : Listed). length t.lines) c.self.view_is) in
    let begins : c.min-first.result ≡ min (length c.self.inside.lines.items) c.args.from = omega arith in
    let ends : c.listing.rank ≡ c.min-first.result + min c.args.n (length c.self.inside.lines.items - c.min-first.result) = omega arith in
    c.listing.invariant ∙ (page_cut c.self.inside.lines.items c.self.inside.numbers.items c.self.inside.order.items c.self.inside.places.items kept c.args.from c.args.n c.min-first.result c.listing.rank begins ends ∙ ap (λ (t : Listed). page c.args.from c.args.n t.lines) c.self.view_is)
