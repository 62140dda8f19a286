use Rattle.std.proofs.Common.{◌≡◌, Some, None, false, true, get_or, arith, sym, ap, ◌∙◌, refl}
use Rattle.std.proofs.lemmas.Bool.{both_ways}
use Rattle.std.proofs.lemmas.List.{get_or_default}
use Rattle.ranking.specs.Rows.{Listed, has, rank_of}
use Rattle.ranking.specs.Kept.{number_of}
use Rattle.ranking.proofs.Ranks.{place_kept, rank_of-kept, rank_of-none, has-some, has-none}
use Rattle.ranking.proofs.table.Table.rank_of.Goals as goal

pub index-requires : goal.index-requires
index-requires c =
    let number : number_of c.self.inside.numbers.items c.args.p ≡ Some c.in-Some.number = sym (c.number_of.ensures ∙ ap (λ l. number_of l c.args.p) c.as_slice.ensures.value) ∙ c.in-Some.is in
    omega (arith, place_kept c.self.inside.lines.items c.self.inside.numbers.items c.self.inside.order.items c.self.inside.places.items c.self.invariant.0 c.args.p c.in-Some.number number, c.self.inside.places.ok.0)

pub returns-in-Some-clause-rank : goal.returns-in-Some-clause-rank
returns-in-Some-clause-rank c =
    let number : number_of c.self.inside.numbers.items c.args.p ≡ Some c.in-Some.number = sym (c.number_of.ensures ∙ ap (λ l. number_of l c.args.p) c.as_slice.ensures.value) ∙ c.in-Some.is in
    let within = place_kept c.self.inside.lines.items c.self.inside.numbers.items c.self.inside.order.items c.self.inside.places.items c.self.invariant.0 c.args.p c.in-Some.number number in
    let place : c.index.result.now ≡ get_or c.self.inside.places.items c.in-Some.number 0 = c.index.ensures ∙ get_or_default c.self.inside.places.items c.in-Some.number c.index.result.now 0 within in
    let rank : rank_of c.self.inside.lines.items c.args.p ≡ Some (get_or c.self.inside.places.items c.in-Some.number 0) = rank_of-kept c.self.inside.lines.items c.self.inside.numbers.items c.self.inside.order.items c.self.inside.places.items c.self.invariant.0 c.args.p c.in-Some.number number in
    ap Some place ∙ (sym rank ∙ ap (λ (t : Listed). rank_of t.lines c.args.p) c.self.view_is)

pub returns-in-Some-clause-entered : goal.returns-in-Some-clause-entered
returns-in-Some-clause-entered c =
    let number : number_of c.self.inside.numbers.items c.args.p ≡ Some c.in-Some.number = sym (c.number_of.ensures ∙ ap (λ l. number_of l c.args.p) c.as_slice.ensures.value) ∙ c.in-Some.is in
    let entered : has c.self.inside.lines.items c.args.p ≡ true = has-some c.self.inside.lines.items c.self.inside.numbers.items c.self.inside.order.items c.self.inside.places.items c.self.invariant.0 c.args.p c.in-Some.number number in
    (λ _. sym (ap (λ (t : Listed). has t.lines c.args.p) c.self.view_is) ∙ entered, λ _. refl)

pub returns-in-None-clause-rank : goal.returns-in-None-clause-rank
returns-in-None-clause-rank c =
    let number : number_of c.self.inside.numbers.items c.args.p ≡ None = sym (c.number_of.ensures ∙ ap (λ l. number_of l c.args.p) c.as_slice.ensures.value) ∙ c.in-None.is in
    let rank : rank_of c.self.inside.lines.items c.args.p ≡ None = rank_of-none c.self.inside.lines.items c.self.inside.numbers.items c.self.inside.order.items c.self.inside.places.items c.self.invariant.0 c.args.p number in
    sym rank ∙ ap (λ (t : Listed). rank_of t.lines c.args.p) c.self.view_is

pub returns-in-None-clause-entered : goal.returns-in-None-clause-entered
returns-in-None-clause-entered c =
    let number : number_of c.self.inside.numbers.items c.args.p ≡ None = sym (c.number_of.ensures ∙ ap (λ l. number_of l c.args.p) c.as_slice.ensures.value) ∙ c.in-None.is in
    let new : has c.args.self.now.lines c.args.p ≡ false = sym (ap (λ (t : Listed). has t.lines c.args.p) c.self.view_is) ∙ has-none c.self.inside.lines.items c.self.inside.numbers.items c.self.inside.order.items c.self.inside.places.items c.self.invariant.0 c.args.p number in
    (λ never. cc, λ entered. absurd (both_ways (has c.args.self.now.lines c.args.p) new entered))
