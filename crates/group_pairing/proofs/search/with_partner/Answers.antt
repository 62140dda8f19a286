use Rattle.std.proofs.Common.{◌∙◌, ◌*◌, ◌+◌, ◌<◌, sym, arith, length, slice_index_or}
use Rattle.group_pairing.proofs.Sets.{on, off, sets_few, first_of_set, rest_of_set, cut_of_set}
use Rattle.group_pairing.proofs.Left.{left_cut}
use Rattle.group_pairing.proofs.Cells.{read_offer}
use Rattle.group_pairing.proofs.Bests.{blank, no_cell, best_outside, best_forbidden, best_lesser}
use Rattle.group_pairing.proofs.search.with_partner.Goals as goal
use Rattle.group_pairing.proofs.search.with_partner.Goals.{else-has-via-then-has+else-offer, else-has-via-else-has}

pub paired-requires-clause-fits : goal.paired-requires-clause-fits
paired-requires-clause-fits c =
    let first = first_of_set c.args.rows.now c.args.set c.args.place c.requires.few c.requires.set c.requires.first in
    let rest = rest_of_set c.args.rows.now c.args.set c.args.place c.without-rest.result c.requires.few c.without-rest.ensures.gone c.without-rest.ensures.others in
    let there = on c.without-rest.result c.args.partner c.has.result c.has.ensures c.if-has.true in
    let cut = cut_of_set c.args.rows.now c.args.set c.args.place c.args.partner c.without-rest.result c.without-cut.result first rest c.requires.place c.requires.partner (sym (rest.others c.args.partner c.requires.partner (λ e. omega (arith, e, c.requires.place))) ∙ there) c.without-cut.ensures.gone c.without-cut.ensures.others in
    let below : c.without-cut.result < c.args.set = omega (arith, c.without-cut.ensures.smaller, c.without-rest.ensures.smaller) in
    let best = c.requires.best c.without-cut.result blank below (left_cut c.args.rows.now c.args.set c.args.place c.args.partner c.without-rest.result c.without-cut.result c.requires.set c.without-rest.ensures.smaller c.without-cut.ensures.smaller first rest cut c.requires.left) in
    let offer = read_offer c.args.rows.now c.args.f.now c.args.offers.now c.args.place c.args.partner no_cell c.requires.offers (omega arith) (omega arith) in
    let cheap = best.told.cheap in
    let small = offer.small in
    let few : c.args.set < 16384 = sets_few (length c.args.rows.now) c.args.set c.requires.few c.requires.set in
    omega (arith, cheap, small, few, below)

pub returns-then-offer : goal.returns-then-offer
returns-then-offer c =
    let first = first_of_set c.args.rows.now c.args.set c.args.place c.requires.few c.requires.set c.requires.first in
    let rest = rest_of_set c.args.rows.now c.args.set c.args.place c.without-rest.result c.requires.few c.without-rest.ensures.gone c.without-rest.ensures.others in
    let there = on c.without-rest.result c.args.partner c.has.result c.has.ensures c.if-has.true in
    let cut = cut_of_set c.args.rows.now c.args.set c.args.place c.args.partner c.without-rest.result c.without-cut.result first rest c.requires.place c.requires.partner (sym (rest.others c.args.partner c.requires.partner (λ e. omega (arith, e, c.requires.place))) ∙ there) c.without-cut.ensures.gone c.without-cut.ensures.others in
    let below : c.without-cut.result < c.args.set = omega (arith, c.without-cut.ensures.smaller, c.without-rest.ensures.smaller) in
    let best = c.requires.best c.without-cut.result blank below (left_cut c.args.rows.now c.args.set c.args.place c.args.partner c.without-rest.result c.without-cut.result c.requires.set c.without-rest.ensures.smaller c.without-cut.ensures.smaller first rest cut c.requires.left) in
    let offer = read_offer c.args.rows.now c.args.f.now c.args.offers.now c.args.place c.args.partner no_cell c.requires.offers (omega arith) (omega arith) in
    best_lesser c.args.rows.now c.args.f.now c.args.set c.args.place c.args.partner c.without-rest.result c.without-cut.result (slice_index_or c.args.offers.now (14 * c.args.place + c.args.partner) no_cell).price (slice_index_or c.args.best.now c.without-cut.result blank) c.paired.result c.args.later c.lesser.result first rest cut below
    (sym offer.may ∙ c.if-offer.true) (sym (offer.price c.if-offer.true)) offer.small best c.requires.later c.paired.ensures.alone c.paired.ensures.total c.paired.ensures.partner c.lesser.ensures

pub returns-else-has : goal.returns-else-has
returns-else-has c =
    let first = first_of_set c.args.rows.now c.args.set c.args.place c.requires.few c.requires.set c.requires.first in
    let rest = rest_of_set c.args.rows.now c.args.set c.args.place c.without-rest.result c.requires.few c.without-rest.ensures.gone c.without-rest.ensures.others in
    elim c.else-has.branch [
      | else-has-via-then-has+else-offer w ↦
          let offer = read_offer c.args.rows.now c.args.f.now c.args.offers.now c.args.place c.args.partner no_cell c.requires.offers (omega arith) (omega arith) in
          best_forbidden c.args.rows.now c.args.f.now c.args.set c.args.place c.args.partner c.args.later first c.requires.partner (sym offer.may ∙ w.if-offer.false) c.requires.later
      | else-has-via-else-has w ↦
          let none = off c.without-rest.result c.args.partner c.has.result c.has.ensures w.if-has.false in
          best_outside c.args.rows.now c.args.f.now c.args.set c.args.place c.args.partner c.args.later first c.requires.partner (sym (rest.others c.args.partner c.requires.partner (λ e. omega (arith, e, c.requires.place))) ∙ none) c.requires.later
    ]
