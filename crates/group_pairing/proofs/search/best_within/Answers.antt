use Rattle.std.proofs.Common.{sym, arith, length, slice_index, slice_index_or}
use Rattle.group_pairing.proofs.Sets.{sets_few, first_of_set, rest_of_set}
use Rattle.group_pairing.proofs.Left.{left_rest}
use Rattle.group_pairing.proofs.Cells.{charge_small}
use Rattle.group_pairing.proofs.Bests.{blank, best_left, best_chosen}
use Rattle.group_pairing.proofs.search.best_within.Goals as goal

pub without-rest-requires-clause-place : goal.without-rest-requires-clause-place
without-rest-requires-clause-place c =
    let first = first_of_set c.args.rows.now c.args.set c.first_of-place.result c.requires.few c.requires.set c.first_of-place.ensures.first in
    let inside = first.inside in
    omega (arith, inside, c.requires.few)

pub bounds-charges-place : goal.bounds-charges-place
bounds-charges-place c =
    let first = first_of_set c.args.rows.now c.args.set c.first_of-place.result c.requires.few c.requires.set c.first_of-place.ensures.first in
    let inside = first.inside in
    omega (arith, inside, c.requires.few, c.requires.places)

pub left_alone-found-requires-clause-count : goal.left_alone-found-requires-clause-count
left_alone-found-requires-clause-count c =
    let first = first_of_set c.args.rows.now c.args.set c.first_of-place.result c.requires.few c.requires.set c.first_of-place.ensures.first in
    let rest = rest_of_set c.args.rows.now c.args.set c.first_of-place.result c.without-rest.result c.requires.few c.without-rest.ensures.gone c.without-rest.ensures.others in
    let best = c.requires.best c.without-rest.result blank c.without-rest.ensures.smaller (left_rest c.args.rows.now c.args.set c.first_of-place.result c.without-rest.result c.requires.set c.without-rest.ensures.smaller first rest c.requires.left) in
    let few = best.told.few in
    let sets = sets_few (length c.args.rows.now) c.args.set c.requires.few c.requires.set in
    omega (arith, few, sets, c.without-rest.ensures.smaller)

pub left_alone-found-requires-clause-fits : goal.left_alone-found-requires-clause-fits
left_alone-found-requires-clause-fits c =
    let first = first_of_set c.args.rows.now c.args.set c.first_of-place.result c.requires.few c.requires.set c.first_of-place.ensures.first in
    let rest = rest_of_set c.args.rows.now c.args.set c.first_of-place.result c.without-rest.result c.requires.few c.without-rest.ensures.gone c.without-rest.ensures.others in
    let best = c.requires.best c.without-rest.result blank c.without-rest.ensures.smaller (left_rest c.args.rows.now c.args.set c.first_of-place.result c.without-rest.result c.requires.set c.without-rest.ensures.smaller first rest c.requires.left) in
    let cheap = best.told.cheap in
    let sets = sets_few (length c.args.rows.now) c.args.set c.requires.few c.requires.set in
    let is = c.requires.charges c.first_of-place.result first.inside in
    let small = charge_small c.args.rows.now c.args.f.now c.first_of-place.result in
    omega (arith, cheap, sets, c.without-rest.ensures.smaller, is, small)

pub loop-partner-init : goal.loop-partner-init
loop-partner-init c =
    let first = first_of_set c.args.rows.now c.args.set c.first_of-place.result c.requires.few c.requires.set c.first_of-place.ensures.first in
    let rest = rest_of_set c.args.rows.now c.args.set c.first_of-place.result c.without-rest.result c.requires.few c.without-rest.ensures.gone c.without-rest.ensures.others in
    let best = c.requires.best c.without-rest.result blank c.without-rest.ensures.smaller (left_rest c.args.rows.now c.args.set c.first_of-place.result c.without-rest.result c.requires.set c.without-rest.ensures.smaller first rest c.requires.left) in
    let is = c.requires.charges c.first_of-place.result first.inside in
    let small = charge_small c.args.rows.now c.args.f.now c.first_of-place.result in
    best_left c.args.rows.now c.args.f.now c.args.set c.first_of-place.result c.without-rest.result (slice_index c.args.charges.now c.first_of-place.result) (slice_index_or c.args.best.now c.without-rest.result blank) c.left_alone-found.result first rest c.without-rest.ensures.smaller (sym is) (omega (arith, is, small)) best c.left_alone-found.ensures.alone c.left_alone-found.ensures.total c.left_alone-found.ensures.partner

pub returns : goal.returns
returns c =
    let first = first_of_set c.args.rows.now c.args.set c.first_of-place.result c.requires.few c.requires.set c.first_of-place.ensures.first in
    best_chosen c.args.rows.now c.args.f.now c.args.set c.first_of-place.result c.loop-partner.partner c.loop-partner.found first c.loop-partner-test.false c.loop-partner.invariant
