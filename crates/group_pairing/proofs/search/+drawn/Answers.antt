use Rattle.std.proofs.Common.{◌≡◌, ◌≢◌, ℕ, ◌∙◌, ◌<◌, List, sym, subst, subst₂, arith, length, set, take, slice_index_or}
use Rattle.std.specs.Int.{bit_at}
use Rattle.std.proofs.lemmas.List.{drop-set-lt, take-replicate, drop-replicate}
use Rattle.pair_cost.specs.declared.candidate.Candidate.{Candidate}
use Rattle.group_pairing.specs.declared.choice.Choice.{Choice}
use Rattle.group_pairing.specs.Search.{IsLeastIn}
use Rattle.group_pairing.proofs.Sets.{First, Rest, Cut, sets_few, first_of_set, rest_of_set, cut_of_set}
use Rattle.group_pairing.proofs.Left.{left_rest, left_cut}
use Rattle.group_pairing.proofs.Choices.{least_of_none}
use Rattle.group_pairing.proofs.Bests.{blank, Partnered, partner_told, drawn_left, drawn_paired, items_paired}
use Rattle.group_pairing.proofs.search.+drawn.Goals as goal

pub returns-then-set-eq0-clause-list : goal.returns-then-set-eq0-clause-list
returns-then-set-eq0-clause-list t c =
    subst₂ (λ s l. IsLeastIn c.args.rows.now c.args.f.now s 0 0 l) (sym c.if-set-eq0.true) (sym (take-replicate (length c.args.rows.now) 14 14 c.requires.few)) (least_of_none c.args.rows.now c.args.f.now)

pub returns-then-set-eq0-clause-rest : goal.returns-then-set-eq0-clause-rest
returns-then-set-eq0-clause-rest t c = drop-replicate (length c.args.rows.now) 14 14

pub bounds-best-set : goal.bounds-best-set
bounds-best-set t c = let few = sets_few (length c.args.rows.now) c.args.set c.requires.few c.requires.set in omega (arith, few, c.requires.sets)

pub without-rest-requires-clause-place : goal.without-rest-requires-clause-place
without-rest-requires-clause-place t c =
    let first = first_of_set c.args.rows.now c.args.set c.first_of-place.result c.requires.few c.requires.set c.first_of-place.ensures.first in
    let inside = first.inside in
    omega (arith, inside, c.requires.few)

pub drawn-requires : goal.drawn-requires
drawn-requires t c =
    let first = first_of_set c.args.rows.now c.args.set c.first_of-place.result c.requires.few c.requires.set c.first_of-place.ensures.first in
    let rest = rest_of_set c.args.rows.now c.args.set c.first_of-place.result c.without-rest.result c.requires.few c.without-rest.ensures.gone c.without-rest.ensures.others in (
      omega (arith, c.without-rest.ensures.smaller, c.decreases),
      (
        c.requires.few,
        (
          c.requires.best,
          (
            c.requires.sets,
            (
              omega (arith, c.without-rest.ensures.smaller, c.requires.set),
              left_rest c.args.rows.now c.args.set c.first_of-place.result c.without-rest.result c.requires.set c.without-rest.ensures.smaller first rest c.requires.left,
            ),
          ),
        ),
      ),
    )

pub returns-then-partner-eq-NOBODY-clause-list : goal.returns-then-partner-eq-NOBODY-clause-list
returns-then-partner-eq-NOBODY-clause-list t c =
    let first = first_of_set c.args.rows.now c.args.set c.first_of-place.result c.requires.few c.requires.set c.first_of-place.ensures.first in
    let rest = rest_of_set c.args.rows.now c.args.set c.first_of-place.result c.without-rest.result c.requires.few c.without-rest.ensures.gone c.without-rest.ensures.others in
    let best = c.requires.best c.args.set blank c.requires.set c.requires.left in
    drawn_left c.args.rows.now c.args.f.now c.args.set c.first_of-place.result c.without-rest.result (slice_index_or c.args.best.now c.args.set blank) (take (length c.args.rows.now) c.drawn.result) first rest best c.if-partner-eq-NOBODY.true c.drawn.ensures.list

pub without-cut-requires-clause-place : goal.without-cut-requires-clause-place
without-cut-requires-clause-place t c =
    let first = first_of_set c.args.rows.now c.args.set c.first_of-place.result c.requires.few c.requires.set c.first_of-place.ensures.first in
    let told = partner_told c.args.rows.now c.args.f.now c.args.set c.first_of-place.result (slice_index_or c.args.best.now c.args.set blank) first (c.requires.best c.args.set blank c.requires.set c.requires.left) c.if-partner-eq-NOBODY.false in
    let inside = told.inside in
    omega (arith, inside, c.requires.few, c.from.ensures)

pub without-cut-requires-clause-has : goal.without-cut-requires-clause-has
without-cut-requires-clause-has t c =
    let first = first_of_set c.args.rows.now c.args.set c.first_of-place.result c.requires.few c.requires.set c.first_of-place.ensures.first in
    let told = partner_told c.args.rows.now c.args.f.now c.args.set c.first_of-place.result (slice_index_or c.args.best.now c.args.set blank) first (c.requires.best c.args.set blank c.requires.set c.requires.left) c.if-partner-eq-NOBODY.false in
    let rest = rest_of_set c.args.rows.now c.args.set c.first_of-place.result c.without-rest.result c.requires.few c.without-rest.ensures.gone c.without-rest.ensures.others in
    subst (λ q. bit_at c.without-rest.result q ≡ 1) (sym c.from.ensures) (rest.others (slice_index_or c.args.best.now c.args.set blank).partner told.inside (λ e. let up = told.up in omega (arith, e, up)) ∙ told.has)

-- the set without the two
cut_told : (rows : List Candidate) (s p q r t : ℕ) (b : Choice) → First rows s p → Rest rows s p r → Partnered rows s p b.partner → q ≡ b.partner → bit_at t q ≡ 0 → ((i : ℕ) → i < 14 → i ≢ q → bit_at t i ≡ bit_at r i) → Cut rows s p b.partner t
cut_told rows s p q r t b f c told is gone others =
    cut_of_set rows s p b.partner r t f c told.up told.inside told.has (subst (λ k. bit_at t k ≡ 0) is gone) (subst (λ k. (i : ℕ) → i < 14 → i ≢ k → bit_at t i ≡ bit_at r i) is others)

pub drawn-to-requires : goal.drawn-to-requires
drawn-to-requires t c =
    let first = first_of_set c.args.rows.now c.args.set c.first_of-place.result c.requires.few c.requires.set c.first_of-place.ensures.first in
    let rest = rest_of_set c.args.rows.now c.args.set c.first_of-place.result c.without-rest.result c.requires.few c.without-rest.ensures.gone c.without-rest.ensures.others in
    let told = partner_told c.args.rows.now c.args.f.now c.args.set c.first_of-place.result (slice_index_or c.args.best.now c.args.set blank) first (c.requires.best c.args.set blank c.requires.set c.requires.left) c.if-partner-eq-NOBODY.false in
    let cut = cut_told c.args.rows.now c.args.set c.first_of-place.result c.from.result c.without-rest.result c.without-cut.result (slice_index_or c.args.best.now c.args.set blank) first rest told c.from.ensures c.without-cut.ensures.gone c.without-cut.ensures.others in (
      omega (arith, c.without-rest.ensures.smaller, c.without-cut.ensures.smaller, c.decreases),
      (
        c.requires.few,
        (
          c.requires.best,
          (
            c.requires.sets,
            (
              omega (arith, c.without-rest.ensures.smaller, c.without-cut.ensures.smaller, c.requires.set),
              left_cut c.args.rows.now c.args.set c.first_of-place.result (slice_index_or c.args.best.now c.args.set blank).partner c.without-rest.result c.without-cut.result c.requires.set c.without-rest.ensures.smaller c.without-cut.ensures.smaller first rest cut c.requires.left,
            ),
          ),
        ),
      ),
    )

pub bounds-to-place : goal.bounds-to-place
bounds-to-place t c =
    let first = first_of_set c.args.rows.now c.args.set c.first_of-place.result c.requires.few c.requires.set c.first_of-place.ensures.first in
    let inside = first.inside in
    omega (arith, inside, c.requires.few)

pub bounds-to-from : goal.bounds-to-from
bounds-to-from t c =
    let first = first_of_set c.args.rows.now c.args.set c.first_of-place.result c.requires.few c.requires.set c.first_of-place.ensures.first in
    let told = partner_told c.args.rows.now c.args.f.now c.args.set c.first_of-place.result (slice_index_or c.args.best.now c.args.set blank) first (c.requires.best c.args.set blank c.requires.set c.requires.left) c.if-partner-eq-NOBODY.false in
    let inside = told.inside in
    omega (arith, inside, c.requires.few, c.from-2.ensures)

pub returns-clause-list : goal.returns-clause-list
returns-clause-list t c =
    let first = first_of_set c.args.rows.now c.args.set c.first_of-place.result c.requires.few c.requires.set c.first_of-place.ensures.first in
    let rest = rest_of_set c.args.rows.now c.args.set c.first_of-place.result c.without-rest.result c.requires.few c.without-rest.ensures.gone c.without-rest.ensures.others in
    let best = c.requires.best c.args.set blank c.requires.set c.requires.left in
    let told = partner_told c.args.rows.now c.args.f.now c.args.set c.first_of-place.result (slice_index_or c.args.best.now c.args.set blank) first best c.if-partner-eq-NOBODY.false in
    let cut = cut_told c.args.rows.now c.args.set c.first_of-place.result c.from.result c.without-rest.result c.without-cut.result (slice_index_or c.args.best.now c.args.set blank) first rest told c.from.ensures c.without-cut.ensures.gone c.without-cut.ensures.others in
    subst (λ q. IsLeastIn c.args.rows.now c.args.f.now c.args.set 0 0 (take (length c.args.rows.now) (set (set c.drawn-to.result c.first_of-place.result (slice_index_or c.args.best.now c.args.set blank).partner) q c.first_of-place.result))) (sym c.from-2.ensures)
    (subst (λ l. IsLeastIn c.args.rows.now c.args.f.now c.args.set 0 0 l) (sym (items_paired (length c.args.rows.now) c.first_of-place.result (slice_index_or c.args.best.now c.args.set blank).partner c.drawn-to.result told.up told.inside))
    (drawn_paired c.args.rows.now c.args.f.now c.args.set c.first_of-place.result c.without-cut.result (slice_index_or c.args.best.now c.args.set blank) (take (length c.args.rows.now) c.drawn-to.result) first cut best c.if-partner-eq-NOBODY.false c.drawn-to.ensures.list))

pub returns-clause-rest : goal.returns-clause-rest
returns-clause-rest t c =
    let first = first_of_set c.args.rows.now c.args.set c.first_of-place.result c.requires.few c.requires.set c.first_of-place.ensures.first in
    let told = partner_told c.args.rows.now c.args.f.now c.args.set c.first_of-place.result (slice_index_or c.args.best.now c.args.set blank) first (c.requires.best c.args.set blank c.requires.set c.requires.left) c.if-partner-eq-NOBODY.false in
    let low = first.inside in
    let inside : c.from-2.result < length c.args.rows.now = (let below = told.inside in omega (arith, below, c.from-2.ensures)) in
    drop-set-lt (length c.args.rows.now) (set c.drawn-to.result c.first_of-place.result (slice_index_or c.args.best.now c.args.set blank).partner) c.from-2.result c.first_of-place.result inside
    ∙ drop-set-lt (length c.args.rows.now) c.drawn-to.result c.first_of-place.result (slice_index_or c.args.best.now c.args.set blank).partner low
    ∙ c.drawn-to.ensures.rest
