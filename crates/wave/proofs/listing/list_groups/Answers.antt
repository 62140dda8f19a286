use Rattle.std.proofs.Common.{◌<◌, List, refl, sym, ap₂, subst, arith, zero-add, [], slice_index_or}
use Rattle.std.specs.Prelude.{AllPairs}
use Rattle.pair_cost.specs.declared.candidate.Candidate.{Candidate}
use Rattle.group_pairing.specs.declared.partners.Partners.{Partners}
use Rattle.group_pairing.specs.Groups.{list_of}
use Rattle.group_pairing.specs.Least.{least}
use Rattle.wave.specs.Answers.{IsAnswer}
use Rattle.wave.specs.Plans.{frame, group, group_count, pairs, alone, first_pairs, first_alone}
use Rattle.wave.proofs.Cuts.{group_is}
use Rattle.wave.proofs.Ranges.{next_joined}
use Rattle.wave.proofs.listing.list_groups.Goals as goal

-- what reading a list of answers past its end would give
abbrev blank : Partners
blank = record { len = 0; to = [] }

pub loop-number-init : goal.loop-number-init
unfolding first_pairs first_alone
loop-number-init c = record { pairs = c.new-pairs.ensures.items; alone = c.new-alone.ensures.items }

pub add_group-requires-clause-ranked : goal.add_group-requires-clause-ranked
add_group-requires-clause-ranked c =
    subst (λ (rows : List Candidate). AllPairs (λ (a b : Candidate). a.rank < b.rank) rows) (sym c.group.ensures)
    (group_is c.args.rows.now (frame 0 c.args.rows.now) c.loop-number.number c.requires.rows refl).ranked

pub loop-number-preserved : goal.loop-number-preserved
unfolding first_pairs first_alone
loop-number-preserved c =
    let inside : c.loop-number.number < group_count c.args.rows.now = omega (arith, c.loop-number-test.true, c.requires.answers.many) in
    let answer = subst (λ k. IsAnswer c.args.rows.now c.args.f.now k (slice_index_or c.args.answers.now c.loop-number.number blank)) (zero-add c.loop-number.number) (c.requires.answers.each c.loop-number.number blank inside) in
    record {
      pairs = next_joined (λ k. pairs (group c.args.rows.now k) (least (group c.args.rows.now k) c.args.f.now)) c.loop-number.number c.loop-number.pairs.items c.add_group.new.found.items (pairs c.group.result.now (list_of (slice_index_or c.args.answers.now c.loop-number.number blank))) c.in_ok-add_group.ensures.pairs c.loop-number.invariant.pairs (ap₂ pairs c.group.ensures answer.list);
      alone = next_joined (λ k. alone (group c.args.rows.now k) (least (group c.args.rows.now k) c.args.f.now)) c.loop-number.number c.loop-number.alone.items c.add_group.new.left.items (alone c.group.result.now (list_of (slice_index_or c.args.answers.now c.loop-number.number blank))) c.in_ok-add_group.ensures.alone c.loop-number.invariant.alone (ap₂ alone c.group.ensures answer.list);
    }
