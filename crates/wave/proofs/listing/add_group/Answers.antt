use Rattle.std.proofs.Common.{◌≡◌, ◌++◌, ◌∙◌, ap, arith, length}
use Rattle.std.specs.List.{range_with_len, filter_map}
use Rattle.group_pairing.specs.Groups.{list_of}
use Rattle.wave.specs.Plans.{pairs, alone, pair_at, alone_at}
use Rattle.wave.proofs.Ranges.{next_drawn}
use Rattle.wave.proofs.listing.add_group.Goals as goal

pub loop-place-preserved : goal.loop-place-preserved
loop-place-preserved c = record {
  pairs = next_drawn (pair_at c.args.rows.now (list_of c.args.partners.now)) c.loop-place.place c.args.found.now.items c.loop-place.found.items c.push_some.new.list.items c.pair_at.result c.in_ok-push_some.ensures c.loop-place.invariant.pairs c.pair_at.ensures;
  alone = next_drawn (alone_at c.args.rows.now (list_of c.args.partners.now)) c.loop-place.place c.args.left.now.items c.loop-place.left.items c.push_some-in-loop-place.new.list.items c.alone_at.result c.in_ok-push_some-2.ensures c.loop-place.invariant.alone c.alone_at.ensures;
}

pub returns-clause-pairs : goal.returns-clause-pairs
unfolding pairs
returns-clause-pairs c =
    let at : c.loop-place.place ≡ length c.args.rows.now = omega (arith, c.loop-place-test.false, c.loop-place.auto.place-end) in
    c.loop-place.invariant.pairs ∙ ap (λ n. c.args.found.now.items ++ filter_map (pair_at c.args.rows.now (list_of c.args.partners.now)) (range_with_len 0 n)) at

pub returns-clause-alone : goal.returns-clause-alone
unfolding alone
returns-clause-alone c =
    let at : c.loop-place.place ≡ length c.args.rows.now = omega (arith, c.loop-place-test.false, c.loop-place.auto.place-end) in
    c.loop-place.invariant.alone ∙ ap (λ n. c.args.left.now.items ++ filter_map (alone_at c.args.rows.now (list_of c.args.partners.now)) (range_with_len 0 n)) at
