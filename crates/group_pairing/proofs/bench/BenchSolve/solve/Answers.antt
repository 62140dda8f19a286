use Rattle.std.proofs.Common.{◌≡◌, ◌-◌, ◌^◌, sym, ap, subst, length, take, zero-le}
use Rattle.group_pairing.specs.Search.{IsWithin, CanBeLeft}
use Rattle.group_pairing.proofs.LeastList.{only_least}
use Rattle.group_pairing.proofs.Sets.{within_all}
use Rattle.group_pairing.proofs.Left.{left_whole}
use Rattle.group_pairing.proofs.bench.BenchSolve.solve.Goals as goal

pub drawn-to-requires-clause-left : goal.drawn-to-requires-clause-left
drawn-to-requires-clause-left c =
    let whole : c.sets_of-whole.result - 1 ≡ 2 ^ length c.args.rows.now - 1 = ap (λ n. n - 1) c.sets_of-whole.ensures.is in
    subst (λ s. CanBeLeft (length c.args.rows.now) s) (sym whole) (left_whole (length c.args.rows.now))

pub returns-clause-smallest : goal.returns-clause-smallest
returns-clause-smallest c = λ other list.
    let whole : c.sets_of-whole.result - 1 ≡ 2 ^ length c.args.rows.now - 1 = ap (λ n. n - 1) c.sets_of-whole.ensures.is in
    c.drawn-to.ensures.list.least other (subst (λ s. IsWithin c.args.rows.now c.args.f.now s other) (sym whole) (within_all c.args.rows.now c.args.f.now other list)) zero-le

pub returns-clause-least : goal.returns-clause-least
returns-clause-least c =
    let whole : c.sets_of-whole.result - 1 ≡ 2 ^ length c.args.rows.now - 1 = ap (λ n. n - 1) c.sets_of-whole.ensures.is in
    only_least c.args.rows.now c.args.f.now c.requires.few (take (length c.args.rows.now) c.drawn-to.result) c.drawn-to.ensures.list.within.list
    (λ other list. c.drawn-to.ensures.list.least other (subst (λ s. IsWithin c.args.rows.now c.args.f.now s other) (sym whole) (within_all c.args.rows.now c.args.f.now other list)) zero-le)
