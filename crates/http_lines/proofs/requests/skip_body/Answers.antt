use Rattle.std.proofs.Common.{arith, ◌≡◌, ◌+◌, ◌-◌, ◌<◌, ◌≤◌, length, ap}
use Rattle.http_lines.proofs.Taking.{Skips-start, Skips-count, Skips-more, Skips-let_go}
use Rattle.http_lines.proofs.requests.skip_body.Goals as goal

pub reads-init : goal.reads-init
reads-init g c =
    let none : 0 ≡ c.args.body - c.args.body = omega arith in
    record {
      kept = omega arith;
      within = omega arith;
      skips = Skips-count c.args.ahead.now c.args.ahead.now _ _ 0 (c.args.body - c.args.body) none (Skips-start c.args.ahead.now _);
    }

pub reads-preserved : goal.reads-preserved
reads-preserved g c =
    let so_far = c.reads.invariant in
    let turn = c.in-Ok.ensures.skips in
    let n = c.args.body - c.reads.left in
    let k = c.in-Ok.count in
    let fewer : k < c.reads.left = omega (arith, turn.0, c.reads-test.true, ap length c.held.ensures.bytes) in
    let sum : n + k ≡ c.args.body - (c.reads.left - k) = omega (arith, so_far.within) in
    record {
      kept = omega (arith, so_far.kept, c.in-Ok.ensures.kept);
      within = omega (arith, so_far.within);
      skips = Skips-count c.args.ahead.now c.drop_held.new.ahead _ _ (n + k) (c.args.body - (c.reads.left - k)) sum (Skips-more c.args.ahead.now c.reads.ahead c.drop_held.new.ahead _ _ _ n k so_far.skips turn.2);
    }

pub returns-in-Err-clause-part : goal.returns-in-Err-clause-part
returns-in-Err-clause-part g c =
    let so_far = c.reads.invariant in
    let turn = c.in-Err.ensures.all in
    let n = c.args.body - c.reads.left in
    let k = length c.reads.ahead in
    let fewer : n + k < c.args.body = omega (arith, so_far.within, c.reads-test.true, ap length c.held.ensures.bytes) in (
      n + k,
      fewer,
      Skips-more c.args.ahead.now c.reads.ahead c.drop_held.new.ahead _ _ _ n k so_far.skips turn.1,
      turn.0,
    )

pub returns-clause-skips : goal.returns-clause-skips
returns-clause-skips g c =
    let so_far = c.reads.invariant in
    let n = c.args.body - c.reads.left in
    let few : c.reads.left ≤ length c.reads.ahead = omega (arith, c.reads-test.false, ap length c.held.ensures.bytes) in
    let sum : n + c.reads.left ≡ c.args.body = omega (arith, so_far.within) in
    Skips-count c.args.ahead.now c.let_go.new.self _ _ (n + c.reads.left) c.args.body sum (Skips-let_go c.args.ahead.now c.reads.ahead c.let_go.new.self _ _ n c.reads.left so_far.skips few c.let_go.ensures)
