use Rattle.std.proofs.Common.{arith, ◌+◌, length-take}
use Rattle.conn.proofs.Giving.{GaveAtMost-after}
use Rattle.conn.proofs.read_whole.read_all.Goals as goal

pub returns-in_err-count-clause-taken : goal.returns-in_err-count-clause-taken
returns-in_err-count-clause-taken g c =
    let so_far = c.loop-bytes.invariant in
    let taken = c.in_err-count.ensures.taken in
    GaveAtMost-after _ _ _ c.loop-bytes.bytes.items _ _ so_far.given taken (omega (arith, length-take (c.min-want.result + 1) c.deref_mut.result.now, c.loop-bytes.bytes.ok.0))

pub returns-then-count-eq0-clause-taken : goal.returns-then-count-eq0-clause-taken
returns-then-count-eq0-clause-taken g c =
    let so_far = c.loop-bytes.invariant in
    let taken = c.in_ok-count.ensures.taken in
    GaveAtMost-after _ _ _ c.loop-bytes.bytes.items _ _ so_far.given taken (omega (arith, length-take (c.min-want.result + 1) c.deref_mut.result.now, c.loop-bytes.bytes.ok.0))
