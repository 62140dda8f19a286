use Rattle.std.proofs.Common.{◌≡◌, ◌+◌, ◌≤◌, suc, ap, arith, length, vec_len, vec_capacity}
use Rattle.server.proofs.shift.passes_of.Goals as goal

pub push_reserved-requires : goal.push_reserved-requires
push_reserved-requires g c =
    let more : length c.loop-shift.shift-iterator.rest.items ≡ suc (length c.next.new.self.rest.items) = ap length c.in-Some.ensures.steps.0 in
    let room : vec_len c.loop-shift.passes + length c.loop-shift.shift-iterator.rest.items ≤ vec_capacity c.loop-shift.passes = c.loop-shift.invariant.4 in
    omega arith
