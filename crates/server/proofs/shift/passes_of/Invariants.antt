use Rattle.std.proofs.Common.{◌≡◌, ◌+◌, ◌≤◌, ◌++◌, length, map, vec_len, vec_capacity}
use Rattle.server.proofs.shift.passes_of.Given as goal

abbrev pub invariant-loop-shift : goal.invariant-loop-shift
invariant-loop-shift g l =
    ((goal.iterator-loop-shift g).can_next l.shift-iterator)
    × ((goal.iterator-loop-shift g).is_finite l.shift-iterator)
    × (l.yielded ++ l.shift-iterator.rest.items ≡ l.fn.shifts.items)
    × (l.passes.items ≡ map (λ shift. shift.pass) l.yielded)
    × (vec_len l.passes + length l.shift-iterator.rest.items ≤ vec_capacity l.passes)
