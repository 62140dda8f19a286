use Rattle.std.proofs.Common.{◌≡◌, take}
use Rattle.arena_core.specs.Starting.{headers_from, waiting}
use Rattle.arena_core.proofs.waiting.headers_of.Given as goal

abbrev pub invariant-listing : goal.invariant-listing
invariant-listing l = l.headers.items ≡ headers_from l.control l.t l.first (waiting l.people.places l.plan.n (take l.pair-index l.pair-items))
