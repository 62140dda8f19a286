use Rattle.std.proofs.Common.{◌≡◌, false}
use Rattle.turnstile.proofs.tests.write.Given as goal

abbrev pub invariant-loop-count : goal.invariant-loop-count
invariant-loop-count g l = (l.pass.of ≡ l.lock) × (l.pass.has_turn ≡ false)
