use Rattle.std.proofs.Common.{◌≡◌}
use Rattle.ranking.proofs.tests.entered.Given as goal

abbrev pub invariant-entering : goal.invariant-entering
invariant-entering g l = l.table.room ≡ 6
