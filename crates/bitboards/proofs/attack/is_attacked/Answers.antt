use Rattle.std.proofs.Common.{arith}
use Rattle.board.specs.Attack.{attacked}
use Rattle.bitboards.proofs.Strikers.{some_in}
use Rattle.bitboards.proofs.attack.is_attacked.Goals as goal

pub returns : goal.returns
unfolding attacked
returns c = some_in c.attackers.result _ (omega arith) c.attackers.ensures
