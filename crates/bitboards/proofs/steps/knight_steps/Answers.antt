use Rattle.std.proofs.Common.{ℕ, subst, get_or}
use Rattle.board.specs.Attack.{knight_step}
use Rattle.board.specs.Sets.{IsSetOf}
use Rattle.bitboards.specs.declared.tables.TheConstants.{KNIGHT}
use Rattle.bitboards.proofs.Tabled.{knight_at}
use Rattle.bitboards.proofs.steps.knight_steps.Goals as goal

pub returns-clause-is : goal.returns-clause-is
returns-clause-is c = subst (λ (s : ℕ). IsSetOf (get_or KNIGHT c.index.result 0) (knight_step s)) c.index.ensures.is (knight_at c.index.result c.index.ensures.on_board)
