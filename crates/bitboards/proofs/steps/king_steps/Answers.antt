use Rattle.std.proofs.Common.{ℕ, subst, get_or}
use Rattle.board.specs.Attack.{king_step}
use Rattle.board.specs.Sets.{IsSetOf}
use Rattle.bitboards.specs.declared.tables.TheConstants.{KING}
use Rattle.bitboards.proofs.Tabled.{king_at}
use Rattle.bitboards.proofs.steps.king_steps.Goals as goal

pub returns-clause-is : goal.returns-clause-is
returns-clause-is c = subst (λ (s : ℕ). IsSetOf (get_or KING c.index.result 0) (king_step s)) c.index.ensures.is (king_at c.index.result c.index.ensures.on_board)
