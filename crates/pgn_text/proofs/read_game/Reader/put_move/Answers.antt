use Rattle.std.proofs.Common.{rules}
use Rattle.pgn_text.proofs.ReadGames.{move_from}
use Rattle.pgn_text.proofs.read_game.Reader.put_move.Goals as goal

pub invariant_of-self-2 : goal.invariant_of-self-2
invariant_of-self-2 c = move_from _ _ _ _ _ _ _ c.self.invariant (search rules) c.in_ok-push.ensures.items c.make-self-inside.ensures.is
