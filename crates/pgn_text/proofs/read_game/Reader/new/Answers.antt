use Rattle.pgn_text.proofs.ReadGames.{fresh_from}
use Rattle.pgn_text.proofs.read_game.Reader.new.Goals as goal

pub invariant_of-result : goal.invariant_of-result
invariant_of-result c = fresh_from _ _ _ _ c.new.ensures.items c.new-2.ensures.items c.start.ensures
