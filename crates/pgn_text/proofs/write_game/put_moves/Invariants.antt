use Rattle.std.proofs.Common.{◌≡◌, ◌+◌, ◌≤◌, ◌++◌, length, IsTrue}
use Rattle.board.specs.Start.{start_parts}
use Rattle.pgn_text.specs.Games.{is_line}
use Rattle.pgn_text.specs.Pgn.{tokens_from, laid}
use Rattle.pgn_text.proofs.write_game.put_moves.Given as goal

abbrev pub invariant-moves : goal.invariant-moves
invariant-moves l = record {
  put : l.text.items ++ laid l.column (tokens_from l.number l.position l.rest l.ending) ≡ l.initial.text.items ++ laid 0 (tokens_from 1 start_parts l.moves l.ending);
  line : IsTrue (is_line l.position l.rest);
  counted : l.number + length l.rest ≤ length l.moves + 1;
  column : l.column ≤ 79;
}

abbrev pub decreases-moves : goal.decreases-moves
decreases-moves l = length l.rest
