use Rattle.pgn_text.proofs.WrittenGames.{game_read}
use Rattle.pgn_text.proofs.read_game.written_is_read.Goals as goal

pub returns : goal.returns
returns c g ok moves few = game_read g ok moves few
