use Rattle.move_rules.proofs.Legality.{legal_word}
use Rattle.move_rules.proofs.laws.legal_words_are_moves.Goals as goal

pub returns : goal.returns
returns c = legal_word
