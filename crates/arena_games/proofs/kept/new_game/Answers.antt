use Rattle.arena_games.proofs.Answered.{kept_new}
use Rattle.arena_games.proofs.kept.new_game.Goals as goal

pub returns-clause-begun : goal.returns-clause-begun
returns-clause-begun c = kept_new c.args.header c.in_ok-new.field-0 c.in_ok-new.ensures
