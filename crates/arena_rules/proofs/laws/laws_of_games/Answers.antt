use Rattle.arena_rules.proofs.laws.laws_of_games.Goals as goal

pub returns : goal.returns
returns c = record { began = c.moves_and_turns.ensures.began; plies = c.moves_and_turns.ensures.plies }
