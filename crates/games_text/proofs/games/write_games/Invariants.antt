use Rattle.std.specs.Prelude.{◌≡◌, take}
use Rattle.std.specs.List.{flat_map}
use Rattle.arena_core.specs.Held.{past}
use Rattle.arena_history.specs.Endings.{finished}
use Rattle.games_text.specs.GameTexts.{text_of_game}
use Rattle.games_text.proofs.games.write_games.Given as goal

-- the texts of the first games
abbrev pub invariant-writing : goal.invariant-writing
invariant-writing l = l.text.items ≡ flat_map (text_of_game l.a.setup (past l.a)) (take l.i (finished l.a.setup (past l.a)))
