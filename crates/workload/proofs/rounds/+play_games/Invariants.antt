use Rattle.std.proofs.Common.{◌-◌, length}
use Rattle.arena_core.specs.Held.{past}
use Rattle.workload.proofs.rounds.+play_games.Given as goal

-- the games that are left
abbrev pub decreases-play_games : goal.decreases-play_games
decreases-play_games l = length (past l.arena.now).starts - l.number
