-- The rows of a snapshot, by what is kept of the players.
use Rattle.std.specs.Prelude.{ℕ, Bool, List, map, filter}
use Rattle.entries.specs.declared.setup.Setup.{Setup}
use Rattle.pair_cost.specs.declared.candidate.Candidate.{Candidate}
use Rattle.ranking.specs.declared.row.Row.{Row}
use Rattle.seats.specs.Places.{Place, place_at, seat_at, is_waiting}
use Rattle.team_battle.specs.Teams.{team_of}
use Rattle.arena_history.specs.Results.{rating_of}
use Rattle.arena_players.specs.declared.facts.PairingFacts.{PairingFacts}
use Rattle.arena_players.specs.Facts.{facts_at}

-- the player waits for a game
abbrev pub waits : List Place → ℕ → Bool
waits seats p = is_waiting (seat_at (place_at seats p))

-- a row of the table as a candidate, by the facts of all players
abbrev pub candidate_by : Setup → List PairingFacts → Row → Candidate
candidate_by s facts row = record {
  player = row.player;
  rank = row.rank;
  rating = rating_of s row.player;
  last = (facts_at facts row.player).last;
  balance = (facts_at facts row.player).balance;
  team = team_of s row.player;
  alone = (facts_at facts row.player).alone;
}

-- the candidates of these rows whose players wait for a game
abbrev pub candidates_by : Setup → List PairingFacts → List Place → List Row → List Candidate
candidates_by s facts seats rows = map (candidate_by s facts) (filter (λ (row : Row). waits seats row.player) rows)
