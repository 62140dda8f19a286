-- What an arena keeps of its players, and of which games, entrants and waves it tells.
use Rattle.std.specs.Prelude.{◌≡◌, ◌≢◌, ◌<◌, IsTrue, ℕ, Bool, if◌then◌else◌, List, [], ◌∷◌, ◌++◌, length, map, fold}
use Rattle.entries.specs.Limits.{max_games}
use Rattle.entries.specs.declared.journal.Start.{Start}
use Rattle.entries.specs.declared.setup.Setup.{Setup}
use Rattle.seats.specs.Places.{Place, place_at, seat_at, with_place, entered, paused, gone, is_playing}
use Rattle.game_room.specs.declared.header.Header.{Header}
use Rattle.game_room.specs.declared.outcome.Outcome.{Outcome}
use Rattle.arena_history.specs.Changes.{both_freed, both_seated}
use Rattle.arena_history.specs.Endings.{EndedGame, finished}
use Rattle.arena_history.specs.History.{History, LeftAlone}
use Rattle.arena_history.specs.Since.{places}
use Rattle.arena_history.specs.Table as table
use Rattle.arena_history.specs.Table.{joined}
use Rattle.arena_players.specs.Accounts as scores
use Rattle.arena_players.specs.Facts as pairings

-- the place of each player, his games and line of the table, what the next snapshot tells of him, the numbers of the games that
-- count, and for how many of these there is room
pub record KeptPeople : Type 0 where
  pub places : List Place
  pub scores : scores.KeptScores
  pub pairings : pairings.KeptPairings
  pub counted : List ℕ
  pub room : ℕ

-- the places of all players, the games that count, who entered, the games that began, and whom waves left alone
pub record Standing : Type 0 where
  pub places : List Place
  pub games : List EndedGame
  pub players : List ℕ
  pub starts : List Start
  pub lefts : List LeftAlone

-- these of a history
abbrev pub standing : Setup → History → Standing
standing s h = record { places = places s h; games = finished s h; players = table.entered h; starts = h.starts; lefts = h.lefts }

-- what is kept tells of these
pub record StandsFor (k : KeptPeople) (s : Setup) (x : Standing) : Type 0 where
  pub places : k.places ≡ x.places
  pub scores : scores.StandsFor k.scores s x.games x.players
  pub pairings : pairings.StandsFor k.pairings (length s.players) x.starts x.lefts
  pub counted : k.counted ≡ map (λ (g : EndedGame). g.game.header.id) x.games

-- as many accounts and facts are kept as places
pub record AreAlike (places : List Place) (scores : scores.KeptScores) (pairings : pairings.KeptPairings) : Type 0 where
  pub accounts : length scores.accounts ≡ length places
  pub facts : length pairings.facts ≡ length places

-- a game with this header that ended so, whatever entry began it
abbrev pub ended_as : Header → Outcome → EndedGame
ended_as header outcome = record { game = record { entry = 0; header = header }; outcome = outcome }

-- a game may end: its two players play, and there is room for one game more that counts
pub record MayEnd (k : KeptPeople) (header : Header) : Type 0 where
  pub white : header.white < length k.places
  pub black : header.black < length k.places
  pub two : header.white ≢ header.black
  pub white_plays : IsTrue (is_playing (seat_at (place_at k.places header.white)))
  pub black_plays : IsTrue (is_playing (seat_at (place_at k.places header.black)))
  pub space : length k.counted < k.room
  pub few : k.scores.counted < max_games

-- p enters, with the entry that makes n of them
abbrev pub with_entrant : ℕ → ℕ → Standing → Standing
with_entrant n p x = record {
  places = with_place p (entered n (place_at x.places p)) x.places;
  games = x.games;
  players = joined x.players p;
  starts = x.starts;
  lefts = x.lefts;
}

-- p has another place
abbrev pub with_place_of : ℕ → Place → Standing → Standing
with_place_of p place x = record {
  places = with_place p place x.places;
  games = x.games;
  players = x.players;
  starts = x.starts;
  lefts = x.lefts;
}

-- p pauses
abbrev pub with_pause : ℕ → Standing → Standing
with_pause p x = with_place_of p (paused (place_at x.places p)) x

-- p leaves
abbrev pub with_leave : ℕ → Standing → Standing
with_leave p x = with_place_of p (gone (place_at x.places p)) x

-- a game behind those that count, if it counts
abbrev pub counted_if : Bool → EndedGame → List EndedGame → List EndedGame
counted_if counts g games = if counts then games ++ g ∷ [] else games

-- a game ends, with the entry that makes n of them, and counts or does not
abbrev pub with_end : ℕ → Bool → Standing → EndedGame → Standing
with_end n counts x g = record {
  places = both_freed n g x.places;
  games = counted_if counts g x.games;
  players = x.players;
  starts = x.starts;
  lefts = x.lefts;
}

-- these games end, one after another
abbrev pub with_ends : ℕ → Bool → List EndedGame → Standing → Standing
with_ends n counts games x = fold (with_end n counts) x games

-- a game begins
abbrev pub with_start : Standing → Start → Standing
with_start x g = record {
  places = both_seated (length x.starts) g.white g.black x.places;
  games = x.games;
  players = x.players;
  starts = x.starts ++ g ∷ [];
  lefts = x.lefts;
}

-- these games begin, one after another
abbrev pub with_starts : List Start → Standing → Standing
with_starts games x = fold with_start x games

-- a wave leaves players alone
abbrev pub with_alone : LeftAlone → Standing → Standing
with_alone wave x = record {
  places = x.places;
  games = x.games;
  players = x.players;
  starts = x.starts;
  lefts = x.lefts ++ wave ∷ [];
}
