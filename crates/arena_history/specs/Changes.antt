-- What one entry more changes for a player.
use Rattle.std.specs.Prelude.{ℕ, suc, ◌==◌, Bool, if◌then◌else◌, List, [], ◌∷◌, length, Option, Some, None}
use Rattle.std.specs.List.{list_any}
use Rattle.entries.specs.declared.journal.Entry.{Entry}
use Rattle.entries.specs.declared.journal.Start.{Start}
use Rattle.entries.specs.declared.journal.What.{What}
use Rattle.entries.specs.declared.journal.What.TheVariants.{Enter, Pause, Leave, Act, Tick, Wave}
use Rattle.entries.specs.declared.setup.Setup.{Setup}
use Rattle.seats.specs.Places.{Place, place_at, with_place, entered, paused, gone, seated, freed}
use Rattle.arena_history.specs.History.{History}
use Rattle.arena_history.specs.Games.{is_either, has_player}
use Rattle.arena_history.specs.Endings.{EndedGame, ended_by}
use Rattle.arena_history.specs.Wishes.{did_not_appear, no_show}
use Rattle.arena_history.specs.Snapshots.{opponent_of}
use Rattle.arena_history.specs.Waves.{starts_by}
use Rattle.arena_history.specs.Since.{place}

-- an entry ends a game of p
unfoldable pub ends_game_of : Setup → History → Entry → ℕ → Bool
ends_game_of s h e p = list_any (λ (x : EndedGame). has_player p x.game) (ended_by s h e)

-- the number of p's game among these starts, which are numbered from a number on
abbrev pub game_among : ℕ → ℕ → List Start → Option ℕ
game_among p number [] = None
game_among p number (x ∷ rest) = if is_either p x.white x.black then Some number else game_among p (suc number) rest

-- the number of the game of p that an entry begins, if it begins one
unfoldable pub begins_game_of : Setup → History → Entry → ℕ → Option ℕ
begins_game_of s h e p = game_among p (length h.starts) (starts_by s h e)

-- p's place once an entry of this kind came, which makes n of them: his own enter, pause or leave changes it
abbrev pub place_in : ℕ → ℕ → What → Place → Place
place_in n p (Enter q) old = if q == p then entered n old else old
place_in n p (Pause q) old = if q == p then paused old else old
place_in n p (Leave q) old = if q == p then gone old else old
place_in n p (Act q number a) old = old
place_in n p Tick old = old
place_in n p (Wave m) old = old

-- whom p met last once a game begins: the other player where he plays it
abbrev pub opponent_or : ℕ → Option ℕ → Start → Option ℕ
opponent_or p before x = if is_either p x.white x.black then Some (opponent_of p x) else before

-- the place of somebody for whom a game begins, if one does
abbrev pub seated_if : Option ℕ → Place → Place
seated_if None old = old
seated_if (Some number) old = seated number old

-- p's place with one entry more: freed where it ends a game of his, of which he has one at most, and else as it asks in his name,
-- and at the game that it begins for him
unfoldable pub place_after : Setup → History → Entry → ℕ → Place
place_after s h e p =
    let n = suc (length h.entries) in
    if ends_game_of s h e p then freed n (no_show s h e p) (place s h p)
    else seated_if (begins_game_of s h e p) (place_in n p e.what (place s h p))

-- the places once p's game has ended, with the entry that makes n of them: who did not appear for it pauses
abbrev pub freed_of : ℕ → EndedGame → ℕ → List Place → List Place
freed_of n x p ps = with_place p (freed n (did_not_appear p x) (place_at ps p)) ps

-- the places once both players of an ended game are freed
abbrev pub both_freed : ℕ → EndedGame → List Place → List Place
both_freed n x ps = freed_of n x x.game.header.black (freed_of n x x.game.header.white ps)

-- the places once the players of these ended games are freed, one game after another
abbrev pub all_freed : ℕ → List EndedGame → List Place → List Place
all_freed n [] ps = ps
all_freed n (x ∷ rest) ps = all_freed n rest (both_freed n x ps)

-- the places once p sits down to a game
abbrev pub seated_at : ℕ → ℕ → List Place → List Place
seated_at number p ps = with_place p (seated number (place_at ps p)) ps

-- the places once two players sit down to a game
abbrev pub both_seated : ℕ → ℕ → ℕ → List Place → List Place
both_seated number white black ps = seated_at number black (seated_at number white ps)

-- the places once the players of these games have sat down, one game after another, numbered from a number on
abbrev pub all_seated : ℕ → List Start → List Place → List Place
all_seated number [] ps = ps
all_seated number (x ∷ rest) ps = all_seated (suc number) rest (both_seated number x.white x.black ps)
