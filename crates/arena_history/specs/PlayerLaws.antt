-- Laws of the players of histories: what they asked for, where they are, and since when they are idle.
use Rattle.std.specs.Prelude.{◌≡◌, ◌≢◌, ℕ, suc, replicate, ◌+◌, ◌<◌, ◌≤◌, ◌↔◌, true, false, List, [], ◌∷◌, ◌++◌, length, slice_get, take, Some, None, IsTrue}
use Rattle.std.specs.List.{AllByRecursion, AllPairs}
use Rattle.entries.specs.declared.journal.Entry.{Entry}
use Rattle.entries.specs.declared.journal.Start.{Start}
use Rattle.entries.specs.declared.journal.What.{What}
use Rattle.entries.specs.declared.journal.What.TheVariants as what
use Rattle.entries.specs.declared.setup.Setup.{Setup}
use Rattle.seats.specs.declared.wish.Wish.{Wish}
use Rattle.seats.specs.declared.wish.Wish.TheVariants as wishes
use Rattle.seats.specs.declared.wish.PlayerSeat.TheVariants as seats
use Rattle.seats.specs.Places.{unknown, place_at, with_place, wish_freed, since_set, entered, paused, gone}
use Rattle.arena_history.specs.History.{History}
use Rattle.arena_history.specs.Games.{Begun, is_either, has_player, running, playing}
use Rattle.arena_history.specs.Endings.{EndedGame, ended_by}
use Rattle.arena_history.specs.GameLaws.{IsRunningGame}
use Rattle.arena_history.specs.Wishes.{no_show, did_not_appear, wish_in, wish, has_left, asked_by}
use Rattle.arena_history.specs.Stands.{seat, idle}
use Rattle.arena_history.specs.Since.{since, waits_since, place, places, WasIdleFrom}
use Rattle.arena_history.specs.Changes.{begins_game_of, place_after, all_freed, all_seated}
use Rattle.arena_history.specs.Waves.{still, starts_by, history}

-- with one entry more a player's wish is the one that it asks for in his name, if it does, and he pauses where it ends a game
-- for which he did not appear; but who left has left
abbrev pub WishWithOneMore : Type 0
WishWithOneMore = (s : Setup) (es : List Entry) (e : Entry) (p : ℕ)
    → wish s (history s (es ++ e ∷ [])) p ≡ wish_freed (no_show s (history s es) e p) (wish_in p e.what (wish s (history s es) p))

-- a player's last sign is entry n: it asks for this in his name, or it ends a game for which he did not appear, and no later
-- entry does either
pub record IsLastSign (s : Setup) (es : List Entry) (p : ℕ) (w : Wish) : Type 0 where
  pub n : ℕ
  pub entry : Entry
  pub stands : slice_get es n ≡ Some entry
  pub shows : asked_by s p (history s (take n es)) entry ≡ Some w
  pub last : (k : ℕ) (e : Entry) → n < k → slice_get es k ≡ Some e → asked_by s p (history s (take k es)) e ≡ None

-- a player's wish is Left where he has a leave entry; else what his last enter, pause or no-show says; and Absent where he has
-- none
pub record WishesByEntries : Type 0 where
  pub left : (s : Setup) (es : List Entry) (p : ℕ) → has_left (history s es) p ≡ true → wish s (history s es) p ≡ wishes.Left
  pub last : (s : Setup) (es : List Entry) (p : ℕ) (w : Wish) → has_left (history s es) p ≡ false → IsLastSign s es p w → wish s (history s es) p ≡ w
  pub none : (s : Setup) (es : List Entry) (p : ℕ) → has_left (history s es) p ≡ false
      → ((k : ℕ) (e : Entry) → slice_get es k ≡ Some e → asked_by s p (history s (take k es)) e ≡ None)
      → wish s (history s es) p ≡ wishes.Absent

-- a player is in at most one running game
abbrev pub AtMostOneGame : Type 0
AtMostOneGame = (s : Setup) (es : List Entry) (i j p : ℕ) (g k : Begun)
    → slice_get (running s (history s es)) i ≡ Some g
    → slice_get (running s (history s es)) j ≡ Some k
    → IsTrue (has_player p g)
    → IsTrue (has_player p k)
    → i ≡ j

-- a running game has two different players, and both sit in it
pub record IsPlayed (s : Setup) (h : History) (g : Begun) : Type 0 where
  pub two : g.header.white ≢ g.header.black
  pub white : seat s h g.header.white ≡ seats.Playing g.header.id
  pub black : seat s h g.header.black ≡ seats.Playing g.header.id

-- so it is with every running game
abbrev pub RunningGamesArePlayed : Type 0
RunningGamesArePlayed = (s : Setup) (es : List Entry) → AllByRecursion (IsPlayed s (history s es)) (running s (history s es))

-- the number of the game that a player plays is that of a running game of his
abbrev pub PlayedGamesRun : Type 0
PlayedGamesRun = (s : Setup) (h : History) (p number : ℕ)
    → playing s h p ≡ Some number
    → (g : Begun) × (g.header.id ≡ number) × IsRunningGame s h g × (has_player p g ≡ true)

-- the place among the games that an entry begins tells which game it begins for whom: for both players of each, and for nobody
-- else
pub record GamesBeginForPlayers : Type 0 where
  pub players : (s : Setup) (es : List Entry) (e : Entry) (p i : ℕ) (x : Start)
      → slice_get (starts_by s (history s es) e) i ≡ Some x
      → is_either p x.white x.black ≡ true
      → begins_game_of s (history s es) e p ≡ Some (length (history s es).starts + i)
  pub others : (s : Setup) (h : History) (e : Entry) (p : ℕ)
      → ((i : ℕ) (x : Start) → slice_get (starts_by s h e) i ≡ Some x → is_either p x.white x.black ≡ false)
      → begins_game_of s h e p ≡ None

-- before the first entry nothing is known of anybody
abbrev pub NothingIsKnown : Type 0
NothingIsKnown = (s : Setup) (p : ℕ) → place s (history s []) p ≡ unknown

-- with one entry more a player is freed where it ends his game, and else he is where it asks in his name, and sits in the game
-- that it begins for him
abbrev pub PlaceWithOneMore : Type 0
PlaceWithOneMore = (s : Setup) (es : List Entry) (e : Entry) (p : ℕ)
    → place s (history s (es ++ e ∷ [])) p ≡ place_after s (history s es) e p

-- no two of the games that an entry ends have a player in common
abbrev pub EndedAreApart : Type 0
EndedAreApart = (s : Setup) (es : List Entry) (e : Entry)
    → AllPairs (λ (x y : EndedGame). (p : ℕ) → IsTrue (has_player p x.game) → has_player p y.game ≡ false) (ended_by s (history s es) e)

-- whether a player missed a game with an entry is told by the one game of his that it ends
abbrev pub NoShowOfHisGame : Type 0
NoShowOfHisGame = (s : Setup) (es : List Entry) (e : Entry) (p i : ℕ) (x : EndedGame)
    → slice_get (ended_by s (history s es) e) i ≡ Some x
    → IsTrue (has_player p x.game)
    → no_show s (history s es) e p ≡ did_not_appear p x

-- an idle player's number since when is a number of entries from which on he was idle after each, and no smaller one is
abbrev pub SinceIsLeast : Type 0
SinceIsLeast = (s : Setup) (es : List Entry) (p : ℕ)
    → idle s (history s es) p ≡ true
    → WasIdleFrom s (history s es) p (since s (history s es) p)
    × ((n : ℕ) → WasIdleFrom s (history s es) p n → since s (history s es) p ≤ n)

-- it changes only where somebody has just become idle, to the number of entries that make him so
abbrev pub SinceWithOneMore : Type 0
SinceWithOneMore = (s : Setup) (es : List Entry) (e : Entry) (p : ℕ)
    → since s (history s (es ++ e ∷ [])) p ≡ since_set (idle s (history s es) p) (idle s (history s (es ++ e ∷ [])) p) (suc (length es)) (since s (history s es) p)

-- a player is still idle since the first n entries exactly where he was idle after every number of entries from n on
abbrev pub StillIsThroughout : Type 0
StillIsThroughout = (s : Setup) (es : List Entry) (n p : ℕ)
    → IsTrue (still s (history s es) n p) ↔ ((k : ℕ) → n ≤ k → k ≤ length es → idle s (history s (take k es)) p ≡ true)

-- one comparison tells it: he is idle, and since n entries or fewer
abbrev pub StillByNumber : Type 0
StillByNumber = (s : Setup) (es : List Entry) (n p : ℕ)
    → n ≤ length es
    → still s (history s es) n p ≡ waits_since s (history s es) n p

-- an entry of this kind may end games: it is an act or a look
abbrev pub EndsGames : What → Type 0
EndsGames (what.Enter p) = ⊥
EndsGames (what.Pause p) = ⊥
EndsGames (what.Leave p) = ⊥
EndsGames (what.Act p number a) = Unit {0}
EndsGames what.Tick = Unit {0}
EndsGames (what.Wave n) = ⊥

-- each player has a place, and the places of all change with one entry more: a player's own enter, pause or leave changes his, an
-- act or a look frees the players of the games that it ends, and a wave seats those of the games that it begins
pub record PlacesWithOneMore : Type 0 where
  pub nothing : (s : Setup) → places s (history s []) ≡ replicate (length s.players) unknown
  pub long : (s : Setup) (h : History) → length (places s h) ≡ length s.players
  pub at : (s : Setup) (h : History) (p : ℕ) → p < length s.players → place_at (places s h) p ≡ place s h p
  pub enter : (s : Setup) (es : List Entry) (e : Entry) (p : ℕ) → e.what ≡ what.Enter p
      → places s (history s (es ++ e ∷ [])) ≡ with_place p (entered (suc (length es)) (place_at (places s (history s es)) p)) (places s (history s es))
  pub pause : (s : Setup) (es : List Entry) (e : Entry) (p : ℕ) → e.what ≡ what.Pause p
      → places s (history s (es ++ e ∷ [])) ≡ with_place p (paused (place_at (places s (history s es)) p)) (places s (history s es))
  pub leave : (s : Setup) (es : List Entry) (e : Entry) (p : ℕ) → e.what ≡ what.Leave p
      → places s (history s (es ++ e ∷ [])) ≡ with_place p (gone (place_at (places s (history s es)) p)) (places s (history s es))
  pub endings : (s : Setup) (es : List Entry) (e : Entry) → EndsGames e.what
      → places s (history s (es ++ e ∷ [])) ≡ all_freed (suc (length es)) (ended_by s (history s es) e) (places s (history s es))
  pub wave : (s : Setup) (es : List Entry) (e : Entry) (m : ℕ) → e.what ≡ what.Wave m
      → places s (history s (es ++ e ∷ [])) ≡ all_seated (length (history s es).starts) (starts_by s (history s es) e) (places s (history s es))
