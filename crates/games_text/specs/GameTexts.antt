-- The games of an evening as texts.
use Rattle.std.specs.Prelude.{ℕ, List, [], ◌∷◌, ◌++◌, slice_get, codes, Option, None, Some, Result, Ok}
use Rattle.std.specs.List.{flat_map}
use Rattle.std.specs.Fmt.{decimal}
use Rattle.std.specs.Option.{option_map, option_map_or}
use Rattle.board.specs.declared.piece.Colour.{Colour}
use Rattle.board.specs.declared.piece.Colour.TheVariants.{White, Black}
use Rattle.board.specs.Moves.{MoveWord}
use Rattle.entries.specs.declared.journal.Entry.{Entry}
use Rattle.entries.specs.declared.setup.Player.{Player}
use Rattle.entries.specs.declared.setup.Setup.{Setup}
use Rattle.game_room.specs.declared.outcome.Outcome.{Outcome}
use Rattle.game_room.specs.declared.view.GameView.{GameView}
use Rattle.game_room.specs.Games.{moves}
use Rattle.arena_history.specs.History.{History}
use Rattle.arena_history.specs.Endings.{EndedGame, finished}
use Rattle.arena_history.specs.Games.{events}
use Rattle.arena_history.specs.Waves.{history}
use Rattle.arena_rules.specs.declared.query.Answer.{Answer}
use Rattle.arena_rules.specs.declared.query.Answer.TheVariants as answers
use Rattle.arena_core.specs.declared.fault.QueryFault.{QueryFault}
use Rattle.pgn_text.specs.declared.game.PgnGame.{PgnGame}
use Rattle.pgn_text.specs.declared.game.PgnResult.{PgnResult}
use Rattle.pgn_text.specs.declared.game.PgnResult.TheVariants as ended
use Rattle.pgn_text.specs.declared.game.Tag.{Tag}
use Rattle.pgn_text.specs.Pgn.{pgn_of, result_text}
use Rattle.games_text.specs.declared.ended.Ended.{Ended}

-- the result of a game that this side won, or nobody
abbrev pub result_of : Option Colour → PgnResult
result_of None = ended.Draw
result_of (Some White) = ended.White
result_of (Some Black) = ended.Black

-- the name of the player with this number
abbrev pub name_of : List Player → ℕ → List ℕ
name_of players p = option_map_or (λ (x : Player). x.name) (slice_get players p) []

-- what is said of a game
abbrev pub tag : List ℕ → List ℕ → Tag
tag name value = record { name = name; value = value }

-- the arena's game with this number, of no place and no date
abbrev pub site_tags : ℕ → List Tag
site_tags id =
    tag (codes "Event") (codes "Arena")
    ∷ tag (codes "Site") (codes "?")
    ∷ tag (codes "Date") (codes "????.??.??")
    ∷ tag (codes "Round") (decimal id)
    ∷ []

-- between players with these names, with this last token
abbrev pub player_tags : List ℕ → List ℕ → PgnResult → List Tag
player_tags white black result =
    tag (codes "White") white ∷ tag (codes "Black") black ∷ tag (codes "Result") (result_text result) ∷ []

-- all that is said of a game
abbrev pub tags_of : List Player → Ended → List Tag
tags_of players x = site_tags x.id ++ player_tags (name_of players x.white) (name_of players x.black) (result_of x.outcome.winner)

-- a game that is told so, with these moves
unfoldable pub game_with : List Player → Ended → List MoveWord → PgnGame
game_with players x ms = record { tags = tags_of players x; moves = ms; result = result_of x.outcome.winner }

-- what is told of a game that ended
abbrev pub told : EndedGame → Ended
told x = record { id = x.game.header.id; white = x.game.header.white; black = x.game.header.black; outcome = x.outcome }

-- a game that ended, with the moves that were made in it
unfoldable pub game_of : Setup → History → EndedGame → PgnGame
game_of s h x = game_with s.players (told x) (moves x.game.header (events h x.game))

-- the text of a game that ended
abbrev pub text_of_game : Setup → History → EndedGame → List ℕ
text_of_game s h x = pgn_of (game_of s h x)

-- the texts of the games that count, by the entry that ended them and then by number, one after another
unfoldable pub games_text : Setup → List Entry → List ℕ
games_text s es = flat_map (text_of_game s (history s es)) (finished s (history s es))

-- what a view tells of its game, if that has ended
abbrev pub told_by : GameView → Option Ended
told_by v = option_map (λ (o : Outcome). record { id = v.id; white = v.white; black = v.black; outcome = o }) v.outcome

-- what an answer tells of a game, if it is about one that has ended
abbrev pub ended_in : Result Answer QueryFault → Option Ended
ended_in (Ok (answers.Game v)) = told_by v
ended_in _ = None
