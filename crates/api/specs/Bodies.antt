-- The bodies of answers, as JSON values with their members in the order of the bytes of their names.
use Rattle.std.specs.Prelude.{ℕ, ◌<◌, List, [], ◌∷◌, length, map, slice_get, codes, if◌then◌else◌, Option, Some, None}
use Rattle.std.specs.List.{All}
use Rattle.std.specs.Option.{option_map_or}
use Rattle.serde_json.specs.Data.{Data, null, boolean, number, unsigned, string, array, object, Members, no_members, member}
use Rattle.serde_json.specs.Find.{of_integer}
use Rattle.serde_json.specs.View.{items_of}
use Rattle.serde_json.specs.Written.{compact_text}
use Rattle.board.specs.declared.parts.Parts.{Parts}
use Rattle.board.specs.declared.piece.Colour.{Colour}
use Rattle.board.specs.declared.piece.Colour.TheVariants.{White, Black}
use Rattle.board.specs.Moves.{MoveWord}
use Rattle.board.specs.Words.{move_word}
use Rattle.board.specs.Fen.{fen_of}
use Rattle.board.specs.Position.{without_ep}
use Rattle.move_rules.specs.EnPassant.{ep_legal}
use Rattle.entries.specs.declared.setup.Player.{Player}
use Rattle.entries.specs.declared.setup.Setup.{Setup}
use Rattle.entries.specs.declared.journal.Entry.{Entry}
use Rattle.game_room.specs.declared.outcome.Cause.{Cause}
use Rattle.game_room.specs.declared.outcome.Cause.TheVariants as cause
use Rattle.game_room.specs.declared.outcome.Outcome.{Outcome}
use Rattle.game_room.specs.declared.view.GameView.{GameView}
use Rattle.ranking.specs.declared.row.Row.{Row}
use Rattle.seats.specs.declared.wish.PlayerSeat.{PlayerSeat}
use Rattle.seats.specs.declared.wish.PlayerSeat.TheVariants as seat
use Rattle.team_battle.specs.declared.team_row.TeamRow.{TeamRow}
use Rattle.journal_text.specs.Lines.{spaced}
use Rattle.journal_text.specs.Text.{entry_words}
use Rattle.arena_rules.specs.declared.query.Answer.{Answer}
use Rattle.arena_rules.specs.declared.query.Answer.TheVariants as answers
use Rattle.arena_rules.specs.declared.query.Query.{Query}
use Rattle.arena_rules.specs.declared.query.Query.TheVariants as query
use Rattle.arena_rules.specs.declared.query.Reply.{Reply}
use Rattle.arena_rules.specs.declared.query.Reply.TheVariants as reply
use Rattle.arena_rules.specs.declared.view.ArenaView.{ArenaView}
use Rattle.arena_rules.specs.declared.view.MeView.{MeView}
use Rattle.arena_rules.specs.declared.view.Phase.{Phase}
use Rattle.arena_rules.specs.declared.view.Phase.TheVariants as phase
use Rattle.api.specs.declared.error.ApiError.{ApiError}
use Rattle.api.specs.Errors.{name_of}

-- an object with these members
abbrev pub members : List (List ℕ × Data) → Members
members [] = no_members
members ((name, value) ∷ rest) = member name value (members rest)

-- a whole number, or null
abbrev pub number_or_null : Option ℕ → Data
number_or_null None = null
number_or_null (Some n) = number (unsigned n)

-- the name of the player with this number, which the setup has
abbrev pub player_name : Setup → ℕ → List ℕ
player_name s p = option_map_or (λ (x : Player). x.name) (slice_get s.players p) []

-- the rating of the player with this number, which the setup has
abbrev pub player_rating : Setup → ℕ → ℕ
player_rating s p = option_map_or (λ (x : Player). x.rating) (slice_get s.players p) 0

-- the name of the team with this number, which the setup has
abbrev pub team_name : Setup → ℕ → List ℕ
team_name s t = option_map_or (λ (name : List ℕ). name) (slice_get s.teams t) []

-- the body of an error
unfoldable pub error_data : ApiError → Data
error_data e = object (members ((codes "error", string (name_of e)) ∷ []))

abbrev pub phase_word : Phase → List ℕ
phase_word phase.Before = codes "before"
phase_word phase.Running = codes "running"
phase_word phase.Over = codes "over"

-- the arena as a whole
unfoldable pub arena_data : Setup → ArenaView → Data
arena_data s v = object (members (
    (codes "begun", number (unsigned v.begun))
    ∷ (codes "ends", number (unsigned s.ends))
    ∷ (codes "entered", number (unsigned v.entered))
    ∷ (codes "running", number (unsigned v.running))
    ∷ (codes "starts", number (unsigned s.starts))
    ∷ (codes "state", string (phase_word v.phase))
    ∷ (codes "time", number (unsigned v.stamp))
    ∷ []))

-- a row of the table
unfoldable pub row_data : Setup → Row → Data
row_data s r = object (members (
    (codes "fire", boolean r.fire)
    ∷ (codes "games", number (unsigned r.games))
    ∷ (codes "name", string (player_name s r.player))
    ∷ (codes "performance", number (of_integer r.performance))
    ∷ (codes "points", number (unsigned r.points))
    ∷ (codes "rank", number (unsigned r.rank))
    ∷ (codes "rating", number (unsigned (player_rating s r.player)))
    ∷ []))

-- a page of the table, of which this many rows are the whole
unfoldable pub standing_data : Setup → ℕ → ℕ → List Row → Data
standing_data s page total rows = object (members (
    (codes "page", number (unsigned page))
    ∷ (codes "players", array (items_of (map (row_data s) rows)))
    ∷ (codes "total", number (unsigned total))
    ∷ []))

-- a row of the table of the teams
unfoldable pub team_data : Setup → TeamRow → Data
team_data s r = object (members (
    (codes "name", string (team_name s r.team))
    ∷ (codes "performance", number (of_integer r.performance))
    ∷ (codes "points", number (unsigned r.points))
    ∷ (codes "rank", number (unsigned r.rank))
    ∷ []))

-- the table of the teams
unfoldable pub teams_data : Setup → List TeamRow → Data
teams_data s rows = object (members ((codes "teams", array (items_of (map (team_data s) rows))) ∷ []))

abbrev pub seat_word : PlayerSeat → List ℕ
seat_word seat.Absent = codes "absent"
seat_word seat.Idle = codes "idle"
seat_word seat.Paused = codes "paused"
seat_word (seat.Playing game) = codes "playing"
seat_word seat.Left = codes "left"

-- the game that somebody plays
abbrev pub game_of_seat : PlayerSeat → Option ℕ
game_of_seat (seat.Playing game) = Some game
game_of_seat _ = None

-- a player
unfoldable pub me_data : Setup → MeView → Data
me_data s v = object (members (
    (codes "fire", boolean v.fire)
    ∷ (codes "game", number_or_null (game_of_seat v.seat))
    ∷ (codes "name", string (player_name s v.player))
    ∷ (codes "performance", number (of_integer v.performance))
    ∷ (codes "points", number (unsigned v.points))
    ∷ (codes "rank", number_or_null v.rank)
    ∷ (codes "rating", number (unsigned (player_rating s v.player)))
    ∷ (codes "seat", string (seat_word v.seat))
    ∷ []))

abbrev pub colour_word : Colour → List ℕ
colour_word White = codes "white"
colour_word Black = codes "black"

abbrev pub colour_or_null : Option Colour → Data
colour_or_null None = null
colour_or_null (Some c) = string (colour_word c)

abbrev pub move_or_null : Option MoveWord → Data
move_or_null None = null
move_or_null (Some m) = string (move_word m)

abbrev pub cause_word : Cause → List ℕ
cause_word cause.Mate = codes "mate"
cause_word cause.Stalemate = codes "stalemate"
cause_word cause.Resign = codes "resign"
cause_word cause.Agreed = codes "agreed"
cause_word cause.Threefold = codes "threefold"
cause_word cause.Fifty = codes "fifty"
cause_word cause.Fivefold = codes "fivefold"
cause_word cause.SeventyFive = codes "seventyfive"
cause_word cause.Dead = codes "dead"
cause_word cause.Flag = codes "flag"
cause_word cause.NoShow = codes "noshow"

-- how a game ended, or null while it goes on
abbrev pub outcome_or_null : Option Outcome → Data
outcome_or_null None = null
outcome_or_null (Some o) = object (members ((codes "cause", string (cause_word o.cause)) ∷ (codes "winner", colour_or_null o.winner) ∷ []))

-- the FEN of a position, with the en passant square only where a capture there is legal
abbrev pub shown_fen : Parts → List ℕ
shown_fen p = fen_of (if ep_legal p then p else without_ep p)

-- a game, by the names of its players, its FEN, the side to move, its last move, its offer and its outcome
unfoldable pub game_object : GameView → List ℕ → List ℕ → List ℕ → List ℕ → Data → Data → Data → Data
game_object v black white fen turn last offer outcome = object (members (
    (codes "black", string black)
    ∷ (codes "blackBerserk", boolean v.black_berserk)
    ∷ (codes "blackMs", number (unsigned v.black_ms))
    ∷ (codes "fen", string fen)
    ∷ (codes "id", number (unsigned v.id))
    ∷ (codes "last", last)
    ∷ (codes "offer", offer)
    ∷ (codes "outcome", outcome)
    ∷ (codes "ply", number (unsigned v.plies))
    ∷ (codes "turn", string turn)
    ∷ (codes "white", string white)
    ∷ (codes "whiteBerserk", boolean v.white_berserk)
    ∷ (codes "whiteMs", number (unsigned v.white_ms))
    ∷ []))

-- a game
abbrev pub game_data : Setup → GameView → Data
game_data s v =
    game_object v (player_name s v.black) (player_name s v.white) (shown_fen v.position) (colour_word v.position.turn)
    (move_or_null v.last) (colour_or_null v.offer) (outcome_or_null v.outcome)

-- the line of an entry in a journal of version 1
abbrev pub entry_data : Entry → Data
entry_data e = string (spaced (entry_words e))

-- entries of a journal from a number on, which has this many entries
unfoldable pub journal_data : ℕ → ℕ → List Entry → Data
journal_data from total entries = object (members (
    (codes "entries", array (items_of (map entry_data entries)))
    ∷ (codes "from", number (unsigned from))
    ∷ (codes "total", number (unsigned total))
    ∷ []))

-- what an accepted command is answered; how many games a look ended is never asked over HTTP
abbrev pub reply_data : Setup → Reply → Data
reply_data s (reply.Me v) = me_data s v
reply_data s (reply.Game v) = game_data s v
reply_data s (reply.Ticked n) = null

-- the players whom a reply shows are players of the setup, and it is no look's
abbrev pub IsShownReply : Setup → Reply → Type 0
IsShownReply s (reply.Me v) = v.player < length s.players
IsShownReply s (reply.Game v) = (v.white < length s.players) × (v.black < length s.players)
IsShownReply s (reply.Ticked n) = ⊥

-- the number in a question about a list: of a page of the table, or of the first entry
abbrev pub number_asked : Query → ℕ
number_asked query.Arena = 0
number_asked (query.Standing page) = page
number_asked query.Teams = 0
number_asked (query.Me p) = 0
number_asked (query.Game g) = 0
number_asked (query.Journal from) = from

-- what a question is answered, which asked for this number
abbrev pub answer_data : Setup → ℕ → Answer → Data
answer_data s asked (answers.Arena v) = arena_data s v
answer_data s asked (answers.Standing total rows) = standing_data s asked total rows
answer_data s asked (answers.Teams rows) = teams_data s rows
answer_data s asked (answers.Me v) = me_data s v
answer_data s asked (answers.Game v) = game_data s v
answer_data s asked (answers.Journal total entries) = journal_data asked total entries

-- the players and teams whose names an answer shows are those of the setup
abbrev pub IsShownAnswer : Setup → Answer → Type 0
IsShownAnswer s (answers.Arena v) = Unit {0}
IsShownAnswer s (answers.Standing total rows) = All (λ (r : Row). r.player < length s.players) rows
IsShownAnswer s (answers.Teams rows) = All (λ (r : TeamRow). r.team < length s.teams) rows
IsShownAnswer s (answers.Me v) = v.player < length s.players
IsShownAnswer s (answers.Game v) = (v.white < length s.players) × (v.black < length s.players)
IsShownAnswer s (answers.Journal total entries) = Unit {0}

-- the text of a body
abbrev pub body_of : Data → List ℕ
body_of d = compact_text d
