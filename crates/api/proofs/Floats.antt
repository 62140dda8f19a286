-- No body has a float.
use Rattle.std.proofs.Common.{◌≡◌, ℕ, ℤ, pos, negsuc, List, [], ◌∷◌, map, Option, Some, None, Bool, false, ◌||◌, refl}
use Rattle.serde_json.specs.Data.{Data, Num, number, null, string, object}
use Rattle.serde_json.specs.Find.{of_integer}
use Rattle.serde_json.specs.View.{items_of}
use Rattle.serde_json.specs.Written.{has_float, items_have_float}
use Rattle.board.specs.declared.piece.Colour.{Colour}
use Rattle.board.specs.Moves.{MoveWord}
use Rattle.entries.specs.declared.setup.Setup.{Setup}
use Rattle.entries.specs.declared.journal.Entry.{Entry}
use Rattle.game_room.specs.declared.outcome.Outcome.{Outcome}
use Rattle.game_room.specs.declared.view.GameView.{GameView}
use Rattle.ranking.specs.declared.row.Row.{Row}
use Rattle.team_battle.specs.declared.team_row.TeamRow.{TeamRow}
use Rattle.arena_rules.specs.declared.query.Answer.{Answer}
use Rattle.arena_rules.specs.declared.query.Answer.TheVariants as answers
use Rattle.arena_rules.specs.declared.query.Reply.{Reply}
use Rattle.arena_rules.specs.declared.query.Reply.TheVariants as reply
use Rattle.arena_rules.specs.declared.view.ArenaView.{ArenaView}
use Rattle.arena_rules.specs.declared.view.MeView.{MeView}
use Rattle.api.specs.declared.error.ApiError.{ApiError}
use Rattle.api.specs.Bodies.{number_or_null, colour_or_null, move_or_null, outcome_or_null, game_of_seat, error_data, arena_data, row_data, standing_data, team_data, teams_data, me_data, game_object, game_data, entry_data, journal_data, reply_data, answer_data}

whole : (z : ℤ) → has_float (number (of_integer z)) ≡ false
whole (pos n) = refl
whole (negsuc n) = refl

maybe-number : (o : Option ℕ) → has_float (number_or_null o) ≡ false
maybe-number None = refl
maybe-number (Some n) = refl

maybe-colour : (o : Option Colour) → has_float (colour_or_null o) ≡ false
maybe-colour None = refl
maybe-colour (Some c) = refl

maybe-move : (o : Option MoveWord) → has_float (move_or_null o) ≡ false
maybe-move None = refl
maybe-move (Some m) = refl

maybe-outcome : (o : Option Outcome) → has_float (outcome_or_null o) ≡ false
maybe-outcome None = refl
maybe-outcome (Some o) = rw (maybe-colour o.winner) refl

-- a list of values of which none has one
items-none : {A : Type 0} (f : A → Data) → ((x : A) → has_float (f x) ≡ false) → (xs : List A) → items_have_float (items_of (map f xs)) ≡ false
items-none f each [] = refl
items-none f each (x ∷ xs) = rw (each x) (items-none f each xs)

pub error-none : (e : ApiError) → has_float (error_data e) ≡ false
unfolding error_data
error-none e = refl

arena-none : (s : Setup) (v : ArenaView) → has_float (arena_data s v) ≡ false
unfolding arena_data
arena-none s v = refl

row-none : (s : Setup) (r : Row) → has_float (row_data s r) ≡ false
unfolding row_data
row-none s r = rw (whole r.performance) refl

standing-none : (s : Setup) (page total : ℕ) (rows : List Row) → has_float (standing_data s page total rows) ≡ false
unfolding standing_data
standing-none s page total rows = rw (items-none (row_data s) (row-none s) rows) refl

team-none : (s : Setup) (r : TeamRow) → has_float (team_data s r) ≡ false
unfolding team_data
team-none s r = rw (whole r.performance) refl

teams-none : (s : Setup) (rows : List TeamRow) → has_float (teams_data s rows) ≡ false
unfolding teams_data
teams-none s rows = rw (items-none (team_data s) (team-none s) rows) refl

me-none : (s : Setup) (v : MeView) → has_float (me_data s v) ≡ false
unfolding me_data
me-none s v = rw (maybe-number (game_of_seat v.seat), whole v.performance, maybe-number v.rank) refl

game-none : (s : Setup) (v : GameView) → has_float (game_data s v) ≡ false
unfolding game_object
game-none s v = rw (maybe-move v.last, maybe-colour v.offer, maybe-outcome v.outcome) refl

journal-none : (from total : ℕ) (es : List Entry) → has_float (journal_data from total es) ≡ false
unfolding journal_data
journal-none from total es = rw (items-none entry_data (λ e. refl) es) refl

pub reply-none : (s : Setup) (r : Reply) → has_float (reply_data s r) ≡ false
reply-none s (reply.Me v) = me-none s v
reply-none s (reply.Game v) = game-none s v
reply-none s (reply.Ticked n) = refl

pub answer-none : (s : Setup) (asked : ℕ) (a : Answer) → has_float (answer_data s asked a) ≡ false
answer-none s asked (answers.Arena v) = arena-none s v
answer-none s asked (answers.Standing total rows) = standing-none s asked total rows
answer-none s asked (answers.Teams rows) = teams-none s rows
answer-none s asked (answers.Me v) = me-none s v
answer-none s asked (answers.Game v) = game-none s v
answer-none s asked (answers.Journal total entries) = journal-none asked total entries
