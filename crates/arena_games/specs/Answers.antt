-- What the games of an arena answer.
use Rattle.std.specs.Prelude.{ℕ, suc, ◌≡◌, List, [], ◌∷◌, drop, Option, Some, None, Result, Ok, Err}
use Rattle.board.specs.declared.piece.Colour.{Colour}
use Rattle.entries.specs.declared.action.Action.{Action}
use Rattle.game_room.specs.declared.outcome.Outcome.{Outcome}
use Rattle.game_room.specs.declared.refusal.ActRefusal.{ActRefusal}
use Rattle.game_room.specs.Events.{act_of}
use Rattle.game_room.specs.Games.{allowed, ticked}
use Rattle.arena_games.specs.declared.ended.GameEnd.{GameEnd}
use Rattle.arena_games.specs.Courses.{Course, with_event, outcome_of}

-- a refusal, or the outcome that stands after what was accepted
abbrev pub unless_refused : Result (Unit {0}) ActRefusal → Option Outcome → Result (Option Outcome) ActRefusal
unless_refused (Ok done) o = Ok o
unless_refused (Err r) o = Err r

-- the answer to an action at t: its refusal, or the outcome with which it ends the game, if it does
abbrev pub act_answer : Course → Colour → Action → ℕ → Result (Option Outcome) ActRefusal
act_answer c side a t = unless_refused (allowed c.header c.events side a t) (outcome_of (with_event (act_of side a t) c))

-- the end of a game, before others
abbrev pub end_before : ℕ → Option Outcome → List GameEnd → List GameEnd
end_before n None rest = rest
end_before n (Some o) rest = record { game = n; outcome = o } ∷ rest

-- the ends of games that a look at t ends, by their numbers, where the first game has number n
abbrev pub ends_from : ℕ → ℕ → List Course → List GameEnd
ends_from n t [] = []
ends_from n t (c ∷ games) = end_before n (ticked c.header c.events t) (ends_from (suc n) t games)

-- the ends, by a look at t, of the games with numbers from n on
abbrev pub ends_behind : ℕ → ℕ → List Course → List GameEnd
ends_behind n t games = ends_from n t (drop n games)

-- an end is the first of these, and behind it come those of the games with higher numbers; without one there is none
abbrev pub IsNextEnd : ℕ → ℕ → List Course → Option GameEnd → Type 0
IsNextEnd n t games None = ends_behind n t games ≡ []
IsNextEnd n t games (Some e) = ends_behind n t games ≡ e ∷ ends_behind (suc e.game) t games
