-- What a room keeps, for which events it stands, and how it changes in place.
use Rattle.std.specs.Prelude.{ℕ, ◌≡◌, ◌+◌, ◌<◌, ◌≤◌, ◌==◌, Bool, false, true, if◌then◌else◌, List, [], ◌∷◌, ◌++◌, length, Option, None, Some}
use Rattle.board.specs.declared.piece.Colour.{Colour}
use Rattle.board.specs.declared.piece.Colour.TheVariants.{White, Black}
use Rattle.board.specs.declared.parts.Parts.{Parts}
use Rattle.board.specs.Piece.{other}
use Rattle.board.specs.Moves.{MoveWord}
use Rattle.move_rules.specs.After.{after}
use Rattle.move_rules.specs.EnPassant.{canonical}
use Rattle.draw_rules.specs.Appearance.{Appearance, appearance_of, occurrences}
use Rattle.game_line.specs.Line.{IsLegalLine}
use Rattle.game_line.specs.Kept.{kept}
use Rattle.entries.specs.declared.action.Action.{Action}
use Rattle.entries.specs.declared.action.Action.TheVariants as action
use Rattle.game_clock.specs.Clocks.{Clocks, is_due, after_move, after_berserk}
use Rattle.game_room.specs.declared.header.Header.{Header}
use Rattle.game_room.specs.declared.outcome.Cause.TheVariants as cause
use Rattle.game_room.specs.declared.outcome.Outcome.{Outcome}
use Rattle.game_room.specs.Events.{Event}
use Rattle.game_room.specs.Standing.{Standing, is_game_due}
use Rattle.game_room.specs.Endings.{won, drawn, claim_cause, claim_ending, ending_after_move, due_ending, outcome_if_ended, offer_unless_ended}
use Rattle.game_room.specs.declared.ending.Ending.{Ending}
use Rattle.game_room.specs.Games.{Game, standing_of, game, offer_after_move}

-- the header, the position, those since a pawn last moved or a piece was last captured, the clocks, the last move, whose offer
-- stands, which sides have offered since the last move, and how the game ended
pub record Held : Type 0 where
  pub header : Header
  pub position : Parts
  pub past : List Appearance
  pub clocks : Clocks
  pub last : Option MoveWord
  pub offer : Option Colour
  pub white_offered : Bool
  pub black_offered : Bool
  pub outcome : Option Outcome

-- how a game stands by what its room keeps
abbrev pub standing_in : Held → Standing
standing_in k = record {
  position = k.position;
  times = occurrences k.past;
  quiet = k.position.half;
  last = k.last;
  clocks = k.clocks;
  offer = k.offer;
  white_offered = k.white_offered;
  black_offered = k.black_offered;
  outcome = k.outcome;
}

-- the room is that of this game, whose moves are legal
pub record IsRoomOf (k : Held) (h : Header) (g : Game) : Type 0 where
  pub header : k.header ≡ h
  pub standing : standing_in k ≡ standing_of h g
  pub past : k.past ≡ kept g.moves
  pub legal : IsLegalLine g.moves

-- the room stands for the header and the events: it is that of the game after these events
abbrev pub StandsFor : Held → Header → List Event → Type 0
StandsFor k h events = IsRoomOf k h (game h events)

-- a game that goes on can take a further position: its half count is below 150, and as many positions are kept as it says
abbrev pub HasRoom : Option Outcome → Parts → List Appearance → Type 0
HasRoom outcome p past = outcome ≡ None → (p.half < 150) × (length past ≡ p.half + 1)

-- an ended game ended in the last turn that the clocks were told of
abbrev pub EndedInTurn : Option Outcome → Clocks → Type 0
EndedInTurn outcome k = (o : Outcome) → outcome ≡ Some o → k.since ≤ o.stamp

-- an ending is settled
unfoldable pub room_settled : Held → Option Ending → ℕ → Held
room_settled k ending t = record k {
  offer = offer_unless_ended ending k.offer;
  outcome = outcome_if_ended k.clocks ending t;
}

-- the positions that are kept, with a further one
abbrev pub past_with : List Appearance → Parts → List Appearance
past_with past p = if p.half == 0 then appearance_of p ∷ [] else past ++ appearance_of p ∷ []

-- a side has made a move, before it is looked whether this ends the game
unfoldable pub room_moved : Held → Colour → MoveWord → ℕ → Held
room_moved k side m t = record k {
  position = after k.position m;
  past = past_with k.past (canonical (after k.position m));
  clocks = after_move k.clocks t;
  last = Some m;
  offer = offer_after_move side k.offer;
  white_offered = false;
  black_offered = false;
}

-- a side has offered a draw
abbrev pub room_offered : Held → Colour → Held
room_offered k White = record k { offer = Some White; white_offered = true }
room_offered k Black = record k { offer = Some Black; black_offered = true }

-- how the game ends by the side's last move, if it does
abbrev pub room_ending : Held → Colour → Option Ending
room_ending k side = ending_after_move k.position (occurrences k.past) k.position.half side

-- a side has done what it may do
abbrev pub room_after_action : Held → Colour → Action → ℕ → Held
room_after_action k side (action.Move m) t = room_settled (room_moved k side m t) (room_ending (room_moved k side m t) side) t
room_after_action k side action.Resign t = room_settled k (Some (won (other side) cause.Resign)) t
room_after_action k side action.Offer t = room_offered k side
room_after_action k side action.Accept t = room_settled k (Some (drawn cause.Agreed)) t
room_after_action k side action.Decline t = record k { offer = None }
room_after_action k side action.Claim t = room_settled k (claim_ending (claim_cause (occurrences k.past) k.position.half)) t
room_after_action k side action.Berserk t = record k { clocks = after_berserk k.clocks side }

-- the side to move has let its time pass by
abbrev pub room_after_due : Held → ℕ → Held
room_after_due k t = room_settled k (Some (due_ending k.position k.clocks t)) t

-- an accepted action ends a due game, and does its own in any other
unfoldable pub room_after_act : Held → Colour → Action → ℕ → Held
room_after_act k side a t = if is_due k.clocks t then room_after_due k t else room_after_action k side a t

-- a look ends a due game, and changes no other
unfoldable pub room_after_tick : Held → ℕ → Held
room_after_tick k t = if is_game_due (standing_in k) t then room_after_due k t else k
