-- How a game ends, and which cause comes first.
use Rattle.std.specs.Prelude.{ℕ, nat_le, if◌then◌else◌, Option, None, Some}
use Rattle.board.specs.declared.piece.Colour.{Colour}
use Rattle.board.specs.declared.parts.Parts.{Parts}
use Rattle.board.specs.Piece.{other}
use Rattle.move_rules.specs.declared.standing.State.{State}
use Rattle.move_rules.specs.declared.standing.State.TheVariants.{Going, Mate, Stalemate}
use Rattle.move_rules.specs.Standing.{state_of}
use Rattle.draw_rules.specs.Material.{dead_material, bare_king}
use Rattle.game_clock.specs.Clocks.{Clocks, is_no_show}
use Rattle.game_room.specs.declared.ending.Ending.{Ending}
use Rattle.game_room.specs.declared.outcome.Cause.{Cause}
use Rattle.game_room.specs.declared.outcome.Cause.TheVariants as cause
use Rattle.game_room.specs.declared.outcome.Outcome.{Outcome}

-- a side won
abbrev pub won : Colour → Cause → Ending
won side c = record { winner = Some side; cause = c }

-- nobody won
abbrev pub drawn : Cause → Ending
drawn c = record { winner = None; cause = c }

-- what a claim draws by, where the position on the board has occurred so often and so many of the last moves were neither a
-- pawn's nor a capture: three occurrences come before 100 such moves
abbrev pub claim_cause : ℕ → ℕ → Option Cause
claim_cause times quiet =
    if nat_le 3 times then Some cause.Threefold
    else if nat_le 100 quiet then Some cause.Fifty
    else None

-- the draw that can be claimed
abbrev pub claim_ending : Option Cause → Option Ending
claim_ending None = None
claim_ending (Some c) = Some (drawn c)

-- what draws a game by itself while there is a legal move: the material comes before the fifth occurrence of the position, and
-- this before 150 moves that are neither a pawn's nor a capture
abbrev pub draw_after_move : Parts → ℕ → ℕ → Option Ending
draw_after_move p times quiet =
    if dead_material p.cells then Some (drawn cause.Dead)
    else if nat_le 5 times then Some (drawn cause.Fivefold)
    else if nat_le 150 quiet then Some (drawn cause.SeventyFive)
    else None

-- without a legal move a game ends by mate, which the side that moved wins, or by stalemate, and this comes before the rest
abbrev pub ending_by_state : State → Colour → Option Ending → Option Ending
ending_by_state Mate side draw = Some (won side cause.Mate)
ending_by_state Stalemate side draw = Some (drawn cause.Stalemate)
ending_by_state Going side draw = draw

-- how a game ends by a side's move, if it does, where it led to this position, which has occurred so often, and so many of the
-- last moves were neither a pawn's nor a capture
unfoldable pub ending_after_move : Parts → ℕ → ℕ → Colour → Option Ending
ending_after_move p times quiet side = ending_by_state (state_of p) side (draw_after_move p times quiet)

-- how a due game ends: the side to move loses, but for a fallen flag against a king alone, which draws
unfoldable pub due_ending : Parts → Clocks → ℕ → Ending
due_ending p k t =
    if is_no_show k t then won (other p.turn) cause.NoShow
    else if bare_king p.cells (other p.turn) then drawn cause.Flag
    else won (other p.turn) cause.Flag

-- the outcome of a game that ends so at t, with its clocks as they are then
abbrev pub outcome_at : Clocks → Ending → ℕ → Outcome
outcome_at k e t = record {
  winner = e.winner;
  cause = e.cause;
  plies = k.moves;
  white_berserk = k.white_berserk;
  black_berserk = k.black_berserk;
  stamp = t;
}

-- the outcome if the game ends
abbrev pub outcome_if_ended : Clocks → Option Ending → ℕ → Option Outcome
outcome_if_ended k None t = None
outcome_if_ended k (Some e) t = Some (outcome_at k e t)

-- an offer stands no longer once the game ends
abbrev pub offer_unless_ended : Option Ending → Option Colour → Option Colour
offer_unless_ended None offer = offer
offer_unless_ended (Some e) offer = None
