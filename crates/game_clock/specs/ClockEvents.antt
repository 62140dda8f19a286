-- What the clocks of a game are told: who berserked, and when a move was made.
use Rattle.std.specs.Prelude.{ℕ, ◌%◌, ◌-◌, ◌==◌, nat_le, Bool, false, ◌&&◌, if◌then◌else◌, List, [], ◌∷◌, length, filter, slice_index, slice_index_or}
use Rattle.std.specs.List.{flat_map, list_any, range_with_len}
use Rattle.board.specs.declared.piece.Colour.{Colour}
use Rattle.board.specs.declared.piece.Colour.TheVariants.{White, Black}
use Rattle.board.specs.Piece.{same_colour}

-- a side berserked, or the side to move made a move at this stamp
pub data ClockEvent : Type 0 where
  BerserkedBy : Colour → ClockEvent
  MovedAt : ℕ → ClockEvent

-- the stamp of a move, and none of a berserk
abbrev pub stamp_in : ClockEvent → List ℕ
stamp_in (BerserkedBy side) = []
stamp_in (MovedAt t) = t ∷ []

-- the stamps of the moves, in order
unfoldable pub stamps : List ClockEvent → List ℕ
stamps events = flat_map stamp_in events

-- it is a berserk of this side
abbrev pub is_berserk_of : Colour → ClockEvent → Bool
is_berserk_of side (BerserkedBy by) = same_colour by side
is_berserk_of side (MovedAt t) = false

-- the side has berserked
unfoldable pub has_berserked : List ClockEvent → Colour → Bool
has_berserked events side = list_any (is_berserk_of side) events

-- who makes the move with this number, counted from 0: White the even ones, Black the odd ones
unfoldable pub turn_of : ℕ → Colour
turn_of n = if n % 2 == 0 then White else Black

-- the side has made a move once so many moves were made
abbrev pub has_moved : Colour → ℕ → Bool
has_moved White moves = nat_le 1 moves
has_moved Black moves = nat_le 2 moves

-- when the turn began in which the next move is made: at the stamp of the last move, or at the start
unfoldable pub turn_start : ℕ → List ℕ → ℕ
turn_start start stamps = slice_index_or stamps (length stamps - 1) start

-- how long a move was thought over: from the move before it on
unfoldable pub thinking_time : List ℕ → ℕ → ℕ
thinking_time stamps n = slice_index stamps n - slice_index stamps (n - 1)

-- the move with this number is the side's and not its first
unfoldable pub is_later_move : Colour → ℕ → Bool
is_later_move side n = same_colour (turn_of n) side && has_moved side n

-- the numbers of a side's later moves, all but its first, where so many moves were made
unfoldable pub later_moves : Colour → ℕ → List ℕ
later_moves side moves = filter (is_later_move side) (range_with_len 0 moves)
