-- The two clocks of a game, and what they show.
use Rattle.std.specs.Prelude.{ℕ, ◌≡◌, ◌+◌, ◌-◌, nat_le, Bool, true, ◌&&◌, ◌||◌, not, if◌then◌else◌, List, length}
use Rattle.board.specs.declared.piece.Colour.{Colour}
use Rattle.board.specs.declared.piece.Colour.TheVariants.{White, Black}
use Rattle.entries.specs.declared.setup.Control.{Control}
use Rattle.game_clock.specs.ClockEvents.{ClockEvent, stamps, has_berserked, turn_of, is_later_move, turn_start}
use Rattle.game_clock.specs.Banks.{bank, after_halving, increment}

-- the control, when the turn began, how many moves were made, and each side's bank and whether it has berserked
pub record Clocks : Type 0 where
  pub control : Control
  pub since : ℕ
  pub moves : ℕ
  pub white_bank : ℕ
  pub black_bank : ℕ
  pub white_berserk : Bool
  pub black_berserk : Bool

-- the clocks of a game with this control and this start, after these berserks and moves
unfoldable pub clocks : Control → ℕ → List ClockEvent → Clocks
clocks c start events = record {
  control = c;
  since = turn_start start (stamps events);
  moves = length (stamps events);
  white_bank = bank c events White;
  black_bank = bank c events Black;
  white_berserk = has_berserked events White;
  black_berserk = has_berserked events Black;
}

-- the clocks are those of the control, the start and the events
abbrev pub StandsFor : Clocks → Control → ℕ → List ClockEvent → Type 0
StandsFor k c start events = k ≡ clocks c start events

-- a side's bank
abbrev pub bank_of : Clocks → Colour → ℕ
bank_of k White = k.white_bank
bank_of k Black = k.black_bank

-- whether a side has berserked
abbrev pub berserk_of : Clocks → Colour → Bool
berserk_of k White = k.white_berserk
berserk_of k Black = k.black_berserk

-- a side's clock runs: it is to move, and it has made a move
abbrev pub runs : Clocks → Colour → Bool
runs k side = is_later_move side k.moves

-- the clock of the side to move runs, and its bank is used up at t
unfoldable pub has_fallen : Clocks → ℕ → Bool
has_fallen k t = runs k (turn_of k.moves) && nat_le (bank_of k (turn_of k.moves)) (t - k.since)

-- the side to move has not moved yet, and its time for a first move is over at t
unfoldable pub is_no_show : Clocks → ℕ → Bool
is_no_show k t = not (runs k (turn_of k.moves)) && nat_le k.control.first_ms (t - k.since)

-- one of the two, at which the game is to be ended
unfoldable pub is_due : Clocks → ℕ → Bool
is_due k t = is_no_show k t || has_fallen k t

-- what a side's clock shows at t: its bank, less the time since the turn began if its clock runs, and never below 0
unfoldable pub left : Clocks → Colour → ℕ → ℕ
left k side t =
    if runs k side then bank_of k side - (t - k.since) else bank_of k side

-- a bank after the side's move at t: from its second move on it loses the time of the turn and gains the increment
abbrev pub bank_after_move : Clocks → Colour → ℕ → ℕ
bank_after_move k side t =
    if runs k side
    then bank_of k side - (t - k.since) + increment k.control (berserk_of k side)
    else bank_of k side

-- the clocks after a move at t
unfoldable pub after_move : Clocks → ℕ → Clocks
after_move k t = record k {
  since = t;
  moves = k.moves + 1;
  white_bank = bank_after_move k White t;
  black_bank = bank_after_move k Black t;
}

-- the clocks after a side's berserk
unfoldable pub after_berserk : Clocks → Colour → Clocks
after_berserk k White = record k { white_bank = after_halving k.control k.white_bank; white_berserk = true }
after_berserk k Black = record k { black_bank = after_halving k.control k.black_bank; black_berserk = true }
