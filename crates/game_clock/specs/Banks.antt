-- How much time a side has in its bank.
use Rattle.std.specs.Prelude.{ℕ, ◌+◌, ◌-◌, ◌*◌, ◌/◌, ◌==◌, nat_lt, Bool, if◌then◌else◌, List, length, sum_by}
use Rattle.board.specs.declared.piece.Colour.{Colour}
use Rattle.entries.specs.declared.setup.Control.{Control}
use Rattle.game_clock.specs.ClockEvents.{ClockEvent, stamps, has_berserked, thinking_time, later_moves}

-- what each side starts with: the initial time, or the increment where that is 0
abbrev pub first_bank : Control → ℕ
first_bank c = if c.initial_ms == 0 then c.inc_ms else c.initial_ms

-- what a berserk leaves of a bank: half, rounded down, or all where the initial time is below 40 increments
abbrev pub after_halving : Control → ℕ → ℕ
after_halving c bank = if nat_lt c.initial_ms (40 * c.inc_ms) then bank else bank / 2

-- what a side has before its moves, with or without a berserk
abbrev pub bank_before_moves : Control → Bool → ℕ
bank_before_moves c berserk = if berserk then after_halving c (first_bank c) else first_bank c

-- what a move adds from the side's second on, with or without a berserk
abbrev pub increment : Control → Bool → ℕ
increment c berserk = if berserk then 0 else c.inc_ms

-- what a side has been given: its bank before the moves, and an increment for each of its moves from its second on
unfoldable pub given : Control → List ClockEvent → Colour → ℕ
given c events side =
    let berserk = has_berserked events side in
    bank_before_moves c berserk + increment c berserk * length (later_moves side (length (stamps events)))

-- what it has spent: the times for which it thought over these moves
unfoldable pub spent : List ClockEvent → Colour → ℕ
spent events side = sum_by (thinking_time (stamps events)) (later_moves side (length (stamps events)))

-- what is left of it
unfoldable pub bank : Control → List ClockEvent → Colour → ℕ
bank c events side = given c events side - spent events side
