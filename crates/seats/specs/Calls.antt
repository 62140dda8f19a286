-- Calls on one player, and his place after a list of them.
use Rattle.std.specs.Prelude.{ℕ, Bool, true, false, List, Option, Some, None}
use Rattle.std.specs.List.{fold}
use Rattle.seats.specs.declared.wish.Wish.{Wish}
use Rattle.seats.specs.declared.wish.Wish.TheVariants as wishes
use Rattle.seats.specs.Places.{Place, unknown, entered, paused, gone, seated, freed}

-- he enters, pauses or leaves, sits down to a game, or his game has ended; with the number that is given, and whether he did
-- not appear
pub data Call : Type 0 where
  Enters : ℕ → Call
  Pauses : Call
  Leaves : Call
  Sits : ℕ → Call
  IsFreed : ℕ → Bool → Call

-- the place after a call
abbrev pub after_call : Place → Call → Place
after_call place (Enters n) = entered n place
after_call place Pauses = paused place
after_call place Leaves = gone place
after_call place (Sits g) = seated g place
after_call place (IsFreed n no_show) = freed n no_show place

-- the place of a player after these calls, in order
abbrev pub place_after : List Call → Place
place_after calls = fold after_call unknown calls

-- the wish that a no-show shows
abbrev pub wish_shown : Bool → Option Wish
wish_shown true = Some wishes.Paused
wish_shown false = None

-- the wish that a call shows, if any: an enter, a pause, a leave, and a no-show, which is taken for a pause
abbrev pub wish_of_call : Call → Option Wish
wish_of_call (Enters n) = Some wishes.In
wish_of_call Pauses = Some wishes.Paused
wish_of_call Leaves = Some wishes.Left
wish_of_call (Sits g) = None
wish_of_call (IsFreed n no_show) = wish_shown no_show

-- whether a call is a leave
abbrev pub is_leave : Call → Bool
is_leave (Enters n) = false
is_leave Pauses = false
is_leave Leaves = true
is_leave (Sits g) = false
is_leave (IsFreed n no_show) = false

-- whether a call has him sit down to a game, or ends one
abbrev pub is_of_a_game : Call → Bool
is_of_a_game (Enters n) = false
is_of_a_game Pauses = false
is_of_a_game Leaves = false
is_of_a_game (Sits g) = true
is_of_a_game (IsFreed n no_show) = true

-- the number given at a call
abbrev pub number_of : Call → ℕ
number_of (Enters n) = n
number_of Pauses = 0
number_of Leaves = 0
number_of (Sits g) = 0
number_of (IsFreed n no_show) = n
