-- What a player's place is after any list of calls, told by the calls alone.
use Rattle.std.specs.Prelude.{◌≡◌, ◌≢◌, ℕ, ◌≤◌, Bool, true, false, List, [], ◌∷◌, ◌++◌, length, take, if◌then◌else◌, Some, None}
use Rattle.std.specs.List.{All}
use Rattle.seats.specs.declared.wish.Wish.{Wish}
use Rattle.seats.specs.declared.wish.Wish.TheVariants as wishes
use Rattle.seats.specs.declared.wish.PlayerSeat.TheVariants as seats
use Rattle.seats.specs.Places.{Place, seat_at, seat_by_wish, is_idle, is_waiting, idle_since}
use Rattle.seats.specs.Calls.{Call, Leaves, Sits, IsFreed, place_after, wish_of_call, is_leave, is_of_a_game, number_of}

-- these calls show no wish
abbrev pub ShowNoWish : List Call → Type 0
ShowNoWish calls = All (λ c. wish_of_call c ≡ None) calls

-- none of these calls is a leave
abbrev pub HaveNoLeave : List Call → Type 0
HaveNoLeave calls = All (λ c. is_leave c ≡ false) calls

-- none of these calls has him sit down to a game or ends one
abbrev pub KeepTheGame : List Call → Type 0
KeepTheGame calls = All (λ c. is_of_a_game c ≡ false) calls

-- whoever left stays so, whatever follows
abbrev pub LeaveIsFinal : Type 0
LeaveIsFinal = (before after : List Call) → (place_after (before ++ Leaves ∷ after)).wish ≡ wishes.Left

-- of somebody who did not leave, the wish is that of the last enter, pause or no-show
abbrev pub LastWishHolds : Type 0
LastWishHolds = (before after : List Call) (c : Call) (w : Wish)
    → HaveNoLeave before
    → wish_of_call c ≡ Some w
    → ShowNoWish after
    → (place_after (before ++ c ∷ after)).wish ≡ w

-- before the first enter, pause, leave or no-show he has asked for nothing
abbrev pub NothingAsked : Type 0
NothingAsked = (calls : List Call) → ShowNoWish calls → (place_after calls).wish ≡ wishes.Absent

-- who does not appear for a game pauses from then on, unless he left
abbrev pub NoShowPauses : Type 0
NoShowPauses = (calls : List Call) (n : ℕ)
    → (place_after calls).wish ≢ wishes.Left
    → (place_after (calls ++ IsFreed n true ∷ [])).wish ≡ wishes.Paused

-- until his game ends he plays it, whatever he wishes for
abbrev pub PlaysUntilFreed : Type 0
PlaysUntilFreed = (before after : List Call) (g : ℕ)
    → KeepTheGame after
    → seat_at (place_after (before ++ Sits g ∷ after)) ≡ seats.Playing g

-- from the end of a game to the next one, his seat is by his wish
abbrev pub FreedUntilSeated : Type 0
FreedUntilSeated = (before after : List Call) (n : ℕ) (no_show : Bool)
    → KeepTheGame after
    → let place = place_after (before ++ IsFreed n no_show ∷ after) in
    seat_at place ≡ seat_by_wish place.wish

-- and so it is before his first game
abbrev pub BeforeTheFirstGame : Type 0
BeforeTheFirstGame = (calls : List Call)
    → KeepTheGame calls
    → let place = place_after calls in
    seat_at place ≡ seat_by_wish place.wish

-- he is idle after these calls
abbrev pub IsIdleAfter : List Call → Type 0
IsIdleAfter calls = is_waiting (seat_at (place_after calls)) ≡ true

-- the number since when he is idle is the one given at the call that last made him so: he was not idle before it, and is from
-- it on
abbrev pub SinceItBegan : Type 0
SinceItBegan = (before after : List Call) (c : Call)
    → is_waiting (seat_at (place_after before)) ≡ false
    → ((k : ℕ) → k ≤ length after → IsIdleAfter (before ++ c ∷ take k after))
    → idle_since (place_after (before ++ c ∷ after)) ≡ Some (number_of c)

-- he is idle exactly where his seat is that of somebody who waits, and since when is told exactly there
abbrev pub ToldOfTheIdle : Type 0
ToldOfTheIdle = (place : Place)
    → (is_idle place.wish place.game ≡ is_waiting (seat_at place))
    × (idle_since place ≡ (if is_waiting (seat_at place) then Some place.since else None))
