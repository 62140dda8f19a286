-- A player's place: what he asked for, the game that he plays, and since when he has been idle.
use Rattle.std.specs.Prelude.{ℕ, Bool, true, false, if◌then◌else◌, List, slice_index_or, slice_set, Option, Some, None}
use Rattle.seats.specs.declared.wish.Wish.{Wish}
use Rattle.seats.specs.declared.wish.Wish.TheVariants as wishes
use Rattle.seats.specs.declared.wish.PlayerSeat.{PlayerSeat}
use Rattle.seats.specs.declared.wish.PlayerSeat.TheVariants as seats

-- what he last asked for, the game that he plays, and the number that was given when he last became idle, or 0
pub record Place : Type 0 where
  pub wish : Wish
  pub game : Option ℕ
  pub since : ℕ

-- the place of somebody of whom nothing is known
abbrev pub unknown : Place
unknown = record { wish = wishes.Absent; game = None; since = 0 }

-- the game with number g where he plays one
abbrev pub game_where : Bool → ℕ → Option ℕ
game_where true g = Some g
game_where false g = None

-- the place of player p, and nothing known of a player who is not listed
abbrev pub place_at : List Place → ℕ → Place
place_at places p = slice_index_or places p unknown

-- the places with another one of player p
abbrev pub with_place : ℕ → Place → List Place → List Place
with_place p place places = slice_set places p place

-- the seat of somebody who plays nothing
abbrev pub seat_by_wish : Wish → PlayerSeat
seat_by_wish wishes.Absent = seats.Absent
seat_by_wish wishes.In = seats.Idle
seat_by_wish wishes.Paused = seats.Paused
seat_by_wish wishes.Left = seats.Left

-- the seat of a player by his wish and by the game that he plays, if any
abbrev pub seat_of : Wish → Option ℕ → PlayerSeat
seat_of wish (Some g) = seats.Playing g
seat_of wish None = seat_by_wish wish

-- the wish of somebody who is idle where he plays nothing
abbrev pub is_in : Wish → Bool
is_in wishes.Absent = false
is_in wishes.In = true
is_in wishes.Paused = false
is_in wishes.Left = false

-- he waits for a game: he is in, and plays none
abbrev pub is_idle : Wish → Option ℕ → Bool
is_idle wish None = is_in wish
is_idle wish (Some g) = false

-- a new wish in place of an old one: a leave is for good
abbrev pub wish_set : Wish → Wish → Wish
wish_set new wishes.Absent = new
wish_set new wishes.In = new
wish_set new wishes.Paused = new
wish_set new wishes.Left = wishes.Left

-- the wish of a player whose game has ended: one who did not appear pauses, unless he left
abbrev pub wish_freed : Bool → Wish → Wish
wish_freed false old = old
wish_freed true old = wish_set wishes.Paused old

-- since when somebody is idle: from the number n on where he has just become it, and otherwise as before
abbrev pub since_set : (was is : Bool) → ℕ → ℕ → ℕ
since_set false true n old = n
since_set false false n old = old
since_set true was n old = old

-- a place with another wish and another game, at the number n
abbrev pub changed : Wish → Option ℕ → ℕ → Place → Place
changed wish game n place = record { wish = wish; game = game; since = since_set (is_idle place.wish place.game) (is_idle wish game) n place.since }

-- the place of somebody who enters, at the number n; who left stays away
abbrev pub entered : ℕ → Place → Place
entered n place = changed (wish_set wishes.In place.wish) place.game n place

-- the place of somebody who pauses
abbrev pub paused : Place → Place
paused place = record { wish = wish_set wishes.Paused place.wish; game = place.game; since = place.since }

-- the place of somebody who leaves
abbrev pub gone : Place → Place
gone place = record { wish = wishes.Left; game = place.game; since = place.since }

-- the place of somebody who sits down to game g
abbrev pub seated : ℕ → Place → Place
seated g place = record { wish = place.wish; game = Some g; since = place.since }

-- the place of somebody whose game has ended, at the number n, with whether he did not appear
abbrev pub freed : ℕ → Bool → Place → Place
freed n no_show place = changed (wish_freed no_show place.wish) None n place

-- the seat of a place
abbrev pub seat_at : Place → PlayerSeat
seat_at place = seat_of place.wish place.game

-- the wish of somebody who may enter: he has asked for nothing, or pauses
abbrev pub may_enter : Wish → Bool
may_enter wishes.Absent = true
may_enter wishes.In = false
may_enter wishes.Paused = true
may_enter wishes.Left = false

-- the wish of somebody who may pause: he is in
abbrev pub may_pause : Wish → Bool
may_pause wishes.Absent = false
may_pause wishes.In = true
may_pause wishes.Paused = false
may_pause wishes.Left = false

-- the wish of somebody who may leave: he entered, and did not leave
abbrev pub may_leave : Wish → Bool
may_leave wishes.Absent = false
may_leave wishes.In = true
may_leave wishes.Paused = true
may_leave wishes.Left = false

-- the seat of somebody who waits for a game
abbrev pub is_waiting : PlayerSeat → Bool
is_waiting seats.Absent = false
is_waiting seats.Idle = true
is_waiting seats.Paused = false
is_waiting (seats.Playing g) = false
is_waiting seats.Left = false

-- the seat of somebody who plays a game
abbrev pub is_playing : PlayerSeat → Bool
is_playing seats.Absent = false
is_playing seats.Idle = false
is_playing seats.Paused = false
is_playing (seats.Playing g) = true
is_playing seats.Left = false

-- since when somebody is idle, or none where he is not
abbrev pub idle_since : Place → Option ℕ
idle_since place = if is_idle place.wish place.game then Some place.since else None
