-- Since when each player has been idle, and all that is kept of a player as one place.
use Rattle.std.specs.Prelude.{◌≡◌, ℕ, ◌≤◌, nat_le, ◌&&◌, Bool, true, List, length, map}
use Rattle.std.specs.List.{range_with_len}
use Rattle.entries.specs.declared.journal.Entry.{Entry}
use Rattle.entries.specs.declared.setup.Setup.{Setup}
use Rattle.seats.specs.Places.{Place, since_set}
use Rattle.arena_history.specs.History.{History, first, along}
use Rattle.arena_history.specs.Games.{playing}
use Rattle.arena_history.specs.Wishes.{wish}
use Rattle.arena_history.specs.Stands.{idle}
use Rattle.arena_history.specs.Waves.{after}

-- since when p is idle after one entry more: from that entry on where he has just become idle, and otherwise as before
abbrev pub since_step : Setup → ℕ → History → Entry → ℕ → ℕ
since_step s p h e old = since_set (idle s h p) (idle s (after s h e) p) (length (after s h e).entries) old

-- how many entries there were when p last became idle, or 0 where he never did
unfoldable pub since : Setup → History → ℕ → ℕ
since s h p = along (since_step s p) 0 h

-- p is idle, and has been since n entries or fewer
abbrev pub waits_since : Setup → History → ℕ → ℕ → Bool
waits_since s h n p = idle s h p && nat_le (since s h p) n

-- p's wish, the game that he plays, and since when he has been idle
unfoldable pub place : Setup → History → ℕ → Place
place s h p = record { wish = wish s h p; game = playing s h p; since = since s h p }

-- the places of all players, by their numbers
unfoldable pub places : Setup → History → List Place
places s h = map (place s h) (range_with_len 0 (length s.players))

-- p was idle after the first k entries for every k from n on, where more than all are all of them
abbrev pub WasIdleFrom : Setup → History → ℕ → ℕ → Type 0
WasIdleFrom s h p n = (k : ℕ) → n ≤ k → idle s (first k h) p ≡ true
