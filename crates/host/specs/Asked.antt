-- What a pass did while it asked some requests, one after another.
use Rattle.std.specs.Prelude.{◌≡◌, ℕ, ◌<◌, Bool, if◌then◌else◌, List, [], ◌∷◌, ◌++◌, length, Option, Some, None}
use Rattle.std.specs.Option.{option_map}
use mathlib.Core.List.{IsPrefix}
use Rattle.conn.specs.Moments.{moments_after}
use Rattle.entries.specs.declared.journal.Entry.{Entry}
use Rattle.entries.specs.declared.setup.Setup.{Setup}
use Rattle.setup_file.specs.Members.{place_of}
use Rattle.turnstile.specs.Passes.{own_of}
use Rattle.arena_lock.specs.Turns.{Pass, pass_of}
use Rattle.host.specs.Answers.{Comes}
use Rattle.host.specs.Exchanges.{Deed, Exchange, takes_turn, lengths, entries_by}

-- each player who has one of these keys is one of so many
abbrev pub AreKeysOfPlayers : ℕ → List (List ℕ) → Type 0
AreKeysOfPlayers players keys = (key : List ℕ) (p : ℕ) → place_of keys key ≡ Some p → p < players

-- the moments that a clock still tells after a request: one less for a turn, and as many for an error
abbrev pub moments_behind : Deed → Option (List ℕ) → Option (List ℕ)
moments_behind deed moments = if takes_turn deed then option_map moments_after moments else moments

-- the moments that a clock still tells after these requests
abbrev pub moments_left : List Exchange → Option (List ℕ) → Option (List ℕ)
moments_left [] moments = moments
moments_left (x ∷ xs) moments = moments_left xs (moments_behind x.deed moments)

-- a clock that tells its moments gave one for each turn, and no other
abbrev pub GaveOneATurn : Option (List ℕ) → Option (List ℕ) → List Exchange → Type 0
GaveOneATurn None after xs = Unit {0}
GaveOneATurn (Some moments) after xs = after ≡ moments_left xs (Some moments)

-- the requests of pass i come to what they do at growing lengths of the history h, from m on, at which nothing had been asked,
-- to all of h: each from where the one before it left the pass and the clock
abbrev pub AllCome : Setup → List (List ℕ) → Option (List ℕ) → List Entry → ℕ → ℕ → List Exchange → Type 0
AllCome s keys moments h i m [] = m ≡ length h
AllCome s keys moments h i m (x ∷ xs) =
    Comes s keys moments h i m x.seen x.request x.deed
    × AllCome s keys (moments_behind x.deed moments) h i x.seen xs

-- a pass asked these requests, one after another
pub record Asked (s : Setup) (keys : List (List ℕ)) (moments moments' : Option (List ℕ)) (old new : Pass) (xs : List Exchange) : Type 0 where
  -- each came to what the history that was seen at last defines, at lengths that grow from what had been seen before
  pub comes : AllCome s keys moments new.seen old.number (length old.seen) xs
  -- the history begins with all that had been seen before
  pub grown : IsPrefix old.seen new.seen
  -- the lengths of the turns stand behind the turns before, in order; all else of the pass but what it has seen is as it was
  pub turns : new ≡ record old { seen = new.seen; turns = old.turns ++ lengths xs }
  -- the pass's own entries have gained those of the accepted commands, each once, in order, and no other
  pub own : own_of pass_of new ≡ own_of pass_of old ++ entries_by old.number xs
  -- with a lobby of one pass nothing else was added
  pub alone : old.of.passes ≡ 1 → new.seen ≡ old.seen ++ entries_by old.number xs
  pub clock : GaveOneATurn moments moments' xs
