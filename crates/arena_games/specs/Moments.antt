-- When the games may be asked.
use Rattle.std.specs.Prelude.{ℕ, suc, ◌≡◌, slice_get, slice_set, Bool, List, [], ◌∷◌, Option, Some, None, if◌then◌else◌}
use Rattle.arena_games.specs.declared.kept.Kept.{Kept}
use Rattle.arena_games.specs.Courses.{Course, IsPast, IsShort, looked}
use Rattle.arena_games.specs.Keeps.{KeptFor}

-- what is kept of a game stands for a course in which nothing is later than t
pub record IsInTime (k : Kept) (t : ℕ) : Type 0 where
  pub course : Course
  pub stands : KeptFor k course
  pub past : IsPast t course

-- what is kept of a game stands for a course in which nothing is later than t, and which is short enough for one event more
pub record MayTakeAct (k : Kept) (t : ℕ) : Type 0 where
  pub course : Course
  pub stands : KeptFor k course
  pub past : IsPast t course
  pub short : IsShort course

-- the number of the first item that passes, if one does, where the first item has number n
abbrev pub first_from : {X : Type 0} → (X → Bool) → ℕ → List X → Option ℕ
first_from p n [] = None
first_from p n (x ∷ xs) = if p x then Some n else first_from p (suc n) xs

-- one game was looked at, and all else stays
pub record IsLookedAt (old new : List Kept) (g t : ℕ) : Type 0 where
  pub before : Kept
  pub behind : Kept
  pub there : slice_get old g ≡ Some before
  pub written : new ≡ slice_set old g behind
  pub stands : (c : Course) → KeptFor before c → KeptFor behind (looked t c)
