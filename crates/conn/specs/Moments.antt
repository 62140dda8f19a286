-- What a clock gives of the moments that it tells.
use Rattle.std.specs.Prelude.{◌≡◌, ℕ, List, [], ◌∷◌, Option, Some, None}

-- the moment that comes next: the first, and 0 where there is none
abbrev pub first_moment : List ℕ → ℕ
first_moment [] = 0
first_moment (moment ∷ moments) = moment

-- the moments that are left then: all but the first, and the last one stays
abbrev pub moments_after : List ℕ → List ℕ
moments_after [] = []
moments_after (last ∷ []) = last ∷ []
moments_after (moment ∷ next ∷ moments) = next ∷ moments

-- a clock that tells its moments gives the first, and keeps the others
abbrev pub Ticks : Option (List ℕ) → Option (List ℕ) → ℕ → Type 0
Ticks None new now = Unit {0}
Ticks (Some told) new now = (now ≡ first_moment told) × (new ≡ Some (moments_after told))
