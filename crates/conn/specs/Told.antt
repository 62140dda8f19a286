-- What is left of a source after a read, and what a sink holds after a write, where they tell it.
use Rattle.std.specs.Prelude.{◌≡◌, ℕ, ◌<◌, ◌≤◌, List, [], ◌++◌, take, drop, length, Option, Some, None, Result, Ok, Err}

-- the told bytes, and then these
abbrev pub followed_by : Option (List ℕ) → List ℕ → Option (List ℕ)
followed_by None bytes = None
followed_by (Some told) bytes = Some (told ++ bytes)

-- the sink gained exactly these bytes
abbrev pub Gained : Option (List ℕ) → Option (List ℕ) → List ℕ → Type 0
Gained old new bytes = new ≡ followed_by old bytes

-- the sink gained a beginning of these bytes
abbrev pub GainedPart : Option (List ℕ) → Option (List ℕ) → List ℕ → Type 0
GainedPart old new bytes = (n : ℕ) × Gained old new (take n bytes)

-- a write takes the first k bytes of the piece, at least one if there is one, or nothing where it fails
abbrev pub Appends : {E : Type 0} → Option (List ℕ) → Option (List ℕ) → List ℕ → Result ℕ E → Type 0
Appends old new bytes (Ok k) = (k ≤ length bytes) × Gained old new (take k bytes) × (0 < length bytes → 0 < k)
Appends old new bytes (Err e) = new ≡ old

-- the source gave exactly these bytes, and has none left
abbrev pub GaveAll : Option (List ℕ) → Option (List ℕ) → List ℕ → Type 0
GaveAll None new bytes = Unit {0}
GaveAll (Some told) new bytes = (told ≡ bytes) × (new ≡ Some [])

-- the source gave at most so many bytes
abbrev pub GaveAtMost : Option (List ℕ) → Option (List ℕ) → ℕ → Type 0
GaveAtMost None new most = Unit {0}
GaveAtMost (Some told) new most = (n : ℕ) × (n ≤ most) × (new ≡ Some (drop n told))

-- the source had more than so many bytes left
abbrev pub HadMore : Option (List ℕ) → ℕ → Type 0
HadMore None limit = Unit {0}
HadMore (Some told) limit = limit < length told
