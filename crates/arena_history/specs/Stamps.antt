-- When the last entry was made, and the stamp of what is done at a moment of the clock.
use Rattle.std.specs.Prelude.{ℕ, max, min, List, fold}
use Rattle.entries.specs.declared.journal.Entry.{Entry}
use Rattle.entries.specs.Limits.{max_stamp}

-- the stamp of the last entry, or 0 where there is none
abbrev pub last_stamp : List Entry → ℕ
last_stamp es = fold (λ t (e : Entry). e.stamp) 0 es

-- the moment itself, but not below the last stamp and at most 1,000,000,000
abbrev pub stamp_of : List Entry → ℕ → ℕ
stamp_of es now = min max_stamp (max now (last_stamp es))
