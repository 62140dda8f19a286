-- The generator of numbers.
use Rattle.std.specs.Prelude.{ℕ, zero, suc, ◌+◌, ◌*◌, ◌/◌, ◌%◌}

-- what a draw makes of the generator's state
abbrev pub next : ℕ → ℕ
next x = (x * 1103515245 + 12345) % 2147483648

-- the state behind so many draws: at first it is the seed
unfoldable pub state : ℕ → ℕ → ℕ
state seed zero = seed
state seed (suc n) = next (state seed n)

-- draw number n, from 0: the state behind it, without its last sixteen bits
unfoldable pub drawn : ℕ → ℕ → ℕ
drawn seed n = state seed (suc n) / 65536
