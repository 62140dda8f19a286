-- A decimal number that is cut down while it is read.
use Rattle.std.proofs.Common.{◌≡◌, ℕ, ◌+◌, ◌*◌, min, arith}

-- to cut down before a digit more is to cut down after it
pub capped_more : (value total digit most : ℕ) → value ≡ min total most → min (value * 10 + digit) most ≡ min (total * 10 + digit) most
capped_more value total digit most so_far = omega arith
