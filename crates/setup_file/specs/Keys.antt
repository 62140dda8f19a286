-- The keys by which the players of a setup are known.
use Rattle.std.specs.Prelude.{◌≡◌, ℕ, ◌&&◌, ◌||◌, ◌==◌, nat_le, Bool, true, List, length}
use Rattle.std.specs.List.{All, list_all}
use Rattle.entries.specs.Names.{AreDistinct}

-- a lower-case or upper-case letter, a digit or `_`
abbrev pub is_key_byte : ℕ → Bool
is_key_byte b = (nat_le 97 b && nat_le b 122) || (nat_le 65 b && nat_le b 90) || (nat_le 48 b && nat_le b 57) || (b == 95)

-- 16 to 64 bytes, each of which may stand in a key
abbrev pub is_key : List ℕ → Bool
is_key key = nat_le 16 (length key) && nat_le (length key) 64 && list_all is_key_byte key

-- the bytes are a key
abbrev pub IsKey : List ℕ → Type 0
IsKey key = is_key key ≡ true

-- the keys of so many players, in their order: one for each, no two the same
pub record AreKeysOf (players : ℕ) (keys : List (List ℕ)) : Type 0 where
  pub each : length keys ≡ players
  pub formed : All IsKey keys
  pub distinct : AreDistinct keys
