-- The names of players and teams.
use Rattle.std.specs.Prelude.{◌≡◌, ◌≢◌, ℕ, ◌&&◌, ◌||◌, ◌==◌, nat_le, Bool, true, List, length}
use Rattle.std.specs.List.{AllPairs, list_all}

-- a lower-case or upper-case letter, a digit, `_` or `-`
abbrev pub is_name_byte : ℕ → Bool
is_name_byte b =
    (nat_le 97 b && nat_le b 122) || (nat_le 65 b && nat_le b 90) || (nat_le 48 b && nat_le b 57) || (b == 95) || (b == 45)

-- 1 to 20 bytes, each of which may stand in a name
abbrev pub is_name : List ℕ → Bool
is_name name = nat_le 1 (length name) && nat_le (length name) 20 && list_all is_name_byte name

-- the bytes are a name
abbrev pub IsName : List ℕ → Type 0
IsName name = is_name name ≡ true

-- no two of the names are the same bytes
abbrev pub AreDistinct : List (List ℕ) → Type 0
AreDistinct names = AllPairs (λ a b. a ≢ b) names
