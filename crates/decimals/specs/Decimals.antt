-- Canonical decimals.
use Rattle.std.specs.Prelude.{◌≡◌, ℕ, ◌<◌, ◌^◌, ◌==◌, nat_le, Bool, true, false, ◌&&◌, not, List, [], ◌∷◌, length, Option, Some, None, if◌then◌else◌}
use Rattle.std.specs.Fmt.{decimal}
use Rattle.std.specs.Str.{all_ascii_digits}
use Rattle.std.specs.Str.Parse.{digits_value}

-- the word is what `{n}` prints of this number, which has at most ten digits
pub record Says (word : List ℕ) (n : ℕ) : Type 0 where
  pub small : n < 10 ^ 10
  pub spelled : word ≡ decimal n

-- something stands there, and a `0` in front stands alone
abbrev pub begins_as_one : List ℕ → Bool
begins_as_one [] = false
begins_as_one (digit ∷ []) = true
begins_as_one (digit ∷ next ∷ more) = not (digit == 48)

-- what the digits say, where there are only digits
abbrev pub digits_number : List ℕ → Option ℕ
digits_number word = if all_ascii_digits word then Some (digits_value 10 word) else None

-- the number that the word says, if it says one: up to ten digits, with no `0` in front of another
unfoldable pub number_of : List ℕ → Option ℕ
number_of word = if begins_as_one word && nat_le (length word) 10 then digits_number word else None
