-- Where a head ends: at the first empty line behind a line that is not empty. A line ends in LF, and it is empty if it is LF or
-- CR LF.
use Rattle.std.specs.Prelude.{ℕ, ◌+◌, ◌==◌, List, [], ◌∷◌, Option, Some, None, Result, Ok, Err, if◌then◌else◌}
use Rattle.http_lines.specs.declared.place.Place.{Place}
use Rattle.http_lines.specs.declared.place.Place.TheVariants.{Before, BeforeReturn, Inside, Between, BetweenReturn}

-- the place one byte further on, or nothing where the byte ends the head
abbrev pub step : Place → ℕ → Option Place
step Before b = if b == 10 then Some Before else (if b == 13 then Some BeforeReturn else Some Inside)
step BeforeReturn b = if b == 10 then Some Before else Some Inside
step Inside b = if b == 10 then Some Between else Some Inside
step Between b = if b == 10 then None else (if b == 13 then Some BetweenReturn else Some Inside)
step BetweenReturn b = if b == 10 then None else Some Inside

-- one byte more was searched
abbrev pub one_more : Result ℕ Place → Result ℕ Place
one_more (Ok n) = Ok (n + 1)
one_more (Err place) = Err place

-- one byte further on: the head ended with it, or the search goes on from the next place
abbrev pub after_byte : Option Place → (Place → Result ℕ Place) → Result ℕ Place
after_byte None go_on = Ok 1
after_byte (Some next) go_on = one_more (go_on next)

-- how many bytes it takes from this place to the head's end, or the place behind all of them
abbrev pub found_from : Place → List ℕ → Result ℕ Place
found_from place [] = Err place
found_from place (b ∷ bytes) = after_byte (step place b) (λ next. found_from next bytes)

-- how many bytes the head at the front takes, the empty lines before it among them, or where the bytes stand that hold no
-- whole head
abbrev pub head_end : List ℕ → Result ℕ Place
head_end bytes = found_from Before bytes
