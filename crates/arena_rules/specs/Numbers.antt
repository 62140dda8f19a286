-- The numbers of the refusals.
use Rattle.std.specs.Prelude.{ℕ}
use Rattle.arena_rules.specs.declared.refusal.Refusal.{Refusal}
use Rattle.arena_rules.specs.declared.refusal.Refusal.TheVariants.{NotEntered, AlreadyIn, AlreadyPaused, Left, Closed, NoGame, NotYours, Act, NothingDue, Full}

-- 1 to 10, in their order
abbrev pub number_of : Refusal → ℕ
number_of NotEntered = 1
number_of AlreadyIn = 2
number_of AlreadyPaused = 3
number_of Left = 4
number_of Closed = 5
number_of NoGame = 6
number_of NotYours = 7
number_of (Act r) = 8
number_of NothingDue = 9
number_of Full = 10
