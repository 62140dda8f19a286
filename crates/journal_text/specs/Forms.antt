-- What a line before the entries says. First a line has one of the forms, then what it says is built, then its values and
-- the count of its kind are in their ranges, and then its name is a new one.
use Rattle.std.specs.Prelude.{ℕ, ◌*◌, ◌==◌, nat_lt, nat_le, Bool, true, ◌&&◌, ◌||◌, not, List, length, Option, Some, None, option_and_then, Result, Ok, Err, if◌then◌else◌, codes}
use Rattle.std.specs.List.{list_any}
use Rattle.std.specs.Str.{bytes_eq}
use Rattle.decimals.specs.Decimals.{number_of}
use Rattle.entries.specs.Names.{is_name}
use Rattle.entries.specs.declared.setup.Control.{Control}
use Rattle.entries.specs.declared.setup.Player.{Player}
use Rattle.journal_text.specs.declared.fault.JournalCause.{JournalCause}
use Rattle.journal_text.specs.declared.fault.JournalCause.TheVariants.{Form, Range, Repeat}
use Rattle.journal_text.specs.Lines.{two, three, four}

-- the next step, where this one gave a value
infixl 10 ◌>>=◌
abbrev pub ◌>>=◌ : {A B : Type 0} → Option A → (A → Option B) → Option B
o >>= f = option_and_then f o

-- a line that has not this form is refused for it, and the further tests are of the values of one that has
abbrev pub formed : {A B : Type 0} → Option A → (A → Result B JournalCause) → Result B JournalCause
formed None further = Err Form
formed (Some values) further = further values

-- where the values are not in their ranges the line is refused for them
abbrev pub ranged : {B : Type 0} → Bool → Result B JournalCause → Result B JournalCause
ranged fits further = if fits then further else Err Range

-- one of the names is this one
abbrev pub is_taken : List (List ℕ) → List ℕ → Bool
is_taken names name = list_any (λ n. bytes_eq n name) names

-- a further name, of at most so many, is not one of those before
abbrev pub enrolled : {B : Type 0} → ℕ → List (List ℕ) → List ℕ → B → Result B JournalCause
enrolled most names name made = ranged (nat_lt (length names) most) (if is_taken names name then Err Repeat else Ok made)

-- `WORD N`
unfoldable pub number_form : List ℕ → List (List ℕ) → Option ℕ
number_form word words = do
  w ← two words
  if bytes_eq w.0 word then number_of w.1 else None

-- from the least to the most
abbrev pub is_within : ℕ → ℕ → ℕ → Bool
is_within least most n = nat_le least n && nat_le n most

-- the number of such a line, from the least to the most
unfoldable pub number_in : List ℕ → ℕ → ℕ → List (List ℕ) → Result ℕ JournalCause
number_in word least most words = formed (number_form word words) (λ n. ranged (is_within least most n) (Ok n))

-- the version of `arena 1` or `arena 2`: no other number makes this form
unfoldable pub version_form : List (List ℕ) → Option ℕ
version_form words = do
  version ← number_form (codes "arena") words
  if version == 1 || version == 2 then Some version else None

-- the version of its line
unfoldable pub version_in : List (List ℕ) → Result ℕ JournalCause
version_in words = formed (version_form words) (λ version. Ok version)

-- `control N N N`
unfoldable pub control_form : List (List ℕ) → Option (ℕ × ℕ × ℕ)
control_form words = do
  w ← four words
  if bytes_eq w.0 (codes "control") then (do
    initial ← number_of w.1
    increment ← number_of w.2
    opening ← number_of w.3
    Some (initial, increment, opening)) else None

-- up to 10,800 and up to 180 seconds, not both 0, and 1,000 to 300,000 milliseconds
abbrev pub control_fits : ℕ × ℕ × ℕ → Bool
control_fits n = nat_le n.0 10800 && nat_le n.1 180 && not (n.0 == 0 && n.1 == 0) && is_within 1000 300000 n.2

-- seconds are a thousand milliseconds each
abbrev pub control_made : ℕ × ℕ × ℕ → Control
control_made n = record { initial_ms = n.0 * 1000; inc_ms = n.1 * 1000; first_ms = n.2 }

-- the time control of its line
unfoldable pub control_in : List (List ℕ) → Result Control JournalCause
control_in words = formed (control_form words) (λ n. ranged (control_fits n) (Ok (control_made n)))

-- `window N N`
unfoldable pub window_form : List (List ℕ) → Option (ℕ × ℕ)
window_form words = do
  w ← three words
  if bytes_eq w.0 (codes "window") then (do
    starts ← number_of w.1
    ends ← number_of w.2
    Some (starts, ends)) else None

-- the start before the end, and the end at most 900,000,000
abbrev pub window_fits : ℕ × ℕ → Bool
window_fits n = nat_lt n.0 n.1 && nat_le n.1 900000000

-- the start and the end of an arena, of their line
unfoldable pub window_in : List (List ℕ) → Result (ℕ × ℕ) JournalCause
window_in words = formed (window_form words) (λ n. ranged (window_fits n) (Ok n))

-- `team NAME`
unfoldable pub team_form : List (List ℕ) → Option (List ℕ)
team_form words = do
  w ← two words
  if bytes_eq w.0 (codes "team") && is_name w.1 then Some w.1 else None

-- the name of one of at most 100 teams, behind those of the teams before
unfoldable pub team_in : List (List ℕ) → List (List ℕ) → Result (List ℕ) JournalCause
team_in names words = formed (team_form words) (λ name. enrolled 100 names name name)

-- `-`, or a number
unfoldable pub membership_form : List ℕ → Option (Option ℕ)
membership_form word = if bytes_eq word (codes "-") then Some None else (do
  team ← number_of word
  Some (Some team))

-- `player N TEAM NAME`
unfoldable pub player_form : List (List ℕ) → Option (ℕ × Option ℕ × List ℕ)
player_form words = do
  w ← four words
  if bytes_eq w.0 (codes "player") then (do
    rating ← number_of w.1
    team ← membership_form w.2
    if is_name w.3 then Some (rating, team, w.3) else None) else None

-- one of so many teams, from 0, or none
abbrev pub membership_fits : ℕ → Option ℕ → Bool
membership_fits teams None = true
membership_fits teams (Some team) = nat_lt team teams

-- 400 to 4,000 rating points, and one of so many teams or none
abbrev pub player_fits : ℕ → ℕ × Option ℕ × List ℕ → Bool
player_fits teams p = is_within 400 4000 p.0 && membership_fits teams p.1

-- the player with this rating, team and name
abbrev pub player_made : ℕ × Option ℕ × List ℕ → Player
player_made p = record { name = p.2; rating = p.0; team = p.1 }

-- one of at most 1,000 players, of so many teams, behind players with these names
unfoldable pub player_in : ℕ → List (List ℕ) → List (List ℕ) → Result Player JournalCause
player_in teams names words = formed (player_form words) (λ p. ranged (player_fits teams p) (enrolled 1000 names p.2 (player_made p)))
