-- What a member of a JSON object gives, or the first cause that holds of it, in the order Missing, Kind, Range, Repeat,
-- UnknownTeam.
use Rattle.std.specs.Prelude.{◌≡◌, ℕ, ◌&&◌, nat_le, Bool, List, [], ◌∷◌, position, Option, Some, None, is_some, unwrap_or, option_map, option_and_then, Result, Ok, Err, if◌then◌else◌}
use Rattle.std.specs.List.{list_any}
use Rattle.std.specs.Str.{bytes_eq, IsUtf8, is_utf8}
use Rattle.serde_json.specs.Data.{Data, Items, no_items, item}
use Rattle.serde_json.specs.Find.{as_null, as_number, as_u64, as_str, as_array, as_object}
use Rattle.serde_json.specs.Read.{read}
use Rattle.setup_file.specs.declared.fault.SetupCause.{SetupCause}
use Rattle.setup_file.specs.declared.fault.SetupCause.TheVariants.{Missing, Kind, Range, Repeat, UnknownTeam}

-- the next step, where this one gave a value
infixl 10 ◌>>=◌
abbrev pub ◌>>=◌ : {A B E : Type 0} → Result A E → (A → Result B E) → Result B E
(Ok x) >>= f = f x
(Err fault) >>= f = Err fault

-- the bytes are a JSON text of this value
abbrev pub IsTree : List ℕ → Data → Type 0
IsTree bytes tree = IsUtf8 bytes × (read bytes ≡ Some tree)

-- the JSON value of these bytes, where they have one
abbrev pub tree_of : List ℕ → Option Data
tree_of bytes = if is_utf8 bytes then read bytes else None

-- the value, or this cause where there is none
abbrev pub found : {A : Type 0} → SetupCause → Option A → Result A SetupCause
found cause None = Err cause
found cause (Some x) = Ok x

-- a member, read as its kind, or what stands for one that is missing
abbrev pub valued : {A : Type 0} → Option A → (Data → Option A) → Option Data → Result A SetupCause
valued default kind None = found Missing default
valued default kind (Some d) = found Kind (kind d)

-- the value is in its range
abbrev pub ranged : {A : Type 0} → Bool → A → Result A SetupCause
ranged fits x = if fits then Ok x else Err Range

-- a whole number: no sign, no point, no exponent, and below 2 to the 64th
abbrev pub whole : Data → Option ℕ
whole d = option_and_then as_u64 (as_number d)

-- an object
abbrev pub is_object : Data → Bool
is_object d = is_some (as_object d)

-- the value, if it is an object
abbrev pub an_object : Data → Option Data
an_object d = if is_object d then Some d else None

-- null
abbrev pub is_null : Data → Bool
is_null d = is_some (as_null d)

-- a text
abbrev pub is_text : Data → Bool
is_text d = is_some (as_str d)

-- the bytes of a text
abbrev pub text_of : Data → List ℕ
text_of d = unwrap_or (as_str d) []

-- the elements of a list, in order
abbrev pub in_order : Items → List Data
in_order no_items = []
in_order (item d ds) = d ∷ in_order ds

-- the elements of a value, if it is a list
abbrev pub elements : Data → Option (List Data)
elements d = option_map in_order (as_array d)

-- from the least to the most
abbrev pub is_within : ℕ → ℕ → ℕ → Bool
is_within least most n = nat_le least n && nat_le n most

-- a whole number from the least to the most
unfoldable pub number_in : Option ℕ → ℕ → ℕ → Option Data → Result ℕ SetupCause
number_in default least most member = do
  n ← valued default whole member
  ranged (is_within least most n) n

-- the text stands among these
abbrev pub is_taken : List (List ℕ) → List ℕ → Bool
is_taken before text = list_any (λ t. bytes_eq text t) before

-- a text that has its form and does not stand among those before
abbrev pub fresh : Bool → List (List ℕ) → List ℕ → Result (List ℕ) SetupCause
fresh formed before text = if formed then (if is_taken before text then Err Repeat else Ok text) else Err Range

-- a text of this form that does not stand among those before
unfoldable pub fresh_in : (List ℕ → Bool) → List (List ℕ) → Option Data → Result (List ℕ) SetupCause
fresh_in form before member = do
  text ← valued None as_str member
  fresh (form text) before text

-- the first place of a text among these
abbrev pub place_of : List (List ℕ) → List ℕ → Option ℕ
place_of texts text = position (λ t. bytes_eq text t) texts

-- a player's team: none where the member is missing or null, and else the one of this name
unfoldable pub team_in : List (List ℕ) → Option Data → Result (Option ℕ) SetupCause
team_in teams None = Ok None
team_in teams (Some d) = if is_null d then Ok None else (do
  name ← found Kind (as_str d)
  team ← found UnknownTeam (place_of teams name)
  Ok (Some team))
