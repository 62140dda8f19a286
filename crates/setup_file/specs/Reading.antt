-- Reading a setup from its JSON value, up to the first fault.
use Rattle.std.specs.Prelude.{◌≡◌, ℕ, ◌+◌, ◌*◌, ◌==◌, nat_le, not, List, [], ◌∷◌, ◌++◌, length, map, min, position, Option, Some, None, Result, Ok, Err, if◌then◌else◌, codes, ⊤}
use Rattle.serde_json.specs.Data.{Data}
use Rattle.serde_json.specs.Find.{get}
use Rattle.entries.specs.Names.{is_name}
use Rattle.entries.specs.declared.setup.Control.{Control}
use Rattle.entries.specs.declared.setup.Player.{Player}
use Rattle.entries.specs.declared.setup.Setup.{Setup}
use Rattle.setup_file.specs.declared.fault.Member.{Member}
use Rattle.setup_file.specs.declared.fault.Member.TheVariants as member
use Rattle.setup_file.specs.declared.fault.SetupCause.{SetupCause}
use Rattle.setup_file.specs.declared.fault.SetupCause.TheVariants.{NotJson, Kind, Range, Repeat}
use Rattle.setup_file.specs.declared.fault.SetupFault.{SetupFault}
use Rattle.setup_file.specs.declared.fault.ReadSetupFault.{ReadSetupFault}
use Rattle.setup_file.specs.declared.fault.ReadSetupFault.TheVariants.{Bad, OutOfMemory}
use Rattle.setup_file.specs.declared.head.Head.{Head}
use Rattle.setup_file.specs.Keys.{is_key}
use Rattle.setup_file.specs.Members.{◌>>=◌, tree_of, found, valued, ranged, an_object, is_object, is_text, text_of, elements, is_within, number_in, is_taken, fresh_in, team_in}

-- what a function answered, seen by view, is what reading gives
abbrev pub Shows : {X Y E : Type 0} → (X → Y) → Result X E → Result Y E → Type 0
Shows view (Ok x) reading = reading ≡ Ok (view x)
Shows view (Err fault) reading = reading ≡ Err fault

-- the same, unless memory ran out
abbrev pub Gives : {X Y : Type 0} → (X → Y) → Result X ReadSetupFault → Result Y SetupFault → Type 0
Gives view (Ok x) reading = reading ≡ Ok (view x)
Gives view (Err (Bad fault)) reading = reading ≡ Err fault
Gives view (Err OutOfMemory) reading = Unit {0}

-- the greatest index that a fault can name: any later element has it too
abbrev pub last_index : ℕ
last_index = 4294967295

-- the fault of a member, or of an element of a list, of this cause
abbrev pub fault_of : Member → ℕ → SetupCause → SetupFault
fault_of member index cause = record { member = member; index = index; cause = cause }

-- what this member gives, or the fault of it
abbrev pub at : {A : Type 0} → Member → ℕ → Result A SetupCause → Result A SetupFault
at member index (Ok x) = Ok x
at member index (Err cause) = Err (fault_of member index cause)

-- no element has this fault, or the first that has it does
abbrev pub none_at : Member → SetupCause → Option ℕ → Result ⊤ SetupFault
none_at member cause None = Ok tt
none_at member cause (Some place) = Err (fault_of member (min place last_index) cause)

-- the time control
unfoldable pub control_in : Data → Result Control SetupFault
control_in tree = do
  control ← at member.Control 0 (valued None an_object (get (codes "control") tree))
  initial ← at member.Initial 0 (number_in None 0 10800 (get (codes "initial") control))
  increment ← at member.Increment 0 (number_in None (if initial == 0 then 1 else 0) 180 (get (codes "increment") control))
  opening ← at member.First 0 (number_in (Some 20000) 1000 300000 (get (codes "first") control))
  Ok (record { initial_ms = initial * 1000; inc_ms = increment * 1000; first_ms = opening })

-- the members before the teams
unfoldable pub head_in : Data → Result Head SetupFault
head_in tree = do
  control ← control_in tree
  starts ← at member.Starts 0 (number_in None 0 899999999 (get (codes "starts") tree))
  ends ← at member.Ends 0 (number_in None (starts + 1) 900000000 (get (codes "ends") tree))
  wave ← at member.Wave 0 (number_in (Some 5000) 100 600000 (get (codes "wave") tree))
  leaders ← at member.Leaders 0 (number_in (Some 5) 1 20 (get (codes "leaders") tree))
  rule ← at member.Rule 0 (number_in (Some 1) 1 2 (get (codes "rule") tree))
  Ok (record { control = control; starts = starts; ends = ends; wave_ms = wave; leaders = leaders; rule = rule })

-- the names, behind these, up to the first that stood before
unfoldable pub different_in : List (List ℕ) → List (List ℕ) → Result (List (List ℕ)) SetupFault
different_in before [] = Ok before
different_in before (name ∷ names) =
    if is_taken before name then Err (fault_of member.Teams (length before) Repeat) else different_in (before ++ name ∷ []) names

-- the names of the teams: each test goes over the whole list before the next one
unfoldable pub teams_in : Data → Result (List (List ℕ)) SetupFault
teams_in tree = do
  teams ← at member.Teams 0 (valued (Some []) elements (get (codes "teams") tree))
  texts ← none_at member.Teams Kind (position (λ team. not (is_text team)) teams)
  few ← at member.Teams 0 (ranged (nat_le (length teams) 100) teams)
  names ← none_at member.Teams Range (position (λ team. not (is_name (text_of team))) teams)
  different_in [] (map text_of teams)

-- the objects of the players: each test goes over the whole list before the next one
unfoldable pub objects_in : Data → Result (List Data) SetupFault
objects_in tree = do
  players ← at member.Players 0 (valued None elements (get (codes "players") tree))
  objects ← none_at member.Players Kind (position (λ player. not (is_object player)) players)
  at member.Players 0 (ranged (is_within 1 1000 (length players)) players)

-- the names of players, in order
abbrev pub names_of : List Player → List (List ℕ)
names_of players = map (λ (p : Player). p.name) players

-- a player of one of these teams and his key, behind players with these names and keys
unfoldable pub player_in : List (List ℕ) → List (List ℕ) → List (List ℕ) → Data → Result (Player × List ℕ) SetupFault
player_in teams names keys tree = do
  name ← at member.Name (length names) (fresh_in is_name names (get (codes "name") tree))
  rating ← at member.Rating (length names) (number_in None 400 4000 (get (codes "rating") tree))
  key ← at member.Key (length names) (fresh_in is_key keys (get (codes "key") tree))
  team ← at member.Team (length names) (team_in teams (get (codes "team") tree))
  Ok (record { name = name; rating = rating; team = team }, key)

-- the players and their keys, behind those that were read so far
unfoldable pub players_in : List (List ℕ) → List Player → List (List ℕ) → List Data → Result (List Player × List (List ℕ)) SetupFault
players_in teams players keys [] = Ok (players, keys)
players_in teams players keys (tree ∷ trees) = do
  p ← player_in teams (names_of players) keys tree
  players_in teams (players ++ p.0 ∷ []) (keys ++ p.1 ∷ []) trees

-- the setup with these members, teams and players
abbrev pub setup_made : Head → List (List ℕ) → List Player → Setup
setup_made head teams players = record { control = head.control; starts = head.starts; ends = head.ends; wave_ms = head.wave_ms; leaders = head.leaders; rule = head.rule; teams = teams; players = players }

-- the setup and the players' keys of a JSON value, or its first fault
unfoldable pub read_tree : Data → Result (Setup × List (List ℕ)) SetupFault
read_tree tree = do
  whole ← at member.Whole 0 (found Kind (an_object tree))
  head ← head_in tree
  teams ← teams_in tree
  objects ← objects_in tree
  listed ← players_in teams [] [] objects
  Ok (setup_made head teams listed.0, listed.1)

-- that bytes are no JSON text
abbrev pub not_json : Result (Setup × List (List ℕ)) SetupFault
not_json = Err (fault_of member.Whole 0 NotJson)

-- the setup and the players' keys that bytes say, or their first fault
unfoldable pub read_bytes : List ℕ → Result (Setup × List (List ℕ)) SetupFault
read_bytes bytes = do
  tree ← at member.Whole 0 (found NotJson (tree_of bytes))
  read_tree tree
