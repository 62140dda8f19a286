-- Reading a text from line to line, up to the first line that cannot stand. Lines count from 1.
use Rattle.std.specs.Prelude.{◌≡◌, ℕ, ◌+◌, ◌==◌, Bool, true, false, List, [], ◌∷◌, ◌++◌, length, map, Option, None, Some, is_some, Result, Ok, Err, if◌then◌else◌, codes}
use Rattle.entries.specs.declared.setup.Player.{Player}
use Rattle.entries.specs.declared.setup.Setup.{Setup}
use Rattle.entries.specs.declared.journal.Entry.{Entry}
use Rattle.entries.specs.declared.journal.Start.{Start}
use Rattle.entries.specs.declared.journal.Journal.{Journal}
use Rattle.journal_text.specs.declared.fault.JournalCause.{JournalCause}
use Rattle.journal_text.specs.declared.fault.JournalCause.TheVariants.{Ended, After}
use Rattle.journal_text.specs.declared.fault.JournalFault.{JournalFault}
use Rattle.journal_text.specs.declared.fault.ReadJournalFault.{ReadJournalFault}
use Rattle.journal_text.specs.declared.fault.ReadJournalFault.TheVariants.{Bad, OutOfMemory}
use Rattle.journal_text.specs.declared.head.Place.{Place}
use Rattle.journal_text.specs.declared.head.Place.TheVariants.{Version, Rule, Control, Window, Wave, Leaders}
use Rattle.journal_text.specs.declared.head.Head.{Head}
use Rattle.journal_text.specs.declared.names.Stand.{Stand}
use Rattle.journal_text.specs.declared.names.Stand.TheVariants.{Team, Player as APlayer, Begin}
use Rattle.journal_text.specs.Lines.{lines_of, words_of, is_word, first}
use Rattle.journal_text.specs.Forms.{version_in, control_in, window_in, number_in, team_form, team_in, player_in}
use Rattle.journal_text.specs.EntryForms.{Recorded, no_entries, entry_in, starts_in}

-- the next step, where this one gave no fault
infixl 10 ◌>>=◌
abbrev pub ◌>>=◌ : {A B E : Type 0} → Result A E → (A → Result B E) → Result B E
(Ok x) >>= f = f x
(Err fault) >>= f = Err fault

-- ---- what stands so far, and one line more

-- what the lines so far have said
pub data Sofar : Type 0 where
  -- some of the head, and which line of it comes next
  InHead : Place → Head → Sofar
  -- the head, and some teams and players
  InNames : Head → List (List ℕ) → List Player → Sofar
  -- the head, the teams, the players, and some entries with the games that they list
  InEntries : Head → List (List ℕ) → List Player → Recorded → Sofar
  -- a whole journal
  Behind : Journal → Sofar

-- no line: the values stand in for those that no line has said yet, and a journal of version 1 is under the first rule
abbrev pub nothing : Head
nothing = record { version = 1; rule = 1; control = record { initial_ms = 0; inc_ms = 0; first_ms = 0 }; starts = 0; ends = 0; wave_ms = 0; leaders = 0 }

-- the line of the head behind that of the version
abbrev pub behind_version : ℕ → Place
behind_version version = if version == 1 then Control else Rule

-- the head with one line more, and the line of it that comes next, if one does
unfoldable pub head_in : Place → Head → List (List ℕ) → Result (Option Place × Head) JournalCause
head_in Version h words = do
  version ← version_in words
  Ok (Some (behind_version version), record h { version = version })
head_in Rule h words = do
  rule ← number_in (codes "rule") 1 2 words
  Ok (Some Control, record h { rule = rule })
head_in Control h words = do
  control ← control_in words
  Ok (Some Window, record h { control = control })
head_in Window h words = do
  window ← window_in words
  Ok (Some Wave, record h { starts = window.0; ends = window.1 })
head_in Wave h words = do
  wave ← number_in (codes "wave") 100 600000 words
  Ok (Some Leaders, record h { wave_ms = wave })
head_in Leaders h words = do
  leaders ← number_in (codes "leaders") 1 20 words
  Ok (None, record h { leaders = leaders })

-- behind a line of the head
abbrev pub behind_head : Option Place × Head → Sofar
behind_head (None, h) = InNames h [] []
behind_head (Some place, h) = InHead place h

-- what a line between the head and the entries is: a team's or a player's up to the first player, then a player's or `begin`
abbrev pub stand_of : ℕ → List (List ℕ) → Stand
stand_of players words =
    if players == 0 then (if is_some (team_form words) then Team else APlayer) else (if is_word (codes "begin") words then Begin else APlayer)

-- the names of players, in order
abbrev pub names_of : List Player → List (List ℕ)
names_of players = map (λ (p : Player). p.name) players

-- behind a line between the head and the entries
abbrev pub name_in : Head → List (List ℕ) → List Player → List (List ℕ) → Stand → Result Sofar JournalCause
name_in h teams players words Team = do
  name ← team_in teams words
  Ok (InNames h (teams ++ name ∷ []) players)
name_in h teams players words APlayer = do
  player ← player_in (length teams) (names_of players) words
  Ok (InNames h teams (players ++ player ∷ []))
name_in h teams players words Begin = Ok (InEntries h teams players no_entries)

-- the setup with these lines, teams and players
abbrev pub setup_made : Head → List (List ℕ) → List Player → Setup
setup_made h teams players = record { control = h.control; starts = h.starts; ends = h.ends; wave_ms = h.wave_ms; leaders = h.leaders; rule = h.rule; teams = teams; players = players }

-- the journal with this head, these teams and players, and these entries
abbrev pub journal_made : Head → List (List ℕ) → List Player → Recorded → Journal
journal_made h teams players r = record { setup = setup_made h teams players; version = h.version; entries = r.entries; starts = r.starts }

-- one entry more, and the games that its pairs say
abbrev pub recorded : ℕ → Recorded → Entry × List (List ℕ) → Recorded
recorded players r e = record { entries = r.entries ++ e.0 ∷ []; starts = r.starts ++ starts_in players (length r.entries) e.1 }

-- the entries with that of one line more
abbrev pub record_in : ℕ → ℕ → Recorded → List (List ℕ) → Result Recorded JournalCause
record_in version players r words = do
  e ← entry_in version players (length r.entries) words
  Ok (recorded players r e)

-- what stands with one line more, or the first cause for which this line cannot stand
unfoldable pub step : Sofar → List (List ℕ) → Result Sofar JournalCause
step (InHead place h) words = do
  next ← head_in place h words
  Ok (behind_head next)
step (InNames h teams players) words = name_in h teams players words (stand_of (length players) words)
step (InEntries h teams players r) words =
    if is_word (codes "end") words then Ok (Behind (journal_made h teams players r)) else (do
      further ← record_in h.version (length players) r words
      Ok (InEntries h teams players further))
step (Behind j) words = Err After

-- ---- a text

-- the fault of a line, of this cause
abbrev pub fault_at : ℕ → JournalCause → JournalFault
fault_at line cause = record { line = line; cause = cause }

-- what this line says, or the fault of it
abbrev pub at_line : {A : Type 0} → ℕ → Result A JournalCause → Result A JournalFault
at_line line (Ok x) = Ok x
at_line line (Err cause) = Err (fault_at line cause)

-- what stands behind the last line feed: nothing may stand behind a whole journal, and before its end a line is missing or unfinished
abbrev pub last : Sofar → ℕ → List ℕ → Result Journal JournalFault
last (Behind j) line rest = if length rest == 0 then Ok j else Err (fault_at line After)
last _ line rest = Err (fault_at line Ended)

-- the journal that these lines make behind what stands, of which the first has this number, or the fault of the first that cannot stand: what stands behind the last line feed comes last
unfoldable pub run : Sofar → ℕ → List (List ℕ) → Result Journal JournalFault
run s line [] = Err (fault_at line Ended)
run s line (rest ∷ []) = last s line rest
run s line (words ∷ next ∷ more) = do
  further ← at_line line (step s (words_of words))
  run further (line + 1) (next ∷ more)

-- the journal of the whole text, or its first fault
unfoldable pub journal_in : List ℕ → Result Journal JournalFault
journal_in text = run (InHead Version nothing) 1 (lines_of text)

-- the first fault, if there is one
abbrev pub fault_in : Result Journal JournalFault → Option JournalFault
fault_in (Ok j) = None
fault_in (Err fault) = Some fault

-- the first fault of a text: none where it is a journal's
abbrev pub fault_of : List ℕ → Option JournalFault
fault_of text = fault_in (journal_in text)

-- what may be answered for a text in the place of a journal: its first fault, or that memory ran out
abbrev pub IsFault : List ℕ → ReadJournalFault → Type 0
IsFault text (Bad fault) = fault_of text ≡ Some fault
IsFault text OutOfMemory = Unit {0}

-- ---- what a part of the reading answers

-- where this line is missing or unfinished, the reading ends in a fault
abbrev pub found : {A : Type 0} → ℕ → Option A → Result A JournalFault
found line None = Err (fault_at line Ended)
found line (Some x) = Ok x

-- the next line, which is this one, and what is behind it: what no line feed ends is no line
abbrev pub next : ℕ → List (List ℕ) → Result (List ℕ × List (List ℕ)) JournalFault
next line lines = found line (first lines)

-- what a function answered, seen by view, is what reading gives
abbrev pub Shows : {X Y E : Type 0} → (X → Y) → Result X E → Result Y E → Type 0
Shows view (Ok x) reading = reading ≡ Ok (view x)
Shows view (Err fault) reading = reading ≡ Err fault

-- the whole reading goes on from what was answered, or ends in the fault that was answered, unless memory ran out
abbrev pub GoesOn : {X Y : Type 0} → (X → Result Y JournalFault) → Result X ReadJournalFault → Result Y JournalFault → Type 0
GoesOn further (Ok x) whole = whole ≡ further x
GoesOn further (Err (Bad fault)) whole = whole ≡ Err fault
GoesOn further (Err OutOfMemory) whole = Unit {0}
