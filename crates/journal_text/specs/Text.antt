-- The text of a journal, line by line. A line is given by its words.
use Rattle.std.specs.Prelude.{◌≡◌, ℕ, ◌+◌, ◌/◌, ◌==◌, length, map, List, [], ◌∷◌, ◌++◌, Option, None, Some, codes, if◌then◌else◌}
use Rattle.std.specs.List.{flat_map}
use Rattle.std.specs.Fmt.{decimal}
use Rattle.board.specs.Words.{move_word}
use Rattle.entries.specs.declared.action.Action.{Action}
use Rattle.entries.specs.declared.action.Action.TheVariants.{Move, Resign, Offer, Accept, Decline, Claim, Berserk}
use Rattle.entries.specs.declared.setup.Control.{Control}
use Rattle.entries.specs.declared.setup.Player.{Player}
use Rattle.entries.specs.declared.setup.Setup.{Setup}
use Rattle.entries.specs.declared.journal.What.{What}
use Rattle.entries.specs.declared.journal.What.TheVariants.{Enter, Pause, Leave, Act, Tick, Wave}
use Rattle.entries.specs.declared.journal.Entry.{Entry}
use Rattle.entries.specs.declared.journal.Start.{Start}
use Rattle.entries.specs.declared.journal.Journal.{Journal}
use Rattle.entries.specs.Ranges.{IsWritable, listed_at}
use Rattle.journal_text.specs.Lines.{line}

-- `arena 1`, or `arena 2` and `rule N`: the version of the form, and in version 2 the pairing rule
abbrev pub version_lines : ℕ → ℕ → List (List (List ℕ))
version_lines version rule =
    if version == 1 then (codes "arena" ∷ codes "1" ∷ []) ∷ [] else (codes "arena" ∷ codes "2" ∷ []) ∷ (codes "rule" ∷ decimal rule ∷ []) ∷ []

-- `control N N N`: the initial time and the increment in seconds, the time for the first move in milliseconds
abbrev pub control_words : Control → List (List ℕ)
control_words c = codes "control" ∷ decimal (c.initial_ms / 1000) ∷ decimal (c.inc_ms / 1000) ∷ decimal c.first_ms ∷ []

-- `window N N`: when the arena starts and when it ends
abbrev pub window_words : ℕ → ℕ → List (List ℕ)
window_words starts ends = codes "window" ∷ decimal starts ∷ decimal ends ∷ []

-- `WORD N`
abbrev pub number_words : List ℕ → ℕ → List (List ℕ)
number_words word n = word ∷ decimal n ∷ []

-- `team NAME`
abbrev pub team_words : List ℕ → List (List ℕ)
team_words name = codes "team" ∷ name ∷ []

-- the number of a team, or `-` for a player without one
abbrev pub team_word : Option ℕ → List ℕ
team_word None = codes "-"
team_word (Some team) = decimal team

-- `player N TEAM NAME`: a player's rating, team and name
abbrev pub player_words : Player → List (List ℕ)
player_words p = codes "player" ∷ decimal p.rating ∷ team_word p.team ∷ p.name ∷ []

-- what a player did in a game: `move WORD`, or the word alone
abbrev pub action_words : Action → List (List ℕ)
action_words (Move m) = codes "move" ∷ move_word m ∷ []
action_words Resign = codes "resign" ∷ []
action_words Offer = codes "offer" ∷ []
action_words Accept = codes "accept" ∷ []
action_words Decline = codes "decline" ∷ []
action_words Claim = codes "claim" ∷ []
action_words Berserk = codes "berserk" ∷ []

-- what an entry did: `enter P`, `pause P`, `leave P`, `act P G` and what was done in the game, `tick` or `wave N`
abbrev pub what_words : What → List (List ℕ)
what_words (Enter player) = codes "enter" ∷ decimal player ∷ []
what_words (Pause player) = codes "pause" ∷ decimal player ∷ []
what_words (Leave player) = codes "leave" ∷ decimal player ∷ []
what_words (Act player game action) = codes "act" ∷ decimal player ∷ decimal game ∷ action_words action
what_words Tick = codes "tick" ∷ []
what_words (Wave n) = codes "wave" ∷ decimal n ∷ []

-- `STAMP PASS`, and what the entry did
abbrev pub entry_words : Entry → List (List ℕ)
entry_words e = decimal e.stamp ∷ decimal e.pass ∷ what_words e.what

-- `W-B`: the two players of a game that a wave started, White first
abbrev pub pair_word : Start → List ℕ
pair_word g = decimal g.white ++ 45 ∷ decimal g.black

-- the lines of entries, of which the first has this number: each with the games that it lists
abbrev pub entry_lines : ℕ → List Start → List Entry → List (List (List ℕ))
entry_lines n starts [] = []
entry_lines n starts (e ∷ entries) = (entry_words e ++ map pair_word (listed_at n starts)) ∷ entry_lines (n + 1) starts entries

-- the lines before the teams: the version, the time control, the window, `wave N` and `leaders N`
abbrev pub head_lines : ℕ → Setup → List (List (List ℕ))
head_lines version s =
    version_lines version s.rule
    ++ control_words s.control ∷ window_words s.starts s.ends ∷ number_words (codes "wave") s.wave_ms ∷ number_words (codes "leaders") s.leaders ∷ []

-- these, the teams, the players and `begin`
abbrev pub setup_lines : ℕ → Setup → List (List (List ℕ))
setup_lines version s = head_lines version s ++ map team_words s.teams ++ map player_words s.players ++ (codes "begin" ∷ []) ∷ []

-- all lines: those of the setup, the entries in order, and `end`
abbrev pub journal_lines : Journal → List (List (List ℕ))
journal_lines j = setup_lines j.version j.setup ++ entry_lines 0 j.starts j.entries ++ (codes "end" ∷ []) ∷ []

-- the text: line behind line
unfoldable pub text_of : Journal → List ℕ
text_of j = flat_map line (journal_lines j)

-- the bytes are the text of this journal, and its values may stand in a text
pub record Spells (bytes : List ℕ) (j : Journal) : Type 0 where
  pub writable : IsWritable j
  pub text : text_of j ≡ bytes

-- the line of a journal's text on which an entry stands, by its place among the entries, from 0: lines count from 1
abbrev pub line_of_entry : Journal → ℕ → ℕ
line_of_entry j place = (if j.version == 1 then 7 else 8) + length j.setup.teams + length j.setup.players + place
