-- What the line of an entry says: first its form, then the ranges of its numbers, and then the entry and the games that it
-- lists.
use Rattle.std.specs.Prelude.{ℕ, ◌==◌, nat_lt, nat_le, Bool, true, ◌&&◌, not, List, [], ◌∷◌, length, Option, Some, None, is_some, option_map, option_and_then, Result, Ok, if◌then◌else◌, codes}
use Rattle.std.specs.List.{list_all, filter_map}
use Rattle.std.specs.Str.{bytes_eq}
use Rattle.board.specs.Moves.{MoveWord}
use Rattle.board.specs.Reading.{move_in}
use Rattle.decimals.specs.Decimals.{number_of}
use Rattle.entries.specs.declared.action.Action.{Action}
use Rattle.entries.specs.declared.action.Action.TheVariants as action
use Rattle.entries.specs.declared.journal.What.{What}
use Rattle.entries.specs.declared.journal.What.TheVariants as what
use Rattle.entries.specs.declared.journal.Entry.{Entry}
use Rattle.entries.specs.declared.journal.Start.{Start}
use Rattle.journal_text.specs.declared.entry_form.Kind.{Kind}
use Rattle.journal_text.specs.declared.entry_form.Kind.TheVariants as kind
use Rattle.journal_text.specs.declared.entry_form.Deed.{Deed}
use Rattle.journal_text.specs.declared.entry_form.Deed.TheVariants.{Enter, Pause, Leave, Act, Tick, Wave}
use Rattle.journal_text.specs.declared.entry_form.Said.{Said}
use Rattle.journal_text.specs.declared.fault.JournalCause.{JournalCause}
use Rattle.journal_text.specs.Lines.{parts_of, no_words, next_word, two}
use Rattle.journal_text.specs.Forms.{◌>>=◌, formed, ranged}

-- the number that the next word says, and the words behind it
abbrev pub next_number : List (List ℕ) → Option (ℕ × List (List ℕ))
next_number words = do
  w ← next_word words
  n ← number_of w.0
  Some (n, w.1)

-- the kind of entry that this word names
unfoldable pub kind_of : List ℕ → Option Kind
kind_of word =
    if bytes_eq word (codes "enter") then Some kind.Enter else (
    if bytes_eq word (codes "pause") then Some kind.Pause else (
    if bytes_eq word (codes "leave") then Some kind.Leave else (
    if bytes_eq word (codes "act") then Some kind.Act else (
    if bytes_eq word (codes "tick") then Some kind.Tick else (
    if bytes_eq word (codes "wave") then Some kind.Wave else None)))))

-- the action that this word names, where no further word belongs to it
unfoldable pub action_of : List ℕ → Option Action
action_of word =
    if bytes_eq word (codes "resign") then Some action.Resign else (
    if bytes_eq word (codes "offer") then Some action.Offer else (
    if bytes_eq word (codes "accept") then Some action.Accept else (
    if bytes_eq word (codes "decline") then Some action.Decline else (
    if bytes_eq word (codes "claim") then Some action.Claim else (
    if bytes_eq word (codes "berserk") then Some action.Berserk else None)))))

-- `move WORD`, or the word of another action, and the words behind it
unfoldable pub action_form : List (List ℕ) → Option (Action × List (List ℕ))
action_form words = do
  w ← next_word words
  if bytes_eq w.0 (codes "move") then (do
    m ← next_word w.1
    made ← move_in m.0
    Some (action.Move made, m.1)) else (do
      did ← action_of w.0
      Some (did, w.1))

-- what an entry of this kind did, and the words behind it
unfoldable pub deed_of : Kind → List (List ℕ) → Option (Deed × List (List ℕ))
deed_of kind.Enter words = do
  p ← next_number words
  Some (Enter p.0, p.1)
deed_of kind.Pause words = do
  p ← next_number words
  Some (Pause p.0, p.1)
deed_of kind.Leave words = do
  p ← next_number words
  Some (Leave p.0, p.1)
deed_of kind.Act words = do
  p ← next_number words
  g ← next_number p.1
  a ← action_form g.1
  Some (Act p.0 g.0 a.0, a.1)
deed_of kind.Tick words = Some (Tick, words)
deed_of kind.Wave words = do
  n ← next_number words
  Some (Wave n.0, n.1)

-- `W-B`
unfoldable pub pair_form : List ℕ → Option (ℕ × ℕ)
pair_form word = do
  w ← two (parts_of 45 word)
  white ← number_of w.0
  black ← number_of w.1
  Some (white, black)

-- each of the words has the form of a pair
abbrev pub are_pairs : List (List ℕ) → Bool
are_pairs words = list_all (λ w. is_some (pair_form w)) words

-- nothing stands behind what an entry did, but behind a wave of version 2 one or more pairs
abbrev pub ends_well : ℕ → Deed → List (List ℕ) → Bool
ends_well version (Wave n) words = if version == 1 then no_words words else not (no_words words) && are_pairs words
ends_well version deed words = no_words words

-- `STAMP PASS`, what the entry did, and the words of its pairs
unfoldable pub entry_form : ℕ → List (List ℕ) → Option (Said × List (List ℕ))
entry_form version words = do
  stamp ← next_number words
  pass ← next_number stamp.1
  w ← next_word pass.1
  kind ← kind_of w.0
  did ← deed_of kind w.1
  if ends_well version did.0 did.1 then Some (record { stamp = stamp.0; pass = pass.0; deed = did.0 }, did.1) else None

-- players below so many, games below 200,000, and up to 8,000,000 entries before a wave
abbrev pub deed_fits : ℕ → Deed → Bool
deed_fits players (Enter p) = nat_lt p players
deed_fits players (Pause p) = nat_lt p players
deed_fits players (Leave p) = nat_lt p players
deed_fits players (Act p game a) = nat_lt p players && nat_lt game 200000
deed_fits players Tick = true
deed_fits players (Wave n) = nat_le n 8000000

-- a pair of two of so many players
abbrev pub pair_in : ℕ → List ℕ → Option (ℕ × ℕ)
pair_in players word = do
  p ← pair_form word
  if nat_lt p.0 players && nat_lt p.1 players then Some p else None

-- at most 500 pairs, of so many players
abbrev pub pairs_fit : ℕ → List (List ℕ) → Bool
pairs_fit players words = nat_le (length words) 500 && list_all (λ w. is_some (pair_in players w)) words

-- a stamp up to 1,000,000,000, a pass up to 255, what it did and its pairs in range, behind fewer than 8,000,000 entries
abbrev pub entry_fits : ℕ → ℕ → Said × List (List ℕ) → Bool
entry_fits players entries e =
    nat_le e.0.stamp 1000000000 && nat_le e.0.pass 255 && deed_fits players e.0.deed && pairs_fit players e.1 && nat_lt entries 8000000

-- what the entry did
abbrev pub what_made : Deed → What
what_made (Enter p) = what.Enter p
what_made (Pause p) = what.Pause p
what_made (Leave p) = what.Leave p
what_made (Act p game a) = what.Act p game a
what_made Tick = what.Tick
what_made (Wave n) = what.Wave n

-- the entry with this stamp and pass, and what it did
abbrev pub entry_made : Said → Entry
entry_made e = record { stamp = e.stamp; pass = e.pass; what = what_made e.deed }

-- one of at most 8,000,000 entries, of so many players and behind so many entries, and the words of its pairs
unfoldable pub entry_in : ℕ → ℕ → ℕ → List (List ℕ) → Result (Entry × List (List ℕ)) JournalCause
entry_in version players entries words = formed (entry_form version words) (λ e. ranged (entry_fits players entries e) (Ok (entry_made e.0, e.1)))

-- the game of this pair, of the entry with this number
abbrev pub start_in : ℕ → ℕ → List ℕ → Option Start
start_in players entry word = option_map (λ (p : ℕ × ℕ). record { entry = entry; white = p.0; black = p.1 }) (pair_in players word)

-- the games of these pairs
unfoldable pub starts_in : ℕ → ℕ → List (List ℕ) → List Start
starts_in players entry words = filter_map (start_in players entry) words

-- entries, and the games that they list
pub record Recorded : Type 0 where
  pub entries : List Entry
  pub starts : List Start

-- no entries
abbrev pub no_entries : Recorded
no_entries = record { entries = []; starts = [] }
