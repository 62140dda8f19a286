-- The words that name a cause, and the line that is written of it.
use Rattle.std.specs.Prelude.{ℕ, List, [], ◌∷◌, ◌++◌, codes}
use Rattle.std.specs.Fmt.{decimal}
use Rattle.game_room.specs.declared.refusal.ActRefusal.{ActRefusal}
use Rattle.game_room.specs.declared.refusal.ActRefusal.TheVariants as act
use Rattle.arena_rules.specs.declared.refusal.Refusal.{Refusal}
use Rattle.arena_rules.specs.declared.refusal.Refusal.TheVariants as refusal
use Rattle.journal_text.specs.declared.fault.JournalCause.{JournalCause}
use Rattle.journal_text.specs.declared.fault.JournalCause.TheVariants as journal
use Rattle.journal_replay.specs.declared.illegal.IllegalCause.{IllegalCause}
use Rattle.journal_replay.specs.declared.illegal.IllegalCause.TheVariants.{StampFalls, Refused, Early, Closed, WaveNumber, WaveEmpty, Full, PairsDiffer}

-- the word of each cause for which a text is no journal's
abbrev pub journal_word : JournalCause → List ℕ
journal_word journal.Ended = codes "Ended"
journal_word journal.Form = codes "Form"
journal_word journal.Range = codes "Range"
journal_word journal.Repeat = codes "Repeat"
journal_word journal.After = codes "After"

-- the word of each cause for which a game refuses an action
abbrev pub act_word : ActRefusal → List ℕ
act_word act.Over = codes "Over"
act_word act.NotYourTurn = codes "NotYourTurn"
act_word act.Illegal = codes "Illegal"
act_word act.OfferStands = codes "OfferStands"
act_word act.NoOffer = codes "NoOffer"
act_word act.NoClaim = codes "NoClaim"
act_word act.BerserkLate = codes "BerserkLate"
act_word act.BerserkTwice = codes "BerserkTwice"
act_word act.BerserkZero = codes "BerserkZero"

-- the word of each refusal: of a game's refusal it is that one's own
abbrev pub refusal_word : Refusal → List ℕ
refusal_word refusal.NotEntered = codes "NotEntered"
refusal_word refusal.AlreadyIn = codes "AlreadyIn"
refusal_word refusal.AlreadyPaused = codes "AlreadyPaused"
refusal_word refusal.Left = codes "Left"
refusal_word refusal.Closed = codes "Closed"
refusal_word refusal.NoGame = codes "NoGame"
refusal_word refusal.NotYours = codes "NotYours"
refusal_word (refusal.Act r) = act_word r
refusal_word refusal.NothingDue = codes "NothingDue"
refusal_word refusal.Full = codes "Full"

-- the word of each cause for which an entry is not allowed: of a refusal it is the refusal's own
abbrev pub illegal_word : IllegalCause → List ℕ
illegal_word StampFalls = codes "StampFalls"
illegal_word (Refused r) = refusal_word r
illegal_word Early = codes "Early"
illegal_word Closed = codes "Closed"
illegal_word WaveNumber = codes "WaveNumber"
illegal_word WaveEmpty = codes "WaveEmpty"
illegal_word Full = codes "Full"
illegal_word PairsDiffer = codes "PairsDiffer"

-- `line L: CAUSE`
abbrev pub cause_line : ℕ → List ℕ → List ℕ
cause_line line word = codes "line " ++ (decimal line ++ (codes ": " ++ (word ++ 10 ∷ [])))
