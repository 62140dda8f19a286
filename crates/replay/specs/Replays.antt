-- What a replay has done where it ends so.
use Rattle.std.specs.Prelude.{◌≡◌, ℕ, ◌⊎◌, List, [], Option, Some, IfSome, Result, Ok, Err}
use Rattle.entries.specs.declared.journal.Journal.{Journal}
use Rattle.conn.specs.Told.{Gained, GainedPart}
use Rattle.arena_core.specs.Held.{Held}
use Rattle.replay.specs.declared.replay_end.ReplayEnd.{ReplayEnd}
use Rattle.replay.specs.declared.replay_end.ReplayEnd.TheVariants.{Done, BadJournal, Illegal, TooLong, ReadFault, WriteFault, OutOfMemory}
use Rattle.replay.specs.declared.reaching.NoText.{NoText}
use Rattle.replay.specs.declared.reaching.NoText.TheVariants as none
use Rattle.replay.specs.Fates as fate
use Rattle.replay.specs.Fates.{Fate}
use Rattle.replay.specs.Replayed.{Replayed}

-- the text of a legal journal, or why the bytes have none; want of memory says nothing
abbrev pub Judges : (Journal → List ℕ) → List ℕ → Result (List ℕ) NoText → Type 0
Judges made bytes (Ok text) = (j : Journal) × Replayed bytes (fate.Legal j) × (text ≡ made j)
Judges made bytes (Err (none.BadJournal fault)) = Replayed bytes (fate.BadJournal fault)
Judges made bytes (Err (none.Illegal line cause)) = Replayed bytes (fate.Illegal line cause)
Judges made bytes (Err none.OutOfMemory) = Unit {0}

-- the arena of a legal journal, or why the bytes have none
abbrev pub Reaches : List ℕ → Result Held NoText → Type 0
Reaches bytes (Ok a) = (j : Journal) × Replayed bytes (fate.Legal j) × (a.setup ≡ j.setup) × (a.entries ≡ j.entries)
Reaches bytes (Err (none.BadJournal fault)) = Replayed bytes (fate.BadJournal fault)
Reaches bytes (Err (none.Illegal line cause)) = Replayed bytes (fate.Illegal line cause)
Reaches bytes (Err none.OutOfMemory) = Unit {0}

-- this is what the bytes come to, where the source told them
abbrev pub HadFate : Option (List ℕ) → Fate → Type 0
HadFate told f = IfSome told (λ bytes. Replayed bytes f)

-- the bytes are a legal journal's, where the source told them, and a text is what is to be written of it
abbrev pub HadText : (Journal → List ℕ) → Option (List ℕ) → List ℕ → Type 0
HadText made told text = IfSome told (λ bytes. (j : Journal) × Replayed bytes (fate.Legal j) × (text ≡ made j))

-- a source that told its bytes has none left
abbrev pub IsReadToEnd : Option (List ℕ) → Option (List ℕ) → Type 0
IsReadToEnd told left = IfSome told (λ bytes. left ≡ Some [])

-- the bytes that a source or a sink tells, where it does
abbrev Told : Type 0
Told = Option (List ℕ)

-- what stands where a replay that writes this of a legal journal ends so: what the source had and has left, what the sink held and
-- holds
abbrev pub Ends : (Journal → List ℕ) → Told → Told → Told → Told → ReplayEnd → Type 0
Ends made told left old new Done = (text : List ℕ) × HadText made told text × Gained old new text × IsReadToEnd told left
Ends made told left old new (BadJournal fault) = HadFate told (fate.BadJournal fault) × (new ≡ old)
Ends made told left old new (Illegal line cause) = HadFate told (fate.Illegal line cause) × (new ≡ old)
Ends made told left old new TooLong = HadFate told fate.TooLong × (new ≡ old)
Ends made told left old new ReadFault = new ≡ old
Ends made told left old new WriteFault = (text : List ℕ) × HadText made told text × GainedPart old new text
Ends made told left old new OutOfMemory = new ≡ old

-- the end of a replay of a text that comes to this
abbrev pub end_due : Fate → ReplayEnd
end_due fate.TooLong = TooLong
end_due (fate.BadJournal fault) = BadJournal fault
end_due (fate.Illegal line cause) = Illegal line cause
end_due (fate.Legal j) = Done

-- a read or a write failed, or memory ran out
abbrev pub IsHindered : ReplayEnd → Type 0
IsHindered end = (end ≡ ReadFault) ⊎ (end ≡ WriteFault) ⊎ (end ≡ OutOfMemory)

-- a replay ended as is due for a text that comes to this, unless it was hindered
abbrev pub MeetsFate : Fate → ReplayEnd → Type 0
MeetsFate f end = (end ≡ end_due f) ⊎ IsHindered end
