-- What a run of the program has done, by its words and its status.
use Rattle.std.specs.Prelude.{◌≡◌, ℕ, ◌⊎◌, List, [], ◌∷◌, Option, Some, None, IfSome, Result, Ok, Err, codes}
use Rattle.conn.specs.Told.{Gained, GainedPart}
use Rattle.replay.specs.declared.replay_end.ReplayEnd.{ReplayEnd}
use Rattle.replay.specs.declared.replay_end.ReplayEnd.TheVariants as end
use Rattle.arena_main.specs.declared.forms.Form.{Form}
use Rattle.arena_main.specs.declared.forms.Form.TheVariants as form
use Rattle.arena_main.specs.declared.status.Status.{Status}
use Rattle.arena_main.specs.declared.status.Status.TheVariants.{Done, BadWords, BadJournal, Illegal, TooLong, ReadFault, WriteFault, OutOfMemory}
use Rattle.replay.specs.declared.replaying.Wanted.{Wanted}
use Rattle.replay.specs.declared.replaying.Wanted.TheVariants.{Table, Upgraded, Games}
use Rattle.replay.specs.Fates as fate
use Rattle.replay.specs.Fates.{Fate}
use Rattle.replay.specs.Replayed.{Replayed}
use Rattle.replay.specs.Replays.{HadFate, HadText, IsReadToEnd}
use Rattle.entries.specs.declared.journal.Journal.{Journal}
use Rattle.journal_text.specs.declared.fault.JournalFault.{JournalFault}
use Rattle.journal_replay.specs.declared.illegal.IllegalCause.{IllegalCause}
use Rattle.table_text.specs.Table.{summary}
use Rattle.workload.specs.Setups.{setup_of}
use Rattle.workload.specs.Workloads.{entries_of}
use Rattle.arena_main.specs.Forms.{HasForm}
use Rattle.arena_main.specs.Words.{cause_line, journal_word, illegal_word}
use Rattle.arena_main.specs.declared.telling.TellFault.{TellFault}
use Rattle.arena_main.specs.declared.telling.TellFault.TheVariants as hindered

-- the form that asks for this of a journal
abbrev pub form_of : Wanted → Form
form_of Table = form.Replay
form_of Upgraded = form.Upgrade
form_of Games = form.Pgn

-- the words are the one word that asks for this of a journal
abbrev pub Asks : List (List ℕ) → Wanted → Type 0
Asks words wanted = HasForm words (form_of wanted)

-- the words ask for nothing of a journal, and for no large journal
abbrev pub AsksNothing : List (List ℕ) → Type 0
AsksNothing words = ((wanted : Wanted) → ¬ Asks words wanted) × ((seed players : ℕ) → ¬ HasForm words (form.Gen seed players))

-- the form asks for nothing of a journal, and for no large journal
abbrev pub IsOther : Option Form → Type 0
IsOther None = Unit {0}
IsOther (Some (form.Serve port workers)) = Unit {0}
IsOther (Some form.Replay) = ⊥
IsOther (Some form.Upgrade) = ⊥
IsOther (Some form.Pgn) = ⊥
IsOther (Some (form.Gen seed players)) = ⊥

-- what is written for other words
abbrev pub usage : List ℕ
usage = codes "usage: arena_main replay | upgrade | pgn | gen SEED PLAYERS | serve SETUP PORT WORKERS JOURNAL\n"

-- a run whose words are none of its forms: it has written the usage line, or a beginning of it where a write failed
abbrev pub RefusesWords : Option (List ℕ) → Option (List ℕ) → Status → Type 0
RefusesWords old new BadWords = Gained old new usage
RefusesWords old new WriteFault = GainedPart old new usage
RefusesWords old new Done = ⊥
RefusesWords old new BadJournal = ⊥
RefusesWords old new Illegal = ⊥
RefusesWords old new TooLong = ⊥
RefusesWords old new ReadFault = ⊥
RefusesWords old new OutOfMemory = ⊥

-- a run for a seed and a number of players: it has written the beginning and the end of the table of their journal, or a part of
-- that where a write failed, or nothing where memory ran out
abbrev pub Generates : ℕ → ℕ → Option (List ℕ) → Option (List ℕ) → Status → Type 0
Generates seed players old new Done = Gained old new (summary (setup_of seed players) (entries_of seed players))
Generates seed players old new WriteFault = GainedPart old new (summary (setup_of seed players) (entries_of seed players))
Generates seed players old new OutOfMemory = new ≡ old
Generates seed players old new BadWords = ⊥
Generates seed players old new BadJournal = ⊥
Generates seed players old new Illegal = ⊥
Generates seed players old new TooLong = ⊥
Generates seed players old new ReadFault = ⊥

-- the status of a run over a text that comes to this
abbrev pub status_due : Fate → Status
status_due fate.TooLong = TooLong
status_due (fate.BadJournal fault) = BadJournal
status_due (fate.Illegal line cause) = Illegal
status_due (fate.Legal j) = Done

-- what is written of a text that comes to this: what is made of a legal journal, or the line that says where and why there is
-- none; of a text that is too long nothing
abbrev pub written_due : (Journal → List ℕ) → Fate → List ℕ
written_due made fate.TooLong = []
written_due made (fate.BadJournal fault) = cause_line fault.line (journal_word fault.cause)
written_due made (fate.Illegal line cause) = cause_line line (illegal_word cause)
written_due made (fate.Legal j) = made j

-- the bytes that a source or a sink tells, where it does
abbrev Told : Type 0
Told = Option (List ℕ)

-- where the source told its bytes, this is what is to be written of them
abbrev pub HadDue : (Journal → List ℕ) → Told → List ℕ → Type 0
HadDue made told text = IfSome told (λ bytes. (f : Fate) × Replayed bytes f × (text ≡ written_due made f))

-- what a run that writes this of a legal journal has done where it ends with this status: what the source had and has left, what
-- the sink held and holds
abbrev pub ReplaysTo : (Journal → List ℕ) → Told → Told → Told → Told → Status → Type 0
ReplaysTo made told left old new Done =
    (text : List ℕ) × HadText made told text × Gained old new text × IsReadToEnd told left
ReplaysTo made told left old new BadJournal =
    (fault : JournalFault) × HadFate told (fate.BadJournal fault) × Gained old new (written_due made (fate.BadJournal fault))
ReplaysTo made told left old new Illegal =
    (line : ℕ) × (cause : IllegalCause) × HadFate told (fate.Illegal line cause) × Gained old new (written_due made (fate.Illegal line cause))
ReplaysTo made told left old new TooLong = HadFate told fate.TooLong × (new ≡ old)
ReplaysTo made told left old new ReadFault = new ≡ old
ReplaysTo made told left old new WriteFault = (text : List ℕ) × HadDue made told text × GainedPart old new text
ReplaysTo made told left old new OutOfMemory = new ≡ old
ReplaysTo made told left old new BadWords = ⊥

-- a line was told, or a beginning of it where a write failed, or nothing where memory ran out
abbrev pub Tells : Told → Told → List ℕ → Result (Unit {0}) TellFault → Type 0
Tells old new text (Ok done) = Gained old new text
Tells old new text (Err hindered.WriteFault) = GainedPart old new text
Tells old new text (Err hindered.OutOfMemory) = new ≡ old

-- the line was told and the status is the one that is due, or this was hindered
abbrev pub Reports : Told → Told → List ℕ → Status → Status → Type 0
Reports old new text due Done = ⊥
Reports old new text due BadWords = ⊥
Reports old new text due BadJournal = (due ≡ BadJournal) × Gained old new text
Reports old new text due Illegal = (due ≡ Illegal) × Gained old new text
Reports old new text due TooLong = ⊥
Reports old new text due ReadFault = ⊥
Reports old new text due WriteFault = GainedPart old new text
Reports old new text due OutOfMemory = new ≡ old

-- what comes behind a replay that ended so: the line of its cause, where it has one
abbrev pub Finishes : Told → Told → ReplayEnd → Status → Type 0
Finishes old new end.Done status = (status ≡ Done) × (new ≡ old)
Finishes old new (end.BadJournal fault) status = Reports old new (cause_line fault.line (journal_word fault.cause)) BadJournal status
Finishes old new (end.Illegal line cause) status = Reports old new (cause_line line (illegal_word cause)) Illegal status
Finishes old new end.TooLong status = (status ≡ TooLong) × (new ≡ old)
Finishes old new end.ReadFault status = (status ≡ ReadFault) × (new ≡ old)
Finishes old new end.WriteFault status = (status ≡ WriteFault) × (new ≡ old)
Finishes old new end.OutOfMemory status = (status ≡ OutOfMemory) × (new ≡ old)

-- a read or a write failed, or memory ran out
abbrev pub IsHindered : Status → Type 0
IsHindered status = (status ≡ ReadFault) ⊎ (status ≡ WriteFault) ⊎ (status ≡ OutOfMemory)

-- a run over a text that comes to this ended with the status that is due, and the sink gained exactly what is due, unless the
-- run was hindered
abbrev pub MeetsFate : (Journal → List ℕ) → Fate → Told → Told → Status → Type 0
MeetsFate made f old new status =
    ((status ≡ status_due f) × Gained old new (written_due made f)) ⊎ IsHindered status

-- the status with which the program ends
abbrev pub code_of : Status → ℕ
code_of Done = 0
code_of BadWords = 1
code_of BadJournal = 2
code_of Illegal = 3
code_of TooLong = 4
code_of ReadFault = 5
code_of WriteFault = 6
code_of OutOfMemory = 7
