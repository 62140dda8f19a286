-- Which history an evening leaves, and what is written of it.
use Rattle.std.specs.Prelude.{◌≡◌, ℕ, ◌<◌, ◌⊎◌, List, length, slice_index_or, Option}
use Rattle.std.specs.List.{All, Any}
use Rattle.conn.specs.Told.{Gained, GainedPart}
use Rattle.entries.specs.declared.journal.Entry.{Entry}
use Rattle.entries.specs.declared.setup.Setup.{Setup}
use Rattle.arena_lock.specs.Turns.{pass_of}
use Rattle.arena_rules.specs.Legal.{IsLegal}
use Rattle.arena_rules.specs.StartLaws.{journal_of}
use Rattle.journal_text.specs.Text.{text_of}
use Rattle.table_text.specs.Table.{table}
use Rattle.turnstile.specs.Histories.{OthersAdded}
use Rattle.server.specs.declared.serve_end.ServeEnd.{ServeEnd}
use Rattle.server.specs.declared.serve_end.ServeEnd.TheVariants.{Done, WriteFault, OutOfMemory}
use Rattle.server.specs.declared.workers.WorkerEnd.{WorkerEnd}
use Rattle.server.specs.Works.{IsReason}

-- these entries were a worker's reason to end whose clock tells these moments: at its last turn, whose length is theirs, it found
-- the arena over, or there is no room for more
pub record HadReason (s : Setup) (seen : List Entry) (told : Option (List ℕ)) : Type 0 where
  pub turns : List ℕ
  pub end : WorkerEnd
  pub reason : IsReason s told turns seen end

-- the worker whose pass has this number, and whose clock tells these moments, had its reason to end at a beginning of these entries,
-- and none of those behind it is of its pass
pub record HasEnded (s : Setup) (es : List Entry) (number : ℕ) (told : Option (List ℕ)) : Type 0 where
  pub seen : List Entry
  pub others : OthersAdded pass_of number seen es
  pub reason : HadReason s seen told

-- the entries that an evening leaves: they are legal, the numbers of their passes are below that of the workers, and each worker,
-- by its own clock, had its reason to end behind all entries of its own pass, which has the number of its place, from 0
pub record IsEvening (s : Setup) (clocks : List (Option (List ℕ))) (es : List Entry) : Type 0 where
  pub legal : IsLegal s es
  pub numbers : All (λ (e : Entry). e.pass < length clocks) es
  pub ended : (i : ℕ) (d : Option (List ℕ)) → i < length clocks → HasEnded s es i (slice_index_or clocks i d)

-- of each evening that had workers, all entries together were the reason of one of them to end: his whose entry is the last
abbrev pub SomeoneSawItWhole : Type 0
SomeoneSawItWhole = (s : Setup) (clocks : List (Option (List ℕ))) (es : List Entry) → 0 < length clocks → IsEvening s clocks es → Any (HadReason s es) clocks

-- the text of the journal of these entries, in version 2, which lists the games of each wave
abbrev pub journal_text : Setup → List Entry → List ℕ
journal_text s es = text_of (journal_of s es)

-- what a sink tells that it holds, where it does
abbrev Told : Type 0
Told = Option (List ℕ)

-- what a sink gained of a text, by how its writing ended: all of it, a beginning, or nothing
abbrev pub Wrote : List ℕ → Told → Told → ServeEnd → Type 0
Wrote text old new Done = Gained old new text
Wrote text old new WriteFault = GainedPart old new text
Wrote text old new OutOfMemory = new ≡ old

-- how two writings ended together: a fault comes before want of memory
abbrev pub worse : ServeEnd → ServeEnd → ServeEnd
worse Done b = b
worse WriteFault b = WriteFault
worse OutOfMemory WriteFault = WriteFault
worse OutOfMemory _ = OutOfMemory

-- a sink gained all of a text or nothing
abbrev pub GainedOrNot : List ℕ → Told → Told → Type 0
GainedOrNot text old new = Gained old new text ⊎ (new ≡ old)

-- what two sinks gained of two texts, by how it ended: both texts, a beginning of each, or of each all or nothing
abbrev pub WroteBoth : List ℕ → Told → Told → List ℕ → Told → Told → ServeEnd → Type 0
WroteBoth a old new b old' new' Done = Gained old new a × Gained old' new' b
WroteBoth a old new b old' new' WriteFault = GainedPart old new a × GainedPart old' new' b
WroteBoth a old new b old' new' OutOfMemory = GainedOrNot a old new × GainedOrNot b old' new'

-- the journal and the table of one and the same evening were written, as far as this says
abbrev pub WroteEvening : Setup → List (Option (List ℕ)) → Told → Told → Told → Told → ServeEnd → Type 0
WroteEvening s clocks old new old' new' end =
    (es : List Entry) × IsEvening s clocks es × WroteBoth (journal_text s es) old new (table s es) old' new' end

-- what stands where an evening ends so: what the sink of the journal held and holds, and then that of the table
abbrev pub Ends : Setup → List (Option (List ℕ)) → Told → Told → Told → Told → ServeEnd → Type 0
Ends s clocks old new old' new' Done = WroteEvening s clocks old new old' new' Done
Ends s clocks old new old' new' WriteFault = WroteEvening s clocks old new old' new' WriteFault
Ends s clocks old new old' new' OutOfMemory =
    ((new ≡ old) × (new' ≡ old')) ⊎ WroteEvening s clocks old new old' new' OutOfMemory
