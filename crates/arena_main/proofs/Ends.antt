-- What a run has done, from the end of its replay and what came behind.
use Rattle.std.proofs.Common.{◌≡◌, ℕ, List, [], Option, Some, None, IfSome, refl, sym, ap, subst, ◌∙◌, append-nil, inl, inr}
use Rattle.conn.specs.Told.{Gained}
use Rattle.entries.specs.declared.journal.Journal.{Journal}
use Rattle.journal_text.specs.declared.fault.JournalFault.{JournalFault}
use Rattle.journal_replay.specs.declared.illegal.IllegalCause.{IllegalCause}
use Rattle.replay.specs.declared.replay_end.ReplayEnd.{ReplayEnd}
use Rattle.replay.specs.declared.replay_end.ReplayEnd.TheVariants as end
use Rattle.replay.specs.Fates as fate
use Rattle.replay.specs.Fates.{Fate}
use Rattle.replay.specs.Replayed.{OneFate, Replayed}
use Rattle.replay.specs.Replays.{Ends, HadFate, HadText}
use Rattle.arena_main.specs.declared.status.Status.{Status}
use Rattle.arena_main.specs.declared.status.Status.TheVariants.{Done, BadWords, BadJournal, Illegal, TooLong, ReadFault, WriteFault, OutOfMemory}
use Rattle.arena_main.specs.Runs.{status_due, written_due, HadDue, MeetsFate, ReplaysTo, Reports, Finishes}

abbrev Told : Type 0
Told = Option (List ℕ)

module _ (made : Journal → List ℕ) where
  -- what a text comes to is what is to be written of it
  due_of : (told : Told) (f : Fate) → HadFate told f → HadDue made told (written_due made f)
  due_of None f had = tt
  due_of (Some bytes) f had = (f, had, refl)

  text_due : (told : Told) (text : List ℕ) → HadText made told text → HadDue made told text
  text_due None text had = tt
  text_due (Some bytes) text (j, comes, is) = (fate.Legal j, comes, is)

  -- the line of a journal's fault was told, or this was hindered
  bad_journal : (told left old new : Told) (fault : JournalFault) (status : Status) → HadFate told (fate.BadJournal fault)
      → Reports old new (written_due made (fate.BadJournal fault)) BadJournal status → ReplaysTo made told left old new status
  bad_journal told left old new fault Done had r = absurd r
  bad_journal told left old new fault BadWords had r = absurd r
  bad_journal told left old new fault BadJournal had r = (fault, had, r.1)
  bad_journal told left old new fault Illegal had r = absurd (cc r.0)
  bad_journal told left old new fault TooLong had r = absurd r
  bad_journal told left old new fault ReadFault had r = absurd r
  bad_journal told left old new fault WriteFault had r = (written_due made (fate.BadJournal fault), due_of told (fate.BadJournal fault) had, r)
  bad_journal told left old new fault OutOfMemory had r = r

  -- the line of an entry that is not allowed was told, or this was hindered
  illegal : (told left old new : Told) (line : ℕ) (cause : IllegalCause) (status : Status) → HadFate told (fate.Illegal line cause)
      → Reports old new (written_due made (fate.Illegal line cause)) Illegal status → ReplaysTo made told left old new status
  illegal told left old new line cause Done had r = absurd r
  illegal told left old new line cause BadWords had r = absurd r
  illegal told left old new line cause BadJournal had r = absurd (cc r.0)
  illegal told left old new line cause Illegal had r = (line, cause, had, r.1)
  illegal told left old new line cause TooLong had r = absurd r
  illegal told left old new line cause ReadFault had r = absurd r
  illegal told left old new line cause WriteFault had r = (written_due made (fate.Illegal line cause), due_of told (fate.Illegal line cause) had, r)
  illegal told left old new line cause OutOfMemory had r = r

  -- the end of the replay and what came behind, put together
  pub run_ends : (told left old mid new : Told) (e : ReplayEnd) (status : Status) → Ends made told left old mid e → Finishes mid new e status
      → ReplaysTo made told left old new status
  run_ends told left old mid new end.Done status (text, had, gained, read) f =
      subst (ReplaysTo made told left old new) (sym f.0) (text, had, f.1 ∙ gained, read)
  run_ends told left old mid new (end.BadJournal fault) status (had, same) f =
      bad_journal told left old new fault status had (subst (λ o. Reports o new (written_due made (fate.BadJournal fault)) BadJournal status) same f)
  run_ends told left old mid new (end.Illegal line cause) status (had, same) f =
      illegal told left old new line cause status had (subst (λ o. Reports o new (written_due made (fate.Illegal line cause)) Illegal status) same f)
  run_ends told left old mid new end.TooLong status (had, same) f = subst (ReplaysTo made told left old new) (sym f.0) (had, f.1 ∙ same)
  run_ends told left old mid new end.ReadFault status same f = subst (ReplaysTo made told left old new) (sym f.0) (f.1 ∙ same)
  run_ends told left old mid new end.WriteFault status (text, had, part) f =
      subst (ReplaysTo made told left old new) (sym f.0) (text, text_due told text had, (part.0, f.1 ∙ part.1))
  run_ends told left old mid new end.OutOfMemory status same f = subst (ReplaysTo made told left old new) (sym f.0) (f.1 ∙ same)

  -- nothing was gained where nothing changed
  Gained-nothing : (old new : Told) → new ≡ old → Gained old new []
  Gained-nothing None new same = same
  Gained-nothing (Some told) new same = same ∙ ap (λ (l : List ℕ). Some l) (sym (append-nil told))

  -- a run that knows what its text comes to, and wrote what is due
  known : OneFate → (bytes : List ℕ) (old new : Told) (a b : Fate) → Gained old new (written_due made a) → Replayed bytes a → Replayed bytes b → MeetsFate made b old new (status_due a)
  known once bytes old new a b gained x y = subst (λ f. MeetsFate made f old new (status_due a)) (once bytes a b x y) (inl (refl, gained))

  -- a run that was not hindered did what its text comes to
  pub run_complete : OneFate → (told left old new : Told) (status : Status) → ReplaysTo made told left old new status
      → IfSome told (λ bytes. (f : Fate) → Replayed bytes f → MeetsFate made f old new status)
  run_complete once None left old new status r = tt
  run_complete once (Some bytes) left old new Done (text, (j, comes, is), gained, read) = λ f due. known once bytes old new (fate.Legal j) f (subst (Gained old new) is gained) comes due
  run_complete once (Some bytes) left old new BadWords r = absurd r
  run_complete once (Some bytes) left old new BadJournal (fault, had, gained) = λ f due. known once bytes old new (fate.BadJournal fault) f gained had due
  run_complete once (Some bytes) left old new Illegal (line, cause, had, gained) = λ f due. known once bytes old new (fate.Illegal line cause) f gained had due
  run_complete once (Some bytes) left old new TooLong (had, same) = λ f due. known once bytes old new fate.TooLong f (Gained-nothing old new same) had due
  run_complete once (Some bytes) left old new ReadFault r = λ f due. inr (inl refl)
  run_complete once (Some bytes) left old new WriteFault r = λ f due. inr (inr (inl refl))
  run_complete once (Some bytes) left old new OutOfMemory r = λ f due. inr (inr (inr refl))
