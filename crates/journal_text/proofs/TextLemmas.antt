-- A text is read as the one journal that has it, or refused for its first fault.
use Rattle.std.proofs.Common.{◌≡◌, ℕ, List, None, Some, Result, Ok, Err, ◌⊎◌, inl, inr, refl, sym, ap, subst, ◌∙◌}
use Rattle.std.specs.Prelude.{IfOk, IfErr, OnOk, MatchResult, MatchOption}
use Rattle.entries.specs.declared.journal.Journal.{Journal}
use Rattle.journal_text.specs.declared.fault.JournalFault.{JournalFault}
use Rattle.journal_text.specs.declared.fault.ReadJournalFault.{ReadJournalFault}
use Rattle.journal_text.specs.declared.fault.ReadJournalFault.TheVariants.{Bad, OutOfMemory}
use Rattle.journal_text.specs.Text.{Spells}
use Rattle.journal_text.specs.Reading.{GoesOn, journal_in, fault_in, fault_of, IsFault}
use Rattle.journal_text.proofs.Whole.{journal_again, journal_takes}

-- what was answered is one of the two
pub cases_Result : {A E : Type 0} (r : Result A E) → ((x : A) × (r ≡ Ok x)) ⊎ ((e : E) × (r ≡ Err e))
cases_Result (Ok x) = inl (x, refl)
cases_Result (Err e) = inr (e, refl)

-- what has this text is read of it
pub journal_in-spelled : (text : List ℕ) (j : Journal) → Spells text j → journal_in text ≡ Ok j
journal_in-spelled text j h = ap journal_in (sym h.text) ∙ journal_again j h.writable

-- one reading gives one journal
ok_is : (a b : Journal) (r : Result Journal JournalFault) → r ≡ Ok a → r ≡ Ok b → a ≡ b
ok_is a b r p q = cc

-- one reading does not both give a journal and refuse
pub not_both : (a : Journal) (fault : JournalFault) (r : Result Journal JournalFault) → r ≡ Ok a → r ≡ Err fault → ⊥
not_both a fault r p q = cc

-- the journal that is read is the one that has this text
read_is : (text : List ℕ) (read j : Journal) → journal_in text ≡ Ok read → Spells text j → read ≡ j
read_is text read j e h = ok_is read j (journal_in text) e (journal_in-spelled text j h)

-- what is refused is the text of no journal
refused_is : (text : List ℕ) (fault : JournalFault) (j : Journal) → journal_in text ≡ Err fault → Spells text j → ⊥
refused_is text fault j e h = not_both j fault (journal_in text) (journal_in-spelled text j h) e

-- journals that have one text are one journal
pub spelled_once : (text : List ℕ) (a b : Journal) → Spells text a → Spells text b → a ≡ b
spelled_once text a b p q = read_is text a b (journal_in-spelled text a p) q

-- each text is a journal's, or has a fault and is none's
pub spelled_or_fault : (text : List ℕ) → MatchOption (fault_of text) ((j : Journal) × Spells text j) (λ _. (j : Journal) → Spells text j → ⊥)
spelled_or_fault text = elim (cases_Result (journal_in text)) [
  | inl (j, read) ↦ rw read (j, journal_takes text j read)
  | inr (fault, refused) ↦ rw refused (λ j h. refused_is text fault j refused h)
]

-- ---- what is answered

-- what a reading answered, unless memory ran out
abbrev Answered : Result Journal ReadJournalFault → List ℕ → Type 0
Answered r text = GoesOn (λ (j : Journal). Ok j) r (journal_in text)

-- what is read has this text
pub read_of : (text : List ℕ) (r : Result Journal ReadJournalFault) → Answered r text → IfOk r (Spells text)
read_of text (Ok j) e = journal_takes text j e
read_of text (Err fault) e = tt

-- what has this text is read, unless memory runs out
pub only_of : (text : List ℕ) (r : Result Journal ReadJournalFault) → Answered r text → (j : Journal) → Spells text j → MatchResult r (λ read. read ≡ j) (λ fault. fault ≡ OutOfMemory)
only_of text (Ok read) e j h = read_is text read j e h
only_of text (Err (Bad fault)) e j h = absurd (refused_is text fault j e h)
only_of text (Err OutOfMemory) e j h = refl

-- what is refused has this first fault
pub refused_of : (text : List ℕ) (r : Result Journal ReadJournalFault) → Answered r text → IfErr r (IsFault text)
refused_of text (Ok j) e = tt
refused_of text (Err (Bad fault)) e = ap fault_in e
refused_of text (Err OutOfMemory) e = tt

-- what is read has no fault
pub sound_of : (text : List ℕ) (r : Result Journal ReadJournalFault) → Answered r text → OnOk r (fault_of text ≡ None)
sound_of text (Ok j) e = ap fault_in e
sound_of text (Err fault) e = tt
