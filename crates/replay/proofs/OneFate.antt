-- A text comes to one thing alone.
use Rattle.std.proofs.Common.{◌≡◌, ◌<◌, ℕ, List, Option, Some, None, MatchOption, refl, sym, ap, subst, ◌∙◌, inl, inr, arith}
use Rattle.std.specs.Option.{unwrap_or}
use Rattle.std.proofs.lemmas.Bool.{cases_lt}
use Rattle.entries.specs.declared.journal.Journal.{Journal}
use Rattle.journal_text.specs.declared.fault.JournalFault.{JournalFault}
use Rattle.journal_text.specs.Reading.{fault_of}
use Rattle.journal_text.specs.Text.{Spells, line_of_entry}
use Rattle.journal_replay.specs.declared.illegal.IllegalCause.{IllegalCause}
use Rattle.journal_replay.specs.Causes.{first_illegal}
use Rattle.journal_replay.specs.Legal.{IsLegalJournal, LegalHaveNoFirst}
use Rattle.replay.specs.Fates as fate
use Rattle.replay.specs.Fates.{Fate}
use Rattle.replay.specs.Replayed.{IsFirstIllegal, IsShort, OneFate, Replayed, SomeFate}

-- no first and a first are apart
apart : (o : Option (ℕ × IllegalCause)) (first : ℕ × IllegalCause) → o ≡ Some first → o ≡ None → ⊥
apart None first some none = cc
apart (Some x) first some none = cc

module _ (once : (text : List ℕ) (a b : Journal) → Spells text a → Spells text b → a ≡ b) (either : (text : List ℕ) → MatchOption (fault_of text) ((j : Journal) × Spells text j) (λ _. (j : Journal) → ¬ Spells text j)) (legal : LegalHaveNoFirst) where
  -- a text with a fault is no journal's
  no_journal : (bytes : List ℕ) (fault : JournalFault) (j : Journal) → fault_of bytes ≡ Some fault → Spells bytes j → ⊥
  no_journal bytes fault j is spells = (subst (λ o. MatchOption o ((j : Journal) × Spells bytes j) (λ _. (j : Journal) → ¬ Spells bytes j)) is (either bytes)) j spells

  -- a legal journal has no first entry that is not allowed
  no_first : (bytes : List ℕ) (j k : Journal) (line : ℕ) (cause : IllegalCause) → Spells bytes j → IsFirstIllegal j line cause → Spells bytes k → IsLegalJournal k → ⊥
  no_first bytes j k line cause spells first spelt is =
      let same : j ≡ k = once bytes j k spells spelt in
      apart (first_illegal j) (first.number, cause) first.first (ap first_illegal same ∙ (legal k spelt.writable).1 is)

  -- and the first is one
  one_first : (bytes : List ℕ) (j k : Journal) (l m : ℕ) (c d : IllegalCause) → Spells bytes j → IsFirstIllegal j l c → Spells bytes k → IsFirstIllegal k m d → fate.Illegal l c ≡ fate.Illegal m d
  one_first bytes j k l m c d spells first spelt other =
      let same : j ≡ k = once bytes j k spells spelt in
      let both : Some (first.number, c) ≡ Some (other.number, d) = sym first.first ∙ (ap first_illegal same ∙ other.first) in
      let pair : (first.number, c) ≡ (other.number, d) = ap (λ o. unwrap_or o (first.number, c)) both in
      let line : l ≡ m = first.on ∙ ((λ i. line_of_entry (same i) (pair i).0) ∙ sym other.on) in
      λ i. fate.Illegal (line i) (pair i).1

  too_long : (bytes : List ℕ) → 400000000 < Rattle.std.specs.Prelude.length bytes → IsShort bytes → ⊥
  too_long bytes long short = omega (arith, long, short)

  pub one_fate : OneFate
  one_fate bytes fate.TooLong fate.TooLong x y = refl
  one_fate bytes fate.TooLong (fate.BadJournal fault) x y = absurd (too_long bytes x y.0)
  one_fate bytes fate.TooLong (fate.Illegal line cause) x y = absurd (too_long bytes x y.0)
  one_fate bytes fate.TooLong (fate.Legal j) x y = absurd (too_long bytes x y.0)
  one_fate bytes (fate.BadJournal fault) fate.TooLong x y = absurd (too_long bytes y x.0)
  one_fate bytes (fate.BadJournal fault) (fate.BadJournal other) x y = ap fate.BadJournal (ap (λ o. unwrap_or o fault) (sym x.1 ∙ y.1))
  one_fate bytes (fate.BadJournal fault) (fate.Illegal line cause) x (short, j, spells, first) = absurd (no_journal bytes fault j x.1 spells)
  one_fate bytes (fate.BadJournal fault) (fate.Legal j) x (short, spells, is) = absurd (no_journal bytes fault j x.1 spells)
  one_fate bytes (fate.Illegal line cause) fate.TooLong x y = absurd (too_long bytes y x.0)
  one_fate bytes (fate.Illegal line cause) (fate.BadJournal fault) (short, j, spells, first) y = absurd (no_journal bytes fault j y.1 spells)
  one_fate bytes (fate.Illegal l c) (fate.Illegal m d) (short, j, spells, first) (also, k, spelt, other) = one_first bytes j k l m c d spells first spelt other
  one_fate bytes (fate.Illegal line cause) (fate.Legal k) (short, j, spells, first) (also, spelt, is) = absurd (no_first bytes j k line cause spells first spelt is)
  one_fate bytes (fate.Legal j) fate.TooLong x y = absurd (too_long bytes y x.0)
  one_fate bytes (fate.Legal j) (fate.BadJournal fault) (short, spells, is) y = absurd (no_journal bytes fault j y.1 spells)
  one_fate bytes (fate.Legal k) (fate.Illegal line cause) (also, spelt, is) (short, j, spells, first) = absurd (no_first bytes j k line cause spells first spelt is)
  one_fate bytes (fate.Legal j) (fate.Legal k) (short, spells, is) (also, spelt, other) = ap fate.Legal (once bytes j k spells spelt)

  -- a journal is legal or has a first entry that is not allowed
  some_of : (bytes : List ℕ) (j : Journal) → IsShort bytes → Spells bytes j → (o : Option (ℕ × IllegalCause)) → first_illegal j ≡ o → (f : Fate) × Replayed bytes f
  some_of bytes j short spells None is = (fate.Legal j, (short, spells, (legal j spells.writable).0 is))
  some_of bytes j short spells (Some (number, cause)) is = (fate.Illegal (line_of_entry j number) cause, (short, j, spells, record { number = number; first = is; on = refl }))

  -- a text has a fault or is a journal's
  some_short : (bytes : List ℕ) → IsShort bytes → (o : Option JournalFault) → fault_of bytes ≡ o → MatchOption o ((j : Journal) × Spells bytes j) (λ _. (j : Journal) → ¬ Spells bytes j) → (f : Fate) × Replayed bytes f
  some_short bytes short None is (j, spells) = some_of bytes j short spells (first_illegal j) refl
  some_short bytes short (Some fault) is never = (fate.BadJournal fault, (short, is))

  pub some_fate : SomeFate
  some_fate bytes = elim (cases_lt 400000000 (Rattle.std.specs.Prelude.length bytes)) [
    | inl long ↦ (fate.TooLong, long)
    | inr short ↦ some_short bytes short (fault_of bytes) refl (either bytes)
  ]
