-- The first entry that is not allowed, entry by entry.
use Rattle.std.proofs.Common.{◌≡◌, ℕ, suc, List, ◌∷◌, Option, Some, None, ap}
use Rattle.std.specs.Option.{option_map, option_or}
use Rattle.entries.specs.declared.journal.Entry.{Entry}
use Rattle.entries.specs.declared.journal.Journal.{Journal}
use Rattle.journal_replay.specs.declared.illegal.IllegalCause.{IllegalCause}
use Rattle.journal_replay.specs.Causes.{before, cause_of, first_from}

-- what is put behind an entry against which there is a cause, or none
abbrev pub next : (j : Journal) (number : ℕ) (es : List Entry) → Option IllegalCause → Option (ℕ × IllegalCause)
next j number es cause = option_or (option_map (λ c. (number, c)) cause) (first_from j (suc number) es)

-- an entry against which there is a cause is the first
pub first_is : (j : Journal) (number : ℕ) (e : Entry) (es : List Entry) (cause : IllegalCause) → cause_of j (before j number) e ≡ Some cause → first_from j number (e ∷ es) ≡ Some (number, cause)
unfolding first_from
first_is j number e es cause is = ap (next j number es) is

-- and behind one against which there is none the first is looked for
pub first_behind : (j : Journal) (number : ℕ) (e : Entry) (es : List Entry) → cause_of j (before j number) e ≡ None → first_from j number (e ∷ es) ≡ first_from j (suc number) es
unfolding first_from
first_behind j number e es is = ap (next j number es) is
