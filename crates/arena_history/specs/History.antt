-- A history: the entries of a journal, and beside them what its waves did: the games that they began, and the players whom
-- they left alone. All that is said of an arena is a function of its setup and its history.
use Rattle.std.specs.Prelude.{ℕ, suc, nat_lt, List, [], ◌∷◌, ◌++◌, take, filter}
use Rattle.entries.specs.declared.journal.Entry.{Entry}
use Rattle.entries.specs.declared.journal.Start.{Start}

-- the players whom the wave with this entry number left alone
pub record LeftAlone : Type 0 where
  pub entry : ℕ
  pub players : List ℕ

-- entries, and beside them the games that they began and the players whom they left alone, in order
pub record History : Type 0 where
  pub entries : List Entry
  pub starts : List Start
  pub lefts : List LeftAlone

-- the history before the first entry
abbrev pub nothing : History
nothing = record { entries = []; starts = []; lefts = [] }

-- of these games, those that one of the first n entries began
abbrev pub starts_below : ℕ → List Start → List Start
starts_below n starts = filter (λ (x : Start). nat_lt x.entry n) starts

-- of these waves, those that are among the first n entries
abbrev pub lefts_below : ℕ → List LeftAlone → List LeftAlone
lefts_below n lefts = filter (λ (x : LeftAlone). nat_lt x.entry n) lefts

-- the first n entries, beside what they began and whom they left alone
unfoldable pub first : ℕ → History → History
first n h = record { entries = take n h.entries; starts = starts_below n h.starts; lefts = lefts_below n h.lefts }

-- the history with one entry more, at which nobody looks yet whether it begins games
abbrev pub with_entry : History → Entry → History
with_entry h e = record { entries = h.entries ++ e ∷ []; starts = h.starts; lefts = h.lefts }

-- a walk over further entries, from entry k on: a step for each, at the history before it
abbrev pub along_from : {A : Type 0} → (History → Entry → A → A) → History → ℕ → List Entry → A → A
along_from step h k [] a = a
along_from step h k (e ∷ rest) a = along_from step h (suc k) rest (step (first k h) e a)

-- a walk over all entries
unfoldable pub along : {A : Type 0} → (History → Entry → A → A) → A → History → A
along step a h = along_from step h 0 h.entries a
