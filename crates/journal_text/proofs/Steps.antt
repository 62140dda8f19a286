-- Reading goes on with the next line.
use Rattle.std.proofs.Common.{◌≡◌, ℕ, ◌+◌, ◌<◌, eqb, List, [], ◌∷◌, ◌++◌, length, take, drop, position, Option, Some, None, Ok, Err, refl, sym, ap, ◌∙◌, append_assoc, append-nil, ◌⊎◌, inl, inr, arith, if◌then◌else◌}
use Rattle.std.proofs.lemmas.Bool.{ne_eqb}
use Rattle.std.specs.List.{cons_option}
use Rattle.entries.specs.declared.setup.Player.{Player}
use Rattle.entries.specs.declared.journal.Start.{Start}
use Rattle.entries.specs.declared.journal.Journal.{Journal}
use Rattle.journal_text.specs.declared.fault.JournalCause.TheVariants.{After}
use Rattle.journal_text.specs.declared.head.Place.{Place}
use Rattle.journal_text.specs.declared.head.Head.{Head}
use Rattle.journal_text.specs.Lines.{lines_of, words_of, next_word}
use Rattle.journal_text.specs.EntryForms.{Recorded, start_in, starts_in}
use Rattle.journal_text.specs.Reading.{◌>>=◌, InHead, InNames, InEntries, Behind, fault_at, at_line, next, run, step}
use Rattle.journal_text.proofs.LineLemmas.{parts_of-first, parts_of-none, parts_of-found}

-- one line more of the head
pub head_step : (place : Place) (h : Head) (line : ℕ) (lines : List (List ℕ)) → run (InHead place h) line lines ≡ (next line lines >>= λ n. at_line line (step (InHead place h) (words_of n.0)) >>= λ s. run s (line + 1) n.1)
unfolding run
head_step place h line [] = refl
head_step place h line (rest ∷ []) = refl
head_step place h line (words ∷ after ∷ more) = refl

-- one line more between the head and the entries
pub names_step : (h : Head) (teams : List (List ℕ)) (players : List Player) (line : ℕ) (lines : List (List ℕ)) → run (InNames h teams players) line lines ≡ (next line lines >>= λ n. at_line line (step (InNames h teams players) (words_of n.0)) >>= λ s. run s (line + 1) n.1)
unfolding run
names_step h teams players line [] = refl
names_step h teams players line (rest ∷ []) = refl
names_step h teams players line (words ∷ after ∷ more) = refl

-- one line more of the entries, or `end`
pub entries_step : (h : Head) (teams : List (List ℕ)) (players : List Player) (r : Recorded) (line : ℕ) (lines : List (List ℕ)) → run (InEntries h teams players r) line lines ≡ (next line lines >>= λ n. at_line line (step (InEntries h teams players r) (words_of n.0)) >>= λ s. run s (line + 1) n.1)
unfolding run
entries_step h teams players r line [] = refl
entries_step h teams players r line (rest ∷ []) = refl
entries_step h teams players r line (words ∷ after ∷ more) = refl

-- the games of the pairs that are left, behind those so far
abbrev pub starts_told : List Start → ℕ → ℕ → Option (List ℕ × List (List ℕ)) → List Start
starts_told sofar players entry None = sofar
starts_told sofar players entry (Some n) = (sofar ++ cons_option (start_in players entry n.0) []) ++ starts_in players entry n.1

-- with one game more, or none, the others follow
one_more_start : (o : Option Start) (sofar rest : List Start) → sofar ++ cons_option o rest ≡ (sofar ++ cons_option o []) ++ rest
one_more_start None sofar rest = ap (λ (xs : List Start). xs ++ rest) (sym (append-nil sofar))
one_more_start (Some s) sofar rest = sym (append_assoc sofar (s ∷ []) rest)

-- one pair more
pub starts_step : (sofar : List Start) (players entry : ℕ) (words : List (List ℕ)) → sofar ++ starts_in players entry words ≡ starts_told sofar players entry (next_word words)
unfolding starts_in
starts_step sofar players entry [] = append-nil sofar
starts_step sofar players entry (word ∷ words) = one_more_start (start_in players entry word) sofar (starts_in players entry words)

-- there is an option's value, or none
cases_Option : {A : Type 0} (o : Option A) → (o ≡ None) ⊎ ((x : A) × (o ≡ Some x))
cases_Option None = inl refl
cases_Option (Some x) = inr (x, refl)

-- where something is found there is something
nonempty : (text : List ℕ) (at : ℕ) → position (λ b. eqb b 10) text ≡ Some at → 0 < length text
nonempty [] at e = absurd cc
nonempty (b ∷ text) at e = omega arith

-- behind the first of the parts of bytes there are others, or it is the bytes
parts_are : (text : List ℕ) → (lines_of text ≡ text ∷ []) ⊎ ((line next : List ℕ) × (more : List (List ℕ)) × (lines_of text ≡ line ∷ next ∷ more) × (0 < length text))
parts_are text =
    elim (cases_Option (position (λ b. eqb b 10) text)) [
      | inl none ↦ inl (parts_of-none 10 text none)
      | inr (at, found) ↦
          let some = parts_of-first 10 (drop (at + 1) text) in
          inr (take at text, some.0, some.1, parts_of-found 10 text at found ∙ ap (λ (ls : List (List ℕ)). take at text ∷ ls) some.2, nonempty text at found)
    ]

-- behind a whole journal nothing may stand
pub behind_run : (j : Journal) (line : ℕ) (text : List ℕ) → run (Behind j) line (lines_of text) ≡ (if eqb (length text) 0 then Ok j else Err (fault_at line After))
unfolding run step
behind_run j line text =
    elim (parts_are text) [
      | inl one ↦ ap (run (Behind j) line) one
      | inr (first, next, more, are, some) ↦ ap (run (Behind j) line) are ∙ rw (ne_eqb (length text) 0 (λ none. omega (arith, some, none))) refl
    ]
