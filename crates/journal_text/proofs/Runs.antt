-- Lines of words, and texts of them: taking one line behind the other is reading the text.
use Rattle.std.proofs.Common.{◌≡◌, ℕ, ◌+◌, true, false, cond, eqb, List, [], ◌∷◌, ◌++◌, length, map, Result, Ok, Err, refl, sym, ap, subst, ◌∙◌, arith, inl, inr, append_assoc, append-nil}
use Rattle.std.specs.List.{AllByRecursion, flat_map, join_with_byte}
use Rattle.std.proofs.lemmas.Bool.{cases_Bool, eqb-true}
use Rattle.std.proofs.lemmas.List.{nil_from_length}
use Rattle.std.proofs.lemmas.List.Splits.{join_with_byte-slice_split}
use Rattle.entries.specs.declared.journal.Journal.{Journal}
use Rattle.journal_text.specs.declared.fault.JournalCause.{JournalCause}
use Rattle.journal_text.specs.declared.fault.JournalCause.TheVariants.{Ended, After}
use Rattle.journal_text.specs.declared.fault.JournalFault.{JournalFault}
use Rattle.journal_text.specs.Lines.{spaced, line, lines_of, words_of}
use Rattle.journal_text.specs.Reading.{Sofar, InHead, InNames, InEntries, Behind, ◌>>=◌, fault_at, at_line, last, run, step}
use Rattle.journal_text.proofs.Fails.{line_ok, line_ok_is, bind_ok, at_line_ok}
use Rattle.journal_text.proofs.WordLemmas.{IsLine, words_of-line}
use Rattle.journal_text.proofs.Standing.{said, IsSaid, IsTaken, step_takes}

-- what stands behind these lines of words
unfoldable pub steps : Sofar → List (List (List ℕ)) → Result Sofar JournalCause
steps s [] = Ok s
steps s (words ∷ ls) = step s words >>= λ further. steps further ls

-- no lines change nothing
pub steps_none : (s : Sofar) → steps s [] ≡ Ok s
unfolding steps
steps_none s = refl

-- one line, and those behind it
pub steps_cons : (s further : Sofar) (words : List (List ℕ)) (ls : List (List (List ℕ))) → step s words ≡ Ok further → steps s (words ∷ ls) ≡ steps further ls
unfolding steps
steps_cons s further words ls e = rw e refl

-- some lines, and those behind them
pub steps_append : (s further : Sofar) (ls more : List (List (List ℕ))) → steps s ls ≡ Ok further → steps s (ls ++ more) ≡ steps further more
unfolding steps
steps_append s further [] more e = ap (λ (s : Sofar). steps s more) (line_ok_is s further e)
steps_append s further (words ∷ ls) more e =
    let b = bind_ok (step s words) (λ x. steps x ls) further e in
    steps_cons s b.0 words (ls ++ more) b.1 ∙ steps_append b.0 further ls more b.2

-- lines that were taken were said, and what they say is in range
pub steps_take : (s further : Sofar) (ls : List (List (List ℕ))) → IsSaid s → steps s ls ≡ Ok further → (said further ≡ said s ++ ls) × IsSaid further
unfolding steps
steps_take s further [] good e = subst (λ (x : Sofar). (said x ≡ said s ++ []) × IsSaid x) (line_ok_is s further e) (sym (append-nil (said s)), good)
steps_take s further (words ∷ ls) good e =
    let b = bind_ok (step s words) (λ x. steps x ls) further e in
    let t = step_takes s words b.0 good b.1 in
    let rest = steps_take b.0 further ls t.good b.2 in
    (rest.0 ∙ ap (λ (x : List (List (List ℕ))). x ++ ls) t.lines ∙ append_assoc (said s) (words ∷ []) ls, rest.1)

-- ---- texts

-- a line that can be taken is passed
pub run_goes_on : (s further : Sofar) (n : ℕ) (bytes next : List ℕ) (more : List (List ℕ)) → step s (words_of bytes) ≡ Ok further → run s n (bytes ∷ next ∷ more) ≡ run further (n + 1) (next ∷ more)
unfolding run
run_goes_on s further n bytes next more e = rw e refl

-- at a line that cannot the reading ends
pub run_ends : (s : Sofar) (n : ℕ) (bytes next : List ℕ) (more : List (List ℕ)) (cause : JournalCause) → step s (words_of bytes) ≡ Err cause → run s n (bytes ∷ next ∷ more) ≡ Err (fault_at n cause)
unfolding run
run_ends s n bytes next more cause e = rw e refl

-- lines of bytes that can be taken are passed
pub run_passes : (s further : Sofar) (n m : ℕ) (bytes : List (List ℕ)) (next : List ℕ) (more : List (List ℕ)) → steps s (map words_of bytes) ≡ Ok further → n + length bytes ≡ m → run s n (bytes ++ next ∷ more) ≡ run further m (next ∷ more)
unfolding steps
run_passes s further n m [] next more e is = ap (λ (x : Sofar). run x n (next ∷ more)) (line_ok_is s further e) ∙ ap (λ (k : ℕ). run further k (next ∷ more)) (omega (arith, is))
run_passes s further n m (bytes ∷ []) next more e is =
    let b = bind_ok (step s (words_of bytes)) (λ x. line_ok x) further e in
    run_goes_on s b.0 n bytes next more b.1 ∙ ap (λ (x : Sofar). run x (n + 1) (next ∷ more)) (line_ok_is b.0 further b.2) ∙ ap (λ (k : ℕ). run further k (next ∷ more)) (omega (arith, is))
run_passes s further n m (bytes ∷ after ∷ others) next more e is =
    let b = bind_ok (step s (words_of bytes)) (λ x. steps x (map words_of (after ∷ others))) further e in
    run_goes_on s b.0 n bytes after (others ++ next ∷ more) b.1 ∙ run_passes b.0 further (n + 1) m (after ∷ others) next more b.2 (omega (arith, is))

-- a text that was read: its whole lines were taken, and nothing stands behind them
pub record IsRead (s : Sofar) (parts : List (List ℕ)) (j : Journal) : Type 0 where
  pub lines : List (List ℕ)
  pub are : parts ≡ lines ++ [] ∷ []
  pub taken : steps s (map words_of lines) ≡ Ok (Behind j)

-- where the reading ended well a whole journal stood, and nothing behind it
last_ok : (s : Sofar) (n : ℕ) (rest : List ℕ) (j : Journal) → last s n rest ≡ Ok j → (s ≡ Behind j) × (rest ≡ [])
last_ok (InHead place h) n rest j e = absurd cc
last_ok (InNames h teams players) n rest j e = absurd cc
last_ok (InEntries h teams players r) n rest j e = absurd cc
last_ok (Behind k) n rest j e =
    elim (cases_Bool (eqb (length rest) 0)) [
      | inl none ↦ (ap Behind (text_ok_is k j (rw none at e)), nil_from_length rest (eqb-true (length rest) 0 none))
      | inr some ↦ absurd (ok_err (fault_at n After) j (rw some at e))
    ]
  where
    text_ok : Journal → Result Journal JournalFault
    text_ok j = Ok j

    text_ok_is : (a b : Journal) → ◌≡◌ {A = Result Journal JournalFault} (Ok a) (Ok b) → a ≡ b
    text_ok_is a b e = cc

    ok_err : (fault : JournalFault) (j : Journal) → ◌≡◌ {A = Result Journal JournalFault} (Err fault) (Ok j) → ⊥
    ok_err fault j e = absurd cc

-- a text that was read in full
pub run_takes : (s : Sofar) (n : ℕ) (parts : List (List ℕ)) (j : Journal) → run s n parts ≡ Ok j → IsRead s parts j
unfolding run steps
run_takes s n [] j e = absurd cc
run_takes s n (rest ∷ []) j e =
    let l = last_ok s n rest j e in
    record { lines = []; are = ap (λ (r : List ℕ). r ∷ []) l.1; taken = ap line_ok l.0 }
run_takes s n (bytes ∷ next ∷ more) j e =
    let b = bind_ok (at_line n (step s (words_of bytes))) (λ x. run x (n + 1) (next ∷ more)) j e in
    let stepped = at_line_ok n (step s (words_of bytes)) b.0 b.1 in
    let rest = run_takes b.0 (n + 1) (next ∷ more) j b.2 in
    record { lines = bytes ∷ rest.lines; are = ap (λ (ps : List (List ℕ)). bytes ∷ ps) rest.are; taken = steps_cons s b.0 (words_of bytes) (map words_of rest.lines) stepped ∙ rest.taken }

-- lines of words fall into these words again
pub words_of-lines : (ls : List (List (List ℕ))) → AllByRecursion IsLine ls → map words_of (map spaced ls) ≡ ls
words_of-lines [] each = refl
words_of-lines (words ∷ ls) each = rw (words_of-line words each.0) (ap (λ (x : List (List (List ℕ))). words ∷ x) (words_of-lines ls each.1))

-- lines and line feeds are the lines of their words
pub flat_words : (lines : List (List ℕ)) → flat_map line (map words_of lines) ≡ flat_map (λ (l : List ℕ). l ++ 10 ∷ []) lines
flat_words [] = refl
flat_words (l ∷ lines) = rw (join_with_byte-slice_split 32 l) (ap (λ (x : List ℕ). (l ++ 10 ∷ []) ++ x) (flat_words lines))

-- lines that stand one behind the other, joined by line feeds, and nothing behind the last
pub joined_lines : (lines : List (List ℕ)) → join_with_byte 10 (lines ++ [] ∷ []) ≡ flat_map (λ (l : List ℕ). l ++ 10 ∷ []) lines
joined_lines [] = refl
joined_lines (l ∷ []) = sym (append_assoc l (10 ∷ []) [])
joined_lines (l ∷ next ∷ more) = ap (λ (x : List ℕ). l ++ 10 ∷ x) (joined_lines (next ∷ more)) ∙ sym (append_assoc l (10 ∷ []) (flat_map (λ (l : List ℕ). l ++ 10 ∷ []) (next ∷ more)))
