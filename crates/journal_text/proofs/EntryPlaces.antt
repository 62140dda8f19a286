-- Where the line of an entry stands in a journal's text.
use Rattle.std.proofs.Common.{◌≡◌, ℕ, suc, zero, ◌+◌, ◌-◌, ◌<◌, true, false, cond, eqb, List, [], ◌∷◌, ◌++◌, length, get_or, map, Some, refl, sym, ap, subst, ◌∙◌, arith, ◌⊎◌, inl, inr, append_assoc}
use Rattle.std.specs.Prelude.{codes}
use Rattle.std.specs.List.{slice_get}
use Rattle.std.proofs.lemmas.Bool.{cases_Bool}
use Rattle.std.proofs.lemmas.List.{length-append, length-map, get_or-map, get_or_append_left, get_or-append-add}
use Rattle.std.proofs.lemmas.Option.{slice_get_within, slice_get_read, get_or_from_slice_get}
use Rattle.entries.specs.declared.journal.Entry.{Entry}
use Rattle.entries.specs.declared.journal.Start.{Start}
use Rattle.entries.specs.declared.journal.Journal.{Journal}
use Rattle.entries.specs.Ranges.{IsWritable, listed_at}
use Rattle.journal_text.specs.Lines.{spaced, lines_of}
use Rattle.journal_text.specs.Text.{version_lines, control_words, window_words, number_words, team_words, player_words, entry_words, pair_word, entry_lines, setup_lines, journal_lines, text_of, line_of_entry}
use Rattle.journal_text.proofs.Whole.{text_parts}

-- how many lines entries have
length-entry_lines : (n : ℕ) (starts : List Start) (es : List Entry) → length (entry_lines n starts es) ≡ length es
length-entry_lines n starts [] = refl
length-entry_lines n starts (e ∷ es) = omega (arith, length-entry_lines (n + 1) starts es)

-- the words of an entry's line stand at its place among the lines of entries
entry_at : (n : ℕ) (starts : List Start) (es : List Entry) (i : ℕ) (d : List (List ℕ)) (x : Entry) → i < length es → get_or (entry_lines n starts es) i d ≡ entry_words (get_or es i x) ++ map pair_word (listed_at (n + i) starts)
entry_at n starts [] i d x inside = absurd (omega (arith, inside))
entry_at n starts (e ∷ es) zero d x inside = ap (λ (k : ℕ). entry_words e ++ map pair_word (listed_at k starts)) (omega arith)
entry_at n starts (e ∷ es) (suc i) d x inside = entry_at (n + 1) starts es i d x (omega (arith, inside)) ∙ ap (λ (k : ℕ). entry_words (get_or es i x) ++ map pair_word (listed_at k starts)) (omega arith)

-- how many lines stand before the entries
length-setup_lines : (j : Journal) → length (setup_lines j.version j.setup) + 1 ≡ line_of_entry j 0
length-setup_lines j = of (cases_Bool (eqb j.version 1))
  where
    sum : (v o t p b : List (List (List ℕ))) → length (((v ++ o) ++ t) ++ p ++ b) ≡ length v + length o + length t + length p + length b
    sum v o t p b = omega (arith, length-append (((v ++ o) ++ t) ++ p) b, length-append ((v ++ o) ++ t) p, length-append (v ++ o) t, length-append v o)

    whole : length (setup_lines j.version j.setup) ≡ length (version_lines j.version j.setup.rule) + 4 + length j.setup.teams + length j.setup.players + 1
    whole = omega (arith, sum (version_lines j.version j.setup.rule) (control_words j.setup.control ∷ window_words j.setup.starts j.setup.ends ∷ number_words (codes "wave") j.setup.wave_ms ∷ number_words (codes "leaders") j.setup.leaders ∷ []) (map team_words j.setup.teams) (map player_words j.setup.players) ((codes "begin" ∷ []) ∷ []), length-map j.setup.teams team_words, length-map j.setup.players player_words)

    of : (eqb j.version 1 ≡ true) ⊎ (eqb j.version 1 ≡ false) → length (setup_lines j.version j.setup) + 1 ≡ line_of_entry j 0
    of (inl first) = let head : length (version_lines j.version j.setup.rule) ≡ 1 = rw first refl in let front : cond {A = ℕ} (eqb j.version 1) 7 8 ≡ 7 = rw first refl in omega (arith, whole, head, front)
    of (inr second) = let head : length (version_lines j.version j.setup.rule) ≡ 2 = rw second refl in let front : cond {A = ℕ} (eqb j.version 1) 7 8 ≡ 8 = rw second refl in omega (arith, whole, head, front)

-- a line among others, which have others behind them
line_at : (s e z : List (List (List ℕ))) (i : ℕ) (words : List (List ℕ)) → i < length e → get_or e i words ≡ words → slice_get (map spaced ((s ++ e) ++ z) ++ [] ∷ []) (length s + i) ≡ Some (spaced words)
line_at s e z i words inside at =
    let all = (s ++ e) ++ z in
    let p = length s + i in
    let low : p < length (s ++ e) = omega (arith, inside, length-append s e) in
    let high : p < length all = omega (arith, low, length-append (s ++ e) z) in
    let mapped : p < length (map spaced all) = omega (arith, high, length-map all spaced) in
    let here : get_or (map spaced all ++ [] ∷ []) p (spaced words) ≡ spaced words =
    get_or_append_left (map spaced all) ([] ∷ []) (spaced words) p mapped
    ∙ get_or-map spaced all p words (spaced words) high
    ∙ ap spaced (get_or_append_left (s ++ e) z words p low ∙ get_or-append-add s e i words ∙ at) in
    slice_get_read (map spaced all ++ [] ∷ []) (length (map spaced all ++ [] ∷ [])) p (spaced words) refl (omega (arith, mapped, length-append (map spaced all) ([] ∷ []))) (sym here)

-- the line of an entry stands where `line_of_entry` says
pub entry_stands : (j : Journal) (i : ℕ) (e : Entry) → IsWritable j → slice_get j.entries i ≡ Some e → slice_get (lines_of (text_of j)) (line_of_entry j i - 1) ≡ Some (spaced (entry_words e ++ map pair_word (listed_at i j.starts)))
entry_stands j i e h at =
    let setup = setup_lines j.version j.setup in
    let entries = entry_lines 0 j.starts j.entries in
    let words = entry_words e ++ map pair_word (listed_at i j.starts) in
    let inside = slice_get_within j.entries i e at in
    let place : line_of_entry j i - 1 ≡ length setup + i = omega (arith, length-setup_lines j) in
    let there : get_or entries i words ≡ words = entry_at 0 j.starts j.entries i words e inside ∙ ap (λ (x : Entry). entry_words x ++ map pair_word (listed_at (0 + i) j.starts)) (get_or_from_slice_get j.entries i e e at) ∙ ap (λ (k : ℕ). entry_words e ++ map pair_word (listed_at k j.starts)) (omega arith) in
    ap (λ (ls : List (List ℕ)). slice_get ls (line_of_entry j i - 1)) (text_parts j h)
    ∙ ap (slice_get (map spaced (journal_lines j) ++ [] ∷ [])) place
    ∙ line_at setup entries ((codes "end" ∷ []) ∷ []) i words (omega (arith, inside, length-entry_lines 0 j.starts j.entries)) there
