-- The first fault is of the first line that cannot stand: whatever lines were taken, some lines behind them make a journal.
use Rattle.std.proofs.Common.{◌≡◌, ℕ, ◌+◌, List, [], ◌∷◌, ◌++◌, length, map, Option, Some, None, Result, Ok, Err, inl, inr, refl, sym, ap, subst, ◌∙◌, arith, append_assoc}
use Rattle.std.specs.Prelude.{codes}
use Rattle.std.proofs.lemmas.Bool.{ne_eqb}
use Rattle.std.proofs.lemmas.List.{map-append}
use Rattle.std.proofs.lemmas.List.Splits.{join_with_byte-slice_split}
use Rattle.decimals.specs.Decimals.{number_of}
use Rattle.entries.specs.declared.setup.Player.{Player}
use Rattle.entries.specs.declared.journal.Journal.{Journal}
use Rattle.journal_text.specs.declared.fault.JournalCause.{JournalCause}
use Rattle.journal_text.specs.declared.fault.JournalCause.TheVariants.{After}
use Rattle.journal_text.specs.declared.fault.JournalFault.{JournalFault}
use Rattle.journal_text.specs.declared.head.Place.TheVariants as place
use Rattle.journal_text.specs.declared.head.Head.{Head}
use Rattle.journal_text.specs.Lines.{spaced, lines_of, words_of}
use Rattle.journal_text.specs.Text.{journal_lines, text_of}
use Rattle.journal_text.specs.Beginnings.{MayStand, IsFirst}
use Rattle.journal_text.specs.Forms.{number_form, number_in, version_form, version_in, control_form, control_in, window_form, window_in, team_form, membership_form, player_form, player_in}
use Rattle.journal_text.specs.EntryForms.{Recorded, no_entries}
use Rattle.journal_text.specs.Reading.{Sofar, InHead, InNames, InEntries, Behind, nothing, head_in, fault_at, journal_in, fault_in, fault_of, journal_made, last, run, step}
use Rattle.journal_text.proofs.LineLemmas.{parts_of-first}
use Rattle.journal_text.proofs.Standing.{said, IsSaid}
use Rattle.journal_text.proofs.Runs.{steps, steps_cons, steps_append, steps_take, run_goes_on, run_ends, run_passes}
use Rattle.journal_text.proofs.Again.{begin_again}
use Rattle.journal_text.proofs.Whole.{text_parts, journal_again}
use Rattle.journal_text.proofs.TextLemmas.{cases_Result, not_both}

-- ---- some lines behind those that were taken

-- lines that make a journal of what stands
record Finish (s : Sofar) : Type 0 where
  lines : List (List (List ℕ))
  journal : Journal
  made : steps s lines ≡ Ok (Behind journal)

-- one line before them
line_before : (s further : Sofar) (words : List (List ℕ)) → step s words ≡ Ok further → Finish further → Finish s
line_before s further words e f = record { lines = words ∷ f.lines; journal = f.journal; made = steps_cons s further words f.lines e ∙ f.made }

-- behind entries `end` is enough
finish_entries : (h : Head) (teams : List (List ℕ)) (players : List Player) (r : Recorded) → Finish (InEntries h teams players r)
unfolding steps step
finish_entries h teams players r = record { lines = (codes "end" ∷ []) ∷ []; journal = journal_made h teams players r; made = refl }

-- a player whose line may stand first
some_player : Player
some_player = record { name = codes "a"; rating = 400; team = None }

-- it may stand before all others
first_player : (h : Head) (teams : List (List ℕ)) → step (InNames h teams []) (codes "player" ∷ codes "400" ∷ codes "-" ∷ codes "a" ∷ []) ≡ Ok (InNames h teams (some_player ∷ []))
unfolding step team_form player_in player_form number_of membership_form some_player
first_player h teams = refl

-- behind names a player, if there is none yet, and `begin`
finish_names : (h : Head) (teams : List (List ℕ)) (players : List Player) → Finish (InNames h teams players)
finish_names h teams [] = line_before (InNames h teams []) (InNames h teams (some_player ∷ [])) (codes "player" ∷ codes "400" ∷ codes "-" ∷ codes "a" ∷ []) (first_player h teams) (line_before (InNames h teams (some_player ∷ [])) (InEntries h teams (some_player ∷ []) no_entries) (codes "begin" ∷ []) (begin_again h teams (some_player ∷ []) (omega arith)) (finish_entries h teams (some_player ∷ []) no_entries))
finish_names h teams (p ∷ players) = line_before (InNames h teams (p ∷ players)) (InEntries h teams (p ∷ players) no_entries) (codes "begin" ∷ []) (begin_again h teams (p ∷ players) (omega arith)) (finish_entries h teams (p ∷ players) no_entries)

-- the lines of the head that are missing
finish_leaders : (h : Head) → Finish (InHead place.Leaders h)
unfolding step head_in number_in number_form number_of
finish_leaders h = line_before (InHead place.Leaders h) (InNames (record h { leaders = 1 }) [] []) (codes "leaders" ∷ codes "1" ∷ []) refl (finish_names (record h { leaders = 1 }) [] [])

finish_wave : (h : Head) → Finish (InHead place.Wave h)
unfolding step head_in number_in number_form number_of
finish_wave h = line_before (InHead place.Wave h) (InHead place.Leaders (record h { wave_ms = 100 })) (codes "wave" ∷ codes "100" ∷ []) refl (finish_leaders (record h { wave_ms = 100 }))

finish_window : (h : Head) → Finish (InHead place.Window h)
unfolding step head_in window_in window_form number_of
finish_window h = line_before (InHead place.Window h) (InHead place.Wave (record h { starts = 0; ends = 1 })) (codes "window" ∷ codes "0" ∷ codes "1" ∷ []) refl (finish_wave (record h { starts = 0; ends = 1 }))

finish_control : (h : Head) → Finish (InHead place.Control h)
unfolding step head_in control_in control_form number_of
finish_control h = line_before (InHead place.Control h) (InHead place.Window (record h { control = record { initial_ms = 0; inc_ms = 1000; first_ms = 1000 } })) (codes "control" ∷ codes "0" ∷ codes "1" ∷ codes "1000" ∷ []) refl (finish_window (record h { control = record { initial_ms = 0; inc_ms = 1000; first_ms = 1000 } }))

finish_rule : (h : Head) → Finish (InHead place.Rule h)
unfolding step head_in number_in number_form number_of
finish_rule h = line_before (InHead place.Rule h) (InHead place.Control (record h { rule = 1 })) (codes "rule" ∷ codes "1" ∷ []) refl (finish_control (record h { rule = 1 }))

finish_version : (h : Head) → Finish (InHead place.Version h)
unfolding step head_in version_in version_form number_form number_of
finish_version h = line_before (InHead place.Version h) (InHead place.Control (record h { version = 1 })) (codes "arena" ∷ codes "1" ∷ []) refl (finish_control (record h { version = 1 }))

-- behind whatever stands some lines make a journal
finish : (s : Sofar) → Finish s
unfolding steps
finish (InHead place.Version h) = finish_version h
finish (InHead place.Rule h) = finish_rule h
finish (InHead place.Control h) = finish_control h
finish (InHead place.Window h) = finish_window h
finish (InHead place.Wave h) = finish_wave h
finish (InHead place.Leaders h) = finish_leaders h
finish (InNames h teams players) = finish_names h teams players
finish (InEntries h teams players r) = finish_entries h teams players r
finish (Behind j) = record { lines = []; journal = j; made = refl }

-- ---- where the first fault is

-- behind lines that were taken, at a line that cannot be, if it is a whole line
record Found (s : Sofar) (n : ℕ) (parts : List (List ℕ)) (fault : JournalFault) : Type 0 where
  passed : List (List ℕ)
  line : List ℕ
  more : List (List ℕ)
  are : parts ≡ passed ++ line ∷ more
  reached : Sofar
  taken : steps s (map words_of passed) ≡ Ok reached
  place : fault.line ≡ n + length passed
  bad : (next : List ℕ) (others : List (List ℕ)) → more ≡ next ∷ others → (cause : JournalCause) × (step reached (words_of line) ≡ Err cause)

-- one fault is one fault
fault_is : (a b : JournalFault) (r : Result Journal JournalFault) → r ≡ Err a → r ≡ Err b → a ≡ b
fault_is a b r p q = cc

-- what stands behind the last line feed is at fault at its own line
last_place : (s : Sofar) (n : ℕ) (rest : List ℕ) (fault : JournalFault) → last s n rest ≡ Err fault → fault.line ≡ n
last_place (InHead p h) n rest fault e = ap (λ (f : JournalFault). f.line) (fault_is fault _ (last (InHead p h) n rest) e refl)
last_place (InNames h teams players) n rest fault e = ap (λ (f : JournalFault). f.line) (fault_is fault _ (last (InNames h teams players) n rest) e refl)
last_place (InEntries h teams players r) n rest fault e = ap (λ (f : JournalFault). f.line) (fault_is fault _ (last (InEntries h teams players r) n rest) e refl)
last_place (Behind j) n [] fault e = absurd cc
last_place (Behind j) n (byte ∷ rest) fault e = ap (λ (f : JournalFault). f.line) (fault_is fault _ (last (Behind j) n (byte ∷ rest)) e (behind_more j n byte rest))
  where
    behind_more : (j : Journal) (n byte : ℕ) (rest : List ℕ) → last (Behind j) n (byte ∷ rest) ≡ Err (fault_at n After)
    behind_more j n byte rest = rw (ne_eqb (length (byte ∷ rest)) 0 (λ zero. omega arith)) refl

-- the fault that ends a reading
found_at : (s : Sofar) (n : ℕ) (first : List ℕ) (more : List (List ℕ)) (fault : JournalFault) → run s n (first ∷ more) ≡ Err fault → Found s n (first ∷ more) fault
unfolding steps run
found_at s n first [] fault e = record {
  passed = [];
  line = first;
  more = [];
  are = refl;
  reached = s;
  taken = refl;
  place = omega (arith, last_place s n first fault e);
  bad = λ next others is. absurd (omega (arith, ap length is));
}
found_at s n first (next ∷ more) fault e =
    elim (cases_Result (step s (words_of first))) [
      | inl (further, stepped) ↦
          let f = found_at further (n + 1) next more fault (sym (run_goes_on s further n first next more stepped) ∙ e) in
          record {
            passed = first ∷ f.passed;
            line = f.line;
            more = f.more;
            are = ap (λ (ps : List (List ℕ)). first ∷ ps) f.are;
            reached = f.reached;
            taken = steps_cons s further (words_of first) (map words_of f.passed) stepped ∙ f.taken;
            place = omega (arith, f.place);
            bad = f.bad;
          }
      | inr (cause, refused) ↦ record {
        passed = [];
        line = first;
        more = next ∷ more;
        are = refl;
        reached = s;
        taken = refl;
        place = omega (arith, ap (λ (f : JournalFault). f.line) (fault_is fault (fault_at n cause) (run s n (first ∷ next ∷ more)) e (run_ends s n first next more cause refused)));
        bad = λ n o is. (cause, refused);
      }
    ]

-- lines fall into words, and these into the lines again
spaced_words : (lines : List (List ℕ)) → map spaced (map words_of lines) ≡ lines
spaced_words [] = refl
spaced_words (l ∷ lines) = rw (join_with_byte-slice_split 32 l) (ap (λ (ls : List (List ℕ)). l ∷ ls) (spaced_words lines))

-- there is always a part behind the last line
some_part : (lines : List (List (List ℕ))) → (next : List ℕ) × (more : List (List ℕ)) × (map spaced lines ++ [] ∷ [] ≡ next ∷ more)
some_part [] = ([], [], refl)
some_part (words ∷ lines) = (spaced words, map spaced lines ++ [] ∷ [], refl)

-- lines that were taken are the beginning of a journal's text
may_stand : (lines : List (List ℕ)) (reached : Sofar) → steps (InHead place.Version nothing) (map words_of lines) ≡ Ok reached → MayStand lines
unfolding said IsSaid
may_stand lines reached taken =
    let f = finish reached in
    let whole : steps (InHead place.Version nothing) (map words_of lines ++ f.lines) ≡ Ok (Behind f.journal) = steps_append (InHead place.Version nothing) reached (map words_of lines) f.lines taken ∙ f.made in
    let t = steps_take (InHead place.Version nothing) (Behind f.journal) (map words_of lines ++ f.lines) refl whole in
    let some = some_part f.lines in
    record {
      journal = f.journal;
      writable = t.1;
      next = some.0;
      more = some.1;
      text = text_parts f.journal t.1
          ∙ ap (λ (ls : List (List (List ℕ))). map spaced ls ++ [] ∷ []) t.0
          ∙ ap (λ (ls : List (List ℕ)). ls ++ [] ∷ []) (map-append spaced (map words_of lines) f.lines)
          ∙ append_assoc (map spaced (map words_of lines)) (map spaced f.lines) ([] ∷ [])
          ∙ ap (λ (ls : List (List ℕ)). ls ++ (map spaced f.lines ++ [] ∷ [])) (spaced_words lines)
          ∙ ap (λ (ls : List (List ℕ)). lines ++ ls) some.2;
    }

-- no journal's text begins with lines that were taken and a line that cannot be
stuck_at : (lines : List (List ℕ)) (line : List ℕ) (reached : Sofar) (cause : JournalCause) → steps (InHead place.Version nothing) (map words_of lines) ≡ Ok reached → step reached (words_of line) ≡ Err cause → MayStand (lines ++ line ∷ []) → ⊥
unfolding journal_in
stuck_at lines line reached cause taken refused h =
    let parts : lines_of (text_of h.journal) ≡ lines ++ line ∷ h.next ∷ h.more = h.text ∙ append_assoc lines (line ∷ []) (h.next ∷ h.more) in
    let n = 1 + length lines in
    not_both h.journal (fault_at n cause) (journal_in (text_of h.journal)) (journal_again h.journal h.writable) (ap (run (InHead place.Version nothing) 1) parts ∙ run_passes (InHead place.Version nothing) reached 1 n lines line (h.next ∷ h.more) taken refl ∙ run_ends reached n line h.next h.more cause refused)

-- the fault of a reading that has one
fault_in_is : (r : Result Journal JournalFault) (fault : JournalFault) → fault_in r ≡ Some fault → r ≡ Err fault
fault_in_is (Ok j) fault e = absurd cc
fault_in_is (Err f) fault e = let is : f ≡ fault = cc in ap Err is

-- the first fault of a text is of the first line that cannot stand
pub fault_first : (text : List ℕ) (fault : JournalFault) → fault_of text ≡ Some fault → IsFirst text fault
unfolding journal_in
fault_first text fault e =
    let some = parts_of-first 10 text in
    let f = found_at (InHead place.Version nothing) 1 some.0 some.1 fault (ap (run (InHead place.Version nothing) 1) (sym some.2) ∙ fault_in_is (journal_in text) fault e) in
    record {
      before = f.passed;
      line = f.line;
      more = f.more;
      lines = some.2 ∙ f.are;
      place = omega (arith, f.place);
      stand = may_stand f.passed f.reached f.taken;
      stuck = λ next others is h. let c = f.bad next others is in stuck_at f.passed f.line f.reached c.0 f.taken c.1 h;
    }
