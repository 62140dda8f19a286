-- The lines of a journal are taken one behind the other, and make this journal again.
use Rattle.std.proofs.Common.{◌≡◌, ℕ, suc, ◌+◌, ◌^◌, ◌<◌, ◌≤◌, Bool, true, false, cond, eqb, not, ◌&&◌, List, [], ◌∷◌, ◌++◌, length, map, All, Option, Some, None, Result, Ok, Err, refl, sym, ap, subst, ◌∙◌, arith, ◌⊎◌, inl, inr, append_assoc, append-nil}
use Rattle.std.specs.Prelude.{codes}
use Rattle.std.specs.Fmt.{decimal}
use Rattle.std.specs.List.{AllByRecursion, slice_get}
use Rattle.std.proofs.lemmas.Bool.{cases_Bool, and_from, ne_eqb}
use Rattle.std.proofs.lemmas.List.{length-append, length-map, nil_from_length}
use Rattle.std.proofs.lemmas.List.Elements.{recursion_from_All, All-filter, All-from_recursion}
use Rattle.std.proofs.lemmas.Option.{slice_get_within, slice_get_read, get_or_from_slice_get}
use Rattle.decimals.specs.Decimals.{number_of}
use Rattle.entries.specs.Names.{IsName, AreDistinct}
use Rattle.entries.specs.Ranges.{IsEntryOf, MayList, IsPlayer, listed_at, AreStartsOf}
use Rattle.entries.specs.declared.setup.Player.{Player}
use Rattle.entries.specs.declared.journal.What.{What}
use Rattle.entries.specs.declared.journal.What.TheVariants as what
use Rattle.entries.specs.declared.journal.Entry.{Entry}
use Rattle.entries.specs.declared.journal.Start.{Start}
use Rattle.journal_text.specs.declared.head.Place.TheVariants as place
use Rattle.journal_text.specs.declared.head.Head.{Head}
use Rattle.journal_text.specs.Lines.{no_words}
use Rattle.journal_text.specs.Text.{control_words, window_words, number_words, version_lines, team_words, player_words, entry_words, pair_word, entry_lines}
use Rattle.journal_text.specs.Forms.{number_form, version_form, version_in, control_in, window_in, number_in, team_form, team_in, player_in}
use Rattle.journal_text.specs.EntryForms.{Recorded, no_entries, ends_well, are_pairs, entry_in, starts_in}
use Rattle.journal_text.specs.Reading.{Sofar, InHead, InNames, InEntries, Behind, nothing, head_in, names_of, stand_of, journal_made, recorded, record_in, step}
use Rattle.journal_text.proofs.NameLemmas.{not_before}
use Rattle.journal_text.proofs.HeadLines.{number_again, control_again, window_again, IsVersion, One, Two, IsWholeHead, whole_said}
use Rattle.journal_text.proofs.NameLines.{team_form_again, team_again, player_again, free_name}
use Rattle.journal_text.proofs.PairLines.{AreGames, pairs_form_again, starts_again}
use Rattle.journal_text.proofs.EntryLines.{deed_from, entry_again}
use Rattle.journal_text.proofs.StartLemmas.{AreOf, Ordered, before, before_more, listed_of}
use Rattle.journal_text.proofs.Runs.{steps, steps_none, steps_cons, steps_append}

-- ---- the head

-- `arena 1` and `arena 2` are read as versions
version_again : (version_in (codes "arena" ∷ codes "1" ∷ []) ≡ Ok 1) × (version_in (codes "arena" ∷ codes "2" ∷ []) ≡ Ok 2)
unfolding version_in version_form number_form number_of
version_again = (refl, refl)

-- the head with this version and rule, and the other values of another
abbrev under : ℕ → ℕ → Head → Head
under version rule h = record h { version = version; rule = rule }

-- the lines of a head behind its version
abbrev others_said : Head → List (List (List ℕ))
others_said h = control_words h.control ∷ window_words h.starts h.ends ∷ number_words (codes "wave") h.wave_ms ∷ number_words (codes "leaders") h.leaders ∷ []

-- these lines are taken
others_again : (k h : Head) → IsWholeHead h → steps (InHead place.Control k) (others_said h) ≡ Ok (InNames (under k.version k.rule h) [] [])
unfolding step head_in
others_again k h good =
    let a : Head = record k { control = h.control } in
    let b : Head = record a { starts = h.starts; ends = h.ends } in
    let c : Head = record b { wave_ms = h.wave_ms } in
    let d : Head = record c { leaders = h.leaders } in
    steps_cons (InHead place.Control k) (InHead place.Window a) (control_words h.control) _ (rw (control_again h.control good.timed) refl)
    ∙ steps_cons (InHead place.Window a) (InHead place.Wave b) (window_words h.starts h.ends) _ (rw (window_again h.starts h.ends good.opens_before_end good.ends_most) refl)
    ∙ steps_cons (InHead place.Wave b) (InHead place.Leaders c) (number_words (codes "wave") h.wave_ms) _ (rw (number_again (codes "wave") 100 600000 h.wave_ms (omega (arith, good.wave_most)) good.wave_least good.wave_most) refl)
    ∙ steps_cons (InHead place.Leaders c) (InNames d [] []) (number_words (codes "leaders") h.leaders) [] (rw (number_again (codes "leaders") 1 20 h.leaders (omega (arith, good.leaders_most)) good.leaders_least good.leaders_most) refl)
    ∙ steps_none (InNames d [] [])

-- a head that has a version and a rule is the head with this version and rule
under_own : (version rule : ℕ) (h : Head) → h.version ≡ version → h.rule ≡ rule → under version rule h ≡ h
under_own version rule h e f = ap (λ (v : ℕ). under v rule h) (sym e) ∙ ap (λ (r : ℕ). under h.version r h) (sym f)

-- the lines of a head are taken
pub head_again : (h : Head) → IsWholeHead h → steps (InHead place.Version nothing) (whole_said h) ≡ Ok (InNames h [] [])
unfolding step head_in
head_again h good = of good.version
  where
    of : IsVersion h → steps (InHead place.Version nothing) (whole_said h) ≡ Ok (InNames h [] [])
    of (One version rule) =
        let k : Head = record nothing { version = 1 } in
        ap (λ (v : ℕ). steps (InHead place.Version nothing) (version_lines v h.rule ++ others_said h)) version
        ∙ steps_cons (InHead place.Version nothing) (InHead place.Control k) (codes "arena" ∷ codes "1" ∷ []) (others_said h) (rw version_again.0 refl)
        ∙ others_again k h good
        ∙ ap (λ (x : Head). Ok (InNames x [] [])) (under_own 1 1 h version rule)
    of (Two version least most) =
        let k : Head = record nothing { version = 2 } in
        let m : Head = record k { rule = h.rule } in
        ap (λ (v : ℕ). steps (InHead place.Version nothing) (version_lines v h.rule ++ others_said h)) version
        ∙ steps_cons (InHead place.Version nothing) (InHead place.Rule k) (codes "arena" ∷ codes "2" ∷ []) ((codes "rule" ∷ decimal h.rule ∷ []) ∷ others_said h) (rw version_again.1 refl)
        ∙ steps_cons (InHead place.Rule k) (InHead place.Control m) (codes "rule" ∷ decimal h.rule ∷ []) (others_said h) (rw (number_again (codes "rule") 1 2 h.rule (omega (arith, most)) least most) refl)
        ∙ others_again m h good
        ∙ ap (λ (x : Head). Ok (InNames x [] [])) (under_own 2 h.rule h version refl)

-- ---- teams and players

-- the lines of teams are taken
pub teams_again : (h : Head) (ts sofar : List (List ℕ)) → length (sofar ++ ts) ≤ 100 → AllByRecursion IsName ts → AreDistinct (sofar ++ ts) → steps (InNames h sofar []) (map team_words ts) ≡ Ok (InNames h (sofar ++ ts) [])
unfolding steps step
teams_again h [] sofar most each distinct = ap (λ (xs : List (List ℕ)). Ok (InNames h xs [])) (sym (append-nil sofar))
teams_again h (name ∷ ts) sofar most each distinct =
    let same = append_assoc sofar (name ∷ []) ts in
    let room : length sofar < 100 = omega (arith, most, length-append sofar (name ∷ ts)) in
    steps_cons (InNames h sofar []) (InNames h (sofar ++ name ∷ []) []) (team_words name) (map team_words ts) (rw (team_form_again name each.0, team_again sofar name each.0 room (not_before sofar ts name distinct)) refl)
    ∙ teams_again h ts (sofar ++ name ∷ []) (subst (λ (xs : List (List ℕ)). length xs ≤ 100) (sym same) most) each.1 (subst AreDistinct (sym same) distinct)
    ∙ ap (λ (xs : List (List ℕ)). Ok (InNames h xs [])) same

-- a player's line is no team's
player_no_team : (p : Player) → team_form (player_words p) ≡ None
unfolding team_form
player_no_team p = refl

-- a player's line is a player's wherever it may stand
player_stands : (h : Head) (teams : List (List ℕ)) (sofar : List Player) (p : Player) → player_in (length teams) (names_of sofar) (player_words p) ≡ Ok p → step (InNames h teams sofar) (player_words p) ≡ Ok (InNames h teams (sofar ++ p ∷ []))
unfolding step
player_stands h teams [] p said = rw (player_no_team p, said) refl
player_stands h teams (q ∷ sofar) p said = rw (ne_eqb (length (q ∷ sofar)) 0 (λ zero. omega arith), said) refl

-- the lines of players are taken
pub players_again : (h : Head) (teams : List (List ℕ)) (ps sofar : List Player) → length teams ≤ 100 → length (sofar ++ ps) ≤ 1000 → AllByRecursion (IsPlayer (length teams)) ps → AreDistinct (names_of (sofar ++ ps)) → steps (InNames h teams sofar) (map player_words ps) ≡ Ok (InNames h teams (sofar ++ ps))
unfolding steps
players_again h teams [] sofar few most each distinct = ap (λ (xs : List Player). Ok (InNames h teams xs)) (sym (append-nil sofar))
players_again h teams (p ∷ ps) sofar few most each distinct =
    let same = append_assoc sofar (p ∷ []) ps in
    let room : length (names_of sofar) < 1000 = omega (arith, most, length-append sofar (p ∷ ps), length-map sofar (λ (p : Player). p.name)) in
    steps_cons (InNames h teams sofar) (InNames h teams (sofar ++ p ∷ [])) (player_words p) (map player_words ps) (player_stands h teams sofar p (player_again (length teams) (names_of sofar) p few each.0 room (free_name sofar ps p distinct)))
    ∙ players_again h teams ps (sofar ++ p ∷ []) few (subst (λ (xs : List Player). length xs ≤ 1000) (sym same) most) each.1 (subst (λ (xs : List Player). AreDistinct (names_of xs)) (sym same) distinct)
    ∙ ap (λ (xs : List Player). Ok (InNames h teams xs)) same

-- and so is `begin`
pub begin_again : (h : Head) (teams : List (List ℕ)) (players : List Player) → 1 ≤ length players → step (InNames h teams players) (codes "begin" ∷ []) ≡ Ok (InEntries h teams players no_entries)
unfolding step
begin_again h teams players some_one = rw (ne_eqb (length players) 0 (λ zero. omega (arith, some_one, zero))) refl

-- ---- entries

-- the games that an entry may list in this version
pub record Fits (version players n : ℕ) (e : Entry) (games : List Start) : Type 0 where
  pub good : AreGames players n games
  pub few : length games ≤ 500
  pub ends : ends_well version (deed_from e.what) (map pair_word games) ≡ true

-- each of these entries, of which the first has this number, lists what it may
abbrev pub EachFits : ℕ → ℕ → List Start → ℕ → List Entry → Type 0
EachFits version players starts n [] = Unit {0}
EachFits version players starts n (e ∷ entries) = Fits version players n e (listed_at n starts) × EachFits version players starts (n + 1) entries

-- the entries so far, and their games
abbrev pub so_many : List Start → List Entry → ℕ → Recorded
so_many starts entries n = record { entries = entries; starts = before n starts }

-- the line of an entry is taken
entry_step : (h : Head) (teams : List (List ℕ)) (players : List Player) (starts : List Start) (e : Entry) (sofar : List Entry) (n : ℕ) → length sofar ≡ n → length players ≤ 1000 → n < 8000000 → IsEntryOf (length players) e → Ordered starts → Fits h.version (length players) n e (listed_at n starts)
    → step (InEntries h teams players (so_many starts sofar n)) (entry_words e ++ map pair_word (listed_at n starts)) ≡ Ok (InEntries h teams players (so_many starts (sofar ++ e ∷ []) (n + 1)))
unfolding step
entry_step h teams players starts e sofar n long few room good order fits =
    let games = listed_at n starts in
    let said : entry_in h.version (length players) (length sofar) (entry_words e ++ map pair_word games) ≡ Ok (e, map pair_word games) = entry_again h.version (length players) (length sofar) e games few (omega (arith, room, long)) good (subst (λ (k : ℕ). AreGames (length players) k games) (sym long) fits.good) fits.few fits.ends in
    let put : starts_in (length players) (length sofar) (map pair_word games) ≡ games = ap (λ (k : ℕ). starts_in (length players) k (map pair_word games)) long ∙ starts_again (length players) n games few fits.good in
    rw said (ap (λ (gs : List Start). Ok (InEntries h teams players (record { entries = sofar ++ e ∷ []; starts = gs }))) (ap (λ (gs : List Start). before n starts ++ gs) put ∙ before_more n starts order))

-- the lines of entries are taken
pub entries_again : (h : Head) (teams : List (List ℕ)) (players : List Player) (starts : List Start) (es sofar : List Entry) (n : ℕ) → length sofar ≡ n → length players ≤ 1000 → n + length es ≤ 8000000 → AllByRecursion (IsEntryOf (length players)) es → Ordered starts → EachFits h.version (length players) starts n es
    → steps (InEntries h teams players (so_many starts sofar n)) (entry_lines n starts es) ≡ Ok (InEntries h teams players (so_many starts (sofar ++ es) (n + length es)))
unfolding steps
entries_again h teams players starts [] sofar n long few most each order fits =
    ap (λ (xs : List Entry). Ok (InEntries h teams players (so_many starts xs n))) (sym (append-nil sofar))
    ∙ ap (λ (k : ℕ). Ok (InEntries h teams players (so_many starts (sofar ++ []) k))) (omega arith)
entries_again h teams players starts (e ∷ es) sofar n long few most each order fits =
    steps_cons (InEntries h teams players (so_many starts sofar n)) (InEntries h teams players (so_many starts (sofar ++ e ∷ []) (n + 1))) (entry_words e ++ map pair_word (listed_at n starts)) (entry_lines (n + 1) starts es) (entry_step h teams players starts e sofar n long few (omega (arith, most)) each.0 order fits.0)
    ∙ entries_again h teams players starts es (sofar ++ e ∷ []) (n + 1) (omega (arith, long, length-append sofar (e ∷ []))) few (omega (arith, most)) each.1 order fits.1
    ∙ ap (λ (xs : List Entry). Ok (InEntries h teams players (so_many starts xs (n + 1 + length es)))) (append_assoc sofar (e ∷ []) es)
    ∙ ap (λ (k : ℕ). Ok (InEntries h teams players (so_many starts (sofar ++ e ∷ es) k))) (omega arith)

-- nothing stands well behind an entry of version 1
ends_in_one : (did : What) → ends_well 1 (deed_from did) [] ≡ true
ends_in_one (what.Enter p) = refl
ends_in_one (what.Pause p) = refl
ends_in_one (what.Leave p) = refl
ends_in_one (what.Act p g a) = refl
ends_in_one what.Tick = refl
ends_in_one (what.Wave n) = refl

-- in version 1 each entry lists no game
pub each_in_one : (version players : ℕ) (n : ℕ) (es : List Entry) → version ≡ 1 → EachFits version players [] n es
each_in_one version players n [] one = tt
each_in_one version players n (e ∷ es) one = (record { good = tt; few = omega arith; ends = ap (λ (v : ℕ). ends_well v (deed_from e.what) []) one ∙ ends_in_one e.what }, each_in_one version players (n + 1) es one)

-- games of an entry between players
are_games : (players n : ℕ) (games : List Start) → AreOf n games → AllByRecursion (λ (g : Start). (g.white < players) × (g.black < players)) games → AreGames players n games
are_games players n [] of between = tt
are_games players n (g ∷ games) of between = ((of.0, between.0.0, between.0.1), are_games players n games of.1 between.1)

-- no games stand well behind any other entry than a wave
none_well : (games : List Start) → length games ≡ 0 → no_words (map pair_word games) ≡ true
none_well [] none = refl
none_well (g ∷ games) none = absurd (omega (arith, none))

-- some games stand well behind a wave of version 2
some_well : (players n : ℕ) (games : List Start) → players ≤ 1000 → 1 ≤ length games → AreGames players n games → (not (no_words (map pair_word games)) && are_pairs (map pair_word games)) ≡ true
some_well players n [] most some good = absurd (omega (arith, some))
some_well players n (g ∷ games) most some good = and_from true (are_pairs (map pair_word (g ∷ games))) refl (pairs_form_again players n (g ∷ games) most good)

-- what an entry may list stands well behind it in version 2
may_well : (players n : ℕ) (did : What) (games : List Start) → players ≤ 1000 → MayList did (length games) → AreGames players n games → (length games ≤ 500) × (ends_well 2 (deed_from did) (map pair_word games) ≡ true)
may_well players n (what.Enter p) games most may good = (omega (arith, may), none_well games may)
may_well players n (what.Pause p) games most may good = (omega (arith, may), none_well games may)
may_well players n (what.Leave p) games most may good = (omega (arith, may), none_well games may)
may_well players n (what.Act p g a) games most may good = (omega (arith, may), none_well games may)
may_well players n what.Tick games most may good = (omega (arith, may), none_well games may)
may_well players n (what.Wave k) games most may good = (may.1, some_well players n games most may.0 good)

-- an entry behind another stands one place later
at_more : (e : Entry) (es : List Entry) (k : ℕ) (x : Entry) → slice_get es k ≡ Some x → slice_get (e ∷ es) (suc k) ≡ Some x
at_more e es k x at = slice_get_read (e ∷ es) (length (e ∷ es)) (suc k) x refl (omega (arith, slice_get_within es k x at)) (sym (get_or_from_slice_get es k x x at))

-- in version 2 each entry lists what it may
pub each_in_two : (version players n : ℕ) (starts : List Start) (es : List Entry) → version ≡ 2 → players ≤ 1000 → All (λ (g : Start). (g.white < players) × (g.black < players)) starts → ((k : ℕ) (e : Entry) → slice_get es k ≡ Some e → MayList e.what (length (listed_at (n + k) starts))) → EachFits version players starts n es
each_in_two version players n starts [] two most between may = tt
each_in_two version players n starts (e ∷ es) two most between may =
    let games = listed_at n starts in
    let good = are_games players n games (listed_of n starts) (recursion_from_All _ games (All-filter (λ (g : Start). eqb g.entry n) (λ (g : Start). (g.white < players) × (g.black < players)) starts between)) in
    let here : MayList e.what (length games) = subst (λ (k : ℕ). MayList e.what (length (listed_at k starts))) (omega arith) (may 0 e refl) in
    let well = may_well players n e.what games most here good in (
      record { good = good; few = well.0; ends = ap (λ (v : ℕ). ends_well v (deed_from e.what) (map pair_word games)) two ∙ well.1 },
      each_in_two version players (n + 1) starts es two most between (λ k x at. subst (λ (m : ℕ). MayList x.what (length (listed_at m starts))) (omega arith) (may (suc k) x (at_more e es k x at))),
    )
