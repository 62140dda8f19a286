-- What the lines so far have said: it was written so, it is in range, and one line more keeps both.
use Rattle.std.proofs.Common.{◌≡◌, ℕ, ◌+◌, ◌<◌, ◌≤◌, Bool, true, false, cond, eqb, not, ◌&&◌, List, [], ◌∷◌, ◌++◌, length, map, All, Option, Some, None, is_some, Result, Ok, Err, refl, sym, ap, subst, ◌∙◌, arith, ◌⊎◌, inl, inr, append_assoc, append-nil}
use Rattle.std.specs.Prelude.{codes}
use Rattle.std.specs.Str.{bytes_eq}
use Rattle.std.specs.List.{AllByRecursion}
use Rattle.std.proofs.lemmas.Bool.{cases_Bool, and_parts, eqb-true, eqb-false}
use Rattle.std.proofs.lemmas.List.{length-append, length-map, length_push, map_push, nil_from_length}
use Rattle.std.proofs.lemmas.List.Elements.{All-nil, All-push, All-append, All-from_recursion}
use Rattle.entries.specs.Ranges.{IsEntryOf, MayList, IsPlayer, IsGood, AreStartsOf, IsWritable, IsOfVersionOne, IsOfVersionTwo}
use Rattle.entries.specs.declared.setup.Player.{Player}
use Rattle.entries.specs.declared.journal.What.{What}
use Rattle.entries.specs.declared.journal.What.TheVariants as what
use Rattle.entries.specs.declared.journal.Entry.{Entry}
use Rattle.entries.specs.declared.journal.Start.{Start}
use Rattle.entries.specs.declared.journal.Journal.{Journal}
use Rattle.journal_text.specs.declared.entry_form.Deed.{Deed}
use Rattle.journal_text.specs.declared.entry_form.Deed.TheVariants as deed
use Rattle.journal_text.specs.declared.fault.JournalCause.{JournalCause}
use Rattle.journal_text.specs.declared.head.Place.{Place}
use Rattle.journal_text.specs.declared.head.Head.{Head}
use Rattle.journal_text.specs.declared.names.Stand.{Stand}
use Rattle.journal_text.specs.declared.names.Stand.TheVariants as stand
use Rattle.journal_text.specs.Lines.{no_words, is_word}
use Rattle.journal_text.specs.Text.{team_words, player_words, entry_words, pair_word, entry_lines, journal_lines}
use Rattle.journal_text.specs.Forms.{team_form, team_in, player_in}
use Rattle.journal_text.specs.EntryForms.{Recorded, no_entries, ends_well, what_made, entry_in, starts_in}
use Rattle.journal_text.specs.Reading.{Sofar, InHead, InNames, InEntries, Behind, head_in, behind_head, names_of, stand_of, name_in, setup_made, journal_made, recorded, record_in, step}
use Rattle.journal_text.proofs.Fails.{some, line_ok, line_ok_is, bind_ok}
use Rattle.journal_text.proofs.FormLemmas.{same_word}
use Rattle.journal_text.proofs.HeadLines.{IsVersion, One, Two, IsHead, IsWholeHead, head_said, whole_said, IsHeadBehind, behind_said, head_takes}
use Rattle.journal_text.proofs.NameLines.{team_takes, player_takes, AreTeams, no_teams, one_more_team, ArePlayers, no_players, one_more}
use Rattle.journal_text.proofs.PairLines.{AreGames, ArePairs, pairs_take}
use Rattle.journal_text.proofs.EntryLines.{IsEntryIn, entry_takes}
use Rattle.journal_text.proofs.StartLemmas.{AreBelow, AreOf, below_more, of_below, lines_more, starts_more}

-- ---- entries

-- entries of so many players, and the games that they list in this version
pub record AreEntries (version players : ℕ) (r : Recorded) : Type 0 where
  pub most : length r.entries ≤ 8000000
  pub good : All (IsEntryOf players) r.entries
  pub early : AreBelow (length r.entries) r.starts
  pub one : version ≡ 1 → r.starts ≡ []
  pub two : version ≡ 2 → AreStartsOf players r.entries r.starts

-- no entries are as they may be
pub are_no_entries : (version players : ℕ) → AreEntries version players no_entries
are_no_entries version players = record {
  most = omega arith;
  good = All-nil (IsEntryOf players);
  early = tt;
  one = λ first. refl;
  two = λ second. record {
    in_order = λ i j d low high. absurd (omega (arith, high));
    of_entries = All-nil (λ (g : Start). g.entry < 0);
    of_players = All-nil (λ (g : Start). (g.white < players) × (g.black < players));
    of_waves = λ n e at. absurd cc;
  };
}

-- where no word may stand there is no game
no_games : (words : List (List ℕ)) (games : List Start) → words ≡ map pair_word games → no_words words ≡ true → games ≡ []
no_games [] [] is none = refl
no_games [] (g ∷ games) is none = absurd (omega (arith, ap length is))
no_games (word ∷ words) games is none = absurd cc

-- in version 1 no game is listed
none_in_one : (d : Deed) (words : List (List ℕ)) (games : List Start) → words ≡ map pair_word games → ends_well 1 d words ≡ true → games ≡ []
none_in_one (deed.Enter p) words games is ends = no_games words games is ends
none_in_one (deed.Pause p) words games is ends = no_games words games is ends
none_in_one (deed.Leave p) words games is ends = no_games words games is ends
none_in_one (deed.Act p g a) words games is ends = no_games words games is ends
none_in_one deed.Tick words games is ends = no_games words games is ends
none_in_one (deed.Wave n) words games is ends = no_games words games is ends

-- a wave of version 2 lists some
some_games : (words : List (List ℕ)) (games : List Start) (pairs : Bool) → words ≡ map pair_word games → (not (no_words words) && pairs) ≡ true → 1 ≤ length games
some_games [] games pairs is ends = absurd cc
some_games (word ∷ words) [] pairs is ends = absurd (omega (arith, ap length is))
some_games (word ∷ words) (g ∷ games) pairs is ends = omega arith

-- in version 2 an entry lists what it may list
may_in_two : (d : Deed) (did : What) (words : List (List ℕ)) (games : List Start) → did ≡ what_made d → words ≡ map pair_word games → length words ≤ 500 → ends_well 2 d words ≡ true → MayList did (length games)
may_in_two d did words games is are few ends = subst (λ (w : What). MayList w (length games)) (sym is) (of d ends)
  where
    of : (d : Deed) → ends_well 2 d words ≡ true → MayList (what_made d) (length games)
    of (deed.Enter p) ends = ap length (no_games words games are ends)
    of (deed.Pause p) ends = ap length (no_games words games are ends)
    of (deed.Leave p) ends = ap length (no_games words games are ends)
    of (deed.Act p g a) ends = ap length (no_games words games are ends)
    of deed.Tick ends = ap length (no_games words games are ends)
    of (deed.Wave n) ends = (some_games words games _ are ends, omega (arith, few, ap length are, length-map games pair_word))

-- of games of an entry
games_of : (players n : ℕ) (games : List Start) → AreGames players n games → AreOf n games
games_of players n [] h = tt
games_of players n (g ∷ games) h = (h.0.0, games_of players n games h.1)

-- and between players
games_between : (players n : ℕ) (games : List Start) → AreGames players n games → AllByRecursion (λ (g : Start). (g.white < players) × (g.black < players)) games
games_between players n [] h = tt
games_between players n (g ∷ games) h = ((h.0.1, h.0.2), games_between players n games h.1)

-- one entry more, as its line says it
pub record IsOneMore (version players : ℕ) (r more : Recorded) (words : List (List ℕ)) : Type 0 where
  pub lines : entry_lines 0 more.starts more.entries ≡ entry_lines 0 r.starts r.entries ++ words ∷ []
  pub good : AreEntries version players more

-- the entry of a line, and its games, come behind those before
one_more_entry : (version players : ℕ) (r : Recorded) (words : List (List ℕ)) (e : Entry × List (List ℕ)) → AreEntries version players r → IsEntryIn version players (length r.entries) words e → IsOneMore version players r (recorded players r e) words
one_more_entry version players r words e h said =
    let n = length r.entries in
    let games = starts_in players n e.1 in
    let pairs = pairs_take players n e.1 said.pairs in
    let of = games_of players n games pairs.good in
    let long : n + 1 ≡ length (r.entries ++ e.0 ∷ []) = omega (arith, length-append r.entries (e.0 ∷ [])) in
    record {
      lines = lines_more 0 n r.entries e.0 r.starts games (omega arith) h.early of ∙ ap (λ (ws : List (List ℕ)). entry_lines 0 r.starts r.entries ++ ws ∷ []) (ap (λ (ws : List (List ℕ)). entry_words e.0 ++ ws) (sym pairs.words_are) ∙ sym said.words_are);
      good = record {
        most = omega (arith, long, said.room);
        good = All-push (IsEntryOf players) r.entries e.0 h.good said.range;
        early = subst (λ (k : ℕ). AreBelow k (r.starts ++ games)) long (both_below (n + 1) r.starts games (below_more n (n + 1) r.starts (omega arith) h.early) (of_below n games of));
        one = λ first. ap (λ (gs : List Start). r.starts ++ gs) (none_in_one said.deed e.1 games pairs.words_are (subst (λ (v : ℕ). ends_well v said.deed e.1 ≡ true) first said.ends)) ∙ append-nil r.starts ∙ h.one first;
        two = λ second. starts_more players r.entries e.0 r.starts games (h.two second) of (All-from_recursion _ games (games_between players n games pairs.good)) (may_in_two said.deed e.0.what e.1 games said.did pairs.words_are said.few (subst (λ (v : ℕ). ends_well v said.deed e.1 ≡ true) second said.ends));
      };
    }
  where
    both_below : (k : ℕ) (a b : List Start) → AreBelow k a → AreBelow k b → AreBelow k (a ++ b)
    both_below k [] b low high = high
    both_below k (g ∷ a) b low high = (low.0, both_below k a b low.1 high)

-- the entry that a line says comes behind those before
pub record_takes : (version players : ℕ) (r more : Recorded) (words : List (List ℕ)) → AreEntries version players r → record_in version players r words ≡ Ok more → IsOneMore version players r more words
record_takes version players r more words h e =
    let b = bind_ok (entry_in version players (length r.entries) words) (λ x. line_ok (recorded players r x)) more e in
    subst (λ (more : Recorded). IsOneMore version players r more words) (line_ok_is (recorded players r b.0) more b.2) (one_more_entry version players r words b.0 h (entry_takes version players (length r.entries) words b.0 b.1))

-- ---- all lines

-- the lines of the names
abbrev pub names_said : List (List ℕ) → List Player → List (List (List ℕ))
names_said teams players = map team_words teams ++ map player_words players

-- the lines before the entries
abbrev pub setup_said : Head → List (List ℕ) → List Player → List (List (List ℕ))
setup_said h teams players = whole_said h ++ (names_said teams players ++ (codes "begin" ∷ []) ∷ [])

-- the lines that said this
unfoldable pub said : Sofar → List (List (List ℕ))
said (InHead place h) = head_said place h
said (InNames h teams players) = whole_said h ++ names_said teams players
said (InEntries h teams players r) = setup_said h teams players ++ entry_lines 0 r.starts r.entries
said (Behind j) = journal_lines j

-- a head, teams and players as a setup may have them
pub record AreNames (h : Head) (names : List (List ℕ)) (entrants : List Player) : Type 0 where
  pub head : IsWholeHead h
  pub teams : AreTeams names
  pub players : ArePlayers (length names) entrants

-- what was said is in range
unfoldable pub IsSaid : Sofar → Type 0
IsSaid (InHead place h) = IsHead place h
IsSaid (InNames h teams players) = AreNames h teams players
IsSaid (InEntries h teams players r) = AreNames h teams players × (1 ≤ length players) × AreEntries h.version (length players) r
IsSaid (Behind j) = IsWritable j

-- one line more was taken
pub record IsTaken (s : Sofar) (words : List (List ℕ)) (further : Sofar) : Type 0 where
  pub lines : said further ≡ said s ++ words ∷ []
  pub good : IsSaid further

-- a line of the head
head_taken : (place : Place) (h : Head) (words : List (List ℕ)) (r : Option Place × Head) → (behind_said r ≡ head_said place h ++ words ∷ []) × IsHeadBehind r → IsTaken (InHead place h) words (behind_head r)
unfolding said IsSaid
head_taken place h words (None, k) t = record { lines = append-nil (whole_said k) ∙ t.0; good = record { head = t.1; teams = no_teams; players = no_players 0 } }
head_taken place h words (Some p, k) t = record { lines = t.0; good = t.1 }

-- a line that is one known word has just this word
is_word_is : (key : List ℕ) (words : List (List ℕ)) → is_word key words ≡ true → words ≡ key ∷ []
is_word_is key [] e = absurd cc
is_word_is key (word ∷ []) e = ap (λ (w : List ℕ). w ∷ []) (same_word word key e)
is_word_is key (word ∷ next ∷ more) e = absurd cc

-- what a line between the head and the entries is, and what it is behind
pub data StandCase (players : ℕ) (words : List (List ℕ)) (s : Stand) : Type 0 where
  ATeam : s ≡ stand.Team → players ≡ 0 → StandCase players words s
  APlayer : s ≡ stand.Player → StandCase players words s
  ABegin : s ≡ stand.Begin → 1 ≤ players → words ≡ codes "begin" ∷ [] → StandCase players words s

-- which of the three it is
stand_cases : (players : ℕ) (words : List (List ℕ)) → StandCase players words (stand_of players words)
stand_cases players words = of (cases_Bool (eqb players 0))
  where
    first : eqb players 0 ≡ true → StandCase players words (cond (is_some (team_form words)) stand.Team stand.Player)
    first none =
        elim (cases_Bool (is_some (team_form words))) [
          | inl team ↦ ATeam (rw team refl) (eqb-true players 0 none)
          | inr other ↦ APlayer (rw other refl)
        ]

    later : eqb players 0 ≡ false → StandCase players words (cond (is_word (codes "begin") words) stand.Begin stand.Player)
    later some_one =
        elim (cases_Bool (is_word (codes "begin") words)) [
          | inl begin ↦ ABegin (rw begin refl) (omega (arith, eqb-false players 0 some_one)) (is_word_is (codes "begin") words begin)
          | inr other ↦ APlayer (rw other refl)
        ]

    of : (eqb players 0 ≡ true) ⊎ (eqb players 0 ≡ false) → StandCase players words (stand_of players words)
    of (inl none) = rw none (first none)
    of (inr some_one) = rw some_one (later some_one)

-- a team's line
team_taken : (h : Head) (teams : List (List ℕ)) (words : List (List ℕ)) (further : Sofar) → AreNames h teams [] → name_in h teams [] words stand.Team ≡ Ok further → IsTaken (InNames h teams []) words further
unfolding said IsSaid
team_taken h teams words further good e =
    let b = bind_ok (team_in teams words) (λ name. line_ok (InNames h (teams ++ name ∷ []) [])) further e in
    let t = team_takes teams words b.0 b.1 in
    subst (IsTaken (InNames h teams []) words) (line_ok_is (InNames h (teams ++ b.0 ∷ []) []) further b.2) (record {
      lines = ap (λ (ls : List (List (List ℕ))). whole_said h ++ (ls ++ [])) (map_push team_words teams b.0) ∙ ap (λ (ls : List (List (List ℕ))). whole_said h ++ ls) (append-nil (map team_words teams ++ team_words b.0 ∷ [])) ∙ sym (append_assoc (whole_said h) (map team_words teams) (team_words b.0 ∷ [])) ∙ ap (λ (ls : List (List (List ℕ))). (whole_said h ++ ls) ++ team_words b.0 ∷ []) (sym (append-nil (map team_words teams))) ∙ ap (λ (ws : List (List ℕ)). said (InNames h teams []) ++ ws ∷ []) (sym t.0);
      good = record { head = good.head; teams = one_more_team teams b.0 good.teams t.1 t.2 t.3; players = no_players (length (teams ++ b.0 ∷ [])) };
    })

-- a player's line
player_taken : (h : Head) (teams : List (List ℕ)) (players : List Player) (words : List (List ℕ)) (further : Sofar) → AreNames h teams players → name_in h teams players words stand.Player ≡ Ok further → IsTaken (InNames h teams players) words further
unfolding said IsSaid
player_taken h teams players words further good e =
    let b = bind_ok (player_in (length teams) (names_of players) words) (λ p. line_ok (InNames h teams (players ++ p ∷ []))) further e in
    let t = player_takes (length teams) (names_of players) words b.0 b.1 in
    subst (IsTaken (InNames h teams players) words) (line_ok_is (InNames h teams (players ++ b.0 ∷ [])) further b.2) (record {
      lines = ap (λ (ls : List (List (List ℕ))). whole_said h ++ (map team_words teams ++ ls)) (map_push player_words players b.0) ∙ ap (λ (ls : List (List (List ℕ))). whole_said h ++ ls) (sym (append_assoc (map team_words teams) (map player_words players) (player_words b.0 ∷ []))) ∙ sym (append_assoc (whole_said h) (names_said teams players) (player_words b.0 ∷ [])) ∙ ap (λ (ws : List (List ℕ)). said (InNames h teams players) ++ ws ∷ []) (sym t.0);
      good = record { head = good.head; teams = good.teams; players = one_more (length teams) players b.0 good.players t.1 t.2 t.3 };
    })

-- the line `begin`
begin_taken : (h : Head) (teams : List (List ℕ)) (players : List Player) (words : List (List ℕ)) → AreNames h teams players → 1 ≤ length players → words ≡ codes "begin" ∷ [] → IsTaken (InNames h teams players) words (InEntries h teams players no_entries)
unfolding said IsSaid
begin_taken h teams players words good some_one is = record {
  lines = append-nil (setup_said h teams players) ∙ ap (λ (ws : List (List ℕ)). whole_said h ++ (names_said teams players ++ ws ∷ [])) (sym is) ∙ sym (append_assoc (whole_said h) (names_said teams players) (words ∷ []));
  good = (good, some_one, are_no_entries h.version (length players));
}

-- a line between the head and the entries
name_taken : (h : Head) (teams : List (List ℕ)) (players : List Player) (words : List (List ℕ)) (further : Sofar) (s : Stand) → StandCase (length players) words s → AreNames h teams players → name_in h teams players words s ≡ Ok further → IsTaken (InNames h teams players) words further
name_taken h teams players words further s (ATeam is none) good e =
    let empty : players ≡ [] = nil_from_length players none in
    subst (λ (ps : List Player). IsTaken (InNames h teams ps) words further) (sym empty) (team_taken h teams words further (subst (AreNames h teams) empty good) (sym (ap (λ (s : Stand). name_in h teams [] words s) is) ∙ ap (λ (ps : List Player). name_in h teams ps words s) (sym empty) ∙ e))
name_taken h teams players words further s (APlayer is) good e = player_taken h teams players words further good (sym (ap (λ (s : Stand). name_in h teams players words s) is) ∙ e)
name_taken h teams players words further s (ABegin is some_one begin) good e =
    subst (IsTaken (InNames h teams players) words) (line_ok_is (InEntries h teams players no_entries) further (sym (ap (λ (s : Stand). name_in h teams players words s) is) ∙ e)) (begin_taken h teams players words good some_one begin)

-- a setup in range
good_setup : (h : Head) (teams : List (List ℕ)) (players : List Player) → AreNames h teams players → 1 ≤ length players → (1 ≤ h.rule) × (h.rule ≤ 2) → IsGood (setup_made h teams players)
good_setup h teams players good some_one ruled = record {
  timed = good.head.timed;
  opens_before_end = good.head.opens_before_end;
  ends_most = good.head.ends_most;
  wave_least = good.head.wave_least;
  wave_most = good.head.wave_most;
  leaders_least = good.head.leaders_least;
  leaders_most = good.head.leaders_most;
  rule_least = ruled.0;
  rule_most = ruled.1;
  teams_most = good.teams.most;
  teams_named = good.teams.named;
  teams_distinct = good.teams.distinct;
  players_least = some_one;
  players_most = good.players.most;
  players_good = good.players.good;
  players_distinct = good.players.distinct;
}

-- what is read up to `end` is a journal in range
whole_good : (h : Head) (teams : List (List ℕ)) (players : List Player) (r : Recorded) → IsVersion h → AreNames h teams players → 1 ≤ length players → AreEntries h.version (length players) r → IsWritable (journal_made h teams players r)
whole_good h teams players r (One version rule) good some_one entries = record {
  setup = good_setup h teams players good some_one (omega (arith, rule), omega (arith, rule));
  entries_most = entries.most;
  entries = entries.good;
  version = inl (record { version = version; rule = rule; starts = entries.one version });
}
whole_good h teams players r (Two version least most) good some_one entries = record {
  setup = good_setup h teams players good some_one (least, most);
  entries_most = entries.most;
  entries = entries.good;
  version = inr (record { version = version; starts = entries.two version });
}

-- the line of an entry, or `end`
entry_taken : (h : Head) (teams : List (List ℕ)) (players : List Player) (r : Recorded) (words : List (List ℕ)) (further : Sofar) → IsSaid (InEntries h teams players r) → step (InEntries h teams players r) words ≡ Ok further → IsTaken (InEntries h teams players r) words further
unfolding said IsSaid step
entry_taken h teams players r words further good e =
    elim (cases_Bool (is_word (codes "end") words)) [
      | inl end ↦ subst (IsTaken (InEntries h teams players r) words) (line_ok_is (Behind (journal_made h teams players r)) further (rw end at e)) (record {
        lines = sym (rw (is_word_is (codes "end") words end) (joined_lines (whole_said h) (map team_words teams) (map player_words players) ((codes "begin" ∷ []) ∷ []) (entry_lines 0 r.starts r.entries) ((codes "end" ∷ []) ∷ [])));
        good = whole_good h teams players r good.0.head.version good.0 good.1 good.2;
      })
      | inr other ↦
          let b = bind_ok (record_in h.version (length players) r words) (λ more. line_ok (InEntries h teams players more)) further (rw other at e) in
          let t = record_takes h.version (length players) r b.0 words good.2 b.1 in
          subst (IsTaken (InEntries h teams players r) words) (line_ok_is (InEntries h teams players b.0) further b.2) (record {
            lines = ap (λ (ls : List (List (List ℕ))). setup_said h teams players ++ ls) t.lines ∙ sym (append_assoc (setup_said h teams players) (entry_lines 0 r.starts r.entries) (words ∷ []));
            good = (good.0, good.1, t.good);
          })
    ]
  where
    joined_lines : (w t p b e z : List (List (List ℕ))) → ((w ++ ((t ++ p) ++ b)) ++ e) ++ z ≡ ((((w ++ t) ++ p) ++ b) ++ e) ++ z
    joined_lines w t p b e z = simp append_assoc

-- one line more keeps what the lines have said in range, and is the last of them
pub step_takes : (s : Sofar) (words : List (List ℕ)) (further : Sofar) → IsSaid s → step s words ≡ Ok further → IsTaken s words further
unfolding step IsSaid
step_takes (InHead place h) words further good e =
    let b = bind_ok (head_in place h words) (λ next. line_ok (behind_head next)) further e in
    subst (IsTaken (InHead place h) words) (line_ok_is (behind_head b.0) further b.2) (head_taken place h words b.0 (head_takes place h words b.0 good b.1))
step_takes (InNames h teams players) words further good e = name_taken h teams players words further (stand_of (length players) words) (stand_cases (length players) words) good e
step_takes (InEntries h teams players r) words further good e = entry_taken h teams players r words further good e
step_takes (Behind j) words further good e = absurd cc
