-- The lines of the teams and the players: what they say is what they were written from, and what was written is read again.
use Rattle.std.proofs.Common.{◌≡◌, ℕ, ◌^◌, ◌<◌, ◌≤◌, Bool, true, false, cond, eqb, leb, ◌&&◌, List, [], ◌∷◌, ◌++◌, length, map, All, Option, Some, None, Ok, option_and_then, refl, sym, ap, subst, ◌∙◌, arith, inl, inr}
use Rattle.std.specs.Prelude.{codes}
use Rattle.std.specs.Fmt.{decimal}
use Rattle.std.specs.Str.{bytes_eq}
use Rattle.std.proofs.lemmas.Bool.{cases_Bool, and_parts, and_from, leb-true, le-leb, ltb-true, lt-ltb, ne_eqb}
use Rattle.std.proofs.lemmas.List.{length-map, length_push, map_push, map-append}
use Rattle.std.proofs.lemmas.List.Elements.{All-nil, All-push}
use Rattle.decimals.specs.Decimals.{number_of}
use Rattle.decimals.proofs.DecimalLemmas.{number_of-decimal}
use Rattle.entries.specs.Names.{is_name, IsName, AreDistinct}
use Rattle.entries.specs.Ranges.{IsTeamOf, IsPlayer}
use Rattle.entries.specs.declared.setup.Player.{Player}
use Rattle.journal_text.specs.Lines.{two, four}
use Rattle.journal_text.specs.Text.{team_words, team_word, player_words}
use Rattle.journal_text.specs.Forms.{is_within, ranged, is_taken, enrolled, team_form, team_in, membership_form, membership_fits, player_form, player_fits, player_made, player_in}
use Rattle.journal_text.specs.Reading.{names_of}
use Rattle.journal_text.proofs.Fails.{bind_some, guard_some, some, some_is, formed_ok, ranged_ok, enrolled_ok, enrolled_again}
use Rattle.journal_text.proofs.FormLemmas.{same_word, two_is, four_is, keyed_four, decimal_is, decimal_front, four_same}
use Rattle.journal_text.proofs.NameLemmas.{not_before, distinct_more, no_names}

-- ---- a team

-- a line with the form of a team has just its words, and a name
pub team_form_is : (words : List (List ℕ)) (name : List ℕ) → team_form words ≡ Some name → (words ≡ team_words name) × IsName name
unfolding team_form
team_form_is words name e =
    let b = bind_some (two words) (λ w. cond (bytes_eq w.0 (codes "team") && is_name w.1) (Some w.1) None) name e in
    let g = guard_some (bytes_eq b.0.0 (codes "team") && is_name b.0.1) (some b.0.1) name b.2 in
    let parts = and_parts (bytes_eq b.0.0 (codes "team")) (is_name b.0.1) g.0 in
    let words_are : words ≡ team_words b.0.1 = two_is words b.0 b.1 ∙ ap (λ (key : List ℕ). key ∷ b.0.1 ∷ []) (same_word b.0.0 (codes "team") parts.0) in
    subst (λ (name : List ℕ). (words ≡ team_words name) × IsName name) (some_is b.0.1 name g.1) (words_are, parts.1)

-- the words of a team with a name have its form
pub team_form_again : (name : List ℕ) → IsName name → team_form (team_words name) ≡ Some name
unfolding team_form
team_form_again name named = rw named refl

-- the team that a line says has these words and a name, and there was room for the name and it was free
pub team_takes : (names words : List (List ℕ)) (name : List ℕ) → team_in names words ≡ Ok name → (words ≡ team_words name) × IsName name × (length names < 100) × (is_taken names name ≡ false)
unfolding team_in
team_takes names words name e =
    let f = formed_ok (team_form words) (λ n. enrolled 100 names n n) name e in
    let r = enrolled_ok 100 names f.0 f.0 name f.2 in
    let is = team_form_is words f.0 f.1 in
    subst (λ (name : List ℕ). (words ≡ team_words name) × IsName name × (length names < 100) × (is_taken names name ≡ false)) r.2 (is.0, is.1, r.0, r.1)

-- the words of a team say it, where there is room for its name and it is free
pub team_again : (names : List (List ℕ)) (name : List ℕ) → IsName name → length names < 100 → is_taken names name ≡ false → team_in names (team_words name) ≡ Ok name
unfolding team_in
team_again names name named room free = rw (team_form_again name named) (enrolled_again 100 names name name room free)

-- names of teams as a setup may have them
pub record AreTeams (teams : List (List ℕ)) : Type 0 where
  pub most : length teams ≤ 100
  pub named : All IsName teams
  pub distinct : AreDistinct teams

-- no teams are as they may be
pub no_teams : AreTeams []
no_teams = record { most = omega arith; named = All-nil IsName; distinct = no_names }

-- a further team is one more
pub one_more_team : (teams : List (List ℕ)) (name : List ℕ) → AreTeams teams → IsName name → length teams < 100 → is_taken teams name ≡ false → AreTeams (teams ++ name ∷ [])
one_more_team teams name h named room free = record {
  most = omega (arith, room, length_push teams name);
  named = All-push IsName teams name h.named named;
  distinct = distinct_more teams name h.distinct free;
}

-- ---- a player

-- the word that is read as a team is that team's
membership_takes : (word : List ℕ) (team : Option ℕ) → membership_form word ≡ Some team → word ≡ team_word team
unfolding membership_form
membership_takes word team e =
    elim (cases_Bool (bytes_eq word (codes "-"))) [
      | inl dash ↦ subst (λ (team : Option ℕ). word ≡ team_word team) (some_is None team (rw dash at e)) (same_word word (codes "-") dash)
      | inr other ↦
          let n = bind_some (number_of word) (λ n. Some (Some n)) team (rw other at e) in
          subst (λ (team : Option ℕ). word ≡ team_word team) (some_is (Some n.0) team n.2) (decimal_is word n.0 n.1)
    ]

-- the values of a player that were read
player_fields : (a : Option ℕ) (t : Option (Option ℕ)) (named : Bool) (name : List ℕ) (p : ℕ × Option ℕ × List ℕ) → option_and_then (λ r. option_and_then (λ u. cond named (Some (r, u, name)) None) t) a ≡ Some p → (a ≡ Some p.0) × (t ≡ Some p.1) × (named ≡ true) × (name ≡ p.2)
player_fields None t named name p e = absurd cc
player_fields (Some r) None named name p e = absurd cc
player_fields (Some r) (Some u) false name p e = absurd cc
player_fields (Some r) (Some u) true name p e = subst (λ (p : ℕ × Option ℕ × List ℕ). (some r ≡ some p.0) × (some u ≡ some p.1) × (true ≡ true) × (name ≡ p.2)) (some_is (r, u, name) p e) (refl, refl, refl, refl)

-- a line with the form of a player has just his words, and a name
pub player_form_is : (words : List (List ℕ)) (p : ℕ × Option ℕ × List ℕ) → player_form words ≡ Some p → (words ≡ player_words (player_made p)) × IsName p.2
unfolding player_form
player_form_is words p e =
    let w = keyed_four (four words) (codes "player") _ p e in
    let f = player_fields (number_of w.0.1) (membership_form w.0.2) (is_name w.0.3) w.0.3 p w.3 in (
      four_is words w.0 w.1 ∙ four_same w.0.0 w.0.1 w.0.2 w.0.3 (codes "player") (decimal p.0) (team_word p.1) p.2 w.2 (decimal_is w.0.1 p.0 f.0) (membership_takes w.0.2 p.1 f.1) f.3,
      subst IsName f.3 f.2,
    )

-- a team in range is one of so many
team_in_range : (teams : ℕ) (team : Option ℕ) → membership_fits teams team ≡ true → IsTeamOf teams team
team_in_range teams None e = tt
team_in_range teams (Some n) e = ltb-true n teams e

-- the player that a line says has these words and is in range, and there was room for his name and it was free
pub player_takes : (teams : ℕ) (names words : List (List ℕ)) (p : Player) → player_in teams names words ≡ Ok p → (words ≡ player_words p) × IsPlayer teams p × (length names < 1000) × (is_taken names p.name ≡ false)
unfolding player_in
player_takes teams names words p e =
    let j = formed_ok (player_form words) (λ p. ranged (player_fits teams p) (enrolled 1000 names p.2 (player_made p))) p e in
    let f = ranged_ok (player_fits teams j.0) (enrolled 1000 names j.0.2 (player_made j.0)) p j.2 in
    let r = enrolled_ok 1000 names j.0.2 (player_made j.0) p f.1 in
    let fit = and_parts (is_within 400 4000 j.0.0) (membership_fits teams j.0.1) f.0 in
    let range = and_parts (leb 400 j.0.0) (leb j.0.0 4000) fit.0 in
    let is = player_form_is words j.0 j.1 in
    subst (λ (p : Player). (words ≡ player_words p) × IsPlayer teams p × (length names < 1000) × (is_taken names p.name ≡ false)) r.2 (is.0, record { named = is.1; rating_least = leb-true 400 j.0.0 range.0; rating_most = leb-true j.0.0 4000 range.1; in_team = team_in_range teams j.0.1 fit.1 }, r.0, r.1)

-- no number is the word for no team
no_dash : (n : ℕ) → n < 10 ^ 10 → bytes_eq (decimal n) (codes "-") ≡ false
no_dash n small =
    let front = decimal_front n small in
    let other : eqb front.0 45 ≡ false = ne_eqb front.0 45 (λ same. omega (arith, front.3)) in
    rw (front.2, other) refl

-- a team in range is read as such
membership_again : (teams : ℕ) (team : Option ℕ) → teams ≤ 100 → IsTeamOf teams team → (membership_form (team_word team) ≡ Some team) × (membership_fits teams team ≡ true)
unfolding membership_form
membership_again teams None few h = (refl, refl)
membership_again teams (Some n) few h = (rw (no_dash n (omega (arith, h)), number_of-decimal n (omega (arith, h))) refl, lt-ltb n teams h)

-- the words of a player in range have his form
pub player_form_again : (teams : ℕ) (p : Player) → teams ≤ 100 → IsPlayer teams p → player_form (player_words p) ≡ Some (p.rating, p.team, p.name)
unfolding player_form
player_form_again teams p few h = rw (number_of-decimal p.rating (omega (arith, h.rating_most)), (membership_again teams p.team few h.in_team).0, h.named) refl

-- the words of a player in range say this player, where there is room for his name and it is free
pub player_again : (teams : ℕ) (names : List (List ℕ)) (p : Player) → teams ≤ 100 → IsPlayer teams p → length names < 1000 → is_taken names p.name ≡ false → player_in teams names (player_words p) ≡ Ok p
unfolding player_in
player_again teams names p few h room free =
    let team = membership_again teams p.team few h.in_team in
    let formed = player_form_again teams p few h in
    let fit : player_fits teams (p.rating, p.team, p.name) ≡ true = and_from (is_within 400 4000 p.rating) (membership_fits teams p.team) (and_from (leb 400 p.rating) (leb p.rating 4000) (le-leb 400 p.rating h.rating_least) (le-leb p.rating 4000 h.rating_most)) team.1 in
    rw (formed, fit) (enrolled_again 1000 names p.name p room free)

-- the name of a player is not that of one before
pub free_name : (sofar ps : List Player) (p : Player) → AreDistinct (names_of (sofar ++ p ∷ ps)) → is_taken (names_of sofar) p.name ≡ false
free_name sofar ps p distinct = not_before (names_of sofar) (names_of ps) p.name (subst AreDistinct (map-append (λ (p : Player). p.name) sofar (p ∷ ps)) distinct)

-- players of so many teams as a setup may have them
pub record ArePlayers (teams : ℕ) (players : List Player) : Type 0 where
  pub most : length players ≤ 1000
  pub good : All (IsPlayer teams) players
  pub distinct : AreDistinct (names_of players)

-- no players are as they may be
pub no_players : (teams : ℕ) → ArePlayers teams []
no_players teams = record { most = omega arith; good = All-nil (IsPlayer teams); distinct = no_names }

-- a further player is one more
pub one_more : (teams : ℕ) (players : List Player) (p : Player) → ArePlayers teams players → IsPlayer teams p → length (names_of players) < 1000 → is_taken (names_of players) p.name ≡ false → ArePlayers teams (players ++ p ∷ [])
one_more teams players p h good room free = record {
  most = omega (arith, room, length_push players p, length-map players (λ (p : Player). p.name));
  good = All-push (IsPlayer teams) players p h.good good;
  distinct = subst AreDistinct (sym (map_push (λ (p : Player). p.name) players p)) (distinct_more (names_of players) p.name h.distinct free);
}
