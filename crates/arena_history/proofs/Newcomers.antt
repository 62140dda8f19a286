-- Who never entered has played no game; and the results and lines with one game or one player more.
use Rattle.std.proofs.Common.{◌≡◌, ℕ, suc, List, [], ◌∷◌, ◌++◌, Bool, true, false, ◌||◌, refl, sym, ap, ◌∙◌}
use Rattle.std.specs.Prelude.{cond, map, ◌==◌}
use Rattle.std.specs.List.{AllByRecursion, filter_map}
use Rattle.std.proofs.lemmas.Bool.{eq-eqb, ne_eqb}
use Rattle.std.proofs.lemmas.List.{map-append}
use Rattle.std.proofs.lemmas.List.Elements.{filter_map-append}
use Rattle.entries.specs.declared.setup.Setup.{Setup}
use Rattle.entries.specs.declared.journal.Entry.{Entry}
use Rattle.entries.specs.declared.journal.Start.{Start}
use Rattle.ranking.specs.Rows.{fresh, has}
use Rattle.sheet.specs.Worth.{points}
use Rattle.arena_history.specs.History.{History}
use Rattle.arena_history.specs.Endings.{EndedGame, finished}
use Rattle.arena_history.specs.Games.{Begun, games_from, begun}
use Rattle.arena_history.specs.Results.{result_for, results_among, rating_of}
use Rattle.arena_history.specs.Table.{joined, entered, line_by, line_among, lines_among, line_of, lines}
use Rattle.arena_history.specs.Wishes.{has_entered}
use Rattle.arena_history.specs.Counting.{IsCounted}
use Rattle.arena_history.specs.Waves.{history}
use Rattle.arena_history.proofs.Counted.{counted_games}
use Rattle.arena_history.proofs.Entered.{stands_in, stands_in-entered}
use Rattle.arena_history.proofs.Listed.{starts_entered}
use Rattle.arena_history.proofs.Lists.{all_at}
use Rattle.arena_history.proofs.Seated.{PlansPairOnce}
use Rattle.arena_history.proofs.Tables.{has-lines_among}

-- p is one of those who entered
abbrev HasEntered : List ℕ → ℕ → Type 0
HasEntered ps p = stands_in p ps ≡ true

each_stands : (ps qs : List ℕ) → ((q : ℕ) → stands_in q qs ≡ true → stands_in q ps ≡ true) → AllByRecursion (HasEntered ps) qs
each_stands ps [] sub = tt
each_stands ps (q ∷ qs) sub = (
  sub q (ap (λ b. b || stands_in q qs) (eq-eqb q q refl)),
  each_stands ps qs (λ r on. sub r (ap (λ b. (q == r) || b) on ∙ or-true (q == r))),
)
  where
    or-true : (b : Bool) → (b || true) ≡ true
    or-true true = refl
    or-true false = refl

games_entered : (s : Setup) (es : List Entry) (P : ℕ → Type 0) (k : ℕ) (xs : List Start) → AllByRecursion (λ (x : Start). P x.white × P x.black) xs → AllByRecursion (λ (g : Begun). P g.header.white × P g.header.black) (games_from s es k xs)
games_entered s es P k [] all = tt
games_entered s es P k (x ∷ xs) all = (all.0, games_entered s es P (suc k) xs all.1)

module _ (known : PlansPairOnce) (s : Setup) (es : List Entry) (p : ℕ) (never : has_entered (history s es) p ≡ false) where
  elsewhere : (q : ℕ) → HasEntered (entered (history s es)) q → (q == p) ≡ false
  elsewhere q has = ne_eqb q p (λ same. let no' : true ≡ false = sym has ∙ (ap (λ r. stands_in r (entered (history s es))) same ∙ (stands_in-entered (history s es) p ∙ never)) in cc)

  begun_entered : AllByRecursion (λ (g : Begun). HasEntered (entered (history s es)) g.header.white × HasEntered (entered (history s es)) g.header.black) (begun s (history s es))
  unfolding begun
  begun_entered =
      let h = history s es in
      games_entered s h.entries (HasEntered (entered h)) 0 h.starts (starts_entered (HasEntered (entered h)) known s es (each_stands (entered h) (entered h) (λ q on. on)))

  none_of : (xs : List EndedGame) → AllByRecursion (IsCounted s (history s es)) xs → filter_map (result_for s p) xs ≡ []
  none_of [] all = refl
  none_of (x ∷ xs) all =
      let here = all_at (λ (g : Begun). HasEntered (entered (history s es)) g.header.white × HasEntered (entered (history s es)) g.header.black) (begun s (history s es)) x.game.header.id x.game begun_entered all.0.begun in
      rw (elsewhere x.game.header.white here.0, elsewhere x.game.header.black here.1) (none_of xs all.1)

  -- who never entered has no counted game
  pub newcomer_results : results_among s (finished s (history s es)) p ≡ []
  unfolding results_among
  newcomer_results = none_of (finished s (history s es)) (counted_games s es).1

  -- so that his line is a fresh one
  pub newcomer_line : line_of s (history s es) p ≡ fresh p (rating_of s p)
  unfolding line_of line_among points
  newcomer_line = ap (line_by p (rating_of s p)) newcomer_results

-- one counted game more
pub results-push : (s : Setup) (games : List EndedGame) (x : EndedGame) (p : ℕ) → results_among s (games ++ x ∷ []) p ≡ results_among s games p ++ filter_map (result_for s p) (x ∷ [])
unfolding results_among
results-push s games x p = filter_map-append (result_for s p) games (x ∷ [])

-- one player more
pub lines-joined : (s : Setup) (games : List EndedGame) (players : List ℕ) (p : ℕ) → lines_among s games (joined players p) ≡ cond (has (lines_among s games players) p) (lines_among s games players) (lines_among s games players ++ line_among s games p ∷ [])
unfolding lines_among
lines-joined s games players p =
    by (stands_in p players) ∙ ap (λ b. cond b (map (line_among s games) players) (map (line_among s games) players ++ line_among s games p ∷ [])) (sym (has-lines_among s games p players))
  where
    by : (b : Bool) → map (line_among s games) (cond b players (players ++ p ∷ [])) ≡ cond b (map (line_among s games) players) (map (line_among s games) players ++ line_among s games p ∷ [])
    by true = refl
    by false = map-append (line_among s games) players (p ∷ [])

pub lines-are : (s : Setup) (h : History) → lines s h ≡ lines_among s (finished s h) (entered h)
unfolding lines
lines-are s h = refl
