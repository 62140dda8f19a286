-- How many rows, candidates, results and events there are at most, and between which numbers their values lie.
use Rattle.std.proofs.Common.{◌≡◌, ℕ, zero, suc, ◌+◌, ◌*◌, ◌<◌, ◌≤◌, ⊎_elim, List, [], ◌∷◌, drop, length, Option, Some, None, Bool, true, false, ◌||◌, refl, sym, ap, ◌∙◌, subst, arith}
use Rattle.std.specs.Prelude.{cond, map, filter, slice_get, ◌≢◌, eqb}
use Rattle.std.specs.List.{All, AllByRecursion, filter_map, list_any, cons_option, IsDistinct}
use Rattle.std.specs.Option.{option_map, option_map_or}
use Rattle.std.proofs.lemmas.Bool.{cases_Bool, eqb-true, ne_eqb}
use Rattle.std.proofs.lemmas.List.{length-map, length-drop}
use Rattle.std.proofs.lemmas.List.Elements.{All-from_recursion}
use Rattle.std.proofs.lemmas.List.Sorted.{All-permutation, length_permutation}
use Rattle.std.proofs.lemmas.Map.Steps.{length-le_from_distinct_below}
use Rattle.entries.specs.declared.setup.Player.{Player}
use Rattle.entries.specs.declared.setup.Setup.{Setup}
use Rattle.entries.specs.declared.journal.Entry.{Entry}
use Rattle.entries.specs.declared.journal.Start.{Start}
use Rattle.entries.specs.Limits.{max_games}
use Rattle.entries.specs.Ranges.{IsPlayer, IsGood}
use Rattle.board.specs.declared.piece.Colour.{Colour}
use Rattle.board.specs.Piece.{other}
use Rattle.game_room.specs.declared.header.Header.{Header}
use Rattle.game_room.specs.Events.{Event}
use Rattle.pair_cost.specs.declared.candidate.Candidate.{Candidate}
use Rattle.performance.specs.Laws.{PerformancesInRange}
use Rattle.performance.specs.Mean.{Met}
use Rattle.ranking.specs.declared.line.Line.{Line}
use Rattle.ranking.specs.declared.row.Row.{Row}
use Rattle.ranking.specs.Order.{ranked}
use Rattle.ranking.specs.Rows.{row_at, rows_from, rows}
use Rattle.sheet.specs.Laws.{PointsAreFew}
use Rattle.team_battle.specs.Teams.{IsRowOf}
use Rattle.wave.specs.Rankings.{IsRanking}
use Rattle.arena_history.specs.History.{History}
use Rattle.arena_history.specs.BoundLaws.{EnteredArePlayers}
use Rattle.arena_history.specs.Endings.{EndedGame, finished}
use Rattle.arena_history.specs.Games.{Begun, side_of, player_on, event_of, events, begun, games_from}
use Rattle.arena_history.specs.GameLaws.{IsGameOf}
use Rattle.arena_history.specs.Results.{result_for, result_on, results_among, results, rating_of, played_of, met_of, points_of}
use Rattle.arena_history.specs.Snapshots.{candidate, candidates}
use Rattle.arena_history.specs.Stands.{idle}
use Rattle.arena_history.specs.Table.{entered, line_among, lines_among, lines, standings}
use Rattle.arena_history.specs.Waves.{history}
use Rattle.arena_history.proofs.Histories.{IsWhole-history, entries-history}
use Rattle.arena_history.proofs.BegunGames.{begun_own}
use Rattle.arena_history.proofs.Candidates.{candidates_ranked}
use Rattle.arena_history.proofs.EndingStamps.{event_in_stamp}
use Rattle.arena_history.proofs.Following.{Follows, recursion_from_All, all_map}
use Rattle.arena_history.proofs.GrownGames.{fit}
use Rattle.arena_history.proofs.Lists.{all_at, all_filter, all_weaker}
use Rattle.arena_history.proofs.Tables.{ranked-permutation, entered_apart}

-- results

filter_map_length : {X Y : Type 0} (f : X → Option Y) (xs : List X) → length (filter_map f xs) ≤ length xs
filter_map_length f [] = omega arith
filter_map_length f (x ∷ xs) = by (f x) (filter_map_length f xs)
  where
    by : (o : Option _) → length (filter_map f xs) ≤ length xs → length (cons_option o (filter_map f xs)) ≤ suc (length xs)
    by None rest = omega arith
    by (Some y) rest = omega arith

pub results_few : (s : Setup) (h : History) (p : ℕ) → length (results s h p) ≤ length (finished s h)
unfolding results results_among
results_few s h p = filter_map_length (result_for s p) (finished s h)

-- ratings

rated_at : (xs : List Player) (p : ℕ) → AllByRecursion (λ (x : Player). x.rating ≤ 4000) xs → option_map_or (λ (x : Player). x.rating) (slice_get xs p) 0 ≤ 4000
rated_at [] p all = omega arith
rated_at (x ∷ xs) zero all = all.0
rated_at (x ∷ xs) (suc p) all = rated_at xs p all.1

pub rating_most : (s : Setup) (p : ℕ) → IsGood s → rating_of s p ≤ 4000
rating_most s p good =
    rated_at s.players p (all_weaker (IsPlayer (length s.teams)) (λ (x : Player). x.rating ≤ 4000) s.players (λ x is. is.rating_most) (recursion_from_All (IsPlayer (length s.teams)) s.players good.players_good))

met_rated : (s : Setup) (games : List EndedGame) (p : ℕ) → IsGood s → AllByRecursion (λ (m : Met). m.rating ≤ 4000) (map met_of (filter_map (result_for s p) games))
met_rated s [] p good = tt
met_rated s (x ∷ games) p good = by (side_of x.game.header p) (met_rated s games p good)
  where
    by : (o : Option Colour) → AllByRecursion (λ (m : Met). m.rating ≤ 4000) (map met_of (filter_map (result_for s p) games)) → AllByRecursion (λ (m : Met). m.rating ≤ 4000) (map met_of (cons_option (option_map (result_on s x) o) (filter_map (result_for s p) games)))
    by None rest = rest
    by (Some side) rest = (rating_most s (player_on (other side) x.game.header) good, rest)

-- rows

length-rows : (ls : List Line) → length (rows ls) ≡ length ls
unfolding rows
length-rows ls = from 0 (ranked ls) ∙ length_permutation ls (ranked ls) (ranked-permutation ls)
  where
    from : (k : ℕ) (xs : List Line) → length (rows_from k xs) ≡ length xs
    from k [] = refl
    from k (x ∷ xs) = ap suc (from (suc k) xs)

pub length-standings : (s : Setup) (h : History) → length (standings s h) ≡ length (entered h)
unfolding standings lines lines_among
length-standings s h = length-rows (map (line_among s (finished s h)) (entered h)) ∙ length-map (entered h) (line_among s (finished s h))

pub distinct_from : (ps : List ℕ) → Follows (λ a b. a ≢ b) ps → IsDistinct eqb ps
unfolding IsDistinct
distinct_from [] apart = tt
distinct_from (p ∷ ps) apart = (all_weaker (λ q. p ≢ q) (λ q. eqb p q ≡ false) ps (λ q other. ne_eqb p q other) apart.0, distinct_from ps apart.1)

pub below_from : (n : ℕ) (ps : List ℕ) → AllByRecursion (λ p. p < n) ps → (q : ℕ) → list_any (eqb q) ps ≡ true → q < n
below_from n [] all q on = cc
below_from n (p ∷ ps) all q on =
    ⊎_elim
    (λ (here : eqb q p ≡ true). subst (λ k. k < n) (sym (eqb-true q p here)) all.0)
    (λ (away : eqb q p ≡ false). below_from n ps all.1 q (ap (λ b. b || list_any (eqb q) ps) (sym away) ∙ on))
    (cases_Bool (eqb q p))

-- no more players entered than there are
pub entered_few : (s : Setup) (h : History) → EnteredArePlayers s h → length (entered h) ≤ length s.players
entered_few s h players = length-le_from_distinct_below (entered h) (length s.players) (distinct_from (entered h) (entered_apart h)) (below_from (length s.players) (entered h) players)

pub rows_few : (s : Setup) (h : History) → EnteredArePlayers s h → length (standings s h) ≤ length s.players
rows_few s h players = omega (arith, length-standings s h, entered_few s h players)

rows_all : (P : Row → Type 0) (Q : Line → Type 0) → ((k : ℕ) (x : Line) → Q x → P (row_at k x)) → (k : ℕ) (ls : List Line) → AllByRecursion Q ls → AllByRecursion P (rows_from k ls)
rows_all P Q each k [] all = tt
rows_all P Q each k (x ∷ ls) all = (each k x all.0, rows_all P Q each (suc k) ls all.1)

pub standings_all : (P : Row → Type 0) (Q : Line → Type 0) → ((k : ℕ) (x : Line) → Q x → P (row_at k x)) → (s : Setup) (h : History) → AllByRecursion Q (lines s h) → AllByRecursion P (standings s h)
unfolding standings rows
standings_all P Q each s h all =
    rows_all P Q each 0 (ranked (lines s h)) (recursion_from_All Q (ranked (lines s h)) (All-permutation Q (lines s h) (ranked (lines s h)) (ranked-permutation (lines s h)) (All-from_recursion Q (lines s h) all)))

pub lines_all : (Q : Line → Type 0) (P : ℕ → Type 0) (s : Setup) (h : History) → ((p : ℕ) → P p → Q (line_among s (finished s h) p)) → AllByRecursion P (entered h) → AllByRecursion Q (lines s h)
unfolding lines lines_among
lines_all Q P s h each all = all_map (line_among s (finished s h)) P Q (entered h) each all

module _ (few : PointsAreFew) (range : PerformancesInRange) (s : Setup) (es : List Entry) (good : IsGood s) (players : EnteredArePlayers s (history s es)) (games : length (history s es).starts ≤ max_games) where
  line_range : (p : ℕ) → p < length s.players → (k : ℕ) → IsRowOf (length s.players) (row_at k (line_among s (finished s (history s es)) p))
  unfolding line_among results_among
  line_range p lt k =
      let h = history s es in
      let rs = filter_map (result_for s p) (finished s h) in
      let between = range (map met_of rs) (All-from_recursion (λ (m : Met). m.rating ≤ 4000) (map met_of rs) (met_rated s (finished s h) p good)) in
      record {
        player = lt;
        points_most = let most : points_of rs ≤ 5 * length (map played_of rs) = few (map played_of rs) in omega (arith, most, length-map rs played_of, filter_map_length (result_for s p) (finished s h), fit s es, games);
        performance_least = between.0;
        performance_most = between.1;
      }

  -- each row is in its range
  pub rows_in_range : All (IsRowOf (length s.players)) (standings s (history s es))
  rows_in_range =
      let h = history s es in
      All-from_recursion (IsRowOf (length s.players)) (standings s h)
      (standings_all (IsRowOf (length s.players)) (λ (x : Line). (k : ℕ) → IsRowOf (length s.players) (row_at k x)) (λ k x is. is k) s h
      (lines_all (λ (x : Line). (k : ℕ) → IsRowOf (length s.players) (row_at k x)) (λ p. p < length s.players) s h line_range players))

-- candidates

rows_low : (n k : ℕ) (ls : List Line) → k + length ls ≤ n → AllByRecursion (λ (row : Row). row.rank < n) (rows_from k ls)
rows_low n k [] le = tt
rows_low n k (x ∷ ls) le = (omega arith, rows_low n (suc k) ls (omega arith))

ranks_low : (s : Setup) (h : History) → AllByRecursion (λ (row : Row). row.rank < length (entered h)) (standings s h)
unfolding standings rows lines lines_among
ranks_low s h =
    let ls = map (line_among s (finished s h)) (entered h) in
    rows_low (length (entered h)) 0 (ranked ls) (omega (arith, length_permutation ls (ranked ls) (ranked-permutation ls), length-map (entered h) (line_among s (finished s h))))

filter_length : {X : Type 0} (p : X → Bool) (xs : List X) → length (filter p xs) ≤ length xs
filter_length p [] = omega arith
filter_length p (x ∷ xs) = by (p x) (filter_length p xs)
  where
    by : (b : Bool) → length (filter p xs) ≤ length xs → length (cond b (x ∷ filter p xs) (filter p xs)) ≤ suc (length xs)
    by true rest = omega arith
    by false rest = omega arith

pub length-candidates : (s : Setup) (h : History) → length (candidates s h) ≤ length (entered h)
unfolding candidates
length-candidates s h =
    let kept = filter (λ (row : Row). idle s h row.player) (standings s h) in
    omega (arith, length-map kept (candidate s h), filter_length (λ (row : Row). idle s h row.player) (standings s h), length-standings s h)

pub ranking : (s : Setup) (h : History) → IsGood s → EnteredArePlayers s h → IsRanking (candidates s h)
unfolding candidates
ranking s h good players =
    let kept = filter (λ (row : Row). idle s h row.player) (standings s h) in
    let many : length (entered h) ≤ 1000 = omega (arith, entered_few s h players, good.players_most) in
    record {
      many = omega (arith, length-candidates s h, many);
      ranked = candidates_ranked s h;
      places = All-from_recursion (λ (c : Candidate). c.rank ≤ 999) (map (candidate s h) kept) (all_map (candidate s h) (λ (row : Row). row.rank < length (entered h)) (λ (c : Candidate). c.rank ≤ 999) kept (λ row lt. omega (arith, lt, many)) (all_filter (λ (row : Row). row.rank < length (entered h)) (λ (row : Row). idle s h row.player) (standings s h) (ranks_low s h)));
      rated = All-from_recursion (λ (c : Candidate). c.rating ≤ 4000) (map (candidate s h) kept) (all_map (candidate s h) (λ (row : Row). Unit {0}) (λ (c : Candidate). c.rating ≤ 4000) kept (λ row any. rating_most s row.player good) (any_all kept));
    }
  where
    any_all : (xs : List Row) → AllByRecursion (λ (row : Row). Unit {0}) xs
    any_all [] = tt
    any_all (x ∷ xs) = (tt, any_all xs)

-- events

events_stamped : (g : Header) (t : ℕ) (es : List Entry) → AllByRecursion (λ (e : Entry). e.stamp ≤ t) es → AllByRecursion (λ (x : Event). x.stamp ≤ t) (filter_map (event_of g) es)
events_stamped g t [] all = tt
events_stamped g t (e ∷ es) all = by (event_of g e) refl (events_stamped g t es all.1)
  where
    by : (o : Option Event) → event_of g e ≡ o → AllByRecursion (λ (x : Event). x.stamp ≤ t) (filter_map (event_of g) es) → AllByRecursion (λ (x : Event). x.stamp ≤ t) (cons_option o (filter_map (event_of g) es))
    by None is rest = rest
    by (Some x) is rest = (let same : x.stamp ≡ e.stamp = event_in_stamp g e.stamp e.what x is in omega (arith, same, all.0), rest)

all_drop : {X : Type 0} (P : X → Type 0) (n : ℕ) (xs : List X) → AllByRecursion P xs → AllByRecursion P (drop n xs)
all_drop P zero xs all = all
all_drop P (suc n) [] all = tt
all_drop P (suc n) (x ∷ xs) all = all_drop P n xs all.1

each_stamp : (t : ℕ) (es : List Entry) → ((n : ℕ) (e : Entry) → slice_get es n ≡ Some e → e.stamp ≤ t) → AllByRecursion (λ (e : Entry). e.stamp ≤ t) es
each_stamp t [] each = tt
each_stamp t (e ∷ es) each = (each 0 e refl, each_stamp t es (λ n x at. each (suc n) x at))

stamp_low : (t : ℕ) (es : List Entry) (n : ℕ) → ((n : ℕ) (e : Entry) → slice_get es n ≡ Some e → e.stamp ≤ t) → option_map_or (λ (e : Entry). e.stamp) (slice_get es n) 0 ≤ t
stamp_low t es n each = by (slice_get es n) refl
  where
    by : (o : Option Entry) → slice_get es n ≡ o → option_map_or (λ (e : Entry). e.stamp) o 0 ≤ t
    by None is = omega arith
    by (Some e) is = each n e is

starts_low : (s : Setup) (es : List Entry) (t k : ℕ) (xs : List Start) → ((n : ℕ) (e : Entry) → slice_get es n ≡ Some e → e.stamp ≤ t) → AllByRecursion (λ (g : Begun). g.header.start ≤ t) (games_from s es k xs)
starts_low s es t k [] each = tt
starts_low s es t k (x ∷ xs) each = (stamp_low t es x.entry each, starts_low s es t (suc k) xs each)

pub events_are_entries : (s : Setup) (es : List Entry) (g : Begun) (t : ℕ) → IsGameOf s es g → ((n : ℕ) (e : Entry) → slice_get es n ≡ Some e → e.stamp ≤ t) → (length (events (history s es) g) < length es) × (g.header.start ≤ t) × All (λ (x : Event). x.stamp ≤ t) (events (history s es) g)
unfolding events begun
events_are_entries s es g t at each =
    let h = history s es in
    let same : h.entries ≡ es = entries-history s es in
    let own : g.entry < length h.entries = all_at (λ (q : Begun). q.entry < length h.entries) (begun s h) g.header.id g (begun_own s h (IsWhole-history s es)) at in
    let each_h : (n : ℕ) (e : Entry) → slice_get h.entries n ≡ Some e → e.stamp ≤ t = λ n e found. each n e (ap (λ l. slice_get l n) (sym same) ∙ found) in (
      omega (arith, own, ap length same, filter_map_length (event_of g.header) (drop (g.entry + 1) h.entries), length-drop (g.entry + 1) h.entries),
      all_at (λ (q : Begun). q.header.start ≤ t) (begun s h) g.header.id g (starts_low s h.entries t 0 h.starts each_h) at,
      All-from_recursion (λ (x : Event). x.stamp ≤ t) (filter_map (event_of g.header) (drop (g.entry + 1) h.entries)) (events_stamped g.header t (drop (g.entry + 1) h.entries) (all_drop (λ (e : Entry). e.stamp ≤ t) (g.entry + 1) h.entries (each_stamp t h.entries each_h))),
    )
