-- The rows of a snapshot by what is kept are those of the history.
use Rattle.std.proofs.Common.{◌≡◌, ℕ, ◌+◌, ◌<◌, List, [], ◌∷◌, ◌++◌, length, get_or, take, Some, None, Bool, true, false, refl, sym, ap, subst, ◌∙◌, arith, cond}
use Rattle.std.specs.Prelude.{map, filter, slice_get, unwrap_or, Option}
use Rattle.std.specs.List.{All}
use Rattle.std.proofs.lemmas.List.{get_or-map, length-map, map-append, take_more}
use Rattle.std.proofs.lemmas.List.Elements.{filter-append}
use Rattle.std.proofs.lemmas.List.Sorted.{All-permutation}
use Rattle.std.proofs.lemmas.Option.{get_or_from_slice_get}
use Rattle.entries.specs.declared.setup.Setup.{Setup}
use Rattle.ranking.specs.declared.line.Line.{Line}
use Rattle.ranking.specs.declared.row.Row.{Row}
use Rattle.ranking.specs.Laws.{RowsHaveThePlayers}
use Rattle.ranking.specs.Order.{nobody}
use Rattle.ranking.specs.Rows.{IsListed, listed, rows}
use Rattle.seats.specs.declared.wish.Wish.{Wish}
use Rattle.seats.specs.declared.wish.Wish.TheVariants as wishes
use Rattle.seats.specs.Places.{Place, seat_of, is_idle, is_waiting}
use Rattle.team_battle.specs.Teams.{team_of}
use Rattle.arena_history.specs.History.{History}
use Rattle.arena_history.specs.Endings.{finished}
use Rattle.arena_history.specs.PlayerLaws.{PlacesWithOneMore}
use Rattle.arena_history.specs.Results.{rating_of}
use Rattle.arena_history.specs.Since.{place, places}
use Rattle.arena_history.specs.Snapshots.{candidate, candidates}
use Rattle.arena_history.specs.Stands.{idle}
use Rattle.arena_history.specs.Table.{entered, lines, lines_among, standings}
use Rattle.arena_players.specs.declared.facts.PairingFacts.{PairingFacts}
use Rattle.arena_players.specs.Accounts as accounts
use Rattle.arena_players.specs.Candidates.{candidate_by, candidates_by, waits}
use Rattle.arena_players.specs.Facts.{facts_at, facts_of, history_of, no_facts}
use Rattle.arena_players.specs.Facts as facts
use Rattle.arena_players.proofs.Begins.{facts-same}
use Rattle.arena_players.proofs.Lists.{get_at, tail_all}

-- one row more of the walk
pub walk_more : (s : Setup) (kept : List PairingFacts) (seats : List Place) (rs : List Row) (i : ℕ) (row : Row) → i < length rs → slice_get rs i ≡ Some row
    → candidates_by s kept seats (take (i + 1) rs) ≡ candidates_by s kept seats (take i rs) ++ candidates_by s kept seats (row ∷ [])
walk_more s kept seats rs i row lt at =
    let idle_row : Row → Bool = λ r. waits seats r.player in
    let is : get_or rs i row ≡ row = get_or_from_slice_get rs i row row at in
    ap (candidates_by s kept seats) (take_more rs i row lt ∙ ap (λ r. take i rs ++ r ∷ []) is)
    ∙ (ap (map (candidate_by s kept)) (filter-append idle_row (take i rs) (row ∷ []))
    ∙ map-append (candidate_by s kept) (filter idle_row (take i rs)) (filter idle_row (row ∷ [])))

-- the seats tell who is idle

is_waiting_by : (w : Wish) (game : Option ℕ) → is_waiting (seat_of w game) ≡ is_idle w game
is_waiting_by w (Some g) = refl
is_waiting_by wishes.Absent None = refl
is_waiting_by wishes.In None = refl
is_waiting_by wishes.Paused None = refl
is_waiting_by wishes.Left None = refl

waits-idle : PlacesWithOneMore → (s : Setup) (h : History) (p : ℕ) → p < length s.players → waits (places s h) p ≡ idle s h p
unfolding place idle
waits-idle law s h p lt = ap (λ (x : Place). is_waiting (seat_of x.wish x.game)) (law.at s h p lt) ∙ is_waiting_by (place s h p).wish (place s h p).game

module _ (law : PlacesWithOneMore) (s : Setup) (h : History) (k : facts.KeptPairings) (stands : facts.StandsFor k (length s.players) h.starts h.lefts) where
  facts-kept : (p : ℕ) → p < length s.players → facts_at k.facts p ≡ facts_of h p
  facts-kept p lt =
      let within : p < length k.facts = (let size = stands.size in omega (arith, size, lt)) in
      let at = get_at k.facts p no_facts within in
      ap (λ o. unwrap_or o no_facts) at ∙ (stands.facts p (get_or k.facts p no_facts) at ∙ facts-same h p)

  candidate-kept : (row : Row) → row.player < length s.players → candidate_by s k.facts row ≡ candidate s h row
  candidate-kept row lt = λ i. record {
    player = row.player;
    rank = row.rank;
    rating = rating_of s row.player;
    last = (facts-kept row.player lt i).last;
    balance = (facts-kept row.player lt i).balance;
    team = team_of s row.player;
    alone = (facts-kept row.player lt i).alone;
  }

  rows-kept : (rs : List Row) → All (λ (row : Row). row.player < length s.players) rs → candidates_by s k.facts (places s h) rs ≡ map (candidate s h) (filter (λ (row : Row). idle s h row.player) rs)
  rows-kept [] all = refl
  rows-kept (row ∷ rs) all =
      let lt = all 0 row (omega arith) in
      let rest = rows-kept rs (tail_all (λ (r : Row). r.player < length s.players) row rs all) in
      (λ i. map (candidate_by s k.facts) (cond (waits-idle law s h row.player lt i) (row ∷ filter (λ (r : Row). waits (places s h) r.player) rs) (filter (λ (r : Row). waits (places s h) r.player) rs)))
      ∙ by (idle s h row.player) (candidate-kept row lt) rest
    where
      by : (b : Bool) → candidate_by s k.facts row ≡ candidate s h row → candidates_by s k.facts (places s h) rs ≡ map (candidate s h) (filter (λ (r : Row). idle s h r.player) rs)
          → map (candidate_by s k.facts) (cond b (row ∷ filter (λ (r : Row). waits (places s h) r.player) rs) (filter (λ (r : Row). waits (places s h) r.player) rs))
          ≡ map (candidate s h) (cond b (row ∷ filter (λ (r : Row). idle s h r.player) rs) (filter (λ (r : Row). idle s h r.player) rs))
      by true one rest = λ i. one i ∷ rest i
      by false one rest = rest

-- the players of the rows are players of the setup
rows_listed : RowsHaveThePlayers → (room : ℕ) (ls : List Line) → IsListed (listed room ls) → All (λ (row : Row). row.player < room) (rows ls)
rows_listed law room ls is = λ i d lt.
    let each : All (λ p. p < room) (map (λ (line : Line). line.player) ls) =
    (λ k e less.
    let within : k < length ls = (let same = length-map ls (λ (line : Line). line.player) in omega (arith, less, same)) in
    subst (λ p. p < room) (sym (get_or-map (λ (line : Line). line.player) ls k nobody e within)) (is.players k within)) in
    let all = All-permutation (λ p. p < room) (map (λ (line : Line). line.player) ls) (map (λ (row : Row). row.player) (rows ls)) (law ls) each in
    let longer : i < length (map (λ (row : Row). row.player) (rows ls)) = (let same = length-map (rows ls) (λ (row : Row). row.player) in omega (arith, lt, same)) in
    subst (λ p. p < room) (get_or-map (λ (row : Row). row.player) (rows ls) i d 0 lt) (all i 0 longer)

-- where all that is kept stands for a history, the candidates by what is kept are those of the history
pub candidates-kept : PlacesWithOneMore → RowsHaveThePlayers → (s : Setup) (h : History) (k : accounts.KeptScores) (f : facts.KeptPairings) (seats : List Place)
    → IsListed (listed (length k.accounts) k.lines)
    → accounts.StandsFor k s (finished s h) (entered h)
    → facts.StandsFor f (length s.players) h.starts h.lefts
    → seats ≡ places s h
    → candidates_by s f.facts seats (rows k.lines) ≡ candidates s h
unfolding candidates standings lines
candidates-kept places_law rows_law s h k f seats is scores pairings at =
    (λ i. candidates_by s f.facts (at i) (rows (scores.lines i)))
    ∙ rows-kept places_law s h f pairings (rows (lines_among s (finished s h) (entered h)))
    (subst (λ l. All (λ (row : Row). row.player < length s.players) (rows l)) scores.lines
    (subst (λ n. All (λ (row : Row). row.player < n) (rows k.lines)) scores.size (rows_listed rows_law (length k.accounts) k.lines is)))
