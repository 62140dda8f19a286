-- What one row more makes of each team.
use Rattle.std.proofs.Common.{◌≡◌, ℕ, zero, suc, ◌+◌, ◌*◌, ◌<◌, ◌≤◌, ⊎_elim, List, [], ◌∷◌, ◌++◌, take, length, Bool, true, false, Some, None, get_or, refl, sym, ap, ◌∙◌, subst, arith}
use Rattle.std.specs.Prelude.{ℤ, pos, ◌+ℤ◌, ◌≤ℤ◌, negsuc, cond, nat_lt, fold, filter, slice_set}
use Rattle.std.specs.List.{All, AllByRecursion}
use Rattle.std.proofs.lemmas.Bool.{cases_eq, cases_lt, eq-eqb, ne_eqb, lt-ltb, le-ltb}
use Rattle.std.proofs.lemmas.Int.{ints}
use Rattle.std.proofs.lemmas.List.{append-nil, take_all, take-append-le, length-take-le, length_push, take_more, length-set, get_or-set_same, get_or-set_other}
use Rattle.std.proofs.lemmas.List.Elements.{filter-append, All-filter, All-take, recursion_from_All}
use Rattle.std.proofs.lemmas.List.FromFn.{fill_by_all, get_or-map-range_with_len, length-map-range_with_len}
use Rattle.std.proofs.lemmas.List.Sums.{sum_by-append, sum_by-cons, fold-append}
use Rattle.entries.specs.declared.setup.Setup.{Setup}
use Rattle.ranking.specs.declared.row.Row.{Row}
use Rattle.team_battle.specs.declared.tally.Tally.{Tally}
use Rattle.team_battle.specs.declared.team_row.TeamRow.{TeamRow}
use Rattle.team_battle.specs.Compare.{added, counted, IsInRange}
use Rattle.team_battle.specs.Teams.{IsRowOf, team_of, is_team, is_of, leaders, points_of, performance_of, tally, tallies, team_row, team_rows_from}

-- what rows that count make of a team
abbrev pub of_leaders : ℕ → List Row → Tally
of_leaders team rows = record { team = team; leaders = length rows; points = points_of rows; performance = performance_of rows }

of_leaders-push : (team : ℕ) (rows : List Row) (row : Row) → of_leaders team (rows ++ row ∷ []) ≡ added row (of_leaders team rows)
of_leaders-push team rows row =
    let many : length (rows ++ row ∷ []) ≡ length rows + 1 = length_push rows row in
    let points : points_of (rows ++ row ∷ []) ≡ points_of rows + row.points = sum_by-append (λ (r : Row). r.points) rows (row ∷ []) ∙ omega (arith, sum_by-cons (λ (r : Row). r.points) row []) in
    let performance : performance_of (rows ++ row ∷ []) ≡ performance_of rows +ℤ row.performance = fold-append (λ sum (r : Row). sum +ℤ r.performance) (pos 0) rows (row ∷ []) in
    λ i. record { team = team; leaders = many i; points = points i; performance = performance i }

take-nil : {X : Type 0} (n : ℕ) → take n [] ≡ let none : List X = [] in none
take-nil zero = refl
take-nil (suc n) = refl

-- the first n of a list with one more
take-push : {X : Type 0} (n : ℕ) (xs : List X) (x : X) → take n (xs ++ x ∷ []) ≡ cond (nat_lt (length (take n xs)) n) (take n xs ++ x ∷ []) (take n xs)
take-push n xs x =
    ⊎_elim
    (λ (short : length xs < n).
    let whole : take n xs ≡ xs = take_all n xs (omega arith) in
    let less : nat_lt (length (take n xs)) n ≡ true = lt-ltb (length (take n xs)) n (omega (arith, ap length whole)) in
    rw less (take_all n (xs ++ x ∷ []) (omega (arith, length_push xs x)) ∙ ap (λ l. l ++ x ∷ []) (sym whole)))
    (λ (long : n ≤ length xs).
    let full : nat_lt (length (take n xs)) n ≡ false = le-ltb (length (take n xs)) n (omega (arith, length-take-le n xs long)) in
    rw full (take-append-le n xs (x ∷ []) long))
    (cases_lt (length xs) n)

module _ (s : Setup) where
  leaders-nothing : (team : ℕ) → leaders s [] team ≡ []
  leaders-nothing team = take-nil s.leaders

  leaders-of : (rows : List Row) (row : Row) (team : ℕ) → is_of s team row ≡ true → leaders s (rows ++ row ∷ []) team ≡ cond (nat_lt (length (leaders s rows team)) s.leaders) (leaders s rows team ++ row ∷ []) (leaders s rows team)
  leaders-of rows row team own =
      ap (take s.leaders) (filter-append (is_of s team) rows (row ∷ []) ∙ ap (λ b. filter (is_of s team) rows ++ cond b (row ∷ []) []) own) ∙ take-push s.leaders (filter (is_of s team) rows) row

  leaders-other : (rows : List Row) (row : Row) (team : ℕ) → is_of s team row ≡ false → leaders s (rows ++ row ∷ []) team ≡ leaders s rows team
  leaders-other rows row team other =
      ap (take s.leaders) (filter-append (is_of s team) rows (row ∷ []) ∙ (ap (λ b. filter (is_of s team) rows ++ cond b (row ∷ []) []) other ∙ append-nil (filter (is_of s team) rows)))

  pub tally-leaders : (rows : List Row) (team : ℕ) → tally s rows team ≡ of_leaders team (leaders s rows team)
  unfolding tally
  tally-leaders rows team = refl

  pub tally-nothing : (team : ℕ) → tally s [] team ≡ of_leaders team []
  tally-nothing team = tally-leaders [] team ∙ ap (of_leaders team) (leaders-nothing team)

  -- a row of one of its players
  pub tally-of : (rows : List Row) (row : Row) (team : ℕ) → is_of s team row ≡ true → tally s (rows ++ row ∷ []) team ≡ counted s.leaders row (tally s rows team)
  tally-of rows row team own =
      tally-leaders (rows ++ row ∷ []) team ∙
      (ap (of_leaders team) (leaders-of rows row team own) ∙
      (chosen (nat_lt (length (leaders s rows team)) s.leaders) ∙ ap (counted s.leaders row) (sym (tally-leaders rows team))))
    where
      chosen : (b : Bool) → of_leaders team (cond b (leaders s rows team ++ row ∷ []) (leaders s rows team)) ≡ cond b (added row (of_leaders team (leaders s rows team))) (of_leaders team (leaders s rows team))
      chosen true = of_leaders-push team (leaders s rows team) row
      chosen false = refl

  -- a row of somebody else
  pub tally-other : (rows : List Row) (row : Row) (team : ℕ) → is_of s team row ≡ false → tally s (rows ++ row ∷ []) team ≡ tally s rows team
  tally-other rows row team other = tally-leaders (rows ++ row ∷ []) team ∙ (ap (of_leaders team) (leaders-other rows row team other) ∙ sym (tally-leaders rows team))

  -- all teams

  pub length-tallies : (rows : List Row) → length (tallies s rows) ≡ length s.teams
  length-tallies rows = length-map-range_with_len (tally s rows) 0 (length s.teams)

  pub tally_read : (rows : List Row) (team : ℕ) (d : Tally) → team < length s.teams → get_or (tallies s rows) team d ≡ tally s rows team
  tally_read rows team d lt = get_or-map-range_with_len (tally s rows) 0 (length s.teams) team team d lt (omega arith)

  -- a row of a player without a team leaves all teams as they were
  pub tallies-none : (rows : List Row) (row : Row) → team_of s row.player ≡ None → tallies s rows ≡ tallies s (rows ++ row ∷ [])
  tallies-none rows row none =
      fill_by_all (tally s (rows ++ row ∷ [])) (tallies s rows) (length s.teams) (of_leaders 0 []) (length-tallies rows) (λ k lt.
      tally_read rows k (of_leaders 0 []) lt ∙ sym (tally-other rows row k (ap (is_team k) none)))

  -- a row of a player of a team changes that team alone
  pub tallies-some : (rows : List Row) (row : Row) (team : ℕ) (new : Tally) → team_of s row.player ≡ Some team → team < length s.teams → new ≡ counted s.leaders row (tally s rows team) → slice_set (tallies s rows) team new ≡ tallies s (rows ++ row ∷ [])
  tallies-some rows row team new some lt is =
      fill_by_all (tally s (rows ++ row ∷ [])) (slice_set (tallies s rows) team new) (length s.teams) (of_leaders 0 []) (length-set (tallies s rows) team new ∙ length-tallies rows) (λ k within.
      ⊎_elim
      (λ (same : k ≡ team).
      ap (λ m. get_or (slice_set (tallies s rows) team new) m (of_leaders 0 [])) same ∙
      (get_or-set_same (tallies s rows) team new (of_leaders 0 []) (omega (arith, length-tallies rows)) ∙
      (is ∙ (sym (tally-of rows row team (ap (is_team team) some ∙ eq-eqb team team refl)) ∙ ap (tally s (rows ++ row ∷ [])) (sym same)))))
      (λ other.
      get_or-set_other (tallies s rows) team k new (of_leaders 0 []) other ∙
      (tally_read rows k (of_leaders 0 []) within ∙ sym (tally-other rows row k (ap (is_team k) some ∙ ne_eqb team k (λ e. other (sym e))))))
      (cases_eq k team))

  -- the sums stay in range

  points_in_range : (n : ℕ) (ls : List Row) → AllByRecursion (IsRowOf n) ls → points_of ls ≤ 1000000 * length ls
  points_in_range n [] all = omega arith
  points_in_range n (l ∷ ls) all = omega (arith, sum_by-cons (λ (r : Row). r.points) l ls, points_in_range n ls all.1, all.0.points_most)

  least_in_range : (n : ℕ) (z : ℤ) (k : ℕ) (ls : List Row) → AllByRecursion (IsRowOf n) ls → pos 0 ≤ℤ (z +ℤ pos (500 * k)) → pos 0 ≤ℤ (fold (λ sum (r : Row). sum +ℤ r.performance) z ls +ℤ pos (500 * (k + length ls)))
  least_in_range n z k [] all low = omega (arith, ints)
  least_in_range n z k (l ∷ ls) all low =
      let least : negsuc 499 ≤ℤ l.performance = all.0.performance_least in
      let rest = least_in_range n (z +ℤ l.performance) (k + 1) ls all.1 (omega (arith, ints)) in
      omega (arith, ints)

  most_in_range : (n : ℕ) (z : ℤ) (k : ℕ) (ls : List Row) → AllByRecursion (IsRowOf n) ls → z ≤ℤ pos (4500 * k) → fold (λ sum (r : Row). sum +ℤ r.performance) z ls ≤ℤ pos (4500 * (k + length ls))
  most_in_range n z k [] all high = omega (arith, ints)
  most_in_range n z k (l ∷ ls) all high =
      let most : l.performance ≤ℤ pos 4500 = all.0.performance_most in
      let rest = most_in_range n (z +ℤ l.performance) (k + 1) ls all.1 (omega (arith, ints)) in
      omega (arith, ints)

  pub tally_in_range : (rows : List Row) (team : ℕ) → All (IsRowOf (length s.players)) rows → IsInRange (tally s rows team)
  tally_in_range rows team all =
      let each : AllByRecursion (IsRowOf (length s.players)) (leaders s rows team) = recursion_from_All (IsRowOf (length s.players)) (leaders s rows team) (All-take (IsRowOf (length s.players)) s.leaders (filter (is_of s team) rows) (All-filter (is_of s team) (IsRowOf (length s.players)) rows all)) in
      subst (λ (t : Tally). IsInRange t) (sym (tally-leaders rows team)) (record {
        points_most = points_in_range (length s.players) (leaders s rows team) each;
        performance_least = let least : pos 0 ≤ℤ (performance_of (leaders s rows team) +ℤ pos (500 * (0 + length (leaders s rows team)))) = least_in_range (length s.players) (pos 0) 0 (leaders s rows team) each (omega (arith, ints)) in omega (arith, ints);
        performance_most = let most : performance_of (leaders s rows team) ≤ℤ pos (4500 * (0 + length (leaders s rows team))) = most_in_range (length s.players) (pos 0) 0 (leaders s rows team) each (omega (arith, ints)) in omega (arith, ints);
      })

  -- a team without rows has nothing
  pub tally-new : (new : Tally) → new.leaders ≡ 0 → new.points ≡ 0 → new.performance ≡ pos 0 → new ≡ tally s [] new.team
  tally-new new none points performance = (λ i. record { team = new.team; leaders = none i; points = points i; performance = performance i }) ∙ sym (tally-nothing new.team)

  -- what is read for a team
  pub tally-read : (rows : List Row) (list : List Tally) (team : ℕ) (read : Tally) → list ≡ tallies s rows → team < length s.teams → read ≡ get_or list team read → read ≡ tally s rows team
  tally-read rows list team read is lt at = at ∙ (ap (λ l. get_or l team read) is ∙ tally_read rows team read lt)

-- rows of teams

pub length-team_rows_from : (rank : ℕ) (ts : List Tally) → length (team_rows_from rank ts) ≡ length ts
length-team_rows_from rank [] = refl
length-team_rows_from rank (t ∷ rest) = ap suc (length-team_rows_from (suc rank) rest)

pub get_or-team_rows_from : (rank : ℕ) (ts : List Tally) (k : ℕ) (d : TeamRow) (e : Tally) → k < length ts → get_or (team_rows_from rank ts) k d ≡ team_row (rank + k) (get_or ts k e)
get_or-team_rows_from rank [] k d e lt = absurd (omega arith)
get_or-team_rows_from rank (t ∷ rest) zero d e lt = ap (λ m. team_row m t) (omega arith)
get_or-team_rows_from rank (t ∷ rest) (suc k) d e lt = get_or-team_rows_from (suc rank) rest k d e (omega arith) ∙ ap (λ m. team_row m (get_or rest k e)) (omega arith)

-- one row more
pub team_rows_more : (ts : List Tally) (k : ℕ) (row : TeamRow) (read : Tally) → k < length ts → row ≡ team_row k (get_or ts k read) → take (k + 1) (team_rows_from 0 ts) ≡ take k (team_rows_from 0 ts) ++ row ∷ []
team_rows_more ts k row read lt is =
    take_more (team_rows_from 0 ts) k row (omega (arith, length-team_rows_from 0 ts)) ∙
    ap (λ r. take k (team_rows_from 0 ts) ++ r ∷ []) (get_or-team_rows_from 0 ts k row read lt ∙ (ap (λ m. team_row m (get_or ts k read)) (omega arith) ∙ sym is))
