-- The table has each team once, in the teams' order.
use Rattle.std.proofs.Common.{◌≡◌, ℕ, zero, suc, ◌+◌, ◌<◌, ⊎_elim, List, [], ◌∷◌, map, length, true, false, Some, get_or, refl, sym, ap, ◌∙◌, subst, arith}
use Rattle.std.specs.Prelude.{fold, slice_get}
use Rattle.std.specs.List.{All, AllByRecursion, range_with_len}
use Rattle.std.specs.List.Sorted.{IsPermutation}
use Rattle.std.proofs.lemmas.Bool.{cases_Bool}
use Rattle.std.proofs.lemmas.List.Elements.{All-from_recursion}
use Rattle.std.proofs.lemmas.Option.{slice_get-get_or, slice_get_within}
use Rattle.std.proofs.lemmas.List.Sorted.{IsPermutation-map, All-permutation}
use Rattle.entries.specs.declared.setup.Setup.{Setup}
use Rattle.ranking.specs.declared.row.Row.{Row}
use Rattle.ranking.specs.Order.{placed, in_order}
use Rattle.ranking.proofs.Orders.{all_placed, fold_placed-permutation}
use Rattle.team_battle.specs.declared.tally.Tally.{Tally}
use Rattle.team_battle.specs.declared.team_row.TeamRow.{TeamRow}
use Rattle.team_battle.specs.Laws.{EachTeamOnce, RowsAreOfTheirTeams, TeamsAreInOrder}
use Rattle.team_battle.specs.Teams.{tally, tallies, above, team_row, team_rows_from, teams}
use Rattle.team_battle.proofs.Tallies.{length-team_rows_from, get_or-team_rows_from}
use Rattle.team_battle.proofs.TeamOrder.{above_is_transitive, total}

-- each stands above those that follow it
abbrev IsFalling : List Tally → Type 0
IsFalling [] = Unit {0}
IsFalling (x ∷ xs) = AllByRecursion (λ y. above x y ≡ true) xs × IsFalling xs

-- a team of a smaller number than k
abbrev IsBelow : ℕ → Tally → Type 0
IsBelow k t = t.team < k

above_all : (x y : Tally) (zs : List Tally) → above x y ≡ true → AllByRecursion (λ z. above y z ≡ true) zs → AllByRecursion (λ z. above x z ≡ true) zs
above_all x y [] up all = tt
above_all x y (z ∷ zs) up all = (above_is_transitive x y z up all.0, above_all x y zs up all.1)

falling_placed : (x : Tally) (table : List Tally) → AllByRecursion (IsBelow x.team) table → IsFalling table → IsFalling (placed above table x)
falling_placed x [] small falling = (tt, tt)
falling_placed x (y ∷ table) small falling =
    ⊎_elim
    (λ (up : above x y ≡ true). rw up ((up, above_all x y table up falling.0), falling))
    (λ (down : above x y ≡ false).
    let less : y.team < x.team = small.0 in
    rw down (all_placed above (λ z. above y z ≡ true) table x (total x y (λ e. omega arith) down) falling.0, falling_placed x table small.1 falling.1))
    (cases_Bool (above x y))

smaller : (k : ℕ) (table : List Tally) → AllByRecursion (IsBelow k) table → AllByRecursion (IsBelow (k + 1)) table
smaller k [] small = tt
smaller k (t ∷ table) small = ((let less : t.team < k = small.0 in omega arith), smaller k table small.1)

module _ (s : Setup) (rows : List Row) where
  team-tally : (team : ℕ) → (tally s rows team).team ≡ team
  unfolding tally
  team-tally team = refl

  falling_fold : (k m : ℕ) (table : List Tally) → AllByRecursion (IsBelow k) table → IsFalling table → IsFalling (fold (placed above) table (map (tally s rows) (range_with_len k m)))
  falling_fold k zero table small falling = falling
  falling_fold k (suc m) table small falling =
      let at : (tally s rows k).team ≡ k = team-tally k in
      falling_fold (k + 1) m (placed above table (tally s rows k))
      (all_placed above (IsBelow (k + 1)) table (tally s rows k) (omega arith) (smaller k table small))
      (falling_placed (tally s rows k) table (subst (λ n. AllByRecursion (IsBelow n) table) (sym at) small) falling)

  -- the teams in their order
  abbrev ordered : List Tally
  ordered = in_order above (tallies s rows)

  ordered_fall : IsFalling ordered
  ordered_fall = falling_fold 0 (length s.teams) [] tt tt

  ordered-permutation : IsPermutation (tallies s rows) ordered
  ordered-permutation = fold_placed-permutation above [] (tallies s rows)

  numbers-tallies : (ns : List ℕ) → map (λ (t : Tally). t.team) (map (tally s rows) ns) ≡ ns
  numbers-tallies [] = refl
  numbers-tallies (n ∷ ns) = λ i. team-tally n i ∷ numbers-tallies ns i

  numbers-team_rows : (rank : ℕ) (ts : List Tally) → map (λ (row : TeamRow). row.team) (team_rows_from rank ts) ≡ map (λ (t : Tally). t.team) ts
  numbers-team_rows rank [] = refl
  numbers-team_rows rank (t ∷ rest) = ap (λ l. t.team ∷ l) (numbers-team_rows (suc rank) rest)

  -- each is what its team has
  own_tallies : (ns : List ℕ) → AllByRecursion (λ (t : Tally). t ≡ tally s rows t.team) (map (tally s rows) ns)
  own_tallies [] = tt
  own_tallies (n ∷ ns) = (ap (tally s rows) (sym (team-tally n)), own_tallies ns)

  ordered_own : All (λ (t : Tally). t ≡ tally s rows t.team) ordered
  ordered_own = All-permutation (λ (t : Tally). t ≡ tally s rows t.team) (tallies s rows) ordered ordered-permutation (All-from_recursion (λ (t : Tally). t ≡ tally s rows t.team) (tallies s rows) (own_tallies (range_with_len 0 (length s.teams))))

  falling_read : (xs : List Tally) (j k : ℕ) (d : Tally) → IsFalling xs → j < k → k < length xs → above (get_or xs j d) (get_or xs k d) ≡ true
  falling_read [] j k d falling less lt = absurd (omega arith)
  falling_read (x ∷ xs) j zero d falling less lt = absurd (omega arith)
  falling_read (x ∷ xs) zero (suc k) d falling less lt = All-from_recursion (λ y. above x y ≡ true) xs falling.0 k d (omega arith)
  falling_read (x ∷ xs) (suc j) (suc k) d falling less lt = falling_read xs j k d falling.1 (omega arith) (omega arith)

  -- the team at a rank
  at_rank : (k : ℕ) (row : TeamRow) → slice_get (team_rows_from 0 ordered) k ≡ Some row → (k < length ordered) × (row ≡ team_row k (get_or ordered k (tally s rows 0)))
  at_rank k row at =
      let within : k < length (team_rows_from 0 ordered) = slice_get_within (team_rows_from 0 ordered) k row at in
      let lt : k < length ordered = omega (arith, length-team_rows_from 0 ordered) in
      let both : Some row ≡ Some (get_or (team_rows_from 0 ordered) k row) = sym at ∙ slice_get-get_or (team_rows_from 0 ordered) k row within in
      let same : row ≡ get_or (team_rows_from 0 ordered) k row = cc in
      (lt, same ∙ (get_or-team_rows_from 0 ordered k row (tally s rows 0) lt ∙ ap (λ m. team_row m (get_or ordered k (tally s rows 0))) (omega arith)))

pub each_team_once : EachTeamOnce
unfolding teams
each_team_once s rows =
    subst (λ l. IsPermutation (range_with_len 0 (length s.teams)) l) (sym (numbers-team_rows s rows 0 (in_order above (tallies s rows)))) (
    subst (λ l. IsPermutation l (map (λ (t : Tally). t.team) (in_order above (tallies s rows)))) (numbers-tallies s rows (range_with_len 0 (length s.teams))) (
    IsPermutation-map (λ (t : Tally). t.team) (tallies s rows) (in_order above (tallies s rows)) (ordered-permutation s rows)))

pub rows_are_of_their_teams : RowsAreOfTheirTeams
unfolding teams
rows_are_of_their_teams s rows k row at =
    let found = at_rank s rows k row at in
    let own = ordered_own s rows k (tally s rows 0) found.0 in
    found.1 ∙ ap (team_row k) (own ∙ ap (tally s rows) (sym (ap (λ (r : TeamRow). r.team) found.1)))

pub teams_are_in_order : TeamsAreInOrder
unfolding teams
teams_are_in_order s rows i j x y less at_i at_j =
    let first = at_rank s rows i x at_i in
    let second = at_rank s rows j y at_j in
    let fall = falling_read s rows (in_order above (tallies s rows)) i j (tally s rows 0) (ordered_fall s rows) less second.0 in
    let own_x : get_or (in_order above (tallies s rows)) i (tally s rows 0) ≡ tally s rows x.team = ordered_own s rows i (tally s rows 0) first.0 ∙ ap (tally s rows) (sym (ap (λ (r : TeamRow). r.team) first.1)) in
    let own_y : get_or (in_order above (tallies s rows)) j (tally s rows 0) ≡ tally s rows y.team = ordered_own s rows j (tally s rows 0) second.0 ∙ ap (tally s rows) (sym (ap (λ (r : TeamRow). r.team) second.1)) in
    sym (λ k. above (own_x k) (own_y k)) ∙ fall
