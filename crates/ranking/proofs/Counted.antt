-- The rank of a player counts the lines that come before his.
use Rattle.std.proofs.Common.{◌≡◌, ℕ, zero, suc, ◌+◌, ◌<◌, ⊎_elim, inl, inr, List, [], ◌∷◌, ◌++◌, map, length, Bool, true, false, Some, get_or, refl, sym, ap, ◌∙◌, subst, arith, length-append}
use Rattle.std.specs.Prelude.{cond, ◌==◌, ◌||◌, count_by}
use Rattle.std.specs.List.{AllByRecursion, range_with_len, position}
use Rattle.std.specs.List.Sorted.{IsPermutation}
use Rattle.std.proofs.lemmas.Bool.{cases_Bool, cases_eq, cases_order, both_ways, eq-eqb, ne_eqb, lt-ltb, ltb-true}
use Rattle.std.proofs.lemmas.List.{length-map, get_or-map, get_or_at}
use Rattle.std.proofs.lemmas.Option.{slice_get_within}
use Rattle.std.proofs.lemmas.List.Folds.{list_any_at}
use Rattle.std.proofs.lemmas.List.Sums.{sum_by-append, sum_by-cons}
use Rattle.std.proofs.lemmas.List.Sorted.{sum_by-IsPermutation, IsPermutation-map}
use Rattle.ranking.specs.declared.row.Row.{Row}
use Rattle.ranking.specs.Order.{Line, nobody, above, in_order, line_at, comes_before, ranked}
use Rattle.ranking.specs.Rows.{HasDistinctPlayers, row_at, rows_from, rows, rank_of}
use Rattle.ranking.specs.Laws.{NoneBeforeItself, BeforeIsTotal, RowsHaveThePlayers, RanksCountFromZero, RowsHaveTheirRanks, RanksAreInOrder, RankIsHowManyBefore}
use Rattle.ranking.proofs.Before.{one_way, irreflexive, total}
use Rattle.ranking.proofs.Numbers.{stands, of_standing, IsFalling, numbers, numbers_fall, numbers-permutation, numbers_below, ranked-numbers}
use Rattle.ranking.proofs.Orders.{fold_placed-permutation}
use Rattle.ranking.proofs.Players.{player_at}
use Rattle.ranking.proofs.Ranks.{position-at, length-rows_from, slice_get-rows_from}

pub none_before_itself : NoneBeforeItself
none_before_itself lines i before = both_ways (comes_before lines i i) (irreflexive lines i) before

pub before_is_total : BeforeIsTotal
before_is_total lines i j other = ⊎_elim (λ (first : comes_before lines i j ≡ true). inl first) (λ (second : comes_before lines i j ≡ false). inr (total lines i j other second)) (cases_Bool (comes_before lines i j))

-- the players of the rows

players_from : (rank : ℕ) (lines : List Line) → map (λ (row : Row). row.player) (rows_from rank lines) ≡ map (λ (line : Line). line.player) lines
players_from rank [] = refl
players_from rank (line ∷ rest) = ap (λ l. line.player ∷ l) (players_from (suc rank) rest)

pub rows_have_the_players : RowsHaveThePlayers
unfolding rows ranked
rows_have_the_players lines =
    subst (λ l. IsPermutation (map (λ (line : Line). line.player) lines) l) (sym (players_from 0 (in_order above lines)))
    (IsPermutation-map (λ (line : Line). line.player) lines (in_order above lines) (fold_placed-permutation above [] lines))

-- the row at a rank

pub ranks_count_from_zero : RanksCountFromZero
unfolding rows
ranks_count_from_zero lines k row at =
    let within : k < length (rows_from 0 (ranked lines)) = slice_get_within (rows_from 0 (ranked lines)) k row at in
    let both : Some row ≡ Some (row_at (0 + k) (get_or (ranked lines) k nobody)) = sym at ∙ slice_get-rows_from 0 (ranked lines) k nobody (omega (arith, length-rows_from 0 (ranked lines))) in
    let same : row ≡ row_at (0 + k) (get_or (ranked lines) k nobody) = cc in
    ap (λ (r : Row). r.rank) same ∙ omega arith

-- counts

all_counted : (p : ℕ → Bool) (xs : List ℕ) → AllByRecursion (λ x. p x ≡ true) xs → count_by p xs ≡ length xs
all_counted p [] all = refl
all_counted p (x ∷ xs) all = sum_by-cons (λ y. cond (p y) 1 0) x xs ∙ (ap (λ b. cond b 1 0 + count_by p xs) all.0 ∙ omega (arith, all_counted p xs all.1))

none_counted : (p : ℕ → Bool) (xs : List ℕ) → AllByRecursion (λ x. p x ≡ false) xs → count_by p xs ≡ 0
none_counted p [] all = refl
none_counted p (x ∷ xs) all = sum_by-cons (λ y. cond (p y) 1 0) x xs ∙ (ap (λ b. cond b 1 0 + count_by p xs) all.0 ∙ omega (arith, none_counted p xs all.1))

module _ (lines : List Line) where
  -- a list that falls, cut at one of its numbers
  record IsCut (xs : List ℕ) (x : ℕ) : Type 0 where
    front : List ℕ
    back : List ℕ
    is : xs ≡ front ++ x ∷ back
    before : AllByRecursion (λ y. comes_before lines y x ≡ true) front
    behind : AllByRecursion (λ y. comes_before lines x y ≡ true) back

  cut : (xs : List ℕ) (x : ℕ) → IsFalling lines xs → stands x xs ≡ true → IsCut xs x
  cut [] x falling in_it = cc
  cut (y ∷ xs) x falling in_it =
      ⊎_elim
      (λ (same : y ≡ x). record { front = []; back = xs; is = ap (λ m. m ∷ xs) same; before = tt; behind = subst (λ m. AllByRecursion (λ z. comes_before lines m z ≡ true) xs) same falling.0 })
      (λ other.
      let in_rest : stands x xs ≡ true = sym (ap (λ b. b || stands x xs) (ne_eqb y x other)) ∙ in_it in
      let rest = cut xs x falling.1 in_rest in
      record {
        front = y ∷ rest.front;
        back = rest.back;
        is = ap (λ l. y ∷ l) rest.is;
        before = (of_standing (λ z. comes_before lines y z ≡ true) xs x falling.0 in_rest, rest.before);
        behind = rest.behind;
      })
      (cases_eq y x)

  turned : (x : ℕ) (xs : List ℕ) → AllByRecursion (λ y. comes_before lines x y ≡ true) xs → AllByRecursion (λ y. comes_before lines y x ≡ false) xs
  turned x [] all = tt
  turned x (y ∷ xs) all = (one_way lines x y all.0, turned x xs all.1)

  abbrev one_if : Bool → ℕ
  one_if b = cond b 1 0

  none_itself : (x : ℕ) → one_if (comes_before lines x x) ≡ 0
  none_itself x = rw (irreflexive lines x) refl

  counted : (xs : List ℕ) (x : ℕ) (c : IsCut xs x) → count_by (λ y. comes_before lines y x) xs ≡ length c.front
  counted xs x c =
      ap (count_by (λ y. comes_before lines y x)) c.is ∙
      (sum_by-append (λ y. cond (comes_before lines y x) 1 0) c.front (x ∷ c.back) ∙
      omega (arith, all_counted (λ y. comes_before lines y x) c.front c.before, none_counted (λ y. comes_before lines y x) c.back (turned x c.back c.behind), sum_by-cons (λ y. cond (comes_before lines y x) 1 0) x c.back, none_itself x))

  own_cut : (i : ℕ) → i < length lines → IsCut (numbers lines) i
  own_cut i lt = cut (numbers lines) i (numbers_fall lines) (numbers_below lines i ∙ lt-ltb i (length lines) lt)

  front_read : (xs : List ℕ) (P : ℕ → Type 0) (j : ℕ) → AllByRecursion P xs → j < length xs → P (get_or xs j 0)
  front_read [] P j all lt = absurd (omega arith)
  front_read (x ∷ xs) P zero all lt = all.0
  front_read (x ∷ xs) P (suc j) all lt = front_read xs P j all.1 (omega arith)

  number_below : (j : ℕ) → j < length (numbers lines) → get_or (numbers lines) j 0 < length lines
  number_below j lt = ltb-true (get_or (numbers lines) j 0) (length lines) (sym (numbers_below lines (get_or (numbers lines) j 0)) ∙ list_any_at (λ y. y == get_or (numbers lines) j 0) (numbers lines) j 0 lt (eq-eqb (get_or (numbers lines) j 0) (get_or (numbers lines) j 0) refl))

  falling_read : (xs : List ℕ) (j k : ℕ) → IsFalling lines xs → j < k → k < length xs → comes_before lines (get_or xs j 0) (get_or xs k 0) ≡ true
  falling_read [] j k falling less lt = absurd (omega arith)
  falling_read (x ∷ xs) j zero falling less lt = absurd (omega arith)
  falling_read (x ∷ xs) zero (suc k) falling less lt = front_read xs (λ y. comes_before lines x y ≡ true) k falling.0 (omega arith)
  falling_read (x ∷ xs) (suc j) (suc k) falling less lt = falling_read xs j k falling.1 (omega arith) (omega arith)

  -- the place of a number
  place : (i : ℕ) → i < length lines → ℕ
  place i lt = length (own_cut i lt).front

  place_below : (i : ℕ) (lt : i < length lines) → place i lt < length (numbers lines)
  unfolding place
  place_below i lt = let c = own_cut i lt in omega (arith, ap length c.is, length-append c.front (i ∷ c.back))

  place_counts : (i : ℕ) (lt : i < length lines) → place i lt ≡ count_by (λ y. comes_before lines y i) (numbers lines)
  unfolding place
  place_counts i lt = sym (counted (numbers lines) i (own_cut i lt))

  at_place : (i : ℕ) (lt : i < length lines) → get_or (numbers lines) (place i lt) 0 ≡ i
  unfolding place
  at_place i lt = let c = own_cut i lt in ap (λ l. get_or l (length c.front) 0) c.is ∙ get_or_at c.front i c.back 0 (length c.front) refl

  only_place : (i : ℕ) (lt : i < length lines) (k : ℕ) → k < length (numbers lines) → get_or (numbers lines) k 0 ≡ i → k ≡ place i lt
  only_place i lt k below same =
      ⊎_elim
      (λ (e : k ≡ place i lt). e)
      (λ apart.
      let never : comes_before lines i i ≡ true =
      ⊎_elim
      (λ (less : k < place i lt). ap (λ m. comes_before lines m i) (sym same) ∙ (ap (comes_before lines (get_or (numbers lines) k 0)) (sym (at_place i lt)) ∙ falling_read (numbers lines) k (place i lt) (numbers_fall lines) less (place_below i lt)))
      (λ (more : place i lt < k). ap (λ m. comes_before lines m i) (sym (at_place i lt)) ∙ (ap (comes_before lines (get_or (numbers lines) (place i lt) 0)) (sym same) ∙ falling_read (numbers lines) (place i lt) k (numbers_fall lines) more below))
      apart in
      absurd (both_ways (comes_before lines i i) (irreflexive lines i) never))
      (cases_order k (place i lt))

  read_at : (k : ℕ) → k < length (numbers lines) → get_or (map (line_at lines) (numbers lines)) k nobody ≡ line_at lines (get_or (numbers lines) k 0)
  read_at k lt = get_or-map (line_at lines) (numbers lines) k 0 nobody lt

  -- the rank of a player is the place of his line's number
  rank_is_place : HasDistinctPlayers lines → (i : ℕ) (lt : i < length lines) → rank_of lines (player_at lines i) ≡ Some (place i lt)
  unfolding rank_of
  rank_is_place distinct i lt =
      let long : length (map (line_at lines) (numbers lines)) ≡ length (numbers lines) = length-map (numbers lines) (line_at lines) in
      let below : place i lt < length (numbers lines) = place_below i lt in
      ap (position (λ (l : Line). l.player == player_at lines i)) (ranked-numbers lines) ∙
      position-at (λ (l : Line). l.player == player_at lines i) (map (line_at lines) (numbers lines)) (place i lt) nobody (omega arith)
      (ap (λ (l : Line). l.player == player_at lines i) (read_at (place i lt) below ∙ ap (line_at lines) (at_place i lt)) ∙ eq-eqb (player_at lines i) (player_at lines i) refl)
      (λ j less.
      let within : j < length (numbers lines) = omega arith in
      ap (λ (l : Line). l.player == player_at lines i) (read_at j within) ∙
      ne_eqb (player_at lines (get_or (numbers lines) j 0)) (player_at lines i) (λ same.
      let e : j ≡ place i lt = only_place i lt j within (distinct (get_or (numbers lines) j 0) i (number_below j within) lt same) in
      omega arith))

pub rank_is_how_many_before : RankIsHowManyBefore
rank_is_how_many_before lines i distinct lt =
    rank_is_place lines distinct i lt ∙ ap Some (place_counts lines i lt ∙ sum_by-IsPermutation (λ j. cond (comes_before lines j i) 1 0) (range_with_len 0 (length lines)) (numbers lines) (numbers-permutation lines))

pub ranks_are_in_order : RanksAreInOrder
ranks_are_in_order lines i j a b distinct lt lt' rank_i rank_j before =
    let first : Some (place lines i lt) ≡ Some a = sym (rank_is_place lines distinct i lt) ∙ rank_i in
    let second : Some (place lines j lt') ≡ Some b = sym (rank_is_place lines distinct j lt') ∙ rank_j in
    let place_i : place lines i lt ≡ a = cc in
    let place_j : place lines j lt' ≡ b = cc in
    let below_i : place lines i lt < length (numbers lines) = place_below lines i lt in
    ⊎_elim
    (λ (same : a ≡ b).
    let e : i ≡ j = sym (at_place lines i lt) ∙ (ap (λ k. get_or (numbers lines) k 0) (place_i ∙ (same ∙ sym place_j)) ∙ at_place lines j lt') in
    absurd (both_ways (comes_before lines i i) (irreflexive lines i) (ap (comes_before lines i) e ∙ before)))
    (λ apart.
    ⊎_elim
    (λ (less : a < b). less)
    (λ (more : b < a).
    let back : comes_before lines j i ≡ true = ap (λ m. comes_before lines m i) (sym (at_place lines j lt')) ∙ (ap (comes_before lines (get_or (numbers lines) (place lines j lt') 0)) (sym (at_place lines i lt)) ∙ falling_read lines (numbers lines) (place lines j lt') (place lines i lt) (numbers_fall lines) (omega arith) below_i) in
    absurd (both_ways (comes_before lines j i) (one_way lines i j before) back))
    apart)
    (cases_order a b)

pub rows_have_their_ranks : RowsHaveTheirRanks
unfolding rows
rows_have_their_ranks lines k row distinct at =
    let within : k < length (rows_from 0 (ranked lines)) = slice_get_within (rows_from 0 (ranked lines)) k row at in
    let long : length (ranked lines) ≡ length (numbers lines) = ap length (ranked-numbers lines) ∙ length-map (numbers lines) (line_at lines) in
    let below : k < length (numbers lines) = omega (arith, length-rows_from 0 (ranked lines)) in
    let number_lt = number_below lines k below in
    let both : Some row ≡ Some (row_at (0 + k) (get_or (ranked lines) k nobody)) = sym at ∙ slice_get-rows_from 0 (ranked lines) k nobody (omega (arith, length-rows_from 0 (ranked lines))) in
    let same : row ≡ row_at (0 + k) (get_or (ranked lines) k nobody) = cc in
    let player : row.player ≡ player_at lines (get_or (numbers lines) k 0) = ap (λ (r : Row). r.player) same ∙ ap (λ (l : Line). l.player) (ap (λ l. get_or l k nobody) (ranked-numbers lines) ∙ read_at lines k below) in
    ap (rank_of lines) player ∙ (rank_is_place lines distinct (get_or (numbers lines) k 0) number_lt ∙ ap Some (sym (only_place lines (get_or (numbers lines) k 0) number_lt k below refl)))
