-- The lines of a table in its order are those with the numbers in the order of `comes_before`, and no other list of numbers
-- stands in that order.
use Rattle.std.proofs.Common.{◌≡◌, ℕ, zero, suc, ◌+◌, ◌<◌, ◌≤◌, ⊎_elim, List, [], ◌∷◌, ◌++◌, map, length, Bool, true, false, not, get_or, refl, sym, ap, ◌∙◌, subst, arith, append_assoc}
use Rattle.std.specs.Prelude.{cond, nat_lt, ◌==◌, ◌||◌, ◌&&◌, fold, ◌≢◌}
use Rattle.std.specs.List.{AllByRecursion, list_any, range_with_len}
use Rattle.std.specs.List.Sorted.{IsPermutation}
use Rattle.std.proofs.lemmas.Bool.{cases_Bool, cases_eq, cases_lt, both_ways, eqb-true, eq-eqb, ne_eqb, lt-ltb, le-ltb, false_from_ne_true}
use Rattle.std.proofs.lemmas.List.{get_or_at, length_push}
use Rattle.std.proofs.lemmas.List.Folds.{list_any_at}
use Rattle.std.proofs.lemmas.List.FromFn.{length-range_with_len, get_or-range_with_len}
use Rattle.std.proofs.lemmas.List.Sorted.{list_any-IsPermutation}
use Rattle.ranking.specs.Order.{Line, nobody, above, placed, in_order, ranked, line_at, comes_before}
use Rattle.ranking.specs.Kept.{ArePlaced, AreInOrder}
use Rattle.ranking.proofs.Before.{one_way, irreflexive, transitive, total}
use Rattle.ranking.proofs.Orders.{all_placed, fold_placed-permutation}

-- x stands in the list
abbrev pub stands : ℕ → List ℕ → Bool
stands x xs = list_any (λ y. y == x) xs

-- what all of a list have, one that stands in it has
pub of_standing : (P : ℕ → Type 0) (xs : List ℕ) (x : ℕ) → AllByRecursion P xs → stands x xs ≡ true → P x
of_standing P [] x all in_it = cc
of_standing P (y ∷ xs) x all in_it =
    ⊎_elim
    (λ (same : (y == x) ≡ true). subst P (eqb-true y x same) all.0)
    (λ (other : (y == x) ≡ false). of_standing P xs x all.1 (sym (ap (λ b. b || stands x xs) other) ∙ in_it))
    (cases_Bool (y == x))

-- a list of n numbers, all below n and each of these among them
pub stands_below : (n : ℕ) (xs : List ℕ) (place : ℕ → ℕ) → length xs ≡ n → ((k : ℕ) → k < n → get_or xs k 0 < n) → ((x : ℕ) → x < n → place x < n) → ((x : ℕ) → x < n → get_or xs (place x) 0 ≡ x) → (x : ℕ) → stands x xs ≡ nat_lt x n
stands_below n xs place long below within each x =
    ⊎_elim
    (λ (less : x < n). list_any_at (λ y. y == x) xs (place x) 0 (let at : place x < n = within x less in omega arith) (eq-eqb (get_or xs (place x) 0) x (each x less)) ∙ sym (lt-ltb x n less))
    (λ (past : n ≤ x).
    false_from_ne_true (stands x xs) (λ in_it.
    let less : x < n = of_standing (λ y. y < n) xs x (all_below xs (λ k lt. below k (omega arith))) in_it in omega arith)
    ∙ sym (le-ltb x n past))
    (cases_lt x n)
  where
    all_below : (ys : List ℕ) → ((k : ℕ) → k < length ys → get_or ys k 0 < n) → AllByRecursion (λ y. y < n) ys
    all_below [] each' = tt
    all_below (y ∷ ys) each' = (each' 0 (omega arith), all_below ys (λ k lt. each' (suc k) (omega arith)))

module _ (lines : List Line) where
  -- each comes before those that follow it
  abbrev pub IsFalling : List ℕ → Type 0
  IsFalling [] = Unit {0}
  IsFalling (x ∷ xs) = AllByRecursion (λ y. comes_before lines x y ≡ true) xs × IsFalling xs

  -- two such lists with the same numbers are one

  not_again : (y x : ℕ) (ys : List ℕ) → AllByRecursion (λ z. comes_before lines y z ≡ true) ys → y ≡ x → stands x ys ≡ false
  not_again y x ys after same = false_from_ne_true (stands x ys) (λ in_it. both_ways (comes_before lines y y) (irreflexive lines y) (ap (comes_before lines y) same ∙ of_standing (λ z. comes_before lines y z ≡ true) ys x after in_it))

  later : (y z : ℕ) (zs : List ℕ) → z ≢ y → AllByRecursion (λ w. comes_before lines z w ≡ true) zs → stands y (z ∷ zs) ≡ true → comes_before lines z y ≡ true
  later y z zs other after in_it = of_standing (λ w. comes_before lines z w ≡ true) zs y after (sym (ap (λ b. b || stands y zs) (ne_eqb z y other)) ∙ in_it)

  itself : (y : ℕ) (ys : List ℕ) → stands y (y ∷ ys) ≡ true
  itself y ys = ap (λ b. b || stands y ys) (eq-eqb y y refl)

  pub same_falling : (ys zs : List ℕ) → IsFalling ys → IsFalling zs → ((x : ℕ) → stands x ys ≡ stands x zs) → ys ≡ zs
  same_falling [] [] up up' same = refl
  same_falling [] (z ∷ zs) up up' same = let never : false ≡ true = same z ∙ itself z zs in cc
  same_falling (y ∷ ys) [] up up' same = let never : false ≡ true = sym (same y) ∙ itself y ys in cc
  same_falling (y ∷ ys) (z ∷ zs) up up' same =
      ⊎_elim
      (λ (first : y ≡ z).
      let rest : (x : ℕ) → stands x ys ≡ stands x zs = λ x.
      ⊎_elim
      (λ (e : y ≡ x). not_again y x ys up.0 e ∙ sym (not_again z x zs up'.0 (sym first ∙ e)))
      (λ other. sym (ap (λ b. b || stands x ys) (ne_eqb y x other)) ∙ (same x ∙ ap (λ b. b || stands x zs) (ne_eqb z x (λ e. other (first ∙ e)))))
      (cases_eq y x) in
      let tails : ys ≡ zs = same_falling ys zs up.1 up'.1 rest in
      λ i. first i ∷ tails i)
      (λ apart.
      let zy : comes_before lines z y ≡ true = later y z zs (λ e. apart (sym e)) up'.0 (sym (same y) ∙ itself y ys) in
      let yz : comes_before lines y z ≡ true = later z y ys apart up.0 (same z ∙ itself z zs) in
      absurd (both_ways (comes_before lines y z) (one_way lines z y zy) yz))
      (cases_eq y z)

  -- numbers put in order one after another

  after_all : (x y : ℕ) (zs : List ℕ) → comes_before lines x y ≡ true → AllByRecursion (λ z. comes_before lines y z ≡ true) zs → AllByRecursion (λ z. comes_before lines x z ≡ true) zs
  after_all x y [] before all = tt
  after_all x y (z ∷ zs) before all = (transitive lines x y z before all.0, after_all x y zs before all.1)

  falling_placed : (k : ℕ) (table : List ℕ) → AllByRecursion (λ j. j < k) table → IsFalling table → IsFalling (placed (comes_before lines) table k)
  falling_placed k [] small falling = (tt, tt)
  falling_placed k (j ∷ table) small falling =
      ⊎_elim
      (λ (up : comes_before lines k j ≡ true). rw up ((up, after_all k j table up falling.0), falling))
      (λ (down : comes_before lines k j ≡ false).
      let less : j < k = small.0 in
      rw down (all_placed (comes_before lines) (λ z. comes_before lines j z ≡ true) table k (total lines k j (λ e. omega arith) down) falling.0, falling_placed k table small.1 falling.1))
      (cases_Bool (comes_before lines k j))

  smaller : (k : ℕ) (table : List ℕ) → AllByRecursion (λ j. j < k) table → AllByRecursion (λ j. j < k + 1) table
  smaller k [] small = tt
  smaller k (j ∷ table) small = ((let less : j < k = small.0 in omega arith), smaller k table small.1)

  small_placed : (k : ℕ) (table : List ℕ) → AllByRecursion (λ j. j < k) table → AllByRecursion (λ j. j < k + 1) (placed (comes_before lines) table k)
  small_placed k table small = all_placed (comes_before lines) (λ j. j < k + 1) table k (omega arith) (smaller k table small)

  falling_fold : (k m : ℕ) (table : List ℕ) → AllByRecursion (λ j. j < k) table → IsFalling table → IsFalling (fold (placed (comes_before lines)) table (range_with_len k m))
  falling_fold k zero table small falling = falling
  falling_fold k (suc m) table small falling = falling_fold (k + 1) m (placed (comes_before lines) table k) (small_placed k table small) (falling_placed k table small falling)

  -- the numbers of the lines in the order of the table
  abbrev pub numbers : List ℕ
  numbers = in_order (comes_before lines) (range_with_len 0 (length lines))

  pub numbers_fall : IsFalling numbers
  numbers_fall = falling_fold 0 (length lines) [] tt tt

  pub numbers-permutation : IsPermutation (range_with_len 0 (length lines)) numbers
  numbers-permutation = fold_placed-permutation (comes_before lines) [] (range_with_len 0 (length lines))

  pub numbers_below : (x : ℕ) → stands x numbers ≡ nat_lt x (length lines)
  numbers_below x =
      sym (list_any-IsPermutation (λ y. y == x) (range_with_len 0 (length lines)) numbers numbers-permutation) ∙
      stands_below (length lines) (range_with_len 0 (length lines)) (λ k. k) (length-range_with_len 0 (length lines)) (λ k lt. subst (λ m. m < length lines) (sym (get_or-range_with_len 0 (length lines) k 0 lt)) (omega arith)) (λ k lt. lt) (λ k lt. get_or-range_with_len 0 (length lines) k 0 lt ∙ omega arith) x

  -- the lines with these numbers are those of the table

  newer : (k j : ℕ) → j < k → comes_before lines k j ≡ above (line_at lines k) (line_at lines j)
  newer k j less = ap (λ b. above (line_at lines k) (line_at lines j) || (not (above (line_at lines j) (line_at lines k)) && b)) (le-ltb k j (omega arith)) ∙ no_more (above (line_at lines k) (line_at lines j)) (not (above (line_at lines j) (line_at lines k)))
    where
      no_more : (a b : Bool) → a || (b && false) ≡ a
      no_more true b = refl
      no_more false true = refl
      no_more false false = refl

  map-placed : (k : ℕ) (table : List ℕ) → AllByRecursion (λ j. j < k) table → map (line_at lines) (placed (comes_before lines) table k) ≡ placed above (map (line_at lines) table) (line_at lines k)
  map-placed k [] small = refl
  map-placed k (j ∷ table) small =
      rw (newer k j small.0) (
      elim (above (line_at lines k) (line_at lines j)) as (λ b. map (line_at lines) (cond b (k ∷ j ∷ table) (j ∷ placed (comes_before lines) table k)) ≡ cond b (line_at lines k ∷ line_at lines j ∷ map (line_at lines) table) (line_at lines j ∷ placed above (map (line_at lines) table) (line_at lines k))) [
        | true ↦ refl
        | false ↦ ap (λ l. line_at lines j ∷ l) (map-placed k table small.1)
      ])

  map-fold : (done rest : List Line) (k : ℕ) (table : List ℕ) → lines ≡ done ++ rest → length done ≡ k → AllByRecursion (λ j. j < k) table → map (line_at lines) (fold (placed (comes_before lines)) table (range_with_len k (length rest))) ≡ fold (placed above) (map (line_at lines) table) rest
  map-fold done [] k table split long small = refl
  map-fold done (x ∷ rest) k table split long small =
      let here : line_at lines k ≡ x = ap (λ l. get_or l k nobody) split ∙ get_or_at done x rest nobody k long in
      map-fold (done ++ x ∷ []) rest (k + 1) (placed (comes_before lines) table k) (split ∙ sym (append_assoc done (x ∷ []) rest)) (length_push done x ∙ ap (λ n. n + 1) long) (small_placed k table small)
      ∙ ap (λ t. fold (placed above) t rest) (map-placed k table small ∙ ap (placed above (map (line_at lines) table)) here)

  pub ranked-numbers : ranked lines ≡ map (line_at lines) numbers
  unfolding ranked
  ranked-numbers = sym (map-fold [] lines 0 [] refl refl tt)

  -- kept numbers

  falling_from : (order : List ℕ) → ((j k : ℕ) → j < k → k < length order → comes_before lines (get_or order j 0) (get_or order k 0) ≡ true) → IsFalling order
  falling_from [] each = tt
  falling_from (x ∷ order) each = (rest order (λ k lt. each 0 (suc k) (omega arith) (omega arith)), falling_from order (λ j k less lt. each (suc j) (suc k) (omega arith) (omega arith)))
    where
      rest : (ys : List ℕ) → ((k : ℕ) → k < length ys → comes_before lines x (get_or ys k 0) ≡ true) → AllByRecursion (λ y. comes_before lines x y ≡ true) ys
      rest [] each' = tt
      rest (y ∷ ys) each' = (each' 0 (omega arith), rest ys (λ k lt. each' (suc k) (omega arith)))

  pub kept_numbers : (order places : List ℕ) → ArePlaced (length lines) order places → AreInOrder lines order → order ≡ numbers
  kept_numbers order places are ordered =
      same_falling order numbers (falling_from order ordered) numbers_fall (λ x.
      stands_below (length lines) order (λ i. get_or places i 0) are.all_ordered are.numbers are.within are.each_number x ∙ sym (numbers_below x))

  -- the lines with the numbers kept, in their order, are those of the table
  pub ranked_kept : (order places : List ℕ) → ArePlaced (length lines) order places → AreInOrder lines order → ranked lines ≡ map (line_at lines) order
  ranked_kept order places are ordered = ranked-numbers ∙ ap (map (line_at lines)) (sym (kept_numbers order places are ordered))
