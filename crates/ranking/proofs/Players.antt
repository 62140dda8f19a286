-- The players of a table's lines, and the numbers kept for them.
use Rattle.std.proofs.Common.{◌≡◌, ℕ, zero, suc, ◌<◌, ◌≤◌, List, [], ◌∷◌, map, length, true, false, Some, None, Option, get_or, refl, sym, ap, ◌∙◌, subst, arith}
use Rattle.std.specs.Prelude.{◌==◌, slice_get}
use Rattle.std.specs.List.{AllByRecursion, IsDistinct}
use Rattle.std.proofs.lemmas.Bool.{both_ways, eqb-true, eq-eqb, ne_eqb}
use Rattle.std.proofs.lemmas.List.{get_or-map, get_or_default, length-map}
use Rattle.std.proofs.lemmas.List.Folds.{list_any_at, Any-from_list_any}
use Rattle.std.proofs.lemmas.Map.Steps.{length-le_from_distinct_below}
use Rattle.std.proofs.lemmas.Option.{slice_get-get_or, slice_get_within}
use Rattle.ranking.specs.Order.{Line, nobody, line_at}
use Rattle.ranking.specs.Rows.{has, listed, IsListed}
use Rattle.ranking.specs.Kept.{AreNumbered, IsKept}

-- the player of the line with a number
abbrev pub player_at : List Line → ℕ → ℕ
player_at lines i = (line_at lines i).player

pub has_at : (lines : List Line) (i p : ℕ) → i < length lines → player_at lines i ≡ p → has lines p ≡ true
has_at lines i p lt same = list_any_at (λ (line : Line). line.player == p) lines i nobody lt (eq-eqb (player_at lines i) p same)

pub player_known : (lines : List Line) (p : ℕ) → has lines p ≡ true → (i : ℕ) × (i < length lines) × (player_at lines i ≡ p)
player_known lines p entered =
    let found = Any-from_list_any (λ (line : Line). line.player == p) lines entered in
    (found.0, found.2, eqb-true (player_at lines found.0) p (ap (λ (line : Line). line.player == p) (get_or_default lines found.0 nobody found.1 found.2 ∙ found.3) ∙ found.4))

-- numbers that differ and are below n are at most n
distinct_from : (xs : List ℕ) → ((i j : ℕ) → i < length xs → j < length xs → get_or xs i 0 ≡ get_or xs j 0 → i ≡ j) → IsDistinct (λ x y. x == y) xs
unfolding IsDistinct
distinct_from [] apart = tt
distinct_from (x ∷ xs) apart = (others xs (λ k lt same. let e : zero ≡ suc k = apart 0 (suc k) (omega arith) (omega arith) same in omega arith), distinct_from xs (λ i j lt lt' same. let e : suc i ≡ suc j = apart (suc i) (suc j) (omega arith) (omega arith) same in omega arith))
  where
    others : (ys : List ℕ) → ((k : ℕ) → k < length ys → x ≡ get_or ys k 0 → ⊥) → AllByRecursion (λ y. (x == y) ≡ false) ys
    others [] each = tt
    others (y ∷ ys) each = (ne_eqb x y (each 0 (omega arith)), others ys (λ k lt. each (suc k) (omega arith)))

pub few_below : (xs : List ℕ) (n : ℕ) → ((i j : ℕ) → i < length xs → j < length xs → get_or xs i 0 ≡ get_or xs j 0 → i ≡ j) → ((i : ℕ) → i < length xs → get_or xs i 0 < n) → length xs ≤ n
few_below xs n apart below = length-le_from_distinct_below xs n (distinct_from xs apart) (λ q in_it.
    let found = Any-from_list_any (λ y. q == y) xs in_it in
    let is : q ≡ get_or xs found.0 0 = eqb-true q (get_or xs found.0 0) (ap (λ y. q == y) (get_or_default xs found.0 0 found.1 found.2 ∙ found.3) ∙ found.4) in
    subst (λ y. y < n) (sym is) (below found.0 found.2))

module _ (lines : List Line) (numbers : List (Option ℕ)) (are : AreNumbered lines numbers) where
  pub player_below : (i : ℕ) → i < length lines → player_at lines i < length numbers
  player_below i lt = slice_get_within numbers (player_at lines i) (Some i) (are.listed i lt)

  pub player_once : (i j : ℕ) → i < length lines → j < length lines → player_at lines i ≡ player_at lines j → i ≡ j
  player_once i j lt lt' same = let both : Some (Some i) ≡ Some (Some j) = sym (are.listed i lt) ∙ (ap (slice_get numbers) same ∙ are.listed j lt') in cc

  abbrev players : List ℕ
  players = map (λ (line : Line). line.player) lines

  player-is : (i : ℕ) → i < length players → get_or players i 0 ≡ player_at lines i
  player-is i lt =
      let long : length players ≡ length lines = length-map lines (λ (line : Line). line.player) in
      get_or-map (λ (line : Line). line.player) lines i nobody 0 (omega arith)

  pub room_for_all : length lines ≤ length numbers
  room_for_all =
      let long : length players ≡ length lines = length-map lines (λ (line : Line). line.player) in
      let most : length players ≤ length numbers = few_below players (length numbers) (λ i j lt lt' same. player_once i j (omega arith) (omega arith) (sym (player-is i lt) ∙ (same ∙ player-is j lt'))) (λ i lt. subst (λ m. m < length numbers) (sym (player-is i lt)) (player_below i (omega arith))) in
      omega arith

  -- a player without a line leaves room for one
  pub room_for_one : (p : ℕ) → p < length numbers → has lines p ≡ false → length lines < length numbers
  room_for_one p below new =
      let long : length players ≡ length lines = length-map lines (λ (line : Line). line.player) in
      let none : (i : ℕ) → i < length players → p ≡ get_or players i 0 → ⊥ = λ i lt same. both_ways (has lines p) new (has_at lines i p (omega arith) (sym (player-is i lt) ∙ sym same)) in
      let apart : (i j : ℕ) → i < suc (length players) → j < suc (length players) → get_or (p ∷ players) i 0 ≡ get_or (p ∷ players) j 0 → i ≡ j = by_case none in
      let most : suc (length players) ≤ length numbers = few_below (p ∷ players) (length numbers) apart (all_below) in
      omega arith
    where
      by_case : ((i : ℕ) → i < length players → p ≡ get_or players i 0 → ⊥) → (i j : ℕ) → i < suc (length players) → j < suc (length players) → get_or (p ∷ players) i 0 ≡ get_or (p ∷ players) j 0 → i ≡ j
      by_case none zero zero lt lt' same = refl
      by_case none zero (suc j) lt lt' same = absurd (none j (omega arith) same)
      by_case none (suc i) zero lt lt' same = absurd (none i (omega arith) (sym same))
      by_case none (suc i) (suc j) lt lt' same =
          let long : length players ≡ length lines = length-map lines (λ (line : Line). line.player) in
          let a : i < length players = omega arith in
          let b : j < length players = omega arith in
          ap suc (player_once i j (omega arith) (omega arith) (sym (player-is i a) ∙ (same ∙ player-is j b)))

      all_below : (i : ℕ) → i < suc (length players) → get_or (p ∷ players) i 0 < length numbers
      all_below zero lt = below
      all_below (suc i) lt =
          let long : length players ≡ length lines = length-map lines (λ (line : Line). line.player) in
          let a : i < length players = omega arith in
          subst (λ m. m < length numbers) (sym (player-is i a)) (player_below i (omega arith))

-- what callers rely on
pub kept_is_listed : (lines : List Line) (numbers : List (Option ℕ)) (order places : List ℕ) → IsKept lines numbers order places → IsListed (listed (length numbers) lines)
kept_is_listed lines numbers order places kept = record {
  few = kept.few;
  most = room_for_all lines numbers kept.numbered;
  players = player_below lines numbers kept.numbered;
  distinct = player_once lines numbers kept.numbered;
}

module _ (lines : List Line) (numbers : List (Option ℕ)) (are : AreNumbered lines numbers) (p : ℕ) where
  -- a player with a line has its number kept
  pub number_kept : has lines p ≡ true → (i : ℕ) × (i < length lines) × (player_at lines i ≡ p) × (slice_get numbers p ≡ Some (Some i))
  number_kept entered = let known = player_known lines p entered in (known.0, known.1, known.2, ap (slice_get numbers) (sym known.2) ∙ are.listed known.0 known.1)

  pub is_player : has lines p ≡ true → p < length numbers
  is_player entered = let known = number_kept entered in slice_get_within numbers p (Some known.0) known.3

  -- what is read for a player with a line is the number of his line
  pub never_none : (read : Option ℕ) → has lines p ≡ true → read ≡ get_or numbers p read → read ≡ None → ⊥
  never_none read entered is none =
      let known = number_kept entered in
      let both : Some (Some known.0) ≡ Some None = sym known.3 ∙ (slice_get-get_or numbers p read (is_player entered) ∙ ap Some (sym is ∙ none)) in
      cc

  pub number_read : (read : Option ℕ) (number : ℕ) → p < length numbers → read ≡ get_or numbers p read → read ≡ Some number → (number < length lines) × (player_at lines number ≡ p)
  number_read read number below is some = are.found p number (slice_get-get_or numbers p read below ∙ ap Some (sym is ∙ some))

-- what is read at a number below the length
pub line_read : (lines : List Line) (number : ℕ) (read : Line) → number < length lines → read ≡ get_or lines number read → read ≡ line_at lines number
line_read lines number read lt is = is ∙ get_or_default lines number read nobody lt
