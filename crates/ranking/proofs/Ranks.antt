-- Ranks and rows read from the numbers that a table keeps.
use Rattle.std.proofs.Common.{◌≡◌, ℕ, zero, suc, ◌+◌, ◌-◌, ◌<◌, ◌≤◌, List, [], ◌∷◌, ◌++◌, map, take, drop, length, Bool, true, false, Some, None, Option, get_or, refl, sym, ap, ◌∙◌, arith, length-drop}
use Rattle.std.specs.Prelude.{◌==◌, slice_get, slice_range, unwrap_or, min}
use Rattle.std.specs.List.{position}
use Rattle.std.proofs.lemmas.Bool.{eq-eqb, ne_eqb, lt-ltb, le-ltb}
use Rattle.std.proofs.lemmas.List.{length-map, get_or-map, take_min, drop_min}
use Rattle.std.proofs.lemmas.List.Edits.{between_more}
use Rattle.std.proofs.lemmas.List.Folds.{list_any_none}
use Rattle.std.proofs.lemmas.List.Elements.{All-from_get_or}
use Rattle.std.proofs.lemmas.Option.{slice_get-get_or, slice_get_past}
use Rattle.std.proofs.lemmas.List.Sums.{position_or_len_is}
use Rattle.ranking.specs.declared.row.Row.{Row}
use Rattle.ranking.specs.Order.{Line, nobody, line_at, ranked}
use Rattle.ranking.specs.Rows.{has, row_at, rows_from, rows, rank_of, page}
use Rattle.ranking.specs.Kept.{number_of, IsKept}
use Rattle.ranking.proofs.Numbers.{ranked_kept}
use Rattle.ranking.proofs.Players.{player_at, player_once, has_at}

-- the first place where a test holds

pub position-at : {X : Type 0} (p : X → Bool) (xs : List X) (k : ℕ) (d : X) → k < length xs → p (get_or xs k d) ≡ true → ((j : ℕ) → j < k → p (get_or xs j d) ≡ false) → position p xs ≡ Some k
position-at p xs k d lt at none = rw (position_or_len_is p xs k d (omega arith) none (λ lt'. at), lt-ltb k (length xs) lt) refl

position-none : {X : Type 0} (p : X → Bool) (xs : List X) (d : X) → ((j : ℕ) → j < length xs → p (get_or xs j d) ≡ false) → position p xs ≡ None
position-none p xs d none = rw (position_or_len_is p xs (length xs) d (omega arith) none (λ lt'. absurd (omega arith)), le-ltb (length xs) (length xs) (omega arith)) refl

-- rows

pub length-rows_from : (rank : ℕ) (lines : List Line) → length (rows_from rank lines) ≡ length lines
length-rows_from rank [] = refl
length-rows_from rank (line ∷ rest) = ap suc (length-rows_from (suc rank) rest)

pub slice_get-rows_from : (rank : ℕ) (lines : List Line) (k : ℕ) (d : Line) → k < length lines → slice_get (rows_from rank lines) k ≡ Some (row_at (rank + k) (get_or lines k d))
slice_get-rows_from rank [] k d lt = absurd (omega arith)
slice_get-rows_from rank (line ∷ rest) zero d lt = ap (λ m. Some (row_at m line)) (omega arith)
slice_get-rows_from rank (line ∷ rest) (suc k) d lt = slice_get-rows_from (suc rank) rest k d (omega arith) ∙ ap (λ m. Some (row_at m (get_or rest k d))) (omega arith)

-- a number that is read is one that is kept
number_is : (o : Option (Option ℕ)) (i : ℕ) → unwrap_or o None ≡ Some i → o ≡ Some (Some i)
number_is None i is = cc
number_is (Some o) i is = ap Some is

module _ (lines : List Line) (numbers : List (Option ℕ)) (order places : List ℕ) (kept : IsKept lines numbers order places) where
  lines_in_order : ranked lines ≡ map (line_at lines) order
  lines_in_order = ranked_kept lines order places kept.at_places kept.ordered

  at_rank : (k : ℕ) → k < length lines → get_or (map (line_at lines) order) k nobody ≡ line_at lines (get_or order k 0)
  at_rank k lt = get_or-map (line_at lines) order k 0 nobody (omega (arith, kept.at_places.all_ordered))

  -- the rank of a player with a line is the place kept of his number
  pub rank_of-kept : (p i : ℕ) → number_of numbers p ≡ Some i → rank_of lines p ≡ Some (get_or places i 0)
  unfolding rank_of
  rank_of-kept p i is =
      let found = kept.numbered.found p i (number_is (slice_get numbers p) i is) in
      let below : get_or places i 0 < length lines = kept.at_places.within i found.0 in
      let long : length (map (line_at lines) order) ≡ length lines = length-map order (line_at lines) ∙ kept.at_places.all_ordered in
      ap (position (λ (line : Line). line.player == p)) lines_in_order ∙
      position-at (λ (line : Line). line.player == p) (map (line_at lines) order) (get_or places i 0) nobody (omega arith)
      (ap (λ (l : Line). l.player == p) (at_rank (get_or places i 0) below) ∙ (ap (λ m. player_at lines m == p) (kept.at_places.each_number i found.0) ∙ eq-eqb (player_at lines i) p found.1))
      (λ j less.
      let within : j < length lines = omega arith in
      ap (λ (l : Line). l.player == p) (at_rank j within) ∙
      ne_eqb (player_at lines (get_or order j 0)) p (λ same.
      let number : get_or order j 0 ≡ i = player_once lines numbers kept.numbered (get_or order j 0) i (kept.at_places.numbers j within) found.0 (same ∙ sym found.1) in
      let again : j ≡ get_or places i 0 = sym (kept.at_places.each_place j within) ∙ ap (λ m. get_or places m 0) number in
      omega arith))

  pub place_kept : (p i : ℕ) → number_of numbers p ≡ Some i → i < length places
  place_kept p i is = let found = kept.numbered.found p i (number_is (slice_get numbers p) i is) in let lt : i < length lines = found.0 in omega (arith, kept.at_places.all_placed)

  none_at : (p : ℕ) → number_of numbers p ≡ None → (i : ℕ) → i < length lines → player_at lines i ≡ p → ⊥
  none_at p is i lt same =
      let listed : slice_get numbers p ≡ Some (Some i) = ap (slice_get numbers) (sym same) ∙ kept.numbered.listed i lt in
      let both : None ≡ Some i = sym is ∙ ap (λ o. unwrap_or o None) listed in
      cc

  pub has-none : (p : ℕ) → number_of numbers p ≡ None → has lines p ≡ false
  has-none p is = list_any_none (λ (line : Line). line.player == p) lines (All-from_get_or (λ (line : Line). (line.player == p) ≡ false) lines nobody (λ i lt. ne_eqb (player_at lines i) p (none_at p is i lt)))

  pub has-some : (p i : ℕ) → number_of numbers p ≡ Some i → has lines p ≡ true
  has-some p i is = let found = kept.numbered.found p i (number_is (slice_get numbers p) i is) in has_at lines i p found.0 found.1

  pub rank_of-none : (p : ℕ) → number_of numbers p ≡ None → rank_of lines p ≡ None
  unfolding rank_of
  rank_of-none p is =
      let long : length (map (line_at lines) order) ≡ length lines = length-map order (line_at lines) ∙ kept.at_places.all_ordered in
      ap (position (λ (line : Line). line.player == p)) lines_in_order ∙
      position-none (λ (line : Line). line.player == p) (map (line_at lines) order) nobody (λ j less.
      let within : j < length lines = omega arith in
      ap (λ (l : Line). l.player == p) (at_rank j within) ∙ ne_eqb (player_at lines (get_or order j 0)) p (none_at p is (get_or order j 0) (kept.at_places.numbers j within)))

  pub length-rows : length (rows lines) ≡ length lines
  unfolding rows
  length-rows = length-rows_from 0 (ranked lines) ∙ (ap length lines_in_order ∙ (length-map order (line_at lines) ∙ kept.at_places.all_ordered))

  -- the row at a rank is that of the line with the number kept there
  pub slice_get-rows : (k : ℕ) → k < length lines → slice_get (rows lines) k ≡ Some (row_at k (line_at lines (get_or order k 0)))
  unfolding rows
  slice_get-rows k lt =
      let long : length (map (line_at lines) order) ≡ length lines = length-map order (line_at lines) ∙ kept.at_places.all_ordered in
      ap (λ l. slice_get (rows_from 0 l) k) lines_in_order ∙
      (slice_get-rows_from 0 (map (line_at lines) order) k nobody (omega arith) ∙
      (ap (λ m. Some (row_at m (get_or (map (line_at lines) order) k nobody))) (omega arith) ∙ ap (λ l. Some (row_at k l)) (at_rank k lt)))

  pub slice_get-rows_past : (k : ℕ) → length lines ≤ k → slice_get (rows lines) k ≡ None
  slice_get-rows_past k le = slice_get_past (rows lines) k (omega (arith, length-rows))

  -- the rows of one more rank
  pub more_rows : (first rank : ℕ) → first ≤ rank → rank < length lines → (row : Row) → row ≡ row_at rank (line_at lines (get_or order rank 0)) → slice_range (rows lines) first (rank + 1) ≡ slice_range (rows lines) first rank ++ row ∷ []
  more_rows first rank le lt row is =
      let within : rank < length (rows lines) = omega (arith, length-rows) in
      let same : Some (get_or (rows lines) rank row) ≡ Some row = sym (slice_get-get_or (rows lines) rank row within) ∙ (slice_get-rows rank lt ∙ ap Some (sym is)) in
      let read : get_or (rows lines) rank row ≡ row = cc in
      between_more (rows lines) first rank row le within ∙ ap (λ r. slice_range (rows lines) first rank ++ r ∷ []) read

  -- a page, cut to the ranks that there are
  pub page_cut : (from n first last : ℕ) → first ≡ min (length lines) from → last ≡ first + min n (length lines - first) → slice_range (rows lines) first last ≡ page from n lines
  page_cut from n first last begins ends =
      let start : drop first (rows lines) ≡ drop from (rows lines) = ap (λ m. drop m (rows lines)) (begins ∙ omega (arith, length-rows)) ∙ drop_min from (rows lines) in
      let many : last - first ≡ min n (length (drop first (rows lines))) = omega (arith, length-rows, length-drop first (rows lines)) in
      ap (λ m. take m (drop first (rows lines))) many ∙ (take_min n (drop first (rows lines)) ∙ ap (take n) start)

  -- the row of the line read at a rank
  pub row_read : (k number : ℕ) (line : Line) → k < length lines → number ≡ get_or order k 0 → line ≡ line_at lines number → slice_get (rows lines) k ≡ Some (row_at k line)
  row_read k number line lt is read = slice_get-rows k lt ∙ ap (λ l. Some (row_at k l)) (ap (line_at lines) (sym is) ∙ sym read)
