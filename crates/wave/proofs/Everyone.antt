-- Each player of the rows stands in a pair of the plan, or is left alone.
use Rattle.std.specs.Prelude.{Option, Some, None, Contains}
use Rattle.std.specs.List.{range_with_len, filter_map, flat_map, cons_option}
use Rattle.std.specs.Int.{div_ceil}
use Rattle.std.proofs.Common.{◌≡◌, ℕ, zero, suc, ◌+◌, ◌*◌, ◌/◌, ◌%◌, ◌<◌, ◌≤◌, inl, inr, ⊎_elim, cond, ◌==◌, nat_lt, List, [], ◌∷◌, length, get_or, take, drop, slice_get, slice_index, refl, sym, ◌∙◌, ap, ap₂, subst, arith, lt-ltb}
use Rattle.std.proofs.lemmas.Bool.{cases_eq, cases_lt}
use Rattle.std.proofs.lemmas.Option.{slice_get-get_or}
use Rattle.std.proofs.lemmas.List.Elements.{Contains-append_left, Contains-append_right}
use Rattle.pair_cost.specs.declared.candidate.Candidate.{Candidate}
use Rattle.pair_cost.specs.declared.candidate.Pair.{Pair}
use Rattle.pair_cost.specs.Colours.{colours}
use Rattle.group_pairing.specs.Lists.{HasPartner}
use Rattle.group_pairing.specs.Least.{least}
use Rattle.wave.specs.Plans.{frame, pair_of, pair_at, player_of, alone_at, pairs, alone, first_pairs, first_alone, planned_pairs, planned_alone, group, group_count}
use Rattle.wave.specs.Players.{IsIn, IsPlanned}
use Rattle.wave.proofs.Players.{EachPlaced, inside_of, got_drop, by_colours}

-- an item that is drawn or stands in one of the lists is an item of the whole

contains_front : {Y : Type 0} (o : Option Y) (ys : List Y) (y : Y) → Contains ys y → Contains (cons_option o ys) y
contains_front None ys y h = h
contains_front (Some z) ys y h = Contains-append_right (z ∷ []) ys y h

contains_head : {Y : Type 0} (ys : List Y) (y : Y) → Contains (y ∷ ys) y
contains_head ys y = (0, omega arith, refl)

contains_drawn : {Y : Type 0} (f : ℕ → Option Y) (s n i : ℕ) (y : Y) → s ≤ i → i < s + n → f i ≡ Some y → Contains (filter_map f (range_with_len s n)) y
contains_drawn f s zero i y low high at = absurd (omega (arith, low, high))
contains_drawn {Y} f s (suc n) i y low high at =
    elim (cases_eq s i) [
      | inl here ↦ subst (λ (o : Option Y). Contains (cons_option o (filter_map f (range_with_len (s + 1) n))) y) (sym (ap f here ∙ at)) (contains_head (filter_map f (range_with_len (s + 1) n)) y)
      | inr later ↦ contains_front (f s) (filter_map f (range_with_len (s + 1) n)) y (contains_drawn f (s + 1) n i y (omega (arith, low, later)) (omega (arith, high)) at)
    ]

contains_joined : {Y : Type 0} (f : ℕ → List Y) (s n k : ℕ) (y : Y) → s ≤ k → k < s + n → Contains (f k) y → Contains (flat_map f (range_with_len s n)) y
contains_joined f s zero k y low high at = absurd (omega (arith, low, high))
contains_joined {Y} f s (suc n) k y low high at =
    elim (cases_eq s k) [
      | inl here ↦ Contains-append_left (f s) (flat_map f (range_with_len (s + 1) n)) y (subst (λ (l : List Y). Contains l y) (ap f (sym here)) at)
      | inr later ↦ Contains-append_right (f s) (flat_map f (range_with_len (s + 1) n)) y (contains_joined f (s + 1) n k y (omega (arith, low, later)) (omega (arith, high)) at)
    ]

-- what stands at a place of a group

take_got : (n : ℕ) (rows : List Candidate) (i : ℕ) → i < n → slice_get (take n rows) i ≡ slice_get rows i
take_got zero rows i low = absurd (omega (arith, low))
take_got (suc n) [] i low = refl
take_got (suc n) (row ∷ rows) zero low = refl
take_got (suc n) (row ∷ rows) (suc i) low = take_got n rows i (omega (arith, low))

at_group : (rows : List Candidate) (k i : ℕ) → i < 14 → slice_get (group rows k) i ≡ slice_get rows (14 * k + i)
at_group rows k i low = take_got 14 (drop (14 * k) rows) i low ∙ got_drop (14 * k) rows i

-- the pair of a place whose partner has a later place
pair_there : (rows : List Candidate) (to : List ℕ) (n j : ℕ) (a b : Candidate) → slice_index to n ≡ j → n < j → slice_get rows n ≡ Some a → slice_get rows j ≡ Some b → pair_at rows to n ≡ Some (colours a b)
pair_there rows to n j a b at up first second =
    subst (λ k. cond (nat_lt n k) (pair_of (slice_get rows n) (slice_get rows k)) None ≡ Some (colours a b)) (sym at)
    (ap (λ t. cond t (pair_of (slice_get rows n) (slice_get rows j)) None) (lt-ltb n j up) ∙ ap₂ pair_of first second)

-- the player of a place that has nobody
left_there : (rows : List Candidate) (to : List ℕ) (n : ℕ) (a : Candidate) → slice_index to n ≡ 14 → slice_get rows n ≡ Some a → alone_at rows to n ≡ Some a.player
left_there rows to n a at here =
    subst (λ k. cond (k == 14) (player_of (slice_get rows n)) None ≡ Some a.player) (sym at) (ap player_of here)

in_first : (a b : Candidate) → IsIn (colours a b) a.player
in_first a b = by_colours (λ p. IsIn p a.player) a b (inl refl) (inr refl)

in_second : (a b : Candidate) → IsIn (colours a b) b.player
in_second a b = by_colours (λ p. IsIn p b.player) a b (inr refl) (inl refl)

module _ (rule : ℕ) (rows : List Candidate) (each : EachPlaced rule rows) where
  -- the least list of group k
  abbrev list : ℕ → List ℕ
  list k = least (group rows k) (frame rule rows)

  in_pair : (k i player : ℕ) (x : Pair) → k < group_count rows → i < length (group rows k) → pair_at (group rows k) (list k) i ≡ Some x → IsIn x player → IsPlanned rule rows player
  unfolding planned_pairs first_pairs pairs
  in_pair k i player x inside within at here =
      let there : Contains (planned_pairs rule rows) x =
      contains_joined (λ n. pairs (group rows n) (list n)) 0 (group_count rows) k x (omega arith) (omega (arith, inside))
      (contains_drawn (pair_at (group rows k) (list k)) 0 (length (group rows k)) i x (omega arith) (omega (arith, within)) at) in
      inl (there.0, x, there.1, there.2, here)

  in_alone : (k i player : ℕ) → k < group_count rows → i < length (group rows k) → alone_at (group rows k) (list k) i ≡ Some player → IsPlanned rule rows player
  unfolding planned_alone first_alone alone
  in_alone k i player inside within at =
      inr (contains_joined (λ n. alone (group rows n) (list n)) 0 (group_count rows) k player (omega arith) (omega (arith, inside))
      (contains_drawn (alone_at (group rows k) (list k)) 0 (length (group rows k)) i player (omega arith) (omega (arith, within)) at))

  placed_planned : (k i : ℕ) (a : Candidate) → k < group_count rows → slice_get (group rows k) i ≡ Some a → IsPlanned rule rows a.player
  placed_planned k i a inside at =
      let within = inside_of (group rows k) i a at in
      ⊎_elim
      (λ (nobody : slice_index (list k) i ≡ 14). in_alone k i a.player inside within (left_there (group rows k) (list k) i a nobody at))
      (λ (met : HasPartner (group rows k) (list k) i).
      let b = get_or (group rows k) (slice_index (list k) i) a in
      let there : slice_get (group rows k) (slice_index (list k) i) ≡ Some b = slice_get-get_or (group rows k) (slice_index (list k) i) a met.inside in
      ⊎_elim
      (λ (up : i < slice_index (list k) i).
      in_pair k i a.player (colours a b) inside within (pair_there (group rows k) (list k) i (slice_index (list k) i) a b refl up at there) (in_first a b))
      (λ (down : slice_index (list k) i ≤ i).
      let below : slice_index (list k) i < i = let differ = met.other in omega (arith, down, differ) in
      in_pair k (slice_index (list k) i) a.player (colours b a) inside met.inside (pair_there (group rows k) (list k) (slice_index (list k) i) i b a met.back below there at) (in_second b a))
      (cases_lt i (slice_index (list k) i)))
      (each k i within)

  count_inside : (n r : ℕ) → r < n → r / 14 < div_ceil n 14
  count_inside n r h = omega arith

  pub everyone_planned : (r : ℕ) (d : Candidate) → r < length rows → IsPlanned rule rows (get_or rows r d).player
  everyone_planned r d inside =
      let place : 14 * (r / 14) + r % 14 ≡ r = omega arith in
      placed_planned (r / 14) (r % 14) (get_or rows r d) (count_inside (length rows) r inside)
      (at_group rows (r / 14) (r % 14) (omega arith) ∙ ap (slice_get rows) place ∙ slice_get-get_or rows r d inside)
