-- Numbers of lines and their places, when two neighbours are swapped.
use Rattle.std.proofs.Common.{◌≡◌, ℕ, ◌+◌, ◌<◌, ◌≤◌, ◌⊎◌, inl, inr, ⊎_elim, List, true, false, length, get_or, refl, sym, ap, ◌∙◌, subst, arith}
use Rattle.std.specs.Prelude.{◌≢◌, IsTrue, swap, slice_set}
use Rattle.std.proofs.lemmas.Bool.{cases_eq}
use Rattle.std.proofs.lemmas.List.{length-set, get_or-set_same, get_or-set_other}
use Rattle.std.proofs.lemmas.List.Edits.{Swapped, swapped_from_swap, length-swap}
use Rattle.ranking.specs.Order.{Line, comes_before}
use Rattle.ranking.specs.Kept.{ArePlaced, AreInOrder, AreInOrderBut, FollowsAllBefore}
use Rattle.ranking.proofs.Before.{transitive, total}

-- the number at a place
abbrev at : List ℕ → ℕ → ℕ
at xs k = get_or xs k 0

-- places once two neighbours are swapped
swapped_places : List ℕ → List ℕ → ℕ → List ℕ
swapped_places order places k = slice_set (slice_set places (at order k) k) (at order (k + 1)) (k + 1)

module _ (n : ℕ) (order places new : List ℕ) (k : ℕ) (lt : k + 1 < n) (are : ArePlaced n order places) (is : new ≡ swap order k (k + 1)) where
  pub moved : Swapped (at order) (at new) k (k + 1)
  moved = swapped_from_swap order new k (k + 1) 0 (omega (arith, are.all_ordered)) (omega (arith, are.all_ordered)) is

  same_place : (i j : ℕ) → i < n → j < n → at order i ≡ at order j → i ≡ j
  same_place i j below within same = sym (are.each_place i below) ∙ (ap (at places) same ∙ are.each_place j within)

  abbrev put : List ℕ
  put = slice_set (slice_set places (at new k) k) (at new (k + 1)) (k + 1)

  apart : at new k ≢ at new (k + 1)
  apart same = let e : k + 1 ≡ k = same_place (k + 1) k lt (omega arith) (sym moved.0 ∙ (same ∙ moved.1)) in omega arith

  new_within : (i : ℕ) → i < n → at new i < n
  new_within i below =
      ⊎_elim
      (λ (first : i ≡ k). subst (λ m. m < n) (sym (ap (at new) first ∙ moved.0)) (are.numbers (k + 1) lt))
      (λ not_first.
      ⊎_elim
      (λ (second : i ≡ k + 1). subst (λ m. m < n) (sym (ap (at new) second ∙ moved.1)) (are.numbers k (omega arith)))
      (λ other. subst (λ m. m < n) (sym (moved.2 i not_first other)) (are.numbers i below))
      (cases_eq i (k + 1)))
      (cases_eq i k)

  put_first : at put (at new k) ≡ k
  put_first = get_or-set_other (slice_set places (at new k) k) (at new (k + 1)) (at new k) (k + 1) 0 apart ∙ get_or-set_same places (at new k) k 0 (let below = new_within k (omega arith) in omega (arith, are.all_placed))

  put_second : at put (at new (k + 1)) ≡ k + 1
  put_second = get_or-set_same (slice_set places (at new k) k) (at new (k + 1)) (k + 1) 0 (let below = new_within (k + 1) lt in omega (arith, are.all_placed, length-set places (at new k) k))

  put_other : (i : ℕ) → i ≢ at new k → i ≢ at new (k + 1) → at put i ≡ at places i
  put_other i not_first other = get_or-set_other (slice_set places (at new k) k) (at new (k + 1)) i (k + 1) 0 other ∙ get_or-set_other places (at new k) i k 0 not_first

  pub placed_swapped : ArePlaced n new put
  placed_swapped = record {
    all_ordered = ap length is ∙ (length-swap order k (k + 1) ∙ are.all_ordered);
    all_placed = length-set (slice_set places (at new k) k) (at new (k + 1)) (k + 1) ∙ (length-set places (at new k) k ∙ are.all_placed);
    numbers = new_within;
    each_place = λ i below.
        ⊎_elim
        (λ (first : i ≡ k). ap (λ m. at put (at new m)) first ∙ (put_first ∙ sym first))
        (λ not_first.
        ⊎_elim
        (λ (second : i ≡ k + 1). ap (λ m. at put (at new m)) second ∙ (put_second ∙ sym second))
        (λ other.
        let stays : at new i ≡ at order i = moved.2 i not_first other in
        let is_place : at put (at new i) ≡ at places (at new i) = put_other (at new i) (λ same. other (same_place i (k + 1) below lt (sym stays ∙ (same ∙ moved.0)))) (λ same. not_first (same_place i k below (omega arith) (sym stays ∙ (same ∙ moved.1)))) in
        is_place ∙ (ap (at places) stays ∙ are.each_place i below))
        (cases_eq i (k + 1)))
        (cases_eq i k);
    within = λ i below.
        ⊎_elim
        (λ (first : i ≡ at new k). subst (λ m. m < n) (sym (ap (at put) first ∙ put_first)) (omega arith))
        (λ not_first.
        ⊎_elim
        (λ (second : i ≡ at new (k + 1)). subst (λ m. m < n) (sym (ap (at put) second ∙ put_second)) lt)
        (λ other. subst (λ m. m < n) (sym (put_other i not_first other)) (are.within i below))
        (cases_eq i (at new (k + 1))))
        (cases_eq i (at new k));
    each_number = λ i below.
        ⊎_elim
        (λ (first : i ≡ at new k). ap (at new) (ap (at put) first ∙ put_first) ∙ sym first)
        (λ not_first.
        ⊎_elim
        (λ (second : i ≡ at new (k + 1)). ap (at new) (ap (at put) second ∙ put_second) ∙ sym second)
        (λ other.
        let number : at order (at places i) ≡ i = are.each_number i below in
        ap (at new) (put_other i not_first other) ∙
        (moved.2 (at places i) (λ same. other (sym number ∙ (ap (at order) same ∙ sym moved.1))) (λ same. not_first (sym number ∙ (ap (at order) same ∙ sym moved.0))) ∙ number))
        (cases_eq i (at new (k + 1))))
        (cases_eq i (at new k));
  }

  -- from which place the number at a place came
  abbrev Came : ℕ → ℕ → Type 0
  Came i j = ((i ≡ k) × (j ≡ k + 1)) ⊎ (((i ≡ k + 1) × (j ≡ k)) ⊎ ((i ≢ k) × (i ≢ k + 1) × (j ≡ i)))

  came_from : (i : ℕ) → i < n → (j : ℕ) × (j < n) × (at new i ≡ at order j) × Came i j
  came_from i below =
      ⊎_elim
      (λ (first : i ≡ k). (k + 1, lt, ap (at new) first ∙ moved.0, inl (first, refl)))
      (λ not_first.
      ⊎_elim
      (λ (second : i ≡ k + 1). (k, omega arith, ap (at new) second ∙ moved.1, inr (inl (second, refl))))
      (λ other. (i, below, moved.2 i not_first other, inr (inr (not_first, other, refl))))
      (cases_eq i (k + 1)))
      (cases_eq i k)

  came_before : (i j i' j' : ℕ) → i < j → Came i i' → Came j j' → (i ≡ k → j ≡ k + 1 → ⊥) → i' < j'
  came_before i j i' j' less (inl a) (inl b) pair = absurd (omega arith)
  came_before i j i' j' less (inl a) (inr (inl b)) pair = absurd (pair a.0 b.0)
  came_before i j i' j' less (inl a) (inr (inr b)) pair = omega arith
  came_before i j i' j' less (inr (inl a)) (inl b) pair = absurd (omega arith)
  came_before i j i' j' less (inr (inl a)) (inr (inl b)) pair = absurd (omega arith)
  came_before i j i' j' less (inr (inl a)) (inr (inr b)) pair = omega arith
  came_before i j i' j' less (inr (inr a)) (inl b) pair = omega arith
  came_before i j i' j' less (inr (inr a)) (inr (inl b)) pair = omega arith
  came_before i j i' j' less (inr (inr a)) (inr (inr b)) pair = omega arith

  -- where one of the two neighbours is the number that is left out, the others stay in order
  pub others_swapped : (lines : List Line) (number : ℕ) → ((at order k ≡ number) ⊎ (at order (k + 1) ≡ number)) → AreInOrderBut lines number order → AreInOrderBut lines number new
  others_swapped lines number one others i j less within not_i not_j =
      let long : length new ≡ n = placed_swapped.all_ordered in
      let a = came_from i (omega arith) in
      let b = came_from j (omega arith) in
      let pair : i ≡ k → j ≡ k + 1 → ⊥ = λ first second.
      ⊎_elim
      (λ (e : at order k ≡ number). not_j (ap (at new) second ∙ (moved.1 ∙ e)))
      (λ (e : at order (k + 1) ≡ number). not_i (ap (at new) first ∙ (moved.0 ∙ e)))
      one in
      let before : IsTrue (comes_before lines (at order a.0) (at order b.0)) = others a.0 b.0 (came_before i j a.0 b.0 less a.3 b.3 pair) (let lt' : b.0 < n = b.1 in omega (arith, are.all_ordered)) (λ e. not_i (a.2 ∙ e)) (λ e. not_j (b.2 ∙ e)) in
      subst (λ x. IsTrue (comes_before lines x (at new j))) (sym a.2) (subst (λ y. IsTrue (comes_before lines (at order a.0) y)) (sym b.2) before)

module _ (lines : List Line) (n : ℕ) (order places : List ℕ) (number place : ℕ) (are : ArePlaced n order places) (here : at order place ≡ number) (within : place < n) (others : AreInOrderBut lines number order) where
  -- the number stands at no other place
  only : (k : ℕ) → k < n → at order k ≡ number → k ≡ place
  only k below same = sym (are.each_place k below) ∙ (ap (at places) (same ∙ sym here) ∙ are.each_place place within)

  -- a number at another place is another number
  other_number : (k : ℕ) → k < n → k ≢ place → at order k ≢ number
  other_number k below apart same = apart (only k below same)

  -- at the top all before it, of which there are none, come before the number
  pub follows_none : place ≡ 0 → FollowsAllBefore lines number order
  follows_none top j k less below same = absurd (let e : k ≡ place = only k (omega (arith, are.all_ordered)) same in omega arith)

  -- where the number does not come before the one next to it, all before come before it
  pub follows_all : (m : ℕ) → m + 1 ≡ place → comes_before lines number (at order m) ≡ false → FollowsAllBefore lines number order
  follows_all m next not_before j k less below same =
      let e : k ≡ place = only k (omega (arith, are.all_ordered)) same in
      let neighbour : comes_before lines (at order m) number ≡ true = total lines number (at order m) (λ is. other_number m (omega arith) (λ p. omega arith) (sym is)) not_before in
      ⊎_elim
      (λ (last : j ≡ m). ap (λ x. comes_before lines (at order x) number) last ∙ neighbour)
      (λ earlier.
      transitive lines (at order j) (at order m) number
      (others j m (omega arith) (omega (arith, are.all_ordered)) (other_number j (omega arith) (λ p. omega arith)) (other_number m (omega arith) (λ p. omega arith)))
      neighbour)
      (cases_eq j m)

  -- where it also comes before the one behind it, all stand in order
  all_in_order : FollowsAllBefore lines number order → (place + 1 < n → comes_before lines number (at order (place + 1)) ≡ true) → AreInOrder lines order
  all_in_order above below j k less within' =
      let lt : k < n = omega (arith, are.all_ordered) in
      ⊎_elim
      (λ (first : j ≡ place).
      let next : comes_before lines number (at order (place + 1)) ≡ true = below (omega arith) in
      subst (λ x. IsTrue (comes_before lines x (at order k))) (sym (ap (at order) first ∙ here)) (
      ⊎_elim
      (λ (e : k ≡ place + 1). ap (λ x. comes_before lines number (at order x)) e ∙ next)
      (λ later. transitive lines number (at order (place + 1)) (at order k) next (others (place + 1) k (omega arith) within' (other_number (place + 1) (omega arith) (λ p. omega arith)) (other_number k lt (λ p. omega arith))))
      (cases_eq k (place + 1))))
      (λ not_first.
      ⊎_elim
      (λ (second : k ≡ place). subst (λ y. IsTrue (comes_before lines (at order j) y)) (sym (ap (at order) second ∙ here)) (above j k less within' (ap (at order) second ∙ here)))
      (λ not_second. others j k less within' (other_number j (omega arith) not_first) (other_number k lt not_second))
      (cases_eq k place))
      (cases_eq j place)

  -- at the end nobody stands behind it
  pub settled_last : n ≤ place + 1 → FollowsAllBefore lines number order → AreInOrder lines order
  settled_last last above = all_in_order above (λ less. absurd (omega arith))

  pub settled : comes_before lines (at order (place + 1)) number ≡ false → FollowsAllBefore lines number order → AreInOrder lines order
  settled not_before above = all_in_order above (λ less. total lines (at order (place + 1)) number (other_number (place + 1) less (λ p. omega arith)) not_before)

  -- a number that comes before it is swapped with it
  pub follows_swapped : (new : List ℕ) (lt : place + 1 < n) (is : new ≡ swap order place (place + 1)) → comes_before lines (at order (place + 1)) number ≡ true → FollowsAllBefore lines number order → FollowsAllBefore lines number new
  follows_swapped new lt is before above j k less below same =
      let moves : Swapped (at order) (at new) place (place + 1) = moved n order places new place lt are is in
      let are_new = placed_swapped n order places new place lt are is in
      let next : k ≡ place + 1 = sym (are_new.each_place k (omega (arith, are_new.all_ordered))) ∙ (ap (at (put n order places new place lt are is)) (same ∙ sym (moves.1 ∙ here)) ∙ are_new.each_place (place + 1) lt) in
      ⊎_elim
      (λ (e : j ≡ place). ap (λ x. comes_before lines x number) (ap (at new) e ∙ moves.0) ∙ before)
      (λ apart. ap (λ x. comes_before lines x number) (moves.2 j apart (λ e. omega arith)) ∙ above j place (omega arith) (omega (arith, are.all_ordered)) here)
      (cases_eq j place)
