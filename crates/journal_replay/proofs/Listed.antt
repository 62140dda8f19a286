-- The games that a journal lists at an entry, found by halves, and when two lists of games are one.
use Rattle.std.proofs.Common.{◌≡◌, ◌≢◌, ℕ, zero, suc, ◌+◌, ◌-◌, ◌<◌, ◌≤◌, List, [], ◌∷◌, take, drop, length, get_or, slice_get, Some, None, leb, ltb, Bool, true, false, refl, sym, ap, subst, inl, inr, ◌∙◌, arith}
use Rattle.std.specs.Prelude.{filter, ◌==◌, ◌&&◌, ◌↔◌}
use Rattle.std.specs.Bool.{Decides}
use Rattle.std.specs.List.{AllPairs}
use Rattle.std.specs.List.Sorted.{IsNonDecreasingBy, IsPartitionPoint, IsPartitionedBy}
use Rattle.std.proofs.lemmas.Bool.{cases_lt, leb-true, leb-false, ltb-true, ltb-false, eq-eqb, ne_eqb}
use Rattle.std.proofs.lemmas.Bool.Decides.{Decides-and, Decides-eqb, Decides-like}
use Rattle.std.proofs.lemmas.List.{drop_more, length-drop, take_all}
use Rattle.std.proofs.lemmas.Option.{get_or_from_slice_get, slice_get_within}
use Rattle.std.proofs.lemmas.List.Sorted.{IsPartitionedBy-leb, IsPartitionedBy-ltb}
use Rattle.std.proofs.lemmas.Slice.Eq.{slice_eq-Decides}
use Rattle.entries.specs.declared.journal.Start.{Start}
use Rattle.entries.specs.Ranges.{listed_at}
use Rattle.journal_replay.specs.Causes.{same_start, same_starts}

module _ (n : ℕ) where
  abbrev pub own : Start → Bool
  own g = g.entry == n

  -- where none is below n, those up to the first above it are those of n
  keep : (xs : List Start) (count : ℕ) → ((k : ℕ) (d : Start) → k < length xs → n ≤ (get_or xs k d).entry) → IsPartitionPoint (λ (y : Start). leb y.entry n ≡ true) (λ (y : Start). leb y.entry n ≡ false) xs count → count ≤ length xs → filter own xs ≡ take count xs
  keep [] zero least point le = refl
  keep [] (suc count) least point le = refl
  keep (x ∷ xs) zero least point le =
      let above : n < x.entry = leb-false x.entry n (point.1 0 x (omega arith) (omega arith)) in
      let not_own : own x ≡ false = ne_eqb x.entry n (omega (arith, above)) in
      rw not_own (keep xs zero (λ k d lt. least (suc k) d (omega (arith, lt))) ((λ k d low high. absurd (omega (arith, low, high))), (λ k d low high. point.1 (suc k) d (omega arith) (omega (arith, high)))) (omega arith))
  keep (x ∷ xs) (suc count) least point le =
      let most : x.entry ≤ n = leb-true x.entry n (point.0 0 x (omega arith) (omega arith)) in
      let is_own : own x ≡ true = eq-eqb x.entry n (omega (arith, most, least 0 x (omega arith))) in
      rw is_own (ap (λ l. x ∷ l) (keep xs count (λ k d lt. least (suc k) d (omega (arith, lt))) ((λ k d low high. point.0 (suc k) d (omega arith) (omega (arith, high))), (λ k d low high. point.1 (suc k) d (omega (arith, low)) (omega (arith, high)))) (omega (arith, le))))

  -- those of n stand behind the last below it, up to the first above it
  pub found : (xs : List Start) (first count : ℕ) → IsPartitionPoint (λ (y : Start). ltb y.entry n ≡ true) (λ (y : Start). ltb y.entry n ≡ false) xs first → first ≤ length xs → IsPartitionPoint (λ (y : Start). leb y.entry n ≡ true) (λ (y : Start). leb y.entry n ≡ false) (drop first xs) count → count ≤ length (drop first xs) → filter own xs ≡ take count (drop first xs)
  found xs zero count low first_le high count_le = keep xs count (λ k d lt. ltb-false (get_or xs k d).entry n (low.1 k d (omega arith) lt)) high count_le
  found [] (suc first) count low first_le high count_le = absurd (omega (arith, first_le))
  found (x ∷ xs) (suc first) count low first_le high count_le =
      let below : x.entry < n = ltb-true x.entry n (low.0 0 x (omega arith) (omega arith)) in
      let not_own : own x ≡ false = ne_eqb x.entry n (omega (arith, below)) in
      rw not_own (found xs first count ((λ k d at_least at_most. low.0 (suc k) d (omega arith) (omega (arith, at_most))), (λ k d at_least at_most. low.1 (suc k) d (omega (arith, at_least)) (omega (arith, at_most)))) (omega (arith, first_le)) high count_le)

-- games in the order of their entries
rising : (xs : List Start) → AllPairs (λ (a b : Start). a.entry ≤ b.entry) xs → IsNonDecreasingBy (λ (g : Start). g.entry) xs
rising xs order i j d le lt = elim (cases_lt i j) [
  | inl before ↦ order i j d before lt
  | inr from ↦ (let same : i ≡ j = omega arith in subst (λ k. (get_or xs i d).entry ≤ (get_or xs k d).entry) same (omega arith))
]

rising_behind : (xs : List Start) (first : ℕ) → IsNonDecreasingBy (λ (g : Start). g.entry) xs → IsNonDecreasingBy (λ (g : Start). g.entry) (drop first xs)
rising_behind xs zero up = up
rising_behind [] (suc first) up = λ i j d le lt. omega arith
rising_behind (x ∷ xs) (suc first) up = rising_behind xs first (λ i j d le lt. up (suc i) (suc j) d (omega (arith, le)) (omega (arith, lt)))

-- what stands from a place on is no longer than what is left there
pub behind_is : (xs : List Start) (first : ℕ) → take (length xs - first) (drop first xs) ≡ drop first xs
behind_is xs first = take_all (length xs - first) (drop first xs) (omega (arith, length-drop first xs))

-- the games are parted by their entries
pub parted_below : (n : ℕ) (xs : List Start) → AllPairs (λ (a b : Start). a.entry ≤ b.entry) xs → IsPartitionedBy (λ (y : Start). ltb y.entry n) xs
parted_below n xs order = IsPartitionedBy-ltb (λ (g : Start). g.entry) xs n (rising xs order)

pub parted_above : (n : ℕ) (xs : List Start) (first : ℕ) → AllPairs (λ (a b : Start). a.entry ≤ b.entry) xs → IsPartitionedBy (λ (y : Start). leb y.entry n) (take (length xs - first) (drop first xs))
parted_above n xs first order =
    subst (λ (l : List Start). IsPartitionedBy (λ (y : Start). leb y.entry n) l) (sym (behind_is xs first))
    (IsPartitionedBy-leb (λ (g : Start). g.entry) (drop first xs) n (rising_behind xs first (rising xs order)))

-- what stands between the two places is what is listed
pub between : (n : ℕ) (xs : List Start) (first count : ℕ) → IsPartitionPoint (λ (y : Start). ltb y.entry n ≡ true) (λ (y : Start). ltb y.entry n ≡ false) xs first → first ≤ length xs
    → IsPartitionPoint (λ (y : Start). leb y.entry n ≡ true) (λ (y : Start). leb y.entry n ≡ false) (take (length xs - first) (drop first xs)) count → count ≤ length (take (length xs - first) (drop first xs))
    → take count (take (length xs - first) (drop first xs)) ≡ listed_at n xs
between n xs first count low first_le high count_le =
    let same = behind_is xs first in
    let there = subst (λ (l : List Start). IsPartitionPoint (λ (y : Start). leb y.entry n ≡ true) (λ (y : Start). leb y.entry n ≡ false) l count) same high in
    let within = subst (λ (l : List Start). count ≤ length l) same count_le in
    ap (take count) same ∙ sym (found n xs first count low first_le there within)

-- one game is the same as another exactly where they are one
start_decides : (a b : Start) → Decides (same_start a b) (a ≡ b)
start_decides a b =
    Decides-like (same_start a b) (λ (all : ((a.entry ≡ b.entry) × (a.white ≡ b.white)) × (a.black ≡ b.black)). λ i. record { entry = all.0.0 i; white = all.0.1 i; black = all.1 i }) (λ (is : a ≡ b). ((ap (λ (x : Start). x.entry) is, ap (λ (x : Start). x.white) is), ap (λ (x : Start). x.black) is))
    (Decides-and (a.entry == b.entry && a.white == b.white) (a.black == b.black) (Decides-and (a.entry == b.entry) (a.white == b.white) (Decides-eqb a.entry b.entry) (Decides-eqb a.white b.white)) (Decides-eqb a.black b.black))

-- and so it is with lists of games
pub same_are_equal : (a b : List Start) → (same_starts a b ≡ true) ↔ (a ≡ b)
same_are_equal a b = slice_eq-Decides start_decides a b (same_starts a b) refl

-- ---- games, compared with those behind a place

-- where nothing stands at a place, nothing stands from it on
drop_none : (ys : List Start) (n : ℕ) → slice_get ys n ≡ None → drop n ys ≡ []
drop_none [] zero none = refl
drop_none [] (suc n) none = refl
drop_none (y ∷ ys) zero none = cc
drop_none (y ∷ ys) (suc n) none = drop_none ys n none

drop_some : (ys : List Start) (n : ℕ) (y : Start) → slice_get ys n ≡ Some y → drop n ys ≡ y ∷ drop (n + 1) ys
drop_some ys n y found =
    drop_more ys n y (slice_get_within ys n y found) ∙ ap (λ x. x ∷ drop (n + 1) ys) (get_or_from_slice_get ys n y y found)

-- both have come to their ends, or only the listed ones have not
pub at_end : (xs ys : List Start) (n : ℕ) → slice_get ys n ≡ None → (length xs == 0) ≡ same_starts xs (drop n ys)
at_end [] ys n none = ap (same_starts []) (sym (drop_none ys n none))
at_end (x ∷ xs) ys n none = ne_eqb (suc (length xs)) 0 (omega arith) ∙ ap (same_starts (x ∷ xs)) (sym (drop_none ys n none))

-- the listed ones have come to their end, and the others have not
pub too_few : (xs ys : List Start) (n : ℕ) (y : Start) → slice_get ys n ≡ Some y → length xs ≡ 0 → false ≡ same_starts xs (drop n ys)
too_few [] ys n y found none = ap (same_starts []) (sym (drop_some ys n y found))
too_few (x ∷ xs) ys n y found none = absurd (omega (arith, none))

-- one of each, and those behind them
one_of_each : (xs ys : List Start) (n : ℕ) (d y : Start) → slice_get ys n ≡ Some y → length xs ≢ 0 → same_starts xs (drop n ys) ≡ (same_start (get_or xs 0 d) y && same_starts (drop 1 xs) (drop (n + 1) ys))
one_of_each [] ys n d y found some = absurd (some refl)
one_of_each (x ∷ xs) ys n d y found some = ap (same_starts (x ∷ xs)) (drop_some ys n y found)

pub other_game : (xs ys : List Start) (n : ℕ) (d y : Start) → slice_get ys n ≡ Some y → length xs ≢ 0 → same_start (get_or xs 0 d) y ≡ false → false ≡ same_starts xs (drop n ys)
other_game xs ys n d y found some other = sym (one_of_each xs ys n d y found some ∙ ap (λ b. b && same_starts (drop 1 xs) (drop (n + 1) ys)) other)

pub same_game : (xs ys rest : List Start) (n : ℕ) (d y : Start) (b : Bool) → slice_get ys n ≡ Some y → length xs ≢ 0 → same_start (get_or xs 0 d) y ≡ true → rest ≡ take (length xs - 1) (drop 1 xs) → b ≡ same_starts rest (drop (n + 1) ys) → b ≡ same_starts xs (drop n ys)
same_game xs ys rest n d y b found some same is_rest is =
    is ∙ (ap (λ (l : List Start). same_starts l (drop (n + 1) ys)) (is_rest ∙ behind_is xs 1)
    ∙ sym (one_of_each xs ys n d y found some ∙ ap (λ c. c && same_starts (drop 1 xs) (drop (n + 1) ys)) same))
