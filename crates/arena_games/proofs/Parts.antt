-- Where numbers that rise are parted.
use Rattle.std.proofs.Common.{◌≡◌, ℕ, zero, suc, ◌+◌, ◌-◌, ◌<◌, ◌≤◌, List, [], ◌∷◌, ◌++◌, length, get_or, take, drop, ltb, true, false, refl, sym, ap, subst, ◌∙◌, arith, inl, inr, length-append}
use Rattle.std.specs.List.Sorted.{IsPartitionedBy, IsPartitionPoint}
use Rattle.std.proofs.lemmas.Bool.{cases_lt, ltb-true, ltb-false}
use Rattle.std.proofs.lemmas.Bool.Decides.{nat_tests}
use Rattle.std.proofs.lemmas.List.{get_or-append_right}
use Rattle.std.proofs.lemmas.List.Elements.{All-cons}
use Rattle.arena_games.specs.Numbers.{IsParted, IsPartedBy}

pub get_left : (xs ys : List ℕ) (i d : ℕ) → i < length xs → get_or (xs ++ ys) i d ≡ get_or xs i d
get_left [] ys i d lt = absurd (omega (arith, lt))
get_left (x ∷ xs) ys zero d lt = refl
get_left (x ∷ xs) ys (suc i) d lt = get_left xs ys i d (omega (arith, lt))

-- the numbers in front of the place are below n, and no others
low : (ns : List ℕ) (n : ℕ) (p : IsParted ns n) (i d : ℕ) → i < length p.below → get_or ns i d < n
low ns n p i d lt =
    subst (λ (ms : List ℕ). get_or ms i d < n) (sym p.whole)
    (subst (λ m. m < n) (sym (get_left p.below p.others i d lt)) (p.are_below i d lt))

high : (ns : List ℕ) (n : ℕ) (p : IsParted ns n) (i d : ℕ) → length p.below ≤ i → i < length ns → n ≤ get_or ns i d
high ns n p i d le lt =
    let all : length ns ≡ length p.below + length p.others = ap length p.whole ∙ length-append p.below p.others in
    subst (λ (ms : List ℕ). n ≤ get_or ms i d) (sym p.whole)
    (subst (λ m. n ≤ m) (sym (get_or-append_right p.below p.others (length p.below) i d refl le)) (p.are_not (i - length p.below) d (omega arith)))

pub is_partitioned : (ns : List ℕ) (n : ℕ) → IsParted ns n → IsPartitionedBy (λ m. ltb m n) ns
is_partitioned ns n p i j d le lt below =
    elim (cases_lt j (length p.below)) [
      | inl near ↦ (let h : get_or ns i d < n = low ns n p i d (omega arith) in grind (arith, nat_tests))
      | inr far ↦ (let h : n ≤ get_or ns j d = high ns n p j d far lt in let l : get_or ns j d < n = ltb-true (get_or ns j d) n below in absurd (omega arith))
    ]

pub place_is : (ns : List ℕ) (n k : ℕ) (p : IsParted ns n) → k ≤ length ns → IsPartitionPoint (λ m. ltb m n ≡ true) (λ m. ltb m n ≡ false) ns k → k ≡ length p.below
place_is ns n k p le point =
    let b : ℕ = length p.below in
    let all : length ns ≡ b + length p.others = ap length p.whole ∙ length-append p.below p.others in
    elim (cases_lt k b) [
      | inl near ↦ (let h : get_or ns k 0 < n = low ns n p k 0 near in let l : n ≤ get_or ns k 0 = ltb-false (get_or ns k 0) n (point.1 k 0 (omega arith) (omega arith)) in absurd (omega arith))
      | inr far ↦ elim (cases_lt b k) [
        | inl more ↦ (let h : n ≤ get_or ns b 0 = high ns n p b 0 (omega arith) (omega arith) in let l : get_or ns b 0 < n = ltb-true (get_or ns b 0) n (point.0 b 0 (omega arith) more) in absurd (omega arith))
        | inr less ↦ omega arith
      ]
    ]

-- what is parted by a number is parted at it
pub parted_at : (ns : List ℕ) (n : ℕ) → IsPartedBy ns n → IsParted ns n
parted_at ns n p = record {
  below = p.below;
  others = n ∷ p.above;
  whole = p.whole;
  are_below = p.are_below;
  are_not = All-cons (λ m. n ≤ m) n p.above (omega arith) (λ k d lt. let h = p.are_above k d lt in omega arith);
}

drop_front : (xs ys : List ℕ) (k : ℕ) → k ≡ length xs → drop k (xs ++ ys) ≡ ys
drop_front [] ys zero e = refl
drop_front [] ys (suc k) e = absurd (omega (arith, e))
drop_front (x ∷ xs) ys zero e = absurd (omega (arith, e))
drop_front (x ∷ xs) ys (suc k) e = drop_front xs ys k (omega (arith, e))

take_front : (xs ys : List ℕ) (k : ℕ) → k ≡ length xs → take k (xs ++ ys) ≡ xs
take_front [] ys zero e = refl
take_front [] ys (suc k) e = absurd (omega (arith, e))
take_front (x ∷ xs) ys zero e = absurd (omega (arith, e))
take_front (x ∷ xs) ys (suc k) e = ap (λ v. x ∷ v) (take_front xs ys k (omega (arith, e)))

drop_next : (xs ys : List ℕ) (y k : ℕ) → k ≡ length xs → drop (suc k) (xs ++ y ∷ ys) ≡ ys
drop_next [] ys y zero e = refl
drop_next [] ys y (suc k) e = absurd (omega (arith, e))
drop_next (x ∷ xs) ys y zero e = absurd (omega (arith, e))
drop_next (x ∷ xs) ys y (suc k) e = drop_next xs ys y k (omega (arith, e))

-- the numbers from the place on
pub from_place : (ns : List ℕ) (n k : ℕ) (p : IsParted ns n) → k ≡ length p.below → drop k ns ≡ p.others
from_place ns n k p e = ap (drop k) p.whole ∙ drop_front p.below p.others k e

-- the numbers without the one at the place
pub without_place : (ns : List ℕ) (n k : ℕ) (p : IsPartedBy ns n) → k ≡ length p.below → take k ns ++ drop (suc k) ns ≡ p.below ++ p.above
without_place ns n k p e =
    let front = ap (take k) p.whole ∙ take_front p.below (n ∷ p.above) k e in
    let rest = ap (drop (suc k)) p.whole ∙ drop_next p.below p.above n k e in
    λ i. front i ++ rest i

pub place_within : (ns : List ℕ) (n k : ℕ) (p : IsPartedBy ns n) → k ≡ length p.below → k < length ns
place_within ns n k p e =
    let all : length ns ≡ length p.below + length (n ∷ p.above) = ap length p.whole ∙ length-append p.below (n ∷ p.above) in omega arith

-- a place found in these numbers, by the numbers round n
pub place_by : (ms ns : List ℕ) (n k : ℕ) → ms ≡ ns → ((p : IsParted ms n) → k ≡ length p.below) → (p : IsPartedBy ns n) → k ≡ length p.below
unfolding parted_at
place_by ms ns n k same found p = subst (λ (xs : List ℕ). (q : IsParted xs n) → k ≡ length q.below) same found (parted_at ns n p)
