-- The first byte that passes a test, and what stands before and after it.
use Rattle.std.proofs.Common.{◌≡◌, ℕ, ◌+◌, ◌<◌, ◌≤◌, Bool, true, false, cond, List, [], ◌∷◌, length, take, drop, Some, None, refl, ap, ◌∙◌, subst, arith}
use Rattle.std.specs.Prelude.{nat_lt, position}
use Rattle.std.specs.List.{before_first, position_or_len, slice_split}
use Rattle.std.proofs.lemmas.List.{take_all}
use Rattle.std.proofs.lemmas.List.Sums.{fails_before_first}
use Rattle.std.proofs.lemmas.List.Splits.{slice_split_none, slice_split_first}
use Rattle.std.proofs.lemmas.Bool.{ltb-true, ltb-false}

some_at : (b : Bool) (n at : ℕ) → cond b (Some n) None ≡ Some at → (b ≡ true) × (n ≡ at)
some_at true n at is = (refl, cc)
some_at false n at is = cc

none_at : (b : Bool) (n : ℕ) → cond b (Some n) None ≡ None → b ≡ false
none_at true n is = cc
none_at false n is = refl

-- where the first one is
pub record IsFirstAt (p : ℕ → Bool) (xs : List ℕ) (at : ℕ) : Type 0 where
  pub within : at < length xs
  pub before : before_first p xs ≡ take at xs
  pub split : slice_split p xs ≡ take at xs ∷ slice_split p (drop (at + 1) xs)

pub first_at : (p : ℕ → Bool) (xs : List ℕ) (at : ℕ) → position p xs ≡ Some at → IsFirstAt p xs at
first_at p xs at is =
    let found = some_at (nat_lt (position_or_len p xs) (length xs)) (position_or_len p xs) at is in
    let within : position_or_len p xs < length xs = ltb-true _ _ found.0 in
    record {
      within = subst (λ (n : ℕ). n < length xs) found.1 within;
      before = ap (λ (n : ℕ). take n xs) found.1;
      split = slice_split_first p xs 0 within ∙ ap (λ (n : ℕ). take n xs ∷ slice_split p (drop (n + 1) xs)) found.1;
    }

none_before : (p : ℕ → Bool) (xs : List ℕ) → position p xs ≡ None → length xs ≤ position_or_len p xs
none_before p xs is = ltb-false _ _ (none_at (nat_lt (position_or_len p xs) (length xs)) (position_or_len p xs) is)

-- where there is none, all stands before it
pub before_none : (p : ℕ → Bool) (xs : List ℕ) → position p xs ≡ None → before_first p xs ≡ xs
before_none p xs is = take_all (position_or_len p xs) xs (none_before p xs is)

pub split_none : (p : ℕ → Bool) (xs : List ℕ) → position p xs ≡ None → slice_split p xs ≡ xs ∷ []
split_none p xs is =
    slice_split_none p xs (λ k d within. fails_before_first p xs k d (omega (arith, none_before p xs is)))
