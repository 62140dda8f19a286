-- Tests of each and of some number of a range.
use Rattle.std.proofs.Common.{◌≡◌, ℕ, ◌+◌, ◌-◌, ◌<◌, ◌≤◌, zero, suc, length, get_or, refl, arith, ap, ◌∙◌, Bool, true, false}
use Rattle.std.proofs.lemmas.Bool.{and_from, true_from_ne_false, both_ways}
use Rattle.std.proofs.lemmas.List.Folds.{list_all_at, list_any_at}
use Rattle.std.proofs.lemmas.List.FromFn.{length-range_with_len, get_or-range_with_len}
use Rattle.std.specs.List.{range_with_len, list_all, list_any}

-- a test that all numbers pass is passed by each
pub all_at : (f : ℕ → Bool) (a n k : ℕ) → list_all f (range_with_len a n) ≡ true → a ≤ k → k < a + n → f k ≡ true
all_at f a n k h low high =
    true_from_ne_false (f k)
    (λ e.
    let inside : k - a < length (range_with_len a n) = omega (arith, length-range_with_len a n) in
    let at : get_or (range_with_len a n) (k - a) 0 ≡ k = get_or-range_with_len a n (k - a) 0 (omega arith) ∙ omega arith in
    both_ways _ (list_all_at f (range_with_len a n) (k - a) 0 inside (ap f at ∙ e)) h)

-- a test that each number passes is passed by all
pub all_from : (f : ℕ → Bool) (a n : ℕ) → ((k : ℕ) → a ≤ k → k < a + n → f k ≡ true) → list_all f (range_with_len a n) ≡ true
all_from f a zero h = refl
all_from f a (suc n) h =
    and_from (f a) (list_all f (range_with_len (a + 1) n)) (h a (omega arith) (omega arith))
    (all_from f (a + 1) n (λ k low high. h k (omega arith) (omega arith)))

-- one number settles that some number passes
pub any_at : (f : ℕ → Bool) (n k : ℕ) → k < n → f k ≡ true → list_any f (range_with_len 0 n) ≡ true
any_at f n k h e =
    let inside : k < length (range_with_len 0 n) = omega (arith, length-range_with_len 0 n) in
    let at : get_or (range_with_len 0 n) k 0 ≡ k = get_or-range_with_len 0 n k 0 h ∙ omega arith in
    list_any_at f (range_with_len 0 n) k 0 inside (ap f at ∙ e)

-- where each number misses the test, none passes
pub any_none : (f : ℕ → Bool) (a n : ℕ) → ((k : ℕ) → a ≤ k → k < a + n → f k ≡ false) → list_any f (range_with_len a n) ≡ false
any_none f a zero h = refl
any_none f a (suc n) h = rw (h a (omega arith) (omega arith)) (any_none f (a + 1) n (λ k low high. h k (omega arith) (omega arith)))

-- tests that agree on a range
pub any_same : (f g : ℕ → Bool) (a n : ℕ) → ((k : ℕ) → a ≤ k → k < a + n → f k ≡ g k) → list_any f (range_with_len a n) ≡ list_any g (range_with_len a n)
any_same f g a zero h = refl
any_same f g a (suc n) h = rw (h a (omega arith) (omega arith), any_same f g (a + 1) n (λ k low high. h k (omega arith) (omega arith))) refl
