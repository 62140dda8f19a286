-- By what the partner lists of a group are compared.
use Rattle.std.specs.Prelude.{ℕ, ◌+◌, Bool, true, false, ◌&&◌, ◌||◌, ◌==◌, nat_lt, if◌then◌else◌, List, [], ◌∷◌, Option, Some, None, slice_get, count_by}
use Rattle.pair_cost.specs.Cost.{cost, charge}
use Rattle.pair_cost.specs.declared.candidate.Candidate.{Candidate}
use Rattle.pair_cost.specs.declared.candidate.Frame.{Frame}

-- how many places have nobody
unfoldable pub alone : List ℕ → ℕ
alone to = count_by (λ j. j == 14) to

-- what pairing the two costs, if both are there
abbrev pub price_of : Frame → Option Candidate → Option Candidate → ℕ
price_of f None b = 0
price_of f (Some a) None = 0
price_of f (Some a) (Some b) = cost f a b

-- what pairing the candidates at two places costs
unfoldable pub price_at : List Candidate → Frame → ℕ → ℕ → ℕ
price_at rows f i j = price_of f (slice_get rows i) (slice_get rows j)

-- what leaving him alone costs, if he is there
abbrev pub charge_of : Frame → Option Candidate → ℕ
charge_of f None = 0
charge_of f (Some a) = charge f a

-- what leaving the candidate at a place alone costs
unfoldable pub charge_at : List Candidate → Frame → ℕ → ℕ
charge_at rows f i = charge_of f (slice_get rows i)

-- what place i adds where its item is j: a charge where it has nobody, and a pair's price once, at the smaller of its places
unfoldable pub share : List Candidate → Frame → ℕ → ℕ → ℕ
share rows f i j = if j == 14 then charge_at rows f i else (if nat_lt i j then price_at rows f i j else 0)

-- what the places from i on add, with these items
unfoldable pub total_from : List Candidate → Frame → ℕ → List ℕ → ℕ
total_from rows f i [] = 0
total_from rows f i (j ∷ to) = share rows f i j + total_from rows f (i + 1) to

-- the first list is before the second in lexicographic order
unfoldable pub comes_before : List ℕ → List ℕ → Bool
comes_before [] [] = false
comes_before [] (y ∷ ys) = true
comes_before (x ∷ xs) [] = false
comes_before (x ∷ xs) (y ∷ ys) = nat_lt x y || (x == y && comes_before xs ys)

-- how many are left alone, what the list costs, and the list itself
pub record Key : Type 0 where
  pub alone : ℕ
  pub total : ℕ
  pub list : List ℕ

-- the key of a list
abbrev pub key : List Candidate → Frame → List ℕ → Key
key rows f to = record { alone = alone to; total = total_from rows f 0 to; list = to }

-- the first part in which they differ decides
abbrev pub is_smaller : Key → Key → Bool
is_smaller a b =
    nat_lt a.alone b.alone || (a.alone == b.alone && (nat_lt a.total b.total || (a.total == b.total && comes_before a.list b.list)))
