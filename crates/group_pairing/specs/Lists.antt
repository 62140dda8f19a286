-- The partner lists of a group: for each place the place of its partner, or 14 for nobody.
use Rattle.std.specs.Prelude.{◌≡◌, ◌≢◌, ◌<◌, ℕ, zero, suc, Bool, false, not, ◌&&◌, ◌||◌, ◌==◌, nat_lt, List, [], ◌∷◌, length, Option, Some, None, slice_get, slice_index, filter, map}
use Rattle.std.specs.List.{range_with_len, list_all, flat_map}
use Rattle.pair_cost.specs.Cost.{is_forbidden}
use Rattle.pair_cost.specs.declared.candidate.Candidate.{Candidate}
use Rattle.pair_cost.specs.declared.candidate.Frame.{Frame}

-- both are there, and pairing them is not forbidden
abbrev pub may_meet : Frame → Option Candidate → Option Candidate → Bool
may_meet f None b = false
may_meet f (Some a) None = false
may_meet f (Some a) (Some b) = not (is_forbidden f a b)

-- the candidates at two places may be paired
unfoldable pub may_pair : List Candidate → Frame → ℕ → ℕ → Bool
may_pair rows f i j = may_meet f (slice_get rows i) (slice_get rows j)

-- the item of place i is 14, or another place whose item is i and whose candidate may be paired with that of i
unfoldable pub is_partner : List Candidate → Frame → List ℕ → ℕ → Bool
is_partner rows f to i =
    let j = slice_index to i in
    j == 14 || (nat_lt j (length rows) && not (j == i) && slice_index to j == i && may_pair rows f i j)

-- one item for each place of the group, and each is as it must be
unfoldable pub is_partner_list : List Candidate → Frame → List ℕ → Bool
is_partner_list rows f to = length to == length rows && list_all (is_partner rows f to) (range_with_len 0 (length rows))

-- all lists of n numbers that are at most 14, in lexicographic order
unfoldable pub words : ℕ → List (List ℕ)
words zero = [] ∷ []
words (suc n) = flat_map (λ j. map (λ word. j ∷ word) (words n)) (range_with_len 0 15)

-- all partner lists of a group of at most fourteen
unfoldable pub lists : List Candidate → Frame → List (List ℕ)
lists rows f = filter (is_partner_list rows f) (words (length rows))

-- place i has a partner: another place of the group, whose item leads back
pub record HasPartner (rows : List Candidate) (to : List ℕ) (i : ℕ) : Type 0 where
  pub inside : slice_index to i < length rows
  pub other : slice_index to i ≢ i
  pub back : slice_index to (slice_index to i) ≡ i
