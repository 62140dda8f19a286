-- A list cut at the first place that passes a test.
use Rattle.std.proofs.Common.{◌≡◌, ℕ, ◌==◌, ◌++◌, get_or, length-append, eq-eqb, ◌<◌, ◌≤◌, List, [], ◌∷◌, length, Bool, true, false, nat_lt, cond, None, Some, arith, refl, ap, ◌∙◌}
use Rattle.std.proofs.lemmas.Bool.{ltb-true, ltb-false, eqb-true}
use Rattle.std.proofs.lemmas.List.{take_all, get_or_append_left}
use Rattle.std.proofs.Math.ListN.{drop_of_length-le}
use Rattle.std.specs.Prelude.{position}
use Rattle.std.specs.List.{position_or_len, before_first, after_first, slice_split, All}
use Rattle.std.proofs.lemmas.List.Sums.{position_or_len_is, passes_at_first, split_at_first}
use Rattle.std.proofs.lemmas.List.Splits.{slice_split_at, slice_split_none}
use Rattle.std.proofs.Math.Seq.{take-append_seam, drop-append-add, get_or-append_seam}

module _ {X : Type 0} (p : X → Bool) (xs : List X) where
  chosen_some : (t : Bool) (k i : ℕ) → nat_lt k (length xs) ≡ t → cond t (Some k) None ≡ Some i → (k ≡ i) × (k < length xs)
  chosen_some true k i at h = (cc, ltb-true _ _ at)
  chosen_some false k i at h = cc

  chosen_none : (t : Bool) (k : ℕ) → nat_lt k (length xs) ≡ t → cond t (Some k) None ≡ None → length xs ≤ k
  chosen_none true k at h = cc
  chosen_none false k at h = ltb-false _ _ at

  -- where the place is found, it cuts the list there
  pub position_found : (i : ℕ) → position p xs ≡ Some i → (position_or_len p xs ≡ i) × (position_or_len p xs < length xs)
  position_found i h = chosen_some (nat_lt (position_or_len p xs) (length xs)) (position_or_len p xs) i refl h

  pub position_missing : position p xs ≡ None → length xs ≤ position_or_len p xs
  position_missing h = chosen_none (nat_lt (position_or_len p xs) (length xs)) (position_or_len p xs) refl h

  pub before_none : length xs ≤ position_or_len p xs → before_first p xs ≡ xs
  before_none h = take_all (position_or_len p xs) xs h

  pub after_none : length xs ≤ position_or_len p xs → after_first p xs ≡ []
  after_none h = drop_of_length-le xs (omega arith)

-- no byte of the list is this one
abbrev pub Lacks : ℕ → List ℕ → Type 0
Lacks c xs = All (λ b. (b == c) ≡ false) xs

module _ (c : ℕ) (xs : List ℕ) (clean : Lacks c xs) where
  cut_at : (ys : List ℕ) → position_or_len (λ b. b == c) (xs ++ c ∷ ys) ≡ length xs
  cut_at ys =
      position_or_len_is (λ b. b == c) (xs ++ c ∷ ys) (length xs) 0
      (omega (arith, length-append xs (c ∷ ys)))
      (λ k inside. ap (λ (b : ℕ). b == c) (get_or_append_left xs (c ∷ ys) 0 k inside) ∙ clean k 0 inside)
      (λ _. ap (λ (b : ℕ). b == c) (get_or-append_seam xs c ys 0) ∙ eq-eqb c c refl)

  uncut : position_or_len (λ b. b == c) xs ≡ length xs
  uncut = position_or_len_is (λ b. b == c) xs (length xs) 0 (omega arith) (λ k inside. clean k 0 inside) (λ h. absurd (omega arith))

  -- a list without the byte, the byte, and a list behind it
  pub before_first-join : (ys : List ℕ) → before_first (λ b. b == c) (xs ++ c ∷ ys) ≡ xs
  before_first-join ys = rw (cut_at ys) (take-append_seam xs (c ∷ ys))

  pub after_first-join : (ys : List ℕ) → after_first (λ b. b == c) (xs ++ c ∷ ys) ≡ ys
  after_first-join ys = rw (cut_at ys) (drop-append-add xs (c ∷ ys) 1)

  pub slice_split-join : (ys : List ℕ) → slice_split (λ b. b == c) (xs ++ c ∷ ys) ≡ xs ∷ slice_split (λ b. b == c) ys
  slice_split-join ys = slice_split_at (λ b. b == c) xs c ys clean (eq-eqb c c refl)

  pub slice_split-clean : slice_split (λ b. b == c) xs ≡ xs ∷ []
  slice_split-clean = slice_split_none (λ b. b == c) xs clean

-- a list that has the byte is what stands before it, the byte, and what stands behind it
pub joined_again : (c : ℕ) (xs : List ℕ) → position_or_len (λ b. b == c) xs < length xs → xs ≡ before_first (λ b. b == c) xs ++ c ∷ after_first (λ b. b == c) xs
joined_again c xs h =
    let at : get_or xs (position_or_len (λ b. b == c) xs) 0 ≡ c = eqb-true _ _ (passes_at_first (λ b. b == c) xs 0 h) in
    split_at_first (λ b. b == c) xs 0 h ∙ ap (λ (b : ℕ). before_first (λ b. b == c) xs ++ b ∷ after_first (λ b. b == c) xs) at
