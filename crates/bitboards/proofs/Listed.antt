-- The squares of a set as a list: the first, and then those of the set without it.
use Rattle.std.proofs.Common.{◌≡◌, ℕ, ◌+◌, ◌<◌, ◌≤◌, zero, suc, refl, arith, ap, sym, subst, ◌∙◌, [], ◌∷◌, Bool, true, false, ◌&&◌, not, ◌==◌, inl, inr, filter, eq-eqb, bit_and}
use Rattle.std.proofs.lemmas.Bool.{ne_eqb, both_ways, cases_order, and_right}
use Rattle.std.proofs.lemmas.Nat.{and_le_l}
use Rattle.std.specs.List.{range_with_len}
use Rattle.board.specs.Sets.{has, IsSetOf}
use Rattle.bitboards.specs.Squares.{squares_in}

-- squares that all miss the set leave nothing
none_in : (f : ℕ → Bool) (a n : ℕ) → ((t : ℕ) → a ≤ t → t < a + n → f t ≡ false) → filter f (range_with_len a n) ≡ []
none_in f a zero h = refl
none_in f a (suc n) h = rw (h a (omega arith) (omega arith)) (none_in f (a + 1) n (λ t low high. h t (omega arith) (omega arith)))

same_in : (f g : ℕ → Bool) (a n : ℕ) → ((t : ℕ) → a ≤ t → t < a + n → f t ≡ g t) → filter f (range_with_len a n) ≡ filter g (range_with_len a n)
same_in f g a zero h = refl
same_in f g a (suc n) h = rw (h a (omega arith) (omega arith), same_in f g (a + 1) n (λ t low high. h t (omega arith) (omega arith))) refl

-- the first square comes first, and then what another set has that differs in it alone
first_then : (f g : ℕ → Bool) (a n k : ℕ) → a ≤ k → k < a + n → f k ≡ true → g k ≡ false → ((t : ℕ) → t < k → f t ≡ false) → ((t : ℕ) → t < k → g t ≡ false) → ((t : ℕ) → k < t → t < a + n → f t ≡ g t) → filter f (range_with_len a n) ≡ k ∷ filter g (range_with_len a n)
first_then f g a zero k low high here gone before lost same = absurd (omega arith)
first_then f g a (suc n) k low high here gone before lost same = elim (cases_order a k) [
  | inl e ↦ subst (λ (j : ℕ). filter f (range_with_len a (suc n)) ≡ j ∷ filter g (range_with_len a (suc n))) e
      (let at_f : f a ≡ true = subst (λ (j : ℕ). f j ≡ true) (sym e) here in
      let at_g : g a ≡ false = subst (λ (j : ℕ). g j ≡ false) (sym e) gone in
      rw (at_f, at_g) (ap (λ xs. a ∷ xs) (same_in f g (a + 1) n (λ t past within. same t (omega arith) (omega arith)))))
  | inr (inl less) ↦ rw (before a less, lost a less) (first_then f g (a + 1) n k (omega arith) (omega arith) here gone before lost (λ t past within. same t past (omega arith)))
  | inr (inr more) ↦ absurd (omega arith)
]

pub first_and_rest : (set rest first : ℕ) → first < 64 → has set first ≡ true → ((t : ℕ) → t < first → has set t ≡ false) → IsSetOf rest (λ t. has set t && not (t == first)) → squares_in set ≡ first ∷ squares_in rest
unfolding squares_in
first_and_rest set rest first on here before is =
    first_then (has set) (has rest) 0 64 first (omega arith) (omega arith) here
    (is first on ∙ and_right (has set first) _ (ap not (eq-eqb first first refl)))
    before
    (λ t less. is t (omega arith) ∙ rw (before t less) refl)
    (λ t past within. sym (is t (omega arith) ∙ ap (λ b. has set t && not b) (ne_eqb t first (λ e. omega arith)) ∙ and_true (has set t)))
  where
    and_true : (b : Bool) → (b && true) ≡ b
    and_true true = refl
    and_true false = refl

-- two first squares are one
pub first_is_one : (set a b : ℕ) → has set a ≡ true → ((t : ℕ) → t < a → has set t ≡ false) → has set b ≡ true → ((t : ℕ) → t < b → has set t ≡ false) → a ≡ b
first_is_one set a b in_a before_a in_b before_b = elim (cases_order a b) [
  | inl e ↦ e
  | inr (inl less) ↦ absurd (both_ways _ (before_b a less) in_a)
  | inr (inr more) ↦ absurd (both_ways _ (before_a b more) in_b)
]

-- a set that loses a square is a smaller number
pub loses : (set mask first : ℕ) → first < 64 → has set first ≡ true → has (bit_and set mask) first ≡ false → bit_and set mask < set
loses set mask first on here gone =
    let most : bit_and set mask ≤ set = and_le_l set mask in
    elim (cases_order (bit_and set mask) set) [
      | inl e ↦ absurd (both_ways _ gone (subst (λ (n : ℕ). has n first ≡ true) (sym e) here))
      | inr (inl less) ↦ less
      | inr (inr more) ↦ absurd (omega arith)
    ]
