-- Sets of squares that are runs of bits, and sets that have no square.
use Rattle.std.proofs.Common.{◌≡◌, ℕ, ◌+◌, ◌-◌, ◌*◌, ◌/◌, ◌%◌, ◌^◌, ◌<◌, suc, refl, arith, ap, sym, subst, ◌∙◌, true, false, not, ◌==◌, inl, inr, w64, eq-eqb, nat_le, nat_lt}
use Rattle.std.proofs.lemmas.Bool.{cases_lt, cases_eq, false_from_ne_true, both_ways, ne_eqb, le-leb, lt-leb, lt-ltb, le-ltb}
use Rattle.std.proofs.lemmas.Nat.{leading_top}
use Rattle.std.proofs.lemmas.Nat.Bits.{bit_at-zero, bit_at_ones, bit_at_ones_above, bit_at_above, bit_at_mask_inside, bit_at_mask_below, bit_at-pow_same, bit_at-pow_other, bit_at_cat_high, ones_shr, ones_shl}
use Rattle.std.specs.Int.{bit_at, leading_zeros}
use Rattle.board.specs.Sets.{has}
use Rattle.board.proofs.SetLaws.{same_sets}

-- the empty set has no square
pub has-nothing : (s : ℕ) → has 0 s ≡ false
has-nothing s = ap (λ n. n == 1) (bit_at-zero s)

pub empty_set : (n : ℕ) → n < 2 ^ 64 → ((s : ℕ) → s < 64 → has n s ≡ true → ⊥) → n ≡ 0
empty_set n small h = same_sets n 0 small (omega arith) (λ s on. false_from_ne_true (has n s) (h s on) ∙ sym (has-nothing s))

pub not_empty : (n s : ℕ) → has n s ≡ true → (n == 0) ≡ false
not_empty n s h = ne_eqb n 0 (λ e. both_ways _ (has-nothing s) (subst (λ (k : ℕ). has k s ≡ true) e h))

-- a run of bits up to a square, and from one on
pub has-up_to : (b t : ℕ) → b < 64 → t < 64 → has ((2 ^ 64 - 1) / 2 ^ (63 - b)) t ≡ nat_le t b
has-up_to b t b_on t_on =
    let run : (2 ^ 64 - 1) / 2 ^ (63 - b) ≡ 2 ^ (b + 1) - 1 = ones_shr 64 (63 - b) (omega arith) ∙ ap (λ k. 2 ^ k - 1) (omega arith) in
    elim (cases_lt b t) [
      | inl above ↦ rw run (ap (λ n. n == 1) (bit_at_ones_above (b + 1) t (omega arith)) ∙ sym (lt-leb t b above))
      | inr within ↦ rw run (eq-eqb _ _ (bit_at_ones (b + 1) t (omega arith)) ∙ sym (le-leb t b within))
    ]

pub has-from : (b t : ℕ) → b < 64 → t < 64 → has ((2 ^ 64 - 1) * 2 ^ b % 2 ^ 64) t ≡ nat_le b t
has-from b t b_on t_on =
    let run : (2 ^ 64 - 1) * 2 ^ b % 2 ^ 64 ≡ 2 ^ 64 - 2 ^ b = ones_shl 64 b (omega arith) in
    elim (cases_lt t b) [
      | inl below ↦ rw run (ap (λ n. n == 1) (bit_at_mask_below b 64 t below) ∙ sym (lt-leb b t below))
      | inr within ↦ rw run (eq-eqb _ _ (bit_at_mask_inside b 64 t within t_on) ∙ sym (le-leb b t within))
    ]

pub not-le : (a b : ℕ) → not (nat_le a b) ≡ nat_lt b a
not-le a b = elim (cases_lt b a) [
  | inl less ↦ ap not (lt-leb a b less) ∙ sym (lt-ltb b a less)
  | inr most ↦ ap not (le-leb a b most) ∙ sym (le-ltb b a most)
]

-- the set of one square
pub has-pow : (s t : ℕ) → has (2 ^ s) t ≡ (t == s)
has-pow s t = elim (cases_eq t s) [
  | inl e ↦ subst (λ (k : ℕ). has (2 ^ s) k ≡ (k == s)) (sym e) (eq-eqb _ _ (bit_at-pow_same s) ∙ sym (eq-eqb s s refl))
  | inr ne ↦ ap (λ n. n == 1) (bit_at-pow_other s t ne) ∙ sym (ne_eqb t s ne)
]

-- the last square of a set
pub last_of : (n : ℕ) → 0 < n → n < 2 ^ 64 → (j : ℕ) × (leading_zeros w64 n + suc j ≡ 64) × (has n j ≡ true) × ((t : ℕ) → j < t → has n t ≡ false)
last_of n some small =
    let (j, place, least, most) = leading_top 64 n some small in
    let split : n ≡ 1 * 2 ^ j + (n - 2 ^ j) = omega arith in
    let rest : n - 2 ^ j < 2 ^ j = omega arith in
    let first : bit_at 1 (j - j) ≡ 1 = let at : j - j ≡ 0 = omega arith in rw at refl in (
      j,
      place,
      eq-eqb _ _ (ap (λ k. bit_at k j) split ∙ bit_at_cat_high 1 j (n - 2 ^ j) j rest (omega arith) ∙ first),
      λ t later. ap (λ k. k == 1) (bit_at_above n (suc j) t most (omega arith)),
    )
