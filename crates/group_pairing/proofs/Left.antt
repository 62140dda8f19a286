-- The sets that can be left: the whole one, and one of them without its first place, alone or with another.
use Rattle.std.proofs.Common.{◌≡◌, ◌≢◌, ℕ, zero, suc, ◌+◌, ◌-◌, ◌^◌, ◌<◌, inl, inr, List, length, sym, ◌∙◌, ap, subst, arith}
use Rattle.std.specs.Prelude.{count_ones, ◌/◌, ◌%◌}
use Rattle.std.specs.Int.{bit_at}
use Rattle.std.proofs.lemmas.Bool.{cases_eq, cases_lt}
use Rattle.std.proofs.lemmas.Nat.{pow_pos, ones_le_self}
use Rattle.std.proofs.lemmas.Nat.Bits.{bit_at_lowest, bit_at-suc}
use native.Mathlib.Nat.{pow-suc}
use lib.Count.{ones_step}
use Rattle.pair_cost.specs.declared.candidate.Candidate.{Candidate}
use Rattle.group_pairing.specs.Search.{CanBeLeft}
use Rattle.group_pairing.proofs.Sets.{First, Rest, Cut, first_inside}

half_below : (k n : ℕ) → n < 2 ^ suc k → n / 2 < 2 ^ k
half_below k n h = let twice = pow-suc 2 k in omega (arith, h, twice)

bits_half : (a b k : ℕ) → ((j : ℕ) → j < suc k → bit_at a j ≡ bit_at b j) → (j : ℕ) → j < k → bit_at (a / 2) j ≡ bit_at (b / 2) j
bits_half a b k same j inside = sym (bit_at-suc a j) ∙ same (suc j) (omega arith) ∙ bit_at-suc b j

-- two numbers with the same digits have as many ones
same_ones : (k a b : ℕ) → a < 2 ^ k → b < 2 ^ k → ((j : ℕ) → j < k → bit_at a j ≡ bit_at b j) → count_ones a ≡ count_ones b
same_ones zero a b fa fb same = ap count_ones (let e : a ≡ b = omega arith in e)
same_ones (suc k) a b fa fb same =
    let rest = same_ones k (a / 2) (b / 2) (half_below k a fa) (half_below k b fb) (bits_half a b k same) in
    let low : a % 2 ≡ b % 2 = sym (bit_at_lowest a) ∙ same 0 (omega arith) ∙ bit_at_lowest b in
    let left = ones_step a in
    let right = ones_step b in
    omega (arith, rest, low, left, right)

-- a number with one digit 1 less
one_less : (k i a b : ℕ) → a < 2 ^ k → b < 2 ^ k → i < k → bit_at a i ≡ 0 → bit_at b i ≡ 1 → ((j : ℕ) → j < k → j ≢ i → bit_at a j ≡ bit_at b j) → count_ones a + 1 ≡ count_ones b
one_less zero i a b fa fb inside gone has others = absurd (omega arith)
one_less (suc k) zero a b fa fb inside gone has others =
    let rest = same_ones k (a / 2) (b / 2) (half_below k a fa) (half_below k b fb)
    (λ j within. sym (bit_at-suc a j) ∙ others (suc j) (omega arith) (λ e. omega (arith, e)) ∙ bit_at-suc b j) in
    let off : a % 2 ≡ 0 = sym (bit_at_lowest a) ∙ gone in
    let on : b % 2 ≡ 1 = sym (bit_at_lowest b) ∙ has in
    let left = ones_step a in
    let right = ones_step b in
    omega (arith, rest, off, on, left, right)
one_less (suc k) (suc i) a b fa fb inside gone has others =
    let rest = one_less k i (a / 2) (b / 2) (half_below k a fa) (half_below k b fb) (omega arith)
    (sym (bit_at-suc a i) ∙ gone)
    (sym (bit_at-suc b i) ∙ has)
    (λ j within differ. sym (bit_at-suc a j) ∙ others (suc j) (omega arith) (λ e. differ (omega (arith, e))) ∙ bit_at-suc b j) in
    let low : a % 2 ≡ b % 2 = sym (bit_at_lowest a) ∙ others 0 (omega arith) (λ e. omega (arith, e)) ∙ bit_at_lowest b in
    let left = ones_step a in
    let right = ones_step b in
    omega (arith, rest, low, left, right)

all_ones : (k : ℕ) → count_ones (2 ^ k - 1) ≡ k
all_ones zero = let few = ones_le_self (2 ^ 0 - 1) in omega (arith, few)
all_ones (suc k) =
    let twice = pow-suc 2 k in
    let rest = all_ones k in
    let half : (2 ^ suc k - 1) / 2 ≡ 2 ^ k - 1 = omega (arith, twice) in
    let odd : (2 ^ suc k - 1) % 2 ≡ 1 = (let some = pow_pos k in omega (arith, twice, some)) in
    let step = ones_step (2 ^ suc k - 1) in
    let same : count_ones ((2 ^ suc k - 1) / 2) ≡ count_ones (2 ^ k - 1) = ap count_ones half in
    omega (arith, rest, odd, step, same)

pub left_whole : (places : ℕ) → CanBeLeft places (2 ^ places - 1)
left_whole places p first = let all = all_ones places in omega (arith, all)

pub left_rest : (rows : List Candidate) (s p r : ℕ) → s < 2 ^ length rows → r < s → First rows s p → Rest rows s p r → CanBeLeft (length rows) s → CanBeLeft (length rows) r
left_rest rows s p r fits smaller f c left q first =
    let low : r < 2 ^ length rows = omega (arith, fits, smaller) in
    let inside = first_inside rows r q low first.has in
    let fewer = one_less (length rows) p r s low fits f.inside c.gone f.has c.others in
    let here = left p (record { has = f.has; below = f.below }) in
    let behind : p < q = elim (cases_lt p q) [
      | inl up ↦ up
      | inr down ↦ elim (cases_eq q p) [
        | inl same ↦ let gone = subst (λ k. bit_at r k ≡ 0) (sym same) c.gone in absurd (omega (arith, gone, first.has))
        | inr differ ↦ let none = f.below q (omega (arith, down, differ)) in let same = c.others q inside differ in absurd (omega (arith, none, same, first.has))
      ]
    ] in
    omega (arith, fewer, here, behind)

pub left_cut : (rows : List Candidate) (s p q r t : ℕ) → s < 2 ^ length rows → r < s → t < r → First rows s p → Rest rows s p r → Cut rows s p q t → CanBeLeft (length rows) s → CanBeLeft (length rows) t
left_cut rows s p q r t fits smaller less f c d left k first =
    let low : t < 2 ^ length rows = omega (arith, fits, smaller, less) in
    let mid : r < 2 ^ length rows = omega (arith, fits, smaller) in
    let inside = first_inside rows t k low first.has in
    let once = one_less (length rows) p r s mid fits f.inside c.gone f.has c.others in
    let shared : bit_at r q ≡ 1 = c.others q d.inside (λ e. omega (arith, e, d.up)) ∙ d.has in
    let twice = one_less (length rows) q t r low mid d.inside d.second_gone shared
    (λ j within not_q. elim (cases_eq j p) [
      | inl is_p ↦ subst (λ i. bit_at t i ≡ bit_at r i) (sym is_p) (d.first_gone ∙ sym c.gone)
      | inr not_p ↦ d.others j within not_p not_q ∙ sym (c.others j within not_p)
    ]) in
    let here = left p (record { has = f.has; below = f.below }) in
    let behind : p < k = elim (cases_lt p k) [
      | inl up ↦ up
      | inr down ↦ elim (cases_eq k p) [
        | inl same ↦ let gone = subst (λ i. bit_at t i ≡ 0) (sym same) d.first_gone in absurd (omega (arith, gone, first.has))
        | inr differ ↦
            let none = f.below k (omega (arith, down, differ)) in
            let same = d.others k inside differ (λ e. omega (arith, e, d.up, down)) in
            absurd (omega (arith, none, same, first.has))
      ]
    ] in
    omega (arith, once, twice, here, behind)
