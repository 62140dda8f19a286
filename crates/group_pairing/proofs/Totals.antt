-- How many are left alone and what a list costs, with one pair more; what the places outside a set come to.
use Rattle.std.specs.Int.{bit_at}
use Rattle.std.proofs.Common.{◌≡◌, ◌≢◌, ℕ, zero, suc, ◌+◌, ◌<◌, cond, ◌==◌, List, [], ◌∷◌, length, set, slice_index, replicate, inl, inr, refl, sym, ◌∙◌, ap, ap₂, subst, subst₂, arith, add-zero, get_or-set_other, length-set}
use Rattle.std.proofs.lemmas.Bool.{cases_eq}
use Rattle.std.proofs.lemmas.Bool.Decides.{nat_tests}
use Rattle.std.proofs.lemmas.Nat.Bits.{bit_at-zero}
use Rattle.std.proofs.lemmas.List.Sums.{sum_by-set, sum_by-cons}
use Rattle.pair_cost.specs.declared.candidate.Candidate.{Candidate}
use Rattle.pair_cost.specs.declared.candidate.Frame.{Frame}
use Rattle.group_pairing.specs.Keys.{alone, price_at, charge_at, share, total_from}
use Rattle.group_pairing.specs.Search.{sum_outside}

-- what one item adds to the number of places left alone
abbrev one_alone : ℕ → ℕ
one_alone j = cond (j == 14) 1 0

alone_at_14 : (j : ℕ) → j ≡ 14 → one_alone j ≡ 1
alone_at_14 j e = subst (λ k. one_alone k ≡ 1) (sym e) refl

alone_below : (j : ℕ) → j < 14 → one_alone j ≡ 0
alone_below j low = grind (arith, nat_tests)

-- an item that is not 14 in place of one that is
pub alone-set : (to : List ℕ) (p q : ℕ) → p < length to → slice_index to p ≡ 14 → q < 14 → alone (set to p q) + 1 ≡ alone to
unfolding alone
alone-set to p q inside free low =
    let step = sum_by-set one_alone to p q 0 inside in
    omega (arith, step, alone_at_14 (slice_index to p) free, alone_below q low)

pub alone-replicate : (n : ℕ) → alone (replicate n 14) ≡ n
unfolding alone
alone-replicate zero = refl
alone-replicate (suc n) = sum_by-cons one_alone 14 (replicate n 14) ∙ (let rest = alone-replicate n in omega arith)

-- with another item at one place
pub total-set : (rows : List Candidate) (frame : Frame) (i : ℕ) (to : List ℕ) (p q : ℕ) → p < length to → total_from rows frame i (set to p q) + share rows frame (i + p) (slice_index to p) ≡ total_from rows frame i to + share rows frame (i + p) q
unfolding total_from
total-set rows frame i [] p q inside = absurd (omega arith)
total-set rows frame i (j ∷ to) zero q inside = rw add-zero (omega arith)
total-set rows frame i (j ∷ to) (suc p) q inside =
    let rest = total-set rows frame (i + 1) to p q (omega arith) in
    let place : (i + 1) + p ≡ i + suc p = omega arith in
    let moved : total_from rows frame (i + 1) (set to p q) + share rows frame (i + suc p) (slice_index to p) ≡ total_from rows frame (i + 1) to + share rows frame (i + suc p) q =
    subst (λ k. total_from rows frame (i + 1) (set to p q) + share rows frame k (slice_index to p) ≡ total_from rows frame (i + 1) to + share rows frame k q) place rest in
    omega (arith, moved)

share_alone : (rows : List Candidate) (frame : Frame) (i : ℕ) → share rows frame i 14 ≡ charge_at rows frame i
unfolding share
share_alone rows frame i = refl

share_smaller : (rows : List Candidate) (frame : Frame) (i j : ℕ) → i < j → j < 14 → share rows frame i j ≡ price_at rows frame i j
unfolding share
share_smaller rows frame i j up low = grind (arith, nat_tests)

share_larger : (rows : List Candidate) (frame : Frame) (i j : ℕ) → i < j → j < 14 → share rows frame j i ≡ 0
unfolding share
share_larger rows frame i j up low = grind (arith, nat_tests)

-- one place more that has nobody
total-more : (rows : List Candidate) (frame : Frame) (i n : ℕ) → total_from rows frame i (replicate (suc n) 14) ≡ total_from rows frame i (replicate n 14) + charge_at rows frame (i + n)
unfolding total_from
total-more rows frame i zero =
    let here = share_alone rows frame i in
    let place : i + 0 ≡ i = omega arith in
    subst (λ k. total_from rows frame i (replicate 1 14) ≡ total_from rows frame i (replicate 0 14) + charge_at rows frame k) (sym place) (omega (arith, here))
total-more rows frame i (suc n) =
    let rest = total-more rows frame (i + 1) n in
    let place : (i + 1) + n ≡ i + suc n = omega arith in
    let moved : total_from rows frame (i + 1) (replicate (suc n) 14) ≡ total_from rows frame (i + 1) (replicate n 14) + charge_at rows frame (i + suc n) =
    subst (λ k. total_from rows frame (i + 1) (replicate (suc n) 14) ≡ total_from rows frame (i + 1) (replicate n 14) + charge_at rows frame k) place rest in
    omega (arith, moved)

-- where nobody has a partner, all places are outside

pub count_outside-none : (n : ℕ) → sum_outside (λ _. 1) 0 n ≡ n
unfolding sum_outside
count_outside-none zero = refl
count_outside-none (suc n) = let rest = count_outside-none n in subst (λ b. sum_outside (λ _. 1) 0 n + cond (b == 1) 0 1 ≡ suc n) (sym (bit_at-zero n)) (omega (arith, rest))

pub total-replicate : (rows : List Candidate) (frame : Frame) (n : ℕ) → total_from rows frame 0 (replicate n 14) ≡ sum_outside (charge_at rows frame) 0 n
unfolding total_from sum_outside
total-replicate rows frame zero = refl
total-replicate rows frame (suc n) =
    let rest = total-replicate rows frame n in
    let more = total-more rows frame 0 n in
    let place : 0 + n ≡ n = omega arith in
    let here : total_from rows frame 0 (replicate (suc n) 14) ≡ total_from rows frame 0 (replicate n 14) + charge_at rows frame n =
    subst (λ k. total_from rows frame 0 (replicate (suc n) 14) ≡ total_from rows frame 0 (replicate n 14) + charge_at rows frame k) place more in
    here ∙ subst (λ b. total_from rows frame 0 (replicate n 14) + charge_at rows frame n ≡ sum_outside (charge_at rows frame) 0 n + cond (b == 1) 0 (charge_at rows frame n)) (sym (bit_at-zero n)) (ap (λ k. k + charge_at rows frame n) rest)

-- two sets that differ in one place

sum_outside-same : (g : ℕ → ℕ) (n a b : ℕ) → ((i : ℕ) → i < n → bit_at a i ≡ bit_at b i) → sum_outside g a n ≡ sum_outside g b n
unfolding sum_outside
sum_outside-same g zero a b same = refl
sum_outside-same g (suc n) a b same =
    ap₂ (λ k t. k + cond (t == 1) 0 (g n)) (sum_outside-same g n a b (λ i inside. same i (omega arith))) (same n (omega arith))

-- a set with one place less
pub sum_outside-less : (g : ℕ → ℕ) (n p a b : ℕ) → p < n → bit_at a p ≡ 0 → bit_at b p ≡ 1 → ((i : ℕ) → i < n → i ≢ p → bit_at a i ≡ bit_at b i) → sum_outside g a n ≡ sum_outside g b n + g p
unfolding sum_outside
sum_outside-less g zero p a b inside gone has others = absurd (omega arith)
sum_outside-less g (suc n) p a b inside gone has others =
    elim (cases_eq p n) [
      | inl last ↦
          let same = sum_outside-same g n a b (λ i within. others i (omega arith) (λ e. omega (arith, e, last))) in
          let off : bit_at a n ≡ 0 = subst (λ k. bit_at a k ≡ 0) last gone in
          let on_ : bit_at b n ≡ 1 = subst (λ k. bit_at b k ≡ 1) last has in
          let here : g p ≡ g n = ap g last in
          subst₂ (λ s t. sum_outside g a n + cond (s == 1) 0 (g n) ≡ sum_outside g b n + cond (t == 1) 0 (g n) + g p) (sym off) (sym on_) (omega (arith, same, here))
      | inr before ↦
          let rest = sum_outside-less g n p a b (omega (arith, before)) gone has (λ i within differ. others i (omega arith) differ) in
          let same = others n (omega arith) (λ e. before (sym e)) in
          subst (λ t. sum_outside g a n + cond (t == 1) 0 (g n) ≡ sum_outside g b n + cond (bit_at b n == 1) 0 (g n) + g p) (sym same) (omega (arith, rest))
    ]

-- a pair of two places that had nobody
pub alone-pair : (to : List ℕ) (p q : ℕ) → p < q → q < length to → q < 14 → slice_index to p ≡ 14 → slice_index to q ≡ 14 → alone (set (set to p q) q p) + 2 ≡ alone to
alone-pair to p q up inside low free shut =
    let first = alone-set to p q (omega arith) free low in
    let still : slice_index (set to p q) q ≡ 14 = let ne : q ≡ p → ⊥ = λ e. omega arith in get_or-set_other to p q q 0 ne ∙ shut in
    let size : q < length (set to p q) = simp length-set inside in
    let second = alone-set (set to p q) q p size still (omega arith) in
    omega (arith, first, second)

pub total-pair : (rows : List Candidate) (frame : Frame) (to : List ℕ) (p q : ℕ) → p < q → q < length to → q < 14 → slice_index to p ≡ 14 → slice_index to q ≡ 14 → total_from rows frame 0 (set (set to p q) q p) + (charge_at rows frame p + charge_at rows frame q) ≡ total_from rows frame 0 to + price_at rows frame p q
total-pair rows frame to p q up inside low free shut =
    let first = total-set rows frame 0 to p q (omega arith) in
    let ne : q ≡ p → ⊥ = λ e. omega arith in
    let still : slice_index (set to p q) q ≡ 14 = get_or-set_other to p q q 0 ne ∙ shut in
    let size : q < length (set to p q) = simp length-set inside in
    let second = total-set rows frame 0 (set to p q) q p size in
    let zp : 0 + p ≡ p = omega arith in
    let zq : 0 + q ≡ q = omega arith in
    let first' : total_from rows frame 0 (set to p q) + share rows frame p 14 ≡ total_from rows frame 0 to + share rows frame p q =
    subst₂ (λ k j. total_from rows frame 0 (set to p q) + share rows frame k j ≡ total_from rows frame 0 to + share rows frame k q) zp free first in
    let second' : total_from rows frame 0 (set (set to p q) q p) + share rows frame q 14 ≡ total_from rows frame 0 (set to p q) + share rows frame q p =
    subst₂ (λ k j. total_from rows frame 0 (set (set to p q) q p) + share rows frame k j ≡ total_from rows frame 0 (set to p q) + share rows frame k p) zq still second in
    let a = share_alone rows frame p in
    let b = share_alone rows frame q in
    let c = share_smaller rows frame p q up low in
    let d = share_larger rows frame p q up low in
    omega (arith, first', second', a, b, c, d)
