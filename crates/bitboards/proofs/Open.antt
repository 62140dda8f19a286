-- Whether a line is open between two of its squares, by one intersection.
use Rattle.std.proofs.Common.{◌≡◌, ℕ, ◌+◌, ◌-◌, ◌*◌, ◌^◌, ◌<◌, ◌≤◌, zero, suc, refl, arith, ap, sym, ◌∙◌, List, [], ◌∷◌, map, Bool, true, false, ◌&&◌, not, ◌==◌, inl, inr, min, max, bit_and, bit_or, eq-eqb}
use Rattle.std.proofs.lemmas.Bool.{cases_lt, ne_eqb, and_left, and_right, and_parts, and_from, eqb-true}
use Rattle.std.proofs.lemmas.Nat.{and_le_l, le_or_l, le_or_r, and_comm, pow_pos}
use Rattle.std.proofs.lemmas.Nat.Bits.{bit_at-lt, bit_at_and, bit_at_or, bit_at_mask_inside, bit_at_mask_below, bit_at_mask_above, and_pow, same_from_bits}
use Rattle.std.proofs.lemmas.List.Folds.{list_all-map}
use Rattle.std.specs.Int.{bit_at}
use Rattle.std.specs.List.{list_all, range_with_len}
use Rattle.board.specs.Square.{distance}
use Rattle.board.specs.Attack.{on_the_way}
use Rattle.board.specs.Sets.{has}
use Rattle.board.proofs.SetLaws.{has-and}
use Rattle.bitboards.specs.Lines.{numbers_between, open_between, is_open}
use Rattle.bitboards.proofs.Masks.{empty_set, not_empty}

pub between_turned : (a b : ℕ) → numbers_between a b ≡ numbers_between b a
between_turned a b =
    let high : max a b ≡ max b a = omega arith in
    let low : min a b ≡ min b a = omega arith in
    rw (high, low) refl

-- the squares between, for a before b
pub is_between : (a b t : ℕ) → a < t → t < b → has (numbers_between a b) t ≡ true
is_between a b t low high =
    let top : max a b ≡ b = omega arith in
    let bottom : min a b ≡ a = omega arith in
    rw (top, bottom) (eq-eqb _ _ (bit_at_mask_inside (a + 1) b t (omega arith) high))

pub between_parts : (a b t : ℕ) → a ≤ b → has (numbers_between a b) t ≡ true → (a < t) × (t < b)
between_parts a b t order h =
    let top : max a b ≡ b = omega arith in
    let bottom : min a b ≡ a = omega arith in
    let run : bit_at (2 ^ b - 2 ^ (a + 1)) t ≡ 1 = eqb-true _ _ (rw (top, bottom) at h) in
    elim (cases_lt t (a + 1)) [
      | inl below ↦ let zero_bit : bit_at (2 ^ b - 2 ^ (a + 1)) t ≡ 0 = bit_at_mask_below (a + 1) b t below in absurd (omega arith)
      | inr past ↦ elim (cases_lt t b) [
        | inl within ↦ (omega arith, within)
        | inr above ↦ let zero_bit : bit_at (2 ^ b - 2 ^ (a + 1)) t ≡ 0 = bit_at_mask_above (a + 1) b t above in absurd (omega arith)
      ]
    ]

-- what stands between closes the line, and else it is open
pub closed : (line set a b t : ℕ) → has line t ≡ true → has set t ≡ true → has (numbers_between a b) t ≡ true → open_between line set a b ≡ false
closed line set a b t on_line in_set between =
    not_empty (bit_and (bit_and line (numbers_between a b)) set) t
    (has-and (bit_and line (numbers_between a b)) set t ∙ and_from _ _ (has-and line (numbers_between a b) t ∙ and_from _ _ on_line between) in_set)

pub opened : (line set a b : ℕ) → line < 2 ^ 64 → ((t : ℕ) → t < 64 → has line t ≡ true → has set t ≡ true → has (numbers_between a b) t ≡ true → ⊥) → open_between line set a b ≡ true
opened line set a b small none =
    let n = bit_and (bit_and line (numbers_between a b)) set in
    let one : n ≤ bit_and line (numbers_between a b) = and_le_l _ _ in
    let two : bit_and line (numbers_between a b) ≤ line = and_le_l _ _ in
    eq-eqb _ _ (empty_set n (omega arith) (λ t on h.
    let both = and_parts _ _ (sym (has-and (bit_and line (numbers_between a b)) set t) ∙ h) in
    let pair = and_parts _ _ (sym (has-and line (numbers_between a b) t) ∙ both.0) in
    none t on pair.0 both.1 pair.1))

pub where_true : (x y z : Bool) → (x ≡ true → y ≡ z) → (x && y) ≡ (x && z)
where_true true y z h = h refl
where_true false y z h = refl

-- the same of a list of squares
abbrev pub squares_set : List ℕ → ℕ
squares_set [] = 0
squares_set (s ∷ ss) = bit_or (2 ^ s) (squares_set ss)

min_of_max : (a b c : ℕ) → min (max a b) c ≡ max (min a c) (min b c)
min_of_max a b c = omega arith

and_of_or : (x y z : ℕ) → bit_and (bit_or x y) z ≡ bit_or (bit_and x z) (bit_and y z)
and_of_or x y z = same_from_bits _ _ (λ i.
    bit_at_and (bit_or x y) z i
    ∙ ap (λ n. min n (bit_at z i)) (bit_at_or x y i)
    ∙ min_of_max (bit_at x i) (bit_at y i) (bit_at z i)
    ∙ sym (bit_at_or (bit_and x z) (bit_and y z) i ∙ rw (bit_at_and x z i, bit_at_and y z i) refl))

or_is_zero : (p q : ℕ) → (bit_or p q == 0) ≡ ((p == 0) && (q == 0))
or_is_zero p q = elim (cases_lt 0 p) [
  | inl some ↦ ne_eqb (bit_or p q) 0 (λ e. let low : p ≤ bit_or p q = le_or_l p q in absurd (omega arith)) ∙ sym (and_left _ (q == 0) (ne_eqb p 0 (λ e. omega arith)))
  | inr none ↦ elim (cases_lt 0 q) [
    | inl some ↦ ne_eqb (bit_or p q) 0 (λ e. let low : q ≤ bit_or p q = le_or_r p q in absurd (omega arith)) ∙ sym (and_right (p == 0) _ (ne_eqb q 0 (λ e. omega arith)))
    | inr nothing ↦ let p_is : p ≡ 0 = omega arith in let q_is : q ≡ 0 = omega arith in rw (p_is, q_is) refl
  ]
]

zero_bit_test : (b p : ℕ) → b < 2 → 0 < p → (b * p == 0) ≡ not (b == 1)
zero_bit_test zero p small some = eq-eqb (0 * p) 0 (omega arith)
zero_bit_test (suc zero) p small some = ne_eqb _ _ (λ e. absurd (omega arith))
zero_bit_test (suc (suc b)) p small some = absurd (omega arith)

pow_and : (s set : ℕ) → (bit_and (2 ^ s) set == 0) ≡ not (has set s)
pow_and s set = ap (λ n. n == 0) (and_comm (2 ^ s) set ∙ and_pow set s) ∙ zero_bit_test (bit_at set s) (2 ^ s) (bit_at-lt set s) (pow_pos s)

nothing_and : (set : ℕ) → bit_and 0 set ≡ 0
nothing_and set = let low : bit_and 0 set ≤ 0 = and_le_l 0 set in omega arith

open_list : (ss : List ℕ) (set : ℕ) → (bit_and (squares_set ss) set == 0) ≡ list_all (λ s. not (has set s)) ss
open_list [] set = eq-eqb _ _ (nothing_and set)
open_list (s ∷ ss) set =
    ap (λ n. n == 0) (and_of_or (2 ^ s) (squares_set ss) set)
    ∙ or_is_zero (bit_and (2 ^ s) set) (bit_and (squares_set ss) set)
    ∙ rw (pow_and s set, open_list ss set) refl

-- the squares that are stepped on between two squares
abbrev pub way_set : ℕ → ℕ → ℕ
way_set a b = squares_set (map (on_the_way a b (distance a b)) (range_with_len 1 (distance a b - 1)))

pub open_by_way : (set a b : ℕ) → is_open set a b ≡ (bit_and (way_set a b) set == 0)
unfolding is_open
open_by_way set a b =
    let n = distance a b in
    sym (open_list (map (on_the_way a b n) (range_with_len 1 (n - 1))) set ∙ list_all-map (λ s. not (has set s)) (on_the_way a b n) (range_with_len 1 (n - 1)))
