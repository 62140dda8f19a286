-- The order of the lines of a table is strict and total.
use Rattle.std.proofs.Common.{◌≡◌, ℕ, ◌<◌, ⊎_elim, List, Bool, true, false, not, refl, sym, ap, ◌∙◌, subst, arith}
use Rattle.std.specs.Prelude.{ℤ, cond, nat_lt, int_lt, ◌==◌, ◌&&◌, ◌||◌, ◌≢◌}
use Rattle.std.specs.Cmp.{IsTotalOrder, IsStrictWeakOrder}
use Rattle.std.specs.declared.cmp.Ordering.{Ordering}
use Rattle.std.specs.declared.cmp.Ordering.TheVariants.{Less, Equal, Greater}
use Rattle.std.specs.Ordering.{nat_cmp, int_cmp, int_eq, is_lt, is_eq, ordering_then, ordering_reverse, on, then_cmp, flip_args}
use Rattle.std.proofs.lemmas.Bool.{cases_Bool, both_ways, eq-eqb, ne_eqb, lt-ltb, le-ltb, cases_order}
use Rattle.std.proofs.lemmas.Cmp.{nat_cmp_total, int_cmp_total, on_total, then_total, back_total}
use Rattle.std.proofs.lemmas.List.Sorted.{ranks_by}
use Rattle.ranking.specs.Order.{Line, above, line_at, comes_before}

-- which of two lines stands above the other, as one comparison
abbrev pub line_cmp : Line → Line → Ordering
line_cmp = then_cmp (flip_args (on (λ (l : Line). l.points) nat_cmp)) (then_cmp (flip_args (on (λ (l : Line). l.performance) int_cmp)) (flip_args (on (λ (l : Line). l.rating) nat_cmp)))

line_cmp_total : IsTotalOrder line_cmp
line_cmp_total = then_total (back_total (on_total (λ (l : Line). l.points) nat_cmp_total)) (then_total (back_total (on_total (λ (l : Line). l.performance) int_cmp_total)) (back_total (on_total (λ (l : Line). l.rating) nat_cmp_total)))

pub is_lt-nat_cmp : (a b : ℕ) → is_lt (nat_cmp a b) ≡ nat_lt a b
is_lt-nat_cmp a b =
    elim (nat_lt a b) as (λ t. is_lt (cond t Less (cond (a == b) Equal Greater)) ≡ t) [
      | true ↦ refl
      | false ↦ elim (a == b) as (λ e. is_lt (cond e Equal Greater) ≡ false) [ true ↦ refl | false ↦ refl ]
    ]

-- a comparison of numbers and then another, as a test
pub then-nat : (a b : ℕ) (o : Ordering) → is_lt (ordering_then (nat_cmp a b) o) ≡ nat_lt a b || ((b == a) && is_lt o)
then-nat a b o =
    ⊎_elim
    (λ (same : a ≡ b). rw (le-ltb a b (omega arith), eq-eqb a b same, eq-eqb b a (sym same)) refl)
    (λ other.
    ⊎_elim
    (λ (lt : a < b). rw (lt-ltb a b lt) refl)
    (λ (gt : b < a). rw (le-ltb a b (omega arith), ne_eqb a b (λ e. omega arith), ne_eqb b a (λ e. omega arith)) refl)
    other)
    (cases_order a b)

-- the same of signed numbers
pub then-int : (a b : ℤ) (o : Ordering) → is_lt (ordering_then (int_cmp a b) o) ≡ int_lt a b || (int_eq b a && is_lt o)
then-int a b o =
    elim (int_lt a b) as (λ t. is_lt (ordering_then (cond t Less (cond (int_lt b a) Greater Equal)) o) ≡ t || (is_eq (cond (int_lt b a) Less (cond t Greater Equal)) && is_lt o)) [
      | true ↦ refl
      | false ↦ elim (int_lt b a) as (λ t. is_lt (ordering_then (cond t Greater Equal) o) ≡ is_eq (cond t Less Equal) && is_lt o) [ true ↦ refl | false ↦ refl ]
    ]

pub above-cmp : (x y : Line) → above x y ≡ is_lt (line_cmp x y)
above-cmp x y =
    sym (
    then-nat y.points x.points (ordering_then (int_cmp y.performance x.performance) (nat_cmp y.rating x.rating)) ∙
    ap (λ t. nat_lt y.points x.points || ((x.points == y.points) && t)) (
    then-int y.performance x.performance (nat_cmp y.rating x.rating) ∙
    ap (λ t. int_lt y.performance x.performance || (int_eq x.performance y.performance && t)) (is_lt-nat_cmp y.rating x.rating)
    )
    )

pub above_order : IsStrictWeakOrder above
above_order = subst (λ (lt : Line → Line → Bool). IsStrictWeakOrder lt) (sym (λ i x y. above-cmp x y i)) (ranks_by line_cmp_total (λ (l : Line). l))

module _ (lines : List Line) where
  -- which of two lines comes before the other, by their numbers
  abbrev number_cmp : ℕ → ℕ → Ordering
  number_cmp = then_cmp (on (line_at lines) line_cmp) nat_cmp

  number_cmp_total : IsTotalOrder number_cmp
  number_cmp_total = then_total (on_total (line_at lines) line_cmp_total) nat_cmp_total

  before-cmp : (i j : ℕ) → comes_before lines i j ≡ is_lt (number_cmp i j)
  before-cmp i j =
      let back : line_cmp (line_at lines j) (line_at lines i) ≡ ordering_reverse (line_cmp (line_at lines i) (line_at lines j)) = line_cmp_total.antisymm (line_at lines j) (line_at lines i) in
      rw (above-cmp (line_at lines i) (line_at lines j), above-cmp (line_at lines j) (line_at lines i), back) (
      elim (line_cmp (line_at lines i) (line_at lines j)) as (λ o. is_lt o || (not (is_lt (ordering_reverse o)) && nat_lt i j) ≡ is_lt (ordering_then o (nat_cmp i j))) [
        | Less ↦ refl
        | Equal ↦ sym (is_lt-nat_cmp i j)
        | Greater ↦ refl
      ])

  -- a line that comes before another does not come after it
  pub one_way : (i j : ℕ) → comes_before lines i j ≡ true → comes_before lines j i ≡ false
  one_way i j before = before-cmp j i ∙ (ap is_lt (number_cmp_total.antisymm j i) ∙ turned (number_cmp i j) (sym (before-cmp i j) ∙ before))
    where
      turned : (o : Ordering) → is_lt o ≡ true → is_lt (ordering_reverse o) ≡ false
      turned Less lt = refl
      turned Equal lt = cc
      turned Greater lt = cc

  -- no line comes before itself
  pub irreflexive : (i : ℕ) → comes_before lines i i ≡ false
  irreflexive i = ⊎_elim (λ (up : comes_before lines i i ≡ true). one_way i i up) (λ (down : comes_before lines i i ≡ false). down) (cases_Bool (comes_before lines i i))

  is_less : (o : Ordering) → is_lt o ≡ true → o ≡ Less
  is_less Less lt = refl
  is_less Equal lt = cc
  is_less Greater lt = cc

  -- a line that comes before one that comes before a third comes before the third
  pub transitive : (i j k : ℕ) → comes_before lines i j ≡ true → comes_before lines j k ≡ true → comes_before lines i k ≡ true
  transitive i j k first second =
      before-cmp i k ∙ ap is_lt (number_cmp_total.trans i j k (is_less (number_cmp i j) (sym (before-cmp i j) ∙ first)) (is_less (number_cmp j k) (sym (before-cmp j k) ∙ second)))

  -- of two lines one comes before the other
  pub total : (i j : ℕ) → i ≢ j → comes_before lines i j ≡ false → comes_before lines j i ≡ true
  total i j other down =
      before-cmp j i ∙ (ap is_lt (number_cmp_total.antisymm j i) ∙ turned (line_cmp (line_at lines i) (line_at lines j)) (sym (before-cmp i j) ∙ down))
    where
      of_numbers : is_lt (nat_cmp i j) ≡ false → is_lt (ordering_reverse (nat_cmp i j)) ≡ true
      of_numbers less =
          ⊎_elim
          (λ (same : i ≡ j). absurd (other same))
          (λ apart.
          ⊎_elim
          (λ (lt : i < j). absurd (both_ways (nat_lt i j) (sym (is_lt-nat_cmp i j) ∙ less) (lt-ltb i j lt)))
          (λ (gt : j < i). rw (le-ltb i j (omega arith), ne_eqb i j other) refl)
          apart)
          (cases_order i j)

      turned : (o : Ordering) → is_lt (ordering_then o (nat_cmp i j)) ≡ false → is_lt (ordering_reverse (ordering_then o (nat_cmp i j))) ≡ true
      turned Less less = cc
      turned Equal less = of_numbers less
      turned Greater less = refl
