-- The equal steps between two squares of a line, computed over all such squares.
use Rattle.std.proofs.Common.{◌≡◌, ℕ, ◌+◌, ◌<◌, ◌≤◌, ◌==◌, nat_lt, Bool, true, false, ◌&&◌, ◌||◌, not, refl, arith, IsTrue}
use Rattle.std.specs.List.{list_all, range_with_len}
use Rattle.std.proofs.lemmas.Bool.{and_parts, eqb-true}
use Rattle.std.proofs.lemmas.Bool.Decides.{nat_tests}
use Rattle.board.specs.Square.{distance}
use Rattle.board.specs.Attack.{straight, diagonal, on_line, on_the_way}
use Rattle.board.proofs.Squares.{list_all-at}

-- after i of the steps from a to b: on the board, i king's steps from a, the others from b, and on the same kind of line
abbrev step_fits : ℕ → ℕ → ℕ → Bool
step_fits a b i =
    let s = on_the_way a b (distance a b) i in
    nat_lt s 64
    && (distance a s == i)
    && (distance s b + i == distance a b)
    && (not (straight a b) || straight a s || (i == 0))
    && (not (diagonal a b) || diagonal a s || (i == 0))

steps_fit : ℕ → ℕ → Bool
steps_fit a b =
    elim (on_line a b) [ true ↦ list_all (step_fits a b) (range_with_len 0 (distance a b + 1)) | false ↦ true ]

all_steps_fit : list_all (λ a. list_all (steps_fit a) (range_with_len 0 64)) (range_with_len 0 64) ≡ true
unfolding steps_fit
all_steps_fit = refl

steps_fit-at : (a b i : ℕ) → on_line a b ≡ true → i ≤ distance a b → steps_fit a b ≡ true → step_fits a b i ≡ true
unfolding steps_fit
steps_fit-at a b i line within all = list_all-at (step_fits a b) (distance a b + 1) i (rw (line, steps_fit) at all) (omega arith)

step_fits-at : (a b i : ℕ) → a < 64 → b < 64 → on_line a b ≡ true → i ≤ distance a b → step_fits a b i ≡ true
step_fits-at a b i a_on b_on line within =
    steps_fit-at a b i line within
    (list_all-at (steps_fit a) 64 b (list_all-at (λ c. list_all (steps_fit c) (range_with_len 0 64)) 64 a all_steps_fit a_on) b_on)

then_other : (x y z : Bool) → (not x || y || z) ≡ true → x ≡ true → z ≡ false → y ≡ true
then_other true true z h holds apart = refl
then_other true false true h holds apart = cc
then_other true false false h holds apart = cc
then_other false y z h holds apart = cc

positive : (i : ℕ) → 0 < i → (i == 0) ≡ false
positive i h = grind (arith, nat_tests)

-- where the square after i of the steps lies
pub record StandsBetween (a b i s : ℕ) : Type 0 where
  pub steps : distance a s ≡ i
  pub left : distance s b + i ≡ distance a b
  pub straight_too : IsTrue (straight a b) → 0 < i → IsTrue (straight a s)
  pub diagonal_too : IsTrue (diagonal a b) → 0 < i → IsTrue (diagonal a s)

pub on_the_way-between : (a b i : ℕ) → a < 64 → b < 64 → IsTrue (on_line a b) → i ≤ distance a b → StandsBetween a b i (on_the_way a b (distance a b) i)
on_the_way-between a b i a_on b_on line within =
    let s = on_the_way a b (distance a b) i in
    let four = and_parts _ _ (step_fits-at a b i a_on b_on line within) in
    let three = and_parts _ _ four.0 in
    let two = and_parts _ _ three.0 in
    let one = and_parts _ _ two.0 in
    record {
      steps = eqb-true _ _ one.1;
      left = eqb-true _ _ two.1;
      straight_too = λ h some. then_other (straight a b) (straight a s) (i == 0) three.1 h (positive i some);
      diagonal_too = λ h some. then_other (diagonal a b) (diagonal a s) (i == 0) four.1 h (positive i some);
    }
