-- The order of lists and of keys is strict and total, and is decided at the first place of difference.
use Rattle.std.proofs.Common.{◌≡◌, ℕ, zero, suc, ◌<◌, Bool, true, false, ◌&&◌, ◌||◌, ◌==◌, nat_lt, List, [], ◌∷◌, length, slice_index, refl, ap₂, arith}
use Rattle.std.proofs.lemmas.Bool.Decides.{nat_tests}
use Rattle.pair_cost.specs.declared.candidate.Candidate.{Candidate}
use Rattle.pair_cost.specs.declared.candidate.Frame.{Frame}
use Rattle.group_pairing.specs.Keys.{alone, total_from, comes_before, key, is_smaller}

-- the first of two pairs is smaller by its first parts, or by its second where those are equal
abbrev pub first_or_then : ℕ → ℕ → Bool → Bool
first_or_then x y then_smaller = nat_lt x y || (x == y && then_smaller)

not_itself : (x : ℕ) (b : Bool) → b ≡ false → first_or_then x x b ≡ false
not_itself x b h = grind (arith, nat_tests)

both_not : (x y : ℕ) (b c : Bool) → first_or_then x y b ≡ false → first_or_then y x c ≡ false → (x ≡ y) × (b ≡ false) × (c ≡ false)
both_not x y b c h k = grind (arith, nat_tests)

chained : (x y z : ℕ) (b c d : Bool) → (b ≡ true → c ≡ true → d ≡ true) → first_or_then x y b ≡ true → first_or_then y z c ≡ true → first_or_then x z d ≡ true
chained x y z b c d h p q = grind (arith, nat_tests)

pub comes_before-self : (xs : List ℕ) → comes_before xs xs ≡ false
unfolding comes_before
comes_before-self [] = refl
comes_before-self (x ∷ xs) = not_itself x (comes_before xs xs) (comes_before-self xs)

pub same_from_neither : (xs ys : List ℕ) → comes_before xs ys ≡ false → comes_before ys xs ≡ false → xs ≡ ys
unfolding comes_before
same_from_neither [] [] h k = refl
same_from_neither [] (y ∷ ys) h k = cc
same_from_neither (x ∷ xs) [] h k = cc
same_from_neither (x ∷ xs) (y ∷ ys) h k =
    let parts = both_not x y (comes_before xs ys) (comes_before ys xs) h k in
    ap₂ (λ z zs. z ∷ zs) parts.0 (same_from_neither xs ys parts.1 parts.2)

pub comes_before-trans : (xs ys zs : List ℕ) → comes_before xs ys ≡ true → comes_before ys zs ≡ true → comes_before xs zs ≡ true
unfolding comes_before
comes_before-trans [] [] zs h k = cc
comes_before-trans [] (y ∷ ys) [] h k = cc
comes_before-trans [] (y ∷ ys) (z ∷ zs) h k = refl
comes_before-trans (x ∷ xs) [] zs h k = cc
comes_before-trans (x ∷ xs) (y ∷ ys) [] h k = cc
comes_before-trans (x ∷ xs) (y ∷ ys) (z ∷ zs) h k =
    chained x y z (comes_before xs ys) (comes_before ys zs) (comes_before xs zs) (comes_before-trans xs ys zs) h k

-- a list whose item at the first place of difference is greater does not come before the other
pub later_from_first : (xs ys : List ℕ) (i : ℕ) → i < length xs → ((j : ℕ) → j < i → slice_index xs j ≡ slice_index ys j) → slice_index xs i < slice_index ys i → comes_before ys xs ≡ false
unfolding comes_before
later_from_first [] ys i inside same less = absurd (omega arith)
later_from_first (x ∷ xs) [] zero inside same less = absurd (omega arith)
later_from_first (x ∷ xs) [] (suc i) inside same less = absurd (omega arith)
later_from_first (x ∷ xs) (y ∷ ys) zero inside same less = grind (arith, nat_tests)
later_from_first (x ∷ xs) (y ∷ ys) (suc i) inside same less =
    let head : x ≡ y = same 0 (omega arith) in
    let tail : comes_before ys xs ≡ false =
    later_from_first xs ys i (omega arith) (λ j below. same (suc j) (omega arith)) less in
    grind (arith, nat_tests)

-- keys of lists

pub smaller-self : (rows : List Candidate) (frame : Frame) (a : List ℕ) → is_smaller (key rows frame a) (key rows frame a) ≡ false
smaller-self rows frame a =
    not_itself (alone a) (first_or_then (total_from rows frame 0 a) (total_from rows frame 0 a) (comes_before a a))
    (not_itself (total_from rows frame 0 a) (comes_before a a) (comes_before-self a))

pub same_from_neither_smaller : (rows : List Candidate) (frame : Frame) (a b : List ℕ) → is_smaller (key rows frame a) (key rows frame b) ≡ false → is_smaller (key rows frame b) (key rows frame a) ≡ false → a ≡ b
same_from_neither_smaller rows frame a b h k =
    let outer = both_not (alone a) (alone b) (first_or_then (total_from rows frame 0 a) (total_from rows frame 0 b) (comes_before a b)) (first_or_then (total_from rows frame 0 b) (total_from rows frame 0 a) (comes_before b a)) h k in
    let inner = both_not (total_from rows frame 0 a) (total_from rows frame 0 b) (comes_before a b) (comes_before b a) outer.1 outer.2 in
    same_from_neither a b inner.1 inner.2

pub smaller-trans : (rows : List Candidate) (frame : Frame) (a b c : List ℕ) → is_smaller (key rows frame a) (key rows frame b) ≡ true → is_smaller (key rows frame b) (key rows frame c) ≡ true → is_smaller (key rows frame a) (key rows frame c) ≡ true
smaller-trans rows frame a b c h k =
    chained (alone a) (alone b) (alone c) (first_or_then (total_from rows frame 0 a) (total_from rows frame 0 b) (comes_before a b)) (first_or_then (total_from rows frame 0 b) (total_from rows frame 0 c) (comes_before b c)) (first_or_then (total_from rows frame 0 a) (total_from rows frame 0 c) (comes_before a c))
    (chained (total_from rows frame 0 a) (total_from rows frame 0 b) (total_from rows frame 0 c) (comes_before a b) (comes_before b c) (comes_before a c) (comes_before-trans a b c))
    h k
