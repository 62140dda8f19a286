-- Sums over the seats, and lists read by their places.
use Rattle.std.proofs.Common.{◌≡◌, ◌≢◌, ℕ, zero, suc, ◌+◌, ◌<◌, ◌≤◌, eqb, cond, List, [], ◌∷◌, ◌++◌, length, get_or, set, refl, sym, ap, ◌∙◌, subst, arith, inl, inr, ⊎_elim, ◌⊎◌, eq-eqb, ne_eqb}
use Rattle.std.specs.Prelude.{All}
use Rattle.std.specs.List.{sum_by}
use Rattle.std.proofs.lemmas.List.Sums.{sum_by-set, sum_by-cons, sum_by-append}
use mathlib.Core.Option.{some, some-injective, some-ne-none}
use mathlib.Core.Logic.{dite}
use native.Mathlib.Decide.{ℕ_discrete}
use lib.ListN.{get_elem?}

module _ {A : Type 0} where
  pub at_within : (l : List A) (j : ℕ) (v : A) → get_elem? l j ≡ some v → j < length l
  at_within [] j v e = absurd (some-ne-none v (sym e))
  at_within (x ∷ xs) zero v e = omega arith
  at_within (x ∷ xs) (suc j) v e = let r = at_within xs j v e in omega arith

  or_at : (l : List A) (j : ℕ) (v : A) → get_elem? l j ≡ some v → get_or l j v ≡ v
  or_at [] j v e = refl
  or_at (x ∷ xs) zero v e = some-injective x v e
  or_at (x ∷ xs) (suc j) v e = or_at xs j v e

  pub sum_set : (f : A → ℕ) (l : List A) (j : ℕ) (v w : A) → get_elem? l j ≡ some v → sum_by f (set l j w) + f v ≡ sum_by f l + f w
  sum_set f l j v w e = subst (λ (z : A). sum_by f (set l j w) + f z ≡ sum_by f l + f w) (or_at l j v e) (sum_by-set f l j w v (at_within l j v e))

  pub sum_snoc : (f : A → ℕ) (l : List A) (w : A) → sum_by f (l ++ w ∷ []) ≡ sum_by f l + f w
  sum_snoc f l w = let a = sum_by-append f l (w ∷ []) in let b = sum_by-cons f w [] in a ∙ ap (λ n. sum_by f l + n) (b ∙ omega arith)

  -- one seat's part is no more than the sum
  pub sum_at : (f : A → ℕ) (l : List A) (j : ℕ) (v : A) → get_elem? l j ≡ some v → f v ≤ sum_by f l
  sum_at f [] j v e = absurd (some-ne-none v (sym e))
  sum_at f (x ∷ xs) zero v e = let p : f x ≡ f v = ap f (some-injective x v e) in let c = sum_by-cons f x xs in omega arith
  sum_at f (x ∷ xs) (suc j) v e = let r = sum_at f xs j v e in let c = sum_by-cons f x xs in omega arith

  pub sum_le : (f g : A → ℕ) (l : List A) → ((j : ℕ) (v : A) → get_elem? l j ≡ some v → f v ≤ g v) → sum_by f l ≤ sum_by g l
  sum_le f g [] h = omega arith
  sum_le f g (x ∷ xs) h = let here : f x ≤ g x = h 0 x refl in let r = sum_le f g xs (λ j v e. h (suc j) v e) in let a = sum_by-cons f x xs in let b = sum_by-cons g x xs in omega arith

  pub all_to : (P Q : A → Type 0) (xs : List A) → ((x : A) → P x → Q x) → All P xs → All Q xs
  all_to P Q xs h a k d lt = h (get_or xs k d) (a k d lt)

  pub all_one : (P : A → Type 0) (x : A) → P x → All P (x ∷ [])
  all_one P x p zero d lt = p
  all_one P x p (suc k) d lt = absurd (omega arith)

  pub all_middle : (P : A → Type 0) (ys : List A) (x : A) (zs : List A) → All P (ys ++ x ∷ zs) → P x
  all_middle P [] x zs a = a 0 x (omega arith)
  all_middle P (y ∷ ys) x zs a = all_middle P ys x zs (λ k d lt. a (suc k) d (omega arith))

  -- an element of a list with one more at its end is one of the list, or the new one
  pub at_end : (l : List A) (a b : A) (j : ℕ) → get_elem? (l ++ a ∷ []) j ≡ some b → (get_elem? l j ≡ some b) ⊎ ((j ≡ length l) × (a ≡ b))
  at_end [] a b zero e = inr (refl, some-injective a b e)
  at_end [] a b (suc j) e = absurd (some-ne-none b (sym e))
  at_end (x ∷ xs) a b zero e = inl e
  at_end (x ∷ xs) a b (suc j) e = ⊎_elim (λ t. inl t) (λ t. inr (ap suc t.0, t.1)) (at_end xs a b j e)

  pub only_one : (l : List A) (a : A) → length l ≡ 1 → set l 0 a ≡ a ∷ []
  only_one [] a e = absurd (omega arith)
  only_one (x ∷ []) a e = refl
  only_one (x ∷ y ∷ l) a e = absurd (omega arith)

  pub none_left : (ys zs all : List A) → ys ++ zs ≡ all → length zs ≡ 0 → ys ≡ all
  none_left ys [] all e n = sym (Rattle.std.proofs.lemmas.List.append-nil ys) ∙ e
  none_left ys (z ∷ zs) all e n = absurd (omega arith)

-- f, with b at a
abbrev pub put : (ℕ → ℕ) → ℕ → ℕ → ℕ → ℕ
put f a b k = cond (eqb k a) b (f k)

pub put_here : (f : ℕ → ℕ) (a b : ℕ) → put f a b a ≡ b
put_here f a b = ap (λ t. cond t b (f a)) (eq-eqb a a refl)

pub put_else : (f : ℕ → ℕ) (a b k : ℕ) → k ≢ a → put f a b k ≡ f k
put_else f a b k ne = ap (λ t. cond t b (f k)) (ne_eqb k a ne)

pub put_same : (f : ℕ → ℕ) (a b k : ℕ) → f k ≡ b → put f a b k ≡ b
put_same f a b k e = dite (ℕ_discrete k a) (λ is. ap (put f a b) is ∙ put_here f a b) (λ ne. put_else f a b k ne ∙ e)
