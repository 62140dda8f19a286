-- Numbers of which no two are the same.
use Rattle.std.proofs.Common.{◌≡◌, ◌≢◌, ◌⊎◌, ℕ, zero, suc, ◌<◌, ◌≤◌, eqb, true, List, [], ◌∷◌, ◌++◌, length, map, get_or, refl, sym, ap, ◌∙◌, subst, inl, inr, ⊎_elim, arith, eq-eqb}
use Rattle.std.specs.Prelude.{All, AllPairs, Contains, Decides}
use Rattle.std.specs.List.{list_any}
use mathlib.Core.Logic.{dite}
use native.Mathlib.Decide.{ℕ_discrete}
use Rattle.std.proofs.lemmas.Bool.Decides.{nat_tests}
use Rattle.std.proofs.lemmas.List.{map-append}
use Rattle.std.proofs.lemmas.List.Folds.{Any-from_list_any}
use Rattle.std.proofs.lemmas.Map.Made.{IsDistinct-from_AllPairs}
use Rattle.std.proofs.lemmas.Map.Steps.{length-le_from_distinct_below}
use Rattle.turnstile.specs.Rule.{AreApart}

last_of : (xs : List ℕ) (i : ℕ) (j : ℕ) (d : ℕ) → j < length (xs ++ i ∷ []) → ((j < length xs) × (get_or (xs ++ i ∷ []) j d ≡ get_or xs j d)) ⊎ ((j ≡ length xs) × (get_or (xs ++ i ∷ []) j d ≡ i))
last_of [] i zero d lt = inr (refl, refl)
last_of [] i (suc j) d lt = absurd (omega arith)
last_of (x ∷ xs) i zero d lt = inl (omega arith, refl)
last_of (x ∷ xs) i (suc j) d lt = ⊎_elim (λ t. let a = t.0 in inl (omega arith, t.1)) (λ t. inr (ap suc t.0, t.1)) (last_of xs i j d (omega arith))

-- one more, which is none of them
numbers_apart : (xs : List ℕ) (i : ℕ) → All (λ x. x ≢ i) xs → AllPairs (λ x y. x ≢ y) xs → AllPairs (λ x y. x ≢ y) (xs ++ i ∷ [])
numbers_apart xs i new apart j k d lt few =
    ⊎_elim
    (λ t. ⊎_elim (λ u. λ e. apart j k d lt t.0 (sym u.1 ∙ (e ∙ t.1))) (λ u. let a = t.0 in let b = u.0 in absurd (omega arith)) (last_of xs i j d (omega arith)))
    (λ t. ⊎_elim (λ u. λ e. new j d u.0 (sym u.1 ∙ (e ∙ t.1))) (λ u. let a = t.0 in let b = u.0 in absurd (omega arith)) (last_of xs i j d (omega arith)))
    (last_of xs i k d few)

module _ {E : Type 0} (by : E → ℕ) where
  pub all_first : (P : ℕ → Type 0) (joined : List (ℕ × List E)) → All (λ p. P p.0) joined → All P (map (λ p. p.0) joined)
  all_first P [] a k d lt = absurd (omega arith)
  all_first P (p ∷ ps) a zero d lt = a 0 p (omega arith)
  all_first P (p ∷ ps) a (suc k) d lt = all_first P ps (λ k d lt. a (suc k) d (omega arith)) k d (omega arith)

  pub apart_more : (joined : List (ℕ × List E)) (i : ℕ) (seen : List E) → All (λ p. p.0 ≢ i) joined → AreApart by joined → AreApart by (joined ++ (i, seen) ∷ [])
  apart_more joined i seen new apart =
      subst (λ (l : List ℕ). AllPairs (λ x y. x ≢ y) l) (sym (map-append (λ (p : ℕ × List E). p.0) joined ((i, seen) ∷ [])))
      (numbers_apart (map (λ p. p.0) joined) i (all_first (λ x. x ≢ i) joined new) apart)

eqb_decides : (a b : ℕ) → Decides (eqb a b) (a ≡ b)
eqb_decides a b = (λ t. grind (arith, nat_tests), eq-eqb a b)

find : (xs : List ℕ) (i : ℕ) → Contains xs i ⊎ All (λ x. x ≢ i) xs
find [] i = inr (λ k d lt. absurd (omega arith))
find (x ∷ xs) i =
    dite (ℕ_discrete x i) (λ e. inl (0, omega arith, e))
    (λ ne. ⊎_elim (λ t. let lt = t.1 in inl (suc t.0, omega arith, t.2)) (λ a. inr (none_of ne a)) (find xs i))
  where
    none_of : x ≢ i → All (λ y. y ≢ i) xs → All (λ y. y ≢ i) (x ∷ xs)
    none_of ne a zero d lt = ne
    none_of ne a (suc k) d lt = a k d (omega arith)

-- as many numbers below n as n, of which no two are the same, are all that there are
pub all_there : (xs : List ℕ) (n i : ℕ) → AllPairs (λ x y. x ≢ y) xs → All (λ x. x < n) xs → length xs ≡ n → i < n → Contains xs i
all_there xs n i apart below long lt = ⊎_elim (λ t. t) (λ none. absurd (let few = too_few none in omega arith)) (find xs i)
  where
    more : All (λ x. x ≢ i) xs → AllPairs (λ x y. x ≢ y) (i ∷ xs)
    more none zero zero d l m = absurd (omega arith)
    more none zero (suc k) d l m = λ e. none k d (omega arith) (sym e)
    more none (suc j) zero d l m = absurd (omega arith)
    more none (suc j) (suc k) d l m = apart j k d (omega arith) (omega arith)

    under : (q : ℕ) → list_any (eqb q) (i ∷ xs) ≡ true → q < n
    under q h =
        let a = Any-from_list_any (eqb q) (i ∷ xs) h in
        let e = (eqb_decides q a.1).0 a.4 in
        let b = each a.0 a.1 a.2 in
        let c = a.3 in
        omega arith
      where
        each : (k d : ℕ) → k < length (i ∷ xs) → get_or (i ∷ xs) k d < n
        each zero d l = lt
        each (suc k) d l = below k d (omega arith)

    too_few : All (λ x. x ≢ i) xs → length (i ∷ xs) ≤ n
    too_few none = length-le_from_distinct_below (i ∷ xs) n (IsDistinct-from_AllPairs eqb_decides (i ∷ xs) (more none)) under
