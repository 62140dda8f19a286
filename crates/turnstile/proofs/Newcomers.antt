-- What callers know of the passes that a turnstile is made with.
use Rattle.std.proofs.Common.{◌≡◌, ℕ, zero, suc, List, [], ◌∷◌, map, false, refl, sym, ap, ◌∙◌, subst, arith}
use Rattle.std.specs.Prelude.{All}
use Rattle.turnstile.specs.Passes.{Lock, PassState, new_pass}

module _ {E F : Type 0} (lock : Lock F) where
  -- what is so of each new pass is so of all in the list
  each_new : (P : PassState E F → Type 0) → ((i : ℕ) → P (new_pass lock i)) → (numbers : List ℕ) → All P (map (new_pass lock) numbers)
  each_new P one [] k d lt = absurd (omega arith)
  each_new P one (i ∷ is) zero d lt = one i
  each_new P one (i ∷ is) (suc k) d lt = each_new P one is k d (omega arith)

  all_new : (P : PassState E F → Type 0) → ((i : ℕ) → P (new_pass lock i)) → (numbers : List ℕ) (passes : List (PassState E F)) → passes ≡ map (new_pass lock) numbers → All P passes
  all_new P one numbers passes e = subst (λ (l : List (PassState E F)). All P l) (sym e) (each_new P one numbers)

  pub of_new : (numbers : List ℕ) (passes : List (PassState E F)) → passes ≡ map (new_pass lock) numbers → All (λ (p : PassState E F). p.of ≡ lock) passes
  of_new = all_new (λ p. p.of ≡ lock) (λ i. refl)

  pub outside_new : (numbers : List ℕ) (passes : List (PassState E F)) → passes ≡ map (new_pass lock) numbers → All (λ (p : PassState E F). p.has_turn ≡ false) passes
  outside_new = all_new (λ p. p.has_turn ≡ false) (λ i. refl)

  pub unused_new : (numbers : List ℕ) (passes : List (PassState E F)) → passes ≡ map (new_pass lock) numbers → All (λ (p : PassState E F). (p.seen ≡ []) × (p.turns ≡ [])) passes
  unused_new = all_new (λ p. (p.seen ≡ []) × (p.turns ≡ [])) (λ i. (refl, refl))

numbers_each : (E : Type 0) {F : Type 0} (lock : Lock F) (numbers : List ℕ) → map (λ (p : PassState E F). p.number) (map (new_pass lock) numbers) ≡ numbers
numbers_each E lock [] = refl
numbers_each E lock (i ∷ is) = ap (λ l. i ∷ l) (numbers_each E lock is)

pub numbers_new : {E F : Type 0} (lock : Lock F) (numbers : List ℕ) (passes : List (PassState E F)) → passes ≡ map (new_pass lock) numbers → map (λ (p : PassState E F). p.number) passes ≡ numbers
numbers_new {E} {F} lock numbers passes e = ap (map (λ (p : PassState E F). p.number)) e ∙ numbers_each E lock numbers
