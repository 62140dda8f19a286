-- Lists in which each element stands in a relation to all that follow it.
use Rattle.std.proofs.Common.{zero, suc, List, [], ◌∷◌, ◌++◌, Bool, true, false, arith}
use Rattle.std.specs.Prelude.{filter, cond, map, fold}
use Rattle.std.specs.List.{AllByRecursion, AllPairs, All}
use Rattle.std.proofs.lemmas.List.Elements.{All-from_recursion}
use Rattle.ranking.specs.Order.{placed, in_order}
use Rattle.ranking.proofs.Orders.{all_placed}
use Rattle.arena_history.proofs.Lists.{all_append, all_filter}

-- each stands in the relation to all that follow
abbrev pub Follows : {X : Type 0} → (X → X → Type 0) → List X → Type 0
Follows R [] = Unit {0}
Follows R (x ∷ xs) = AllByRecursion (R x) xs × Follows R xs

pub pairs_follow : {X : Type 0} (R : X → X → Type 0) (xs : List X) → Follows R xs → AllPairs R xs
pairs_follow R [] down i j d lt within = absurd (omega arith)
pairs_follow R (x ∷ xs) down zero zero d lt within = absurd (omega arith)
pairs_follow R (x ∷ xs) down zero (suc j) d lt within = All-from_recursion (R x) xs down.0 j d (omega arith)
pairs_follow R (x ∷ xs) down (suc i) zero d lt within = absurd (omega arith)
pairs_follow R (x ∷ xs) down (suc i) (suc j) d lt within = pairs_follow R xs down.1 i j d (omega arith) (omega arith)

pub recursion_from_All : {X : Type 0} (P : X → Type 0) (xs : List X) → All P xs → AllByRecursion P xs
recursion_from_All P [] all = tt
recursion_from_All P (x ∷ xs) all = (all 0 x (omega arith), recursion_from_All P xs (λ j d lt. all (suc j) d (omega arith)))

pub follows_push : {X : Type 0} (R : X → X → Type 0) (xs : List X) (x : X) → Follows R xs → AllByRecursion (λ y. R y x) xs → Follows R (xs ++ x ∷ [])
follows_push R [] x down all = (tt, tt)
follows_push R (y ∷ xs) x down all = (all_append (R y) xs (x ∷ []) down.0 (all.0, tt), follows_push R xs x down.1 all.1)

pub follows_filter : {X : Type 0} (R : X → X → Type 0) (p : X → Bool) (xs : List X) → Follows R xs → Follows R (filter p xs)
follows_filter R p [] down = tt
follows_filter R p (x ∷ xs) down =
    elim (p x) as (λ b. Follows R (cond b (x ∷ filter p xs) (filter p xs))) [
      | true ↦ (all_filter (R x) p xs down.0, follows_filter R p xs down.1)
      | false ↦ follows_filter R p xs down.1
    ]

pub all_map : {X Y : Type 0} (f : X → Y) (P : X → Type 0) (Q : Y → Type 0) (xs : List X) → ((x : X) → P x → Q (f x)) → AllByRecursion P xs → AllByRecursion Q (map f xs)
all_map f P Q [] each all = tt
all_map f P Q (x ∷ xs) each all = (each x all.0, all_map f P Q xs each all.1)

pub follows_map : {X Y : Type 0} (f : X → Y) (R : X → X → Type 0) (S : Y → Y → Type 0) (xs : List X) → ((x y : X) → R x y → S (f x) (f y)) → Follows R xs → Follows S (map f xs)
follows_map f R S [] each down = tt
follows_map f R S (x ∷ xs) each down = (all_map f (R x) (S (f x)) xs (each x) down.0, follows_map f R S xs each down.1)

-- putting in order keeps what holds both ways

follows_placed : {X : Type 0} (above : X → X → Bool) (R : X → X → Type 0) → ((x y : X) → R x y → R y x) → (xs : List X) (x : X) → AllByRecursion (R x) xs → Follows R xs → Follows R (placed above xs x)
follows_placed above R turn [] x new down = (tt, tt)
follows_placed above R turn (y ∷ xs) x new down =
    elim (above x y) as (λ b. Follows R (cond b (x ∷ y ∷ xs) (y ∷ placed above xs x))) [
      | true ↦ (new, down)
      | false ↦ (all_placed above (R y) xs x (turn x y new.0) down.0, follows_placed above R turn xs x new.1 down.1)
    ]

pub all_in_order : {X : Type 0} (above : X → X → Bool) (P : X → Type 0) (xs done : List X) → AllByRecursion P xs → AllByRecursion P done → AllByRecursion P (fold (placed above) done xs)
all_in_order above P [] done all now = now
all_in_order above P (x ∷ xs) done all now = all_in_order above P xs (placed above done x) all.1 (all_placed above P done x all.0 now)

follows_fold : {X : Type 0} (above : X → X → Bool) (R : X → X → Type 0) → ((x y : X) → R x y → R y x) → (xs done : List X) → Follows R xs → AllByRecursion (λ x. AllByRecursion (R x) done) xs → Follows R done → Follows R (fold (placed above) done xs)
follows_fold {X = X} above R turn [] done down cross now = now
follows_fold {X = X} above R turn (x ∷ xs) done down cross now =
    follows_fold above R turn xs (placed above done x) down.1 (both xs down.0 cross.1) (follows_placed above R turn done x cross.0 now)
  where
    both : (ys : List X) → AllByRecursion (R x) ys → AllByRecursion (λ y. AllByRecursion (R y) done) ys → AllByRecursion (λ y. AllByRecursion (R y) (placed above done x)) ys
    both [] a b = tt
    both (y ∷ ys) a b = (all_placed above (R y) done x (turn x y a.0) b.0, both ys a.1 b.1)

pub follows_in_order : {X : Type 0} (above : X → X → Bool) (R : X → X → Type 0) → ((x y : X) → R x y → R y x) → (xs : List X) → Follows R xs → Follows R (in_order above xs)
follows_in_order {X = X} above R turn xs down = follows_fold above R turn xs [] down (none xs) tt
  where
    none : (ys : List X) → AllByRecursion (λ y. AllByRecursion (R y) []) ys
    none [] = tt
    none (y ∷ ys) = (tt, none ys)

pub follows_from_pairs : {X : Type 0} (R : X → X → Type 0) (xs : List X) → AllPairs R xs → Follows R xs
follows_from_pairs R [] pairs = tt
follows_from_pairs R (x ∷ xs) pairs = (recursion_from_All (R x) xs (λ j d lt. pairs 0 (suc j) d (omega arith) (omega arith)), follows_from_pairs R xs (λ i j d lt within. pairs (suc i) (suc j) d (omega arith) (omega arith)))

pub follows_append : {X : Type 0} (R : X → X → Type 0) (xs ys : List X) → Follows R xs → Follows R ys → AllByRecursion (λ x. AllByRecursion (R x) ys) xs → Follows R (xs ++ ys)
follows_append R [] ys down more cross = more
follows_append R (x ∷ xs) ys down more cross = (all_append (R x) xs ys down.0 cross.0, follows_append R xs ys down.1 more cross.1)
