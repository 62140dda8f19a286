-- What a function does to the items of a list, place by place.
use Rattle.std.proofs.Common.{◌≡◌, ◌≢◌, ◌<◌, ℕ, zero, suc, List, [], ◌∷◌, ◌++◌, take, drop, length, Some, Bool, true, false, refl, ap, ◌∙◌, subst, arith}
use Rattle.std.specs.Prelude.{slice_get, slice_set, map, filter, cond}
use Rattle.std.specs.List.{AllByRecursion}

-- what holds of each item of a list is passed on to those behind the first
behind : {X : Type 0} (P : ℕ → X → Type 0) (x : X) (xs : List X) → ((i : ℕ) (y : X) → slice_get (x ∷ xs) i ≡ Some y → P i y) → (i : ℕ) (y : X) → slice_get xs i ≡ Some y → P (suc i) y
behind P x xs each i y at = each (suc i) y at

-- two functions that agree on each item, the second after a third one
pub map_agree : {X Y Z : Type 0} (f : X → Z) (g : Y → Z) (k : X → Y) (xs : List X) → ((i : ℕ) (x : X) → slice_get xs i ≡ Some x → f x ≡ g (k x)) → map f xs ≡ map g (map k xs)
map_agree f g k [] each = refl
map_agree f g k (x ∷ xs) each = λ i. each 0 x refl i ∷ map_agree f g k xs (behind (λ i y. f y ≡ g (k y)) x xs each) i

-- a function that leaves every item as it is
pub map_same : {X : Type 0} (f : X → X) (xs : List X) → ((x : X) → f x ≡ x) → map f xs ≡ xs
map_same f [] same = refl
map_same f (x ∷ xs) same = λ i. same x i ∷ map_same f xs same i

-- a function that leaves every item of a list as it is
pub map_kept : {X : Type 0} (f : X → X) (xs : List X) → ((i : ℕ) (x : X) → slice_get xs i ≡ Some x → f x ≡ x) → map f xs ≡ xs
map_kept f [] each = refl
map_kept f (x ∷ xs) each = λ i. each 0 x refl i ∷ map_kept f xs (behind (λ i y. f y ≡ y) x xs each) i

-- a function that changes one item alone
pub map_at : {X : Type 0} (f : X → X) (xs : List X) (n : ℕ) (x y : X) → slice_get xs n ≡ Some x → f x ≡ y → ((i : ℕ) (z : X) → slice_get xs i ≡ Some z → i ≢ n → f z ≡ z) → map f xs ≡ slice_set xs n y
map_at f [] n x y at is others = cc
map_at f (z ∷ xs) zero x y at is others =
    let same : z ≡ x = cc in
    λ i. (ap f same ∙ is) i ∷ map_kept f xs (λ k w there. others (suc k) w there (λ no. cc)) i
map_at f (z ∷ xs) (suc n) x y at is others =
    λ i. others 0 z refl (λ no. cc) i ∷ map_at f xs n x y at is (λ k w there other. others (suc k) w there (λ same. other (cc))) i

-- an item of the first n stands below n, and in the whole
pub get_take : {X : Type 0} (n : ℕ) (xs : List X) (k : ℕ) (x : X) → slice_get (take n xs) k ≡ Some x → (k < n) × (slice_get xs k ≡ Some x)
get_take zero xs k x at = cc
get_take (suc n) [] k x at = cc
get_take (suc n) (y ∷ xs) zero x at = (omega arith, at)
get_take (suc n) (y ∷ xs) (suc k) x at = let rest : (k < n) × (slice_get xs k ≡ Some x) = get_take n xs k x at in ((let lt : k < n = rest.0 in omega arith), rest.1)

-- the first items up to a known one, and those from it on
pub take_to : {X : Type 0} (xs : List X) (i : ℕ) (x : X) → slice_get xs i ≡ Some x → take (suc i) xs ≡ take i xs ++ x ∷ []
take_to [] i x at = cc
take_to (y ∷ xs) zero x at = ap (λ z. z ∷ []) (let same : y ≡ x = cc in same)
take_to (y ∷ xs) (suc i) x at = ap (λ l. y ∷ l) (take_to xs i x at)

-- what a drop begins with, and what is left
pub drop_at : {X : Type 0} (xs : List X) (i : ℕ) (x : X) (rest : List X) → drop i xs ≡ x ∷ rest → (slice_get xs i ≡ Some x) × (drop (suc i) xs ≡ rest)
drop_at [] zero x rest is = cc
drop_at [] (suc i) x rest is = cc
drop_at (y ∷ xs) zero x rest is = ((let same : y ≡ x = cc in ap Some same), (let same : xs ≡ rest = cc in same))
drop_at (y ∷ xs) (suc i) x rest is = drop_at xs i x rest is

-- what holds of each item holds of the one at a place
pub all_at : {X : Type 0} (P : X → Type 0) (xs : List X) (i : ℕ) (x : X) → AllByRecursion P xs → slice_get xs i ≡ Some x → P x
all_at P [] i x all at = cc
all_at P (y ∷ xs) zero x all at = subst P (let same : y ≡ x = cc in same) all.0
all_at P (y ∷ xs) (suc i) x all at = all_at P xs i x all.1 at

-- and of those that pass a test
pub all_filter : {X : Type 0} (P : X → Type 0) (p : X → Bool) (xs : List X) → AllByRecursion P xs → AllByRecursion P (filter p xs)
all_filter P p [] all = tt
all_filter P p (x ∷ xs) all = by (p x) (all_filter P p xs all.1)
  where
    by : (b : Bool) → AllByRecursion P (filter p xs) → AllByRecursion P (cond b (x ∷ filter p xs) (filter p xs))
    by true rest = (all.0, rest)
    by false rest = rest

-- the item behind a list
pub item_behind : {X : Type 0} (xs : List X) (y : X) → slice_get (xs ++ y ∷ []) (length xs) ≡ Some y
item_behind [] y = refl
item_behind (x ∷ xs) y = item_behind xs y
