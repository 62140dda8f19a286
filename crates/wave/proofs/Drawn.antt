-- Lists made place by place: what holds of all their items, and of all pairs of them.
use Rattle.std.specs.Prelude.{Option, Some, None, All, AllPairs}
use Rattle.std.specs.List.{range_with_len, filter_map, flat_map, cons_option}
use Rattle.std.proofs.Common.{◌≡◌, ℕ, zero, suc, ◌+◌, ◌<◌, ◌≤◌, List, [], ◌∷◌, ◌++◌, get_or, refl, arith}
use Rattle.std.proofs.lemmas.List.Elements.{All-nil, All-cons, All-append, All-tail}
use Rattle.std.proofs.lemmas.List.Kept.{AllPairs-cons}

-- an item that may be there in front of others

front_all : {Y : Type 0} (P : Y → Type 0) (o : Option Y) (ys : List Y) → ((y : Y) → o ≡ Some y → P y) → All P ys → All P (cons_option o ys)
front_all P None ys here rest = rest
front_all P (Some y) ys here rest = All-cons P y ys (here y refl) rest

front_pairs : {Y : Type 0} (R : Y → Y → Type 0) (o : Option Y) (ys : List Y) → ((y : Y) → o ≡ Some y → All (R y) ys) → AllPairs R ys → AllPairs R (cons_option o ys)
front_pairs R None ys here rest = rest
front_pairs R (Some y) ys here rest = AllPairs-cons R y ys (here y refl) rest

pub all_drawn : {Y : Type 0} (P : Y → Type 0) (f : ℕ → Option Y) (s n : ℕ) → ((i : ℕ) (y : Y) → s ≤ i → f i ≡ Some y → P y) → All P (filter_map f (range_with_len s n))
all_drawn P f s zero each = All-nil P
all_drawn P f s (suc n) each =
    front_all P (f s) (filter_map f (range_with_len (s + 1) n)) (λ y at. each s y (omega arith) at)
    (all_drawn P f (s + 1) n (λ i y low at. each i y (omega (arith, low)) at))

pub pairs_drawn : {Y : Type 0} (R : Y → Y → Type 0) (f : ℕ → Option Y) (s n : ℕ) → ((i j : ℕ) (x y : Y) → i < j → f i ≡ Some x → f j ≡ Some y → R x y) → AllPairs R (filter_map f (range_with_len s n))
pairs_drawn R f s zero each = λ i j d up inside. absurd (omega (arith, inside))
pairs_drawn R f s (suc n) each =
    front_pairs R (f s) (filter_map f (range_with_len (s + 1) n))
    (λ x at. all_drawn (R x) f (s + 1) n (λ j y low there. each s j x y (omega (arith, low)) at there))
    (pairs_drawn R f (s + 1) n each)

-- lists one behind the other

pub all_joined : {Y : Type 0} (P : Y → Type 0) (f : ℕ → List Y) (s n : ℕ) → ((k : ℕ) → s ≤ k → All P (f k)) → All P (flat_map f (range_with_len s n))
all_joined P f s zero each = All-nil P
all_joined P f s (suc n) each =
    All-append P (f s) (flat_map f (range_with_len (s + 1) n)) (each s (omega arith)) (all_joined P f (s + 1) n (λ k low. each k (omega (arith, low))))

AllPairs-append : {Y : Type 0} (R : Y → Y → Type 0) (xs ys : List Y) → AllPairs R xs → AllPairs R ys → All (λ x. All (R x) ys) xs → AllPairs R (xs ++ ys)
AllPairs-append R [] ys left right across = right
AllPairs-append R (x ∷ xs) ys left right across =
    AllPairs-cons R x (xs ++ ys)
    (All-append (R x) xs ys (λ j d inside. left 0 (suc j) d (omega arith) (omega (arith, inside))) (across 0 x (omega arith)))
    (AllPairs-append R xs ys (λ i j d up inside. left (suc i) (suc j) d (omega (arith, up)) (omega (arith, inside))) right (All-tail (λ y. All (R y) ys) x xs across))

pub pairs_joined : {Y : Type 0} (R : Y → Y → Type 0) (f : ℕ → List Y) (s n : ℕ) → ((k : ℕ) → AllPairs R (f k)) → ((k m : ℕ) → k < m → All (λ x. All (R x) (f m)) (f k)) → AllPairs R (flat_map f (range_with_len s n))
pairs_joined R f s zero each across = λ i j d up inside. absurd (omega (arith, inside))
pairs_joined R f s (suc n) each across =
    AllPairs-append R (f s) (flat_map f (range_with_len (s + 1) n)) (each s) (pairs_joined R f (s + 1) n each across)
    (λ i d inside. all_joined (R (get_or (f s) i d)) f (s + 1) n (λ m low. across s m (omega (arith, low)) i d inside))
