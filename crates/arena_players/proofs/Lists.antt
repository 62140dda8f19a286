-- Lists by their places: items that are read and written.
use Rattle.std.proofs.Common.{◌≡◌, ℕ, zero, suc, ◌<◌, ⊎_elim, List, [], ◌∷◌, length, get_or, set, Some, refl, sym, ap, subst, ◌∙◌, arith, true, false}
use Rattle.std.specs.Prelude.{slice_get, ◌≢◌, ◌==◌}
use Rattle.std.specs.List.{All}
use Rattle.std.proofs.lemmas.Bool.{cases_Bool, eqb-true, eqb-false}
use Rattle.std.proofs.lemmas.Option.{slice_get_within, get_or_from_slice_get}

-- each item holds what is said of its place
abbrev pub Each : {X : Type 0} → (ℕ → X → Type 0) → List X → Type 0
Each {X} P xs = (p : ℕ) (x : X) → slice_get xs p ≡ Some x → P p x

pub get_at : {X : Type 0} (xs : List X) (i : ℕ) (d : X) → i < length xs → slice_get xs i ≡ Some (get_or xs i d)
get_at [] i d lt = absurd (omega (arith, lt))
get_at (x ∷ xs) zero d lt = refl
get_at (x ∷ xs) (suc i) d lt = get_at xs i d (omega (arith, lt))

-- an item that was read is the item at its place
pub get_read : {X : Type 0} (xs : List X) (i : ℕ) (x : X) → i < length xs → x ≡ get_or xs i x → slice_get xs i ≡ Some x
get_read xs i x lt is = get_at xs i x lt ∙ ap (λ y. Some y) (sym is)

pub get_set_same : {X : Type 0} (xs : List X) (i : ℕ) (x : X) → i < length xs → slice_get (set xs i x) i ≡ Some x
get_set_same [] i x lt = absurd (omega (arith, lt))
get_set_same (y ∷ xs) zero x lt = refl
get_set_same (y ∷ xs) (suc i) x lt = get_set_same xs i x (omega (arith, lt))

pub get_set_other : {X : Type 0} (xs : List X) (i j : ℕ) (x : X) → i ≢ j → slice_get (set xs i x) j ≡ slice_get xs j
get_set_other [] i j x other = refl
get_set_other (y ∷ xs) zero zero x other = absurd (other refl)
get_set_other (y ∷ xs) zero (suc j) x other = refl
get_set_other (y ∷ xs) (suc i) zero x other = refl
get_set_other (y ∷ xs) (suc i) (suc j) x other = get_set_other xs i j x (λ same. other (ap suc same))

pub get_set_within : {X : Type 0} (xs : List X) (i : ℕ) (x y : X) → slice_get (set xs i x) i ≡ Some y → x ≡ y
get_set_within [] i x y e = cc
get_set_within (z ∷ xs) zero x y e = cc
get_set_within (z ∷ xs) (suc i) x y e = get_set_within xs i x y e

-- with one item written each other item holds more of what it held, and this one what is said of its place
pub each_set : {X : Type 0} (P Q : ℕ → X → Type 0) (xs : List X) (i : ℕ) (x : X) → Each P xs → ((p : ℕ) (y : X) → i ≢ p → P p y → Q p y) → Q i x → Each Q (set xs i x)
each_set {X = X} P Q xs i x each others here p y at =
    ⊎_elim
    (λ (same : (i == p) ≡ true).
    let is : i ≡ p = eqb-true i p same in
    let item : x ≡ y = get_set_within xs i x y (ap (slice_get (set xs i x)) is ∙ at) in
    subst (λ q. Q q y) is (subst (Q i) item here))
    (λ (other : (i == p) ≡ false). others p y (eqb-false i p other) (each p y (sym (get_set_other xs i p x (eqb-false i p other)) ∙ at)))
    (cases_Bool (i == p))

pub all_held : {X : Type 0} (P : X → Type 0) (xs : List X) (i : ℕ) (x : X) → All P xs → slice_get xs i ≡ Some x → P x
all_held P xs i x all at = subst P (get_or_from_slice_get xs i x x at) (all i x (slice_get_within xs i x at))

pub tail_all : {X : Type 0} (P : X → Type 0) (x : X) (xs : List X) → All P (x ∷ xs) → All P xs
tail_all P x xs all = λ k d lt. all (suc k) d (omega arith)
