-- Elements of lists by their places, and what holds of each element.
use Rattle.std.proofs.Common.{◌≡◌, ℕ, zero, suc, ◌-◌, ◌<◌, ◌≤◌, ◌⊎◌, inl, inr, ⊎_elim, List, [], ◌∷◌, ◌++◌, take, length, Some, None, refl, sym, ap, ◌∙◌, subst, arith, append_assoc}
use Rattle.std.specs.Prelude.{slice_get, filter, cond, true, false, Bool}
use Rattle.std.specs.List.{AllByRecursion, find, list_any}
use Rattle.std.proofs.lemmas.Bool.{cases_Bool}
use Rattle.std.proofs.lemmas.List.{append-nil}

pub slice_get-append_left : {X : Type 0} (xs ys : List X) (k : ℕ) → k < length xs → slice_get (xs ++ ys) k ≡ slice_get xs k
slice_get-append_left [] ys k lt = absurd (omega arith)
slice_get-append_left (x ∷ xs) ys zero lt = refl
slice_get-append_left (x ∷ xs) ys (suc k) lt = slice_get-append_left xs ys k (omega arith)

pub slice_get-mid : {X : Type 0} (xs : List X) (y : X) (ys : List X) → slice_get (xs ++ y ∷ ys) (length xs) ≡ Some y
slice_get-mid [] y ys = refl
slice_get-mid (x ∷ xs) y ys = slice_get-mid xs y ys

pub slice_get-push : {X : Type 0} (xs : List X) (y : X) → slice_get (xs ++ y ∷ []) (length xs) ≡ Some y
slice_get-push xs y = slice_get-mid xs y []

-- an element of a list with one more is one of the list's, or the one more
pub slice_get-push_cases : {X : Type 0} (xs : List X) (y : X) (k : ℕ) (x : X) → slice_get (xs ++ y ∷ []) k ≡ Some x → ((k < length xs) × (slice_get xs k ≡ Some x)) ⊎ ((k ≡ length xs) × (y ≡ x))
slice_get-push_cases [] y zero x at = inr (refl, cc)
slice_get-push_cases [] y (suc k) x at = cc
slice_get-push_cases (z ∷ xs) y zero x at = inl (omega arith, at)
slice_get-push_cases (z ∷ xs) y (suc k) x at =
    ⊎_elim
    (λ (old : (k < length xs) × (slice_get xs k ≡ Some x)). inl ((let lt : k < length xs = old.0 in omega arith), old.1))
    (λ (new : (k ≡ length xs) × (y ≡ x)). inr (ap suc new.0, new.1))
    (slice_get-push_cases xs y k x at)

-- an element of the first n stands below n, and in the whole
pub slice_get-take : {X : Type 0} (n : ℕ) (xs : List X) (k : ℕ) (x : X) → slice_get (take n xs) k ≡ Some x → (k < n) × (slice_get xs k ≡ Some x)
slice_get-take zero xs k x at = cc
slice_get-take (suc n) [] k x at = cc
slice_get-take (suc n) (y ∷ xs) zero x at = (omega arith, at)
slice_get-take (suc n) (y ∷ xs) (suc k) x at = let rest : (k < n) × (slice_get xs k ≡ Some x) = slice_get-take n xs k x at in ((let lt : k < n = rest.0 in omega arith), rest.1)

-- the first elements up to a known one
pub take-suc_at : {X : Type 0} (xs : List X) (i : ℕ) (x : X) → slice_get xs i ≡ Some x → take (suc i) xs ≡ take i xs ++ x ∷ []
take-suc_at [] i x at = cc
take-suc_at (y ∷ xs) zero x at = let same : y ≡ x = cc in ap (λ z. z ∷ []) same
take-suc_at (y ∷ xs) (suc i) x at = ap (λ l. y ∷ l) (take-suc_at xs i x at)

-- what the empty list has, and one element more keeps, each list has

snoc_from : {X : Type 0} (P : List X → Type 0) → ((xs : List X) (x : X) → P xs → P (xs ++ x ∷ [])) → (xs more : List X) → P xs → P (xs ++ more)
snoc_from P step xs [] now = subst P (sym (append-nil xs)) now
snoc_from P step xs (x ∷ more) now = subst P (append_assoc xs (x ∷ []) more) (snoc_from P step (xs ++ x ∷ []) more (step xs x now))

pub snoc_induction : {X : Type 0} (P : List X → Type 0) → P [] → ((xs : List X) (x : X) → P xs → P (xs ++ x ∷ [])) → (xs : List X) → P xs
snoc_induction P start step xs = snoc_from P step [] xs start

-- what holds of each element

pub all_append : {X : Type 0} (P : X → Type 0) (xs ys : List X) → AllByRecursion P xs → AllByRecursion P ys → AllByRecursion P (xs ++ ys)
all_append P [] ys h k = k
all_append P (x ∷ xs) ys h k = (h.0, all_append P xs ys h.1 k)

pub all_weaker : {X : Type 0} (P Q : X → Type 0) (xs : List X) → ((x : X) → P x → Q x) → AllByRecursion P xs → AllByRecursion Q xs
all_weaker P Q [] f h = tt
all_weaker P Q (x ∷ xs) f h = (f x h.0, all_weaker P Q xs f h.1)

pub all_filter : {X : Type 0} (P : X → Type 0) (p : X → Bool) (xs : List X) → AllByRecursion P xs → AllByRecursion P (filter p xs)
all_filter P p [] h = tt
all_filter P p (x ∷ xs) h = elim (p x) as (λ b. AllByRecursion P (cond b (x ∷ filter p xs) (filter p xs))) [ true ↦ (h.0, all_filter P p xs h.1) | false ↦ all_filter P p xs h.1 ]

-- what passes a filter passes its test, and has what all had
pub all_passed : {X : Type 0} (P Q : X → Type 0) (p : X → Bool) (xs : List X) → ((x : X) → p x ≡ true → P x → Q x) → AllByRecursion P xs → AllByRecursion Q (filter p xs)
all_passed P Q p [] f h = tt
all_passed P Q p (x ∷ xs) f h =
    ⊎_elim
    (λ (yes : p x ≡ true). rw yes (f x yes h.0, all_passed P Q p xs f h.1))
    (λ (no : p x ≡ false). rw no (all_passed P Q p xs f h.1))
    (cases_Bool (p x))

pub filter_same : {X : Type 0} (p q : X → Bool) (xs : List X) → AllByRecursion (λ x. p x ≡ q x) xs → filter p xs ≡ filter q xs
filter_same p q [] h = refl
filter_same p q (x ∷ xs) h = λ i. cond (h.0 i) (x ∷ filter_same p q xs h.1 i) (filter_same p q xs h.1 i)

pub filter_all : {X : Type 0} (p : X → Bool) (xs : List X) → AllByRecursion (λ x. p x ≡ true) xs → filter p xs ≡ xs
filter_all p [] h = refl
filter_all p (x ∷ xs) h = rw h.0 (ap (λ l. x ∷ l) (filter_all p xs h.1))

pub filter_none : {X : Type 0} (p : X → Bool) (xs : List X) → AllByRecursion (λ x. p x ≡ false) xs → filter p xs ≡ []
filter_none p [] h = refl
filter_none p (x ∷ xs) h = rw h.0 (filter_none p xs h.1)

-- a filter after a weaker one
pub filter-filter : {X : Type 0} (p q : X → Bool) (xs : List X) → AllByRecursion (λ x. p x ≡ false → q x ≡ false) xs → filter q (filter p xs) ≡ filter q xs
filter-filter p q [] h = refl
filter-filter p q (x ∷ xs) h =
    ⊎_elim
    (λ (yes : p x ≡ true). rw yes (ap (λ l. cond (q x) (x ∷ l) l) (filter-filter p q xs h.1)))
    (λ (no : p x ≡ false). let off : q x ≡ false = h.0 no in rw (no, off) (filter-filter p q xs h.1))
    (cases_Bool (p x))

pub find_none : {X : Type 0} (p : X → Bool) (xs : List X) → AllByRecursion (λ x. p x ≡ false) xs → find p xs ≡ None
find_none p [] h = refl
find_none p (x ∷ xs) h = rw h.0 (find_none p xs h.1)

pub list_any_none : {X : Type 0} (p : X → Bool) (xs : List X) → AllByRecursion (λ x. p x ≡ false) xs → list_any p xs ≡ false
list_any_none p [] h = refl
list_any_none p (x ∷ xs) h = rw h.0 (list_any_none p xs h.1)

pub slice_get_within : {X : Type 0} (xs : List X) (k : ℕ) (x : X) → slice_get xs k ≡ Some x → k < length xs
slice_get_within [] k x at = cc
slice_get_within (y ∷ xs) zero x at = omega arith
slice_get_within (y ∷ xs) (suc k) x at = let rest : k < length xs = slice_get_within xs k x at in omega arith

pub all_at : {X : Type 0} (P : X → Type 0) (xs : List X) (i : ℕ) (x : X) → AllByRecursion P xs → slice_get xs i ≡ Some x → P x
all_at P [] i x all at = cc
all_at P (y ∷ ys) zero x all at = let same : y ≡ x = cc in subst P same all.0
all_at P (y ∷ ys) (suc i) x all at = all_at P ys i x all.1 at

pub slice_get-append_right : {X : Type 0} (xs ys : List X) (i : ℕ) → length xs ≤ i → slice_get (xs ++ ys) i ≡ slice_get ys (i - length xs)
slice_get-append_right [] ys i le = ap (slice_get ys) (omega arith)
slice_get-append_right (x ∷ xs) ys zero le = absurd (omega arith)
slice_get-append_right (x ∷ xs) ys (suc i) le = slice_get-append_right xs ys i (omega arith) ∙ ap (slice_get ys) (omega arith)

-- below its length a list has an element
pub slice_get-get : {X : Type 0} (xs : List X) (k : ℕ) → k < length xs → (x : X) × (slice_get xs k ≡ Some x)
slice_get-get [] k lt = absurd (omega arith)
slice_get-get (y ∷ xs) zero lt = (y, refl)
slice_get-get (y ∷ xs) (suc k) lt = slice_get-get xs k (omega arith)
