-- Items of lists by their places, and lists of which each item tells of the other's.
use Rattle.std.proofs.Common.{◌≡◌, ℕ, zero, suc, ◌<◌, List, [], ◌∷◌, ◌++◌, length, get_or, set, drop, Some, None, refl, sym, ap, subst, ◌∙◌, arith}
use Rattle.std.specs.Prelude.{slice_get}
use Rattle.std.specs.List.{All, AllZip}

pub get_at : {X : Type 0} (xs : List X) (i : ℕ) (d : X) → i < length xs → slice_get xs i ≡ Some (get_or xs i d)
get_at [] i d lt = absurd (omega (arith, lt))
get_at (x ∷ xs) zero d lt = refl
get_at (x ∷ xs) (suc i) d lt = get_at xs i d (omega (arith, lt))

-- an item that was read is the item at its place
pub get_read : {X : Type 0} (xs : List X) (i : ℕ) (x : X) → i < length xs → x ≡ get_or xs i x → slice_get xs i ≡ Some x
get_read xs i x lt is = get_at xs i x lt ∙ ap (λ y. Some y) (sym is)

pub get_within : {X : Type 0} (xs : List X) (i : ℕ) (x : X) → slice_get xs i ≡ Some x → i < length xs
get_within [] i x e = cc
get_within (x ∷ xs) zero y e = omega arith
get_within (x ∷ xs) (suc i) y e = let h = get_within xs i y e in omega arith

pub get_holds : {X : Type 0} (P : X → Type 0) (xs : List X) (i : ℕ) (x : X) → All P xs → slice_get xs i ≡ Some x → P x
get_holds P xs i x all is =
    let lt = get_within xs i x is in
    let same : get_or xs i x ≡ x = (let e = get_at xs i x lt in cc) in
    subst P same (all i x lt)

pub zip_length : {X Y : Type 0} (R : X → Y → Type 0) (xs : List X) (ys : List Y) → AllZip R xs ys → length xs ≡ length ys
zip_length R [] [] z = refl
zip_length R [] (y ∷ ys) z = absurd z
zip_length R (x ∷ xs) [] z = absurd z
zip_length R (x ∷ xs) (y ∷ ys) z = ap suc (zip_length R xs ys z.1)

pub zip_none : {X Y : Type 0} (R : X → Y → Type 0) (xs : List X) (ys : List Y) (i : ℕ) → AllZip R xs ys → slice_get xs i ≡ None → slice_get ys i ≡ None
zip_none R [] [] i z e = refl
zip_none R [] (y ∷ ys) i z e = absurd z
zip_none R (x ∷ xs) [] i z e = absurd z
zip_none R (x ∷ xs) (y ∷ ys) zero z e = cc
zip_none R (x ∷ xs) (y ∷ ys) (suc i) z e = zip_none R xs ys i z.1 e

-- the item at the same place
pub record Beside {X Y : Type 0} (R : X → Y → Type 0) (x : X) (ys : List Y) (i : ℕ) : Type 0 where
  pub item : Y
  pub there : slice_get ys i ≡ Some item
  pub tells : R x item

pub zip_some : {X Y : Type 0} (R : X → Y → Type 0) (xs : List X) (ys : List Y) (i : ℕ) (x : X) → AllZip R xs ys → slice_get xs i ≡ Some x → Beside R x ys i
zip_some R [] ys i x z e = cc
zip_some R (x ∷ xs) [] i w z e = absurd z
zip_some {Y = Y} R (x ∷ xs) (y ∷ ys) zero w z e = record { item = y; there = refl; tells = (let same : x ≡ w = cc in subst (λ v. R v y) same z.0) }
zip_some R (x ∷ xs) (y ∷ ys) (suc i) w z e =
    let b = zip_some R xs ys i w z.1 e in
    record { item = b.item; there = b.there; tells = b.tells }

pub zip_tells : {X Y : Type 0} (R : X → Y → Type 0) (xs : List X) (ys : List Y) (i : ℕ) (x : X) (y : Y) → AllZip R xs ys → slice_get xs i ≡ Some x → slice_get ys i ≡ Some y → R x y
zip_tells R xs ys i x y z e f =
    let b = zip_some R xs ys i x z e in
    let same : b.item ≡ y = (let there = b.there in cc) in
    subst (λ v. R x v) same b.tells

pub zip_set : {X Y : Type 0} (R : X → Y → Type 0) (xs : List X) (ys : List Y) (i : ℕ) (x : X) (y : Y) → AllZip R xs ys → R x y → AllZip R (set xs i x) (set ys i y)
zip_set R [] [] i x y z r = z
zip_set R [] (b ∷ ys) i x y z r = absurd z
zip_set R (a ∷ xs) [] i x y z r = absurd z
zip_set R (a ∷ xs) (b ∷ ys) zero x y z r = (r, z.1)
zip_set R (a ∷ xs) (b ∷ ys) (suc i) x y z r = (z.0, zip_set R xs ys i x y z.1 r)

pub zip_append : {X Y : Type 0} (R : X → Y → Type 0) (xs us : List X) (ys vs : List Y) → AllZip R xs ys → AllZip R us vs → AllZip R (xs ++ us) (ys ++ vs)
zip_append R [] us [] vs z w = w
zip_append R [] us (y ∷ ys) vs z w = absurd z
zip_append R (x ∷ xs) us [] vs z w = absurd z
zip_append R (x ∷ xs) us (y ∷ ys) vs z w = (z.0, zip_append R xs us ys vs z.1 w)

pub zip_drop : {X Y : Type 0} (R : X → Y → Type 0) (n : ℕ) (xs : List X) (ys : List Y) → AllZip R xs ys → AllZip R (drop n xs) (drop n ys)
zip_drop R zero xs ys z = z
zip_drop R (suc n) [] [] z = z
zip_drop R (suc n) [] (y ∷ ys) z = absurd z
zip_drop R (suc n) (x ∷ xs) [] z = absurd z
zip_drop R (suc n) (x ∷ xs) (y ∷ ys) z = zip_drop R n xs ys z.1

-- a list round one of its places
pub record Round {X : Type 0} (xs : List X) (i : ℕ) (x : X) : Type 0 where
  pub before : List X
  pub behind : List X
  pub whole : xs ≡ before ++ x ∷ behind
  pub place : length before ≡ i
  pub written : (y : X) → set xs i y ≡ before ++ y ∷ behind

pub round : {X : Type 0} (xs : List X) (i : ℕ) (x : X) → slice_get xs i ≡ Some x → Round xs i x
round [] i x e = cc
round (w ∷ xs) zero x e = record { before = []; behind = xs; whole = (let same : w ≡ x = cc in ap (λ v. v ∷ xs) same); place = refl; written = λ y. refl }
round (w ∷ xs) (suc i) x e =
    let r = round xs i x e in
    record { before = w ∷ r.before; behind = r.behind; whole = ap (λ v. w ∷ v) r.whole; place = ap suc r.place; written = λ y. ap (λ v. w ∷ v) (r.written y) }
