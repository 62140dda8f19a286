-- Lists from their ends.
use Rattle.std.proofs.Common.{◌≡◌, ℕ, zero, suc, ◌+◌, ◌<◌, List, [], ◌∷◌, ◌++◌, length, take, drop, map, refl, sym, ap, ◌∙◌, subst, append_assoc, zero-add, Bool, false, cond, Option, None, Some, arith}
use Rattle.std.specs.List.{last_or, count_by, All, suffix_len}
use Rattle.std.proofs.lemmas.List.{append-nil, reverse-append}
use Rattle.std.proofs.lemmas.List.Sums.{sum_by-cons, sum_by-append}
use Rattle.std.proofs.lemmas.List.Elements.{All-nil, All-cons, All-head, All-tail, All-append}

snoc_from : {X : Type 0} (P : List X → Type 0) → ((xs : List X) (x : X) → P xs → P (xs ++ x ∷ [])) → (xs more : List X) → P xs → P (xs ++ more)
snoc_from P step xs [] now = subst P (sym (append-nil xs)) now
snoc_from P step xs (x ∷ more) now = subst P (append_assoc xs (x ∷ []) more) (snoc_from P step (xs ++ x ∷ []) more (step xs x now))

-- what the empty list has, and one element more keeps, each list has
pub snoc_induction : {X : Type 0} (P : List X → Type 0) → P [] → ((xs : List X) (x : X) → P xs → P (xs ++ x ∷ [])) → (xs : List X) → P xs
snoc_induction P start step xs = snoc_from P step [] xs start

pub take_whole-append : {X : Type 0} (n : ℕ) (xs ys : List X) → n ≡ length xs → take n (xs ++ ys) ≡ xs
take_whole-append n [] ys h = rw h refl
take_whole-append zero (x ∷ xs) ys h = absurd (omega arith)
take_whole-append (suc n) (x ∷ xs) ys h = ap (λ l. x ∷ l) (take_whole-append n xs ys (omega arith))

pub drop_whole-append : {X : Type 0} (n : ℕ) (xs ys : List X) → n ≡ length xs → drop n (xs ++ ys) ≡ ys
drop_whole-append n [] ys h = rw h refl
drop_whole-append zero (x ∷ xs) ys h = absurd (omega arith)
drop_whole-append (suc n) (x ∷ xs) ys h = drop_whole-append n xs ys (omega arith)

-- a list and its part from some element on end alike
pub last_or-drop : {X : Type 0} (o u : Option X) (n : ℕ) (xs : List X) → n < length xs → last_or o (drop n xs) ≡ last_or u xs
last_or-drop o u n [] h = absurd (omega arith)
last_or-drop o u zero (x ∷ xs) h = refl
last_or-drop o u (suc n) (x ∷ xs) h = last_or-drop o (Some x) n xs (omega arith)

pub last_or-map : {X Y : Type 0} (f : X → Y) (o : Option Y) (x : X) (xs : List X) (u : Option X) (y : X) → last_or u (x ∷ xs) ≡ Some y → last_or o (map f (x ∷ xs)) ≡ Some (f y)
last_or-map f o x [] u y h = let e : x ≡ y = cc in ap (λ z. Some (f z)) e
last_or-map f o x (z ∷ zs) u y h = last_or-map f (Some (f x)) z zs (Some x) y h

pub suffix_len-push : {X : Type 0} (p : X → Bool) (xs : List X) (x : X) → suffix_len p (xs ++ x ∷ []) ≡ cond (p x) (1 + suffix_len p xs) 0
suffix_len-push p xs x = rw (reverse-append xs (x ∷ [])) refl

count_by-cons : {X : Type 0} (p : X → Bool) (x : X) (xs : List X) → count_by p (x ∷ xs) ≡ cond (p x) 1 0 + count_by p xs
count_by-cons p x xs = sum_by-cons (λ y. cond (p y) 1 0) x xs

pub count_by-append : {X : Type 0} (p : X → Bool) (xs ys : List X) → count_by p (xs ++ ys) ≡ count_by p xs + count_by p ys
count_by-append p xs ys = sum_by-append (λ y. cond (p y) 1 0) xs ys

pub count_by-map : {X Y : Type 0} (f : X → Y) (p : Y → Bool) (xs : List X) → count_by p (map f xs) ≡ count_by (λ x. p (f x)) xs
count_by-map f p [] = refl
count_by-map f p (x ∷ xs) =
    count_by-cons p (f x) (map f xs)
    ∙ ap (λ n. cond (p (f x)) 1 0 + n) (count_by-map f p xs)
    ∙ sym (count_by-cons (λ y. p (f y)) x xs)

-- where nothing passes, nothing is counted
pub count_by-none : {X : Type 0} (p : X → Bool) (xs : List X) → All (λ x. p x ≡ false) xs → count_by p xs ≡ 0
count_by-none p [] h = refl
count_by-none p (x ∷ xs) h =
    count_by-cons p x xs
    ∙ ap (λ b. cond b 1 0 + count_by p xs) (All-head (λ y. p y ≡ false) x xs h)
    ∙ zero-add (count_by p xs)
    ∙ count_by-none p xs (All-tail (λ y. p y ≡ false) x xs h)

pub All-push : {X : Type 0} (P : X → Type 0) (xs : List X) (x : X) → All P xs → P x → All P (xs ++ x ∷ [])
All-push P xs x old new = All-append P xs (x ∷ []) old (All-cons P x [] new (All-nil P))

-- what holds of each element of a list holds of the parts of it
pub All-append_left : {X : Type 0} (P : X → Type 0) (xs ys : List X) → All P (xs ++ ys) → All P xs
All-append_left P [] ys h = All-nil P
All-append_left P (x ∷ xs) ys h = All-cons P x xs (All-head P x (xs ++ ys) h) (All-append_left P xs ys (All-tail P x (xs ++ ys) h))

pub All-append_right : {X : Type 0} (P : X → Type 0) (xs ys : List X) → All P (xs ++ ys) → All P ys
All-append_right P [] ys h = h
All-append_right P (x ∷ xs) ys h = All-append_right P xs ys (All-tail P x (xs ++ ys) h)

pub All-implies : {X : Type 0} (P Q : X → Type 0) (xs : List X) → ((x : X) → P x → Q x) → All P xs → All Q xs
All-implies P Q xs f h = λ k d lt. f _ (h k d lt)

last_among : {X : Type 0} (P : X → Type 0) (x : X) (xs : List X) (y : X) → last_or (Some x) xs ≡ Some y → P x → All P xs → P y
last_among P x [] y h here all = let e : x ≡ y = cc in subst P e here
last_among P x (z ∷ zs) y h here all = last_among P z zs y h (All-head P z zs all) (All-tail P z zs all)

-- what holds of each element holds of the last
pub All-last : {X : Type 0} (P : X → Type 0) (xs : List X) (y : X) → last_or None xs ≡ Some y → All P xs → P y
All-last P [] y h all = cc
All-last P (x ∷ xs) y h all = last_among P x xs y h (All-head P x xs all) (All-tail P x xs all)
