-- The numbers of the items that pass.
use Rattle.std.proofs.Common.{◌≡◌, ℕ, zero, suc, ◌+◌, ◌<◌, ◌≤◌, List, [], ◌∷◌, ◌++◌, length, get_or, set, take, drop, cond, Option, Some, None, Bool, true, false, refl, sym, ap, ◌∙◌, arith}
use Rattle.std.specs.Prelude.{slice_get}
use Rattle.std.specs.List.{All, AllPass, find, count_by, range_with_len}
use Rattle.std.proofs.lemmas.List.Sums.{sum_by-cons}
use Rattle.arena_games.specs.Courses.{numbers_where}
use Rattle.arena_games.specs.Moments.{first_from}
use Rattle.arena_games.specs.Numbers.{IsParted, IsPartedBy}
use Rattle.std.proofs.lemmas.List.Elements.{All-cons, All-nil, All-head, All-tail}
use Rattle.arena_games.proofs.Items.{Round, round}
use Rattle.arena_games.proofs.Parts.{from_place}

cond_append : (b : Bool) (n : ℕ) (xs ys : List ℕ) → cond b (n ∷ (xs ++ ys)) (xs ++ ys) ≡ cond b (n ∷ xs) xs ++ ys
cond_append true n xs ys = refl
cond_append false n xs ys = refl

pub numbers-append : {X : Type 0} (p : X → Bool) (n m : ℕ) (xs ys : List X) → m ≡ n + length xs → numbers_where p n (xs ++ ys) ≡ numbers_where p n xs ++ numbers_where p m ys
numbers-append p n m [] ys e = ap (λ k. numbers_where p k ys) (let f : n ≡ m = omega arith in f)
numbers-append p n m (x ∷ xs) ys e =
    ap (λ ns. cond (p x) (n ∷ ns) ns) (numbers-append p (suc n) m xs ys (omega arith)) ∙ cond_append (p x) n (numbers_where p (suc n) xs) (numbers_where p m ys)

pub numbers-split : {X : Type 0} (p : X → Bool) (j n m : ℕ) (xs : List X) → m ≡ n + j → numbers_where p n xs ≡ numbers_where p n (take j xs) ++ numbers_where p m (drop j xs)
numbers-split p zero n m xs e = ap (λ k. numbers_where p k xs) (let f : n ≡ m = omega arith in f)
numbers-split p (suc j) n m [] e = refl
numbers-split p (suc j) n m (x ∷ xs) e =
    ap (λ ns. cond (p x) (n ∷ ns) ns) (numbers-split p j (suc n) m xs (omega arith)) ∙ cond_append (p x) n (numbers_where p (suc n) (take j xs)) (numbers_where p m (drop j xs))

all_cond : (P : ℕ → Type 0) (b : Bool) (n : ℕ) (ns : List ℕ) → P n → All P ns → All P (cond b (n ∷ ns) ns)
all_cond P true n ns here rest = All-cons P n ns here rest
all_cond P false n ns here rest = rest

all_more : (P Q : ℕ → Type 0) (ns : List ℕ) → ((n : ℕ) → P n → Q n) → All P ns → All Q ns
all_more P Q ns more all k d lt = more _ (all k d lt)

-- the numbers count from the first one on
pub numbers_from : {X : Type 0} (p : X → Bool) (n : ℕ) (xs : List X) → All (λ m. n ≤ m) (numbers_where p n xs)
numbers_from p n [] = All-nil (λ m. n ≤ m)
numbers_from p n (x ∷ xs) =
    all_cond (λ m. n ≤ m) (p x) n (numbers_where p (suc n) xs) (omega arith)
    (all_more (λ m. suc n ≤ m) (λ m. n ≤ m) (numbers_where p (suc n) xs) (λ m le. omega arith) (numbers_from p (suc n) xs))

-- and end before that behind the last item
pub numbers_below : {X : Type 0} (p : X → Bool) (n e : ℕ) (xs : List X) → e ≡ n + length xs → All (λ m. m < e) (numbers_where p n xs)
numbers_below p n e [] is = All-nil (λ m. m < e)
numbers_below p n e (x ∷ xs) is = all_cond (λ m. m < e) (p x) n (numbers_where p (suc n) xs) (omega arith) (numbers_below p (suc n) e xs (omega arith))

pub taken_below : {X : Type 0} (p : X → Bool) (j n e : ℕ) (xs : List X) → e ≡ n + j → All (λ m. m < e) (numbers_where p n (take j xs))
taken_below p zero n e xs is = All-nil (λ m. m < e)
taken_below p (suc j) n e [] is = All-nil (λ m. m < e)
taken_below p (suc j) n e (x ∷ xs) is = all_cond (λ m. m < e) (p x) n (numbers_where p (suc n) (take j xs)) (omega arith) (taken_below p j (suc n) e xs (omega arith))

pub parted : {X : Type 0} (p : X → Bool) (xs : List X) (ns : List ℕ) (n : ℕ) → ns ≡ numbers_where p 0 xs → IsParted ns n
parted p xs ns n is = record {
  below = numbers_where p 0 (take n xs);
  others = numbers_where p n (drop n xs);
  whole = is ∙ numbers-split p n 0 n xs (omega arith);
  are_below = taken_below p n 0 n xs (omega arith);
  are_not = numbers_from p n (drop n xs);
}

at_number : {X : Type 0} (p : X → Bool) (xs : List X) (n : ℕ) (x y : X) (r : Round xs n x)
    → numbers_where p 0 (set xs n y) ≡ numbers_where p 0 r.before ++ cond (p y) (n ∷ numbers_where p (suc n) r.behind) (numbers_where p (suc n) r.behind)
at_number p xs n x y r = ap (numbers_where p 0) (r.written y) ∙ numbers-append p 0 n r.before (y ∷ r.behind) (let e = r.place in omega arith)

whole_at : {X : Type 0} (p : X → Bool) (xs : List X) (n : ℕ) (x : X) (r : Round xs n x)
    → numbers_where p 0 xs ≡ numbers_where p 0 r.before ++ cond (p x) (n ∷ numbers_where p (suc n) r.behind) (numbers_where p (suc n) r.behind)
whole_at p xs n x r = ap (numbers_where p 0) r.whole ∙ numbers-append p 0 n r.before (x ∷ r.behind) (let e = r.place in omega arith)

-- the numbers round that of an item that passes
pub parted_by : {X : Type 0} (p : X → Bool) (xs : List X) (ns : List ℕ) (n : ℕ) (x : X) → ns ≡ numbers_where p 0 xs → slice_get xs n ≡ Some x → p x ≡ true → IsPartedBy ns n
parted_by p xs ns n x is there passes =
    let r = round xs n x there in
    record {
      below = numbers_where p 0 r.before;
      above = numbers_where p (suc n) r.behind;
      whole = is ∙ (whole_at p xs n x r ∙ ap (λ b. numbers_where p 0 r.before ++ cond b (n ∷ numbers_where p (suc n) r.behind) (numbers_where p (suc n) r.behind)) passes);
      are_below = numbers_below p 0 n r.before (let e = r.place in omega arith);
      are_above = numbers_from p (suc n) r.behind;
    }

-- an item that passes is replaced by one that does not
pub numbers_without : {X : Type 0} (p : X → Bool) (xs : List X) (ns : List ℕ) (n : ℕ) (x y : X) (is : ns ≡ numbers_where p 0 xs) (there : slice_get xs n ≡ Some x) (passes : p x ≡ true) → p y ≡ false
    → let q = parted_by p xs ns n x is there passes in q.below ++ q.above ≡ numbers_where p 0 (set xs n y)
unfolding parted_by
numbers_without p xs ns n x y is there passes fails =
    let r = round xs n x there in
    sym (at_number p xs n x y r ∙ ap (λ b. numbers_where p 0 r.before ++ cond b (n ∷ numbers_where p (suc n) r.behind) (numbers_where p (suc n) r.behind)) fails)

-- an item is replaced by one that passes where it does
pub numbers_kept : {X : Type 0} (p : X → Bool) (xs : List X) (n : ℕ) (x y : X) → slice_get xs n ≡ Some x → p y ≡ p x → numbers_where p 0 (set xs n y) ≡ numbers_where p 0 xs
numbers_kept p xs n x y there same =
    let r = round xs n x there in
    at_number p xs n x y r ∙ (ap (λ b. numbers_where p 0 r.before ++ cond b (n ∷ numbers_where p (suc n) r.behind) (numbers_where p (suc n) r.behind)) same ∙ sym (whole_at p xs n x r))

length_cond : (b : Bool) (n : ℕ) (ns : List ℕ) → length (cond b (n ∷ ns) ns) ≡ cond b 1 0 + length ns
length_cond true n ns = omega arith
length_cond false n ns = omega arith

pub length-numbers : {X : Type 0} (p : X → Bool) (n : ℕ) (xs : List X) → length (numbers_where p n xs) ≡ count_by p xs
length-numbers p n [] = refl
length-numbers p n (x ∷ xs) =
    length_cond (p x) n (numbers_where p (suc n) xs) ∙ (ap (λ k. cond (p x) 1 0 + k) (length-numbers p (suc n) xs) ∙ sym (sum_by-cons (λ y. cond (p y) 1 0) x xs))

length_most : (b : Bool) (n e : ℕ) (ns : List ℕ) → length ns ≤ e → length (cond b (n ∷ ns) ns) ≤ suc e
length_most true n e ns le = omega arith
length_most false n e ns le = omega arith

pub length-numbers-le : {X : Type 0} (p : X → Bool) (n : ℕ) (xs : List X) → length (numbers_where p n xs) ≤ length xs
length-numbers-le p n [] = omega arith
length-numbers-le p n (x ∷ xs) = length_most (p x) n (length xs) (numbers_where p (suc n) xs) (length-numbers-le p (suc n) xs)

-- the item of a number passes
abbrev pub passes_at : {X : Type 0} → (X → Bool) → Option X → Bool
passes_at p None = false
passes_at p (Some x) = p x

get_dropped : {X : Type 0} (n : ℕ) (ys : List X) (x : X) (xs : List X) → drop n ys ≡ x ∷ xs → slice_get ys n ≡ Some x
get_dropped zero [] x xs e = cc
get_dropped zero (y ∷ ys) x xs e = cc
get_dropped (suc n) [] x xs e = cc
get_dropped (suc n) (y ∷ ys) x xs e = get_dropped n ys x xs e

next_dropped : {X : Type 0} (n : ℕ) (ys : List X) (x : X) (xs : List X) → drop n ys ≡ x ∷ xs → drop (suc n) ys ≡ xs
next_dropped zero [] x xs e = cc
next_dropped zero (y ∷ ys) x xs e = cc
next_dropped (suc n) [] x xs e = cc
next_dropped (suc n) (y ∷ ys) x xs e = next_dropped n ys x xs e

found_by : (passes listed : Bool) (n : ℕ) (ns : List ℕ) (f : ℕ → Bool) (rest : Option ℕ) → f n ≡ passes → (listed ≡ false → passes ≡ false) → rest ≡ find f ns
    → cond passes (Some n) rest ≡ find f (cond listed (n ∷ ns) ns)
found_by passes true n ns f rest here off is = λ i. cond (sym here i) (Some n) (is i)
found_by passes false n ns f rest here off is = ap (λ b. cond b (Some n) rest) (off refl) ∙ is

-- the first item that passes is found among the numbers of some that are listed, if those that are not do not pass
pub first_listed : {X : Type 0} (p r : X → Bool) (ys : List X) (n : ℕ) (xs : List X) → ((x : X) → r x ≡ false → p x ≡ false) → drop n ys ≡ xs
    → first_from p n xs ≡ find (λ m. passes_at p (slice_get ys m)) (numbers_where r n xs)
first_listed p r ys n [] off is = refl
first_listed p r ys n (x ∷ xs) off is =
    found_by (p x) (r x) n (numbers_where r (suc n) xs) (λ m. passes_at p (slice_get ys m)) (first_from p (suc n) xs)
    (ap (passes_at p) (get_dropped n ys x xs is)) (off x) (first_listed p r ys (suc n) xs off (next_dropped n ys x xs is))

-- where all items pass, their numbers are all numbers
pub numbers_all : {X : Type 0} (p : X → Bool) (n : ℕ) (xs : List X) → AllPass p xs → numbers_where p n xs ≡ range_with_len n (length xs)
numbers_all p n [] all = refl
numbers_all p n (x ∷ xs) all =
    ap (λ b. cond b (n ∷ numbers_where p (suc n) xs) (numbers_where p (suc n) xs)) (All-head (λ y. p y ≡ true) x xs all)
    ∙ ap (λ ns. n ∷ ns) (ap (λ m. numbers_where p m xs) (let f : suc n ≡ n + 1 = omega arith in f) ∙ numbers_all p (n + 1) xs (All-tail (λ y. p y ≡ true) x xs all))

-- items that all pass stand behind the others
pub numbers_more : {X : Type 0} (p : X → Bool) (xs ys : List X) (ns : List ℕ) (n k : ℕ) → ns ≡ numbers_where p 0 xs → n ≡ length xs → k ≡ length ys → AllPass p ys
    → ns ++ range_with_len n k ≡ numbers_where p 0 (xs ++ ys)
numbers_more p xs ys ns n k is at many all =
    (λ i. is i ++ range_with_len n (many i)) ∙ (ap (λ ms. numbers_where p 0 xs ++ ms) (sym (numbers_all p n ys all)) ∙ sym (numbers-append p 0 n xs ys (omega arith)))

-- one number more
pub range_more : (n k : ℕ) → range_with_len n (suc k) ≡ range_with_len n k ++ (n + k) ∷ []
range_more n zero = ap (λ m. m ∷ []) (let f : n ≡ n + 0 = omega arith in f)
range_more n (suc k) = ap (λ ms. n ∷ ms) (range_more (n + 1) k ∙ ap (λ m. range_with_len (n + 1) k ++ m ∷ []) (let f : n + 1 + k ≡ n + suc k = omega arith in f))

pub all_dropped : (P : ℕ → Type 0) (n : ℕ) (xs : List ℕ) → All P xs → All P (drop n xs)
all_dropped P zero xs all = all
all_dropped P (suc n) [] all = all
all_dropped P (suc n) (x ∷ xs) all = all_dropped P n xs (All-tail P x xs all)

-- a search that has come to a place
pub find_here : (f : ℕ → Bool) (xs : List ℕ) (i d : ℕ) → i < length xs → f (get_or xs i d) ≡ true → find f (drop i xs) ≡ Some (get_or xs i d)
find_here f [] i d lt e = absurd (omega (arith, lt))
find_here f (x ∷ xs) zero d lt e = ap (λ b. cond b (Some x) (find f xs)) e
find_here f (x ∷ xs) (suc i) d lt e = find_here f xs i d (omega (arith, lt)) e

pub find_next : (f : ℕ → Bool) (xs : List ℕ) (i d : ℕ) → i < length xs → f (get_or xs i d) ≡ false → find f (drop (suc i) xs) ≡ find f (drop i xs)
find_next f [] i d lt e = absurd (omega (arith, lt))
find_next f (x ∷ xs) zero d lt e = sym (ap (λ b. cond b (Some x) (find f xs)) e)
find_next f (x ∷ xs) (suc i) d lt e = find_next f xs i d (omega (arith, lt)) e

pub find_end : (f : ℕ → Bool) (xs : List ℕ) (i : ℕ) → length xs ≤ i → find f (drop i xs) ≡ None
find_end f [] zero le = refl
find_end f [] (suc i) le = refl
find_end f (x ∷ xs) zero le = absurd (omega (arith, le))
find_end f (x ∷ xs) (suc i) le = find_end f xs i (omega (arith, le))

-- where the first item is found that passes
pub first_within : {X : Type 0} (p : X → Bool) (n g : ℕ) (xs : List X) → first_from p n xs ≡ Some g → (n ≤ g) × (g < n + length xs)
first_within p n g [] e = cc
first_within p n g (x ∷ xs) e = within_by (p x) (first_from p (suc n) xs) e (first_within p (suc n) g xs)
  where
    within_by : (b : Bool) (r : Option ℕ) → cond b (Some n) r ≡ Some g → (r ≡ Some g → (suc n ≤ g) × (g < suc n + length xs)) → (n ≤ g) × (g < n + length (x ∷ xs))
    within_by true r h rest = (let same : n ≡ g = cc in (omega arith, omega arith))
    within_by false r h rest = (let w = rest h in (omega arith, omega arith))

-- the numbers from a place on, which is that of the first number that is not below n
pub rest_from : {X : Type 0} (p : X → Bool) (xs : List X) (ns : List ℕ) (n k : ℕ) → ns ≡ numbers_where p 0 xs → ((q : IsParted ns n) → k ≡ length q.below) → drop k ns ≡ numbers_where p n (drop n xs)
unfolding parted
rest_from p xs ns n k is place = let q = parted p xs ns n is in from_place ns n k q (place q)
