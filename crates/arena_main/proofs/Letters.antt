-- Players whose names are the first letters have different names.
use Rattle.std.proofs.Common.{◌≡◌, ℕ, ◌+◌, List, [], ◌∷◌, ◌++◌, map, sym, ap, ◌∙◌, subst, arith}
use Rattle.std.specs.List.{range_with_len}
use Rattle.std.proofs.lemmas.List.{map_push}
use Rattle.std.proofs.lemmas.List.FromFn.{get_or-map-range_with_len, length-map-range_with_len, map-range_with_len_more}
use Rattle.entries.specs.declared.setup.Player.{Player}
use Rattle.entries.specs.Names.{AreDistinct}

-- the name of player number i, a letter
abbrev pub letter : ℕ → List ℕ
letter i = (97 + i) ∷ []

-- the names of the first n players
abbrev pub letters : ℕ → List (List ℕ)
letters n = map letter (range_with_len 0 n)

pub one_letter_more : (n : ℕ) → letters (n + 1) ≡ letters n ++ letter n ∷ []
one_letter_more n = map-range_with_len_more letter 0 n n (omega arith)

abbrev head_or_zero : List ℕ → ℕ
head_or_zero [] = 0
head_or_zero (x ∷ xs) = x

letters_apart : (i j : ℕ) → letter i ≡ letter j → i ≡ j
letters_apart i j same = let heads : 97 + i ≡ 97 + j = ap head_or_zero same in omega arith

pub letters_differ : (n : ℕ) → AreDistinct (letters n)
letters_differ n i j d lt within same =
    let long = length-map-range_with_len letter 0 n in
    let first = get_or-map-range_with_len letter 0 n i i d (omega arith) (omega arith) in
    let second = get_or-map-range_with_len letter 0 n j j d (omega arith) (omega arith) in
    let equal = letters_apart i j (sym first ∙ same ∙ second) in
    absurd (omega arith)

-- the names of some players
abbrev pub names : List Player → List (List ℕ)
names = map (λ (x : Player). x.name)

pub one_name_more : (xs : List Player) (x : Player) (n : ℕ) → names xs ≡ letters n → x.name ≡ letter n → names (xs ++ x ∷ []) ≡ letters (n + 1)
one_name_more xs x n same new = map_push (λ (y : Player). y.name) xs x ∙ ap (λ ys. ys ++ x.name ∷ []) same ∙ ap (λ y. letters n ++ y ∷ []) new ∙ sym (one_letter_more n)

pub names_differ : (xs : List Player) (n : ℕ) → names xs ≡ letters n → AreDistinct (names xs)
names_differ xs n same = subst AreDistinct (sym same) (letters_differ n)
