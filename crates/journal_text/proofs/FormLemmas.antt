-- A line that has a form has just the words of this form.
use Rattle.std.proofs.Common.{◌≡◌, ℕ, ◌^◌, ◌<◌, ◌≤◌, leb, true, cond, List, [], ◌∷◌, length, Option, Some, None, option_and_then, refl, ap, subst, arith}
use Rattle.std.specs.Char.{is_ascii_digit}
use Rattle.std.specs.Fmt.{decimal}
use Rattle.std.specs.Str.{bytes_eq, all_ascii_digits}
use Rattle.std.proofs.lemmas.Bool.{and_parts, leb-true}
use Rattle.std.proofs.lemmas.Fmt.{decimal_nonempty}
use Rattle.std.proofs.lemmas.Slice.Eq.{bytes_eq-Decides}
use Rattle.decimals.specs.Decimals.{number_of}
use Rattle.decimals.proofs.DecimalLemmas.{number_of-says, all_digits-decimal}
use Rattle.journal_text.specs.Lines.{next_word, two, three, four}
use Rattle.journal_text.specs.EntryForms.{next_number}
use Rattle.journal_text.proofs.Fails.{bind_some, guard_some, some, some_is}

-- a word that passes the test for another is that word
pub same_word : (a b : List ℕ) → bytes_eq a b ≡ true → a ≡ b
same_word a b e = (bytes_eq-Decides a b).0 e

-- a word passes the test for itself
pub word_itself : (a : List ℕ) → bytes_eq a a ≡ true
word_itself a = (bytes_eq-Decides a a).1 refl

-- a line of two words has just these
pub two_is : (words : List (List ℕ)) (w : List ℕ × List ℕ) → two words ≡ Some w → words ≡ w.0 ∷ w.1 ∷ []
two_is [] w e = absurd cc
two_is (a ∷ []) w e = absurd cc
two_is (a ∷ b ∷ []) w e = subst (λ (w : List ℕ × List ℕ). a ∷ b ∷ [] ≡ w.0 ∷ w.1 ∷ []) (some_is (a, b) w e) refl
two_is (a ∷ b ∷ c ∷ more) w e = absurd cc

-- and a line of three
pub three_is : (words : List (List ℕ)) (w : List ℕ × List ℕ × List ℕ) → three words ≡ Some w → words ≡ w.0 ∷ w.1 ∷ w.2 ∷ []
three_is [] w e = absurd cc
three_is (a ∷ words) w e =
    let b = bind_some (two words) (λ (others : List ℕ × List ℕ). Some (a, others.0, others.1)) w e in
    let is = two_is words b.0 b.1 in
    subst (λ (w : List ℕ × List ℕ × List ℕ). a ∷ words ≡ w.0 ∷ w.1 ∷ w.2 ∷ []) (some_is (a, b.0.0, b.0.1) w b.2) (ap (λ (words : List (List ℕ)). a ∷ words) is)

-- and a line of four
pub four_is : (words : List (List ℕ)) (w : List ℕ × List ℕ × List ℕ × List ℕ) → four words ≡ Some w → words ≡ w.0 ∷ w.1 ∷ w.2 ∷ w.3 ∷ []
four_is [] w e = absurd cc
four_is (a ∷ words) w e =
    let b = bind_some (three words) (λ (others : List ℕ × List ℕ × List ℕ). Some (a, others.0, others.1, others.2)) w e in
    let is = three_is words b.0 b.1 in
    subst (λ (w : List ℕ × List ℕ × List ℕ × List ℕ). a ∷ words ≡ w.0 ∷ w.1 ∷ w.2 ∷ w.3 ∷ []) (some_is (a, b.0.0, b.0.1, b.0.2) w b.2) (ap (λ (words : List (List ℕ)). a ∷ words) is)

-- a line of four words, the first of which is the key
pub keyed_four : {A : Type 0} (words : Option (List ℕ × List ℕ × List ℕ × List ℕ)) (key : List ℕ) (f : List ℕ × List ℕ × List ℕ × List ℕ → Option A) (y : A) → option_and_then (λ w. cond (bytes_eq w.0 key) (f w) None) words ≡ Some y → (w : List ℕ × List ℕ × List ℕ × List ℕ) × (words ≡ Some w) × (w.0 ≡ key) × (f w ≡ Some y)
keyed_four None key f y e = absurd cc
keyed_four (Some w) key f y e = let g = guard_some (bytes_eq w.0 key) (f w) y e in (w, refl, same_word w.0 key g.0, g.1)

-- the same, of three words
pub keyed_three : {A : Type 0} (words : Option (List ℕ × List ℕ × List ℕ)) (key : List ℕ) (f : List ℕ × List ℕ × List ℕ → Option A) (y : A) → option_and_then (λ w. cond (bytes_eq w.0 key) (f w) None) words ≡ Some y → (w : List ℕ × List ℕ × List ℕ) × (words ≡ Some w) × (w.0 ≡ key) × (f w ≡ Some y)
keyed_three None key f y e = absurd cc
keyed_three (Some w) key f y e = let g = guard_some (bytes_eq w.0 key) (f w) y e in (w, refl, same_word w.0 key g.0, g.1)

-- two numbers that were read
pub two_numbers : (a b : Option ℕ) (n : ℕ × ℕ) → option_and_then (λ i. option_and_then (λ j. Some (i, j)) b) a ≡ Some n → (a ≡ Some n.0) × (b ≡ Some n.1)
two_numbers None b n e = absurd cc
two_numbers (Some i) None n e = absurd cc
two_numbers (Some i) (Some j) n e = subst (λ (n : ℕ × ℕ). (some i ≡ some n.0) × (some j ≡ some n.1)) (some_is (i, j) n e) (refl, refl)

-- three numbers that were read
pub three_numbers : (a b c : Option ℕ) (n : ℕ × ℕ × ℕ) → option_and_then (λ i. option_and_then (λ j. option_and_then (λ k. Some (i, j, k)) c) b) a ≡ Some n → (a ≡ Some n.0) × (b ≡ Some n.1) × (c ≡ Some n.2)
three_numbers None b c n e = absurd cc
three_numbers (Some i) None c n e = absurd cc
three_numbers (Some i) (Some j) None n e = absurd cc
three_numbers (Some i) (Some j) (Some k) n e = subst (λ (n : ℕ × ℕ × ℕ). (some i ≡ some n.0) × (some j ≡ some n.1) × (some k ≡ some n.2)) (some_is (i, j, k) n e) (refl, refl, refl)

-- a word that is read as a number is its decimal
pub decimal_is : (word : List ℕ) (n : ℕ) → number_of word ≡ Some n → word ≡ decimal n
decimal_is word n e = (number_of-says word n e).spelled

-- words that are the same are the same line
pub three_same : (a b c x y z : List ℕ) → a ≡ x → b ≡ y → c ≡ z → a ∷ b ∷ c ∷ [] ≡ x ∷ y ∷ z ∷ []
three_same a b c x y z p q r = cc

-- and so are four words
pub four_same : (a b c d x y z t : List ℕ) → a ≡ x → b ≡ y → c ≡ z → d ≡ t → a ∷ b ∷ c ∷ d ∷ [] ≡ x ∷ y ∷ z ∷ t ∷ []
four_same a b c d x y z t p q r s = cc

-- a decimal begins with a digit
digit_front : (digits : List ℕ) → 0 < length digits → all_ascii_digits digits ≡ true → (digit : ℕ) × (more : List ℕ) × (digits ≡ digit ∷ more) × (48 ≤ digit) × (digit ≤ 57)
digit_front [] some all = absurd (omega arith)
digit_front (digit ∷ digits) some all =
    let parts = and_parts (is_ascii_digit digit) (all_ascii_digits digits) all in
    let range = and_parts (leb 48 digit) (leb digit 57) parts.0 in
    (digit, digits, refl, leb-true 48 digit range.0, leb-true digit 57 range.1)

-- a decimal begins with a digit
pub decimal_front : (n : ℕ) → n < 10 ^ 10 → (digit : ℕ) × (more : List ℕ) × (decimal n ≡ digit ∷ more) × (48 ≤ digit) × (digit ≤ 57)
decimal_front n small = digit_front (decimal n) (decimal_nonempty n (omega (arith, small))) (all_digits-decimal n small)

-- a number that was taken stood in front as its decimal
pub next_number_is : (words : List (List ℕ)) (n : ℕ × List (List ℕ)) → next_number words ≡ Some n → words ≡ decimal n.0 ∷ n.1
next_number_is [] n e = absurd cc
next_number_is (word ∷ words) n e =
    let b = bind_some (number_of word) (λ k. some (k, words)) n e in
    subst (λ (n : ℕ × List (List ℕ)). word ∷ words ≡ decimal n.0 ∷ n.1) (some_is (b.0, words) n b.2) (ap (λ (w : List ℕ). w ∷ words) (decimal_is word b.0 b.1))

-- a word that was taken stood in front
pub next_word_is : (words : List (List ℕ)) (w : List ℕ × List (List ℕ)) → next_word words ≡ Some w → words ≡ w.0 ∷ w.1
next_word_is [] w e = absurd cc
next_word_is (word ∷ words) w e = subst (λ (w : List ℕ × List (List ℕ)). word ∷ words ≡ w.0 ∷ w.1) (some_is (word, words) w e) refl
