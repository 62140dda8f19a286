-- A word is read as the number that it says, and as no other.
use Rattle.std.proofs.Common.{◌≡◌, ℕ, ◌^◌, ◌<◌, ◌≤◌, Bool, true, false, cond, eqb, leb, List, [], ◌∷◌, length, get_or, Option, Some, None, refl, sym, ap, subst, arith, inl, inr, ◌&&◌}
use Rattle.std.specs.Fmt.{decimal}
use Rattle.std.specs.Str.{all_ascii_digits}
use Rattle.std.specs.Str.Parse.{digits_value}
use Rattle.std.proofs.lemmas.Bool.{cases_lt, and_parts, leb-true, le-leb, eqb-true, ne_eqb, not_from_false}
use Rattle.std.proofs.lemmas.Fmt.{decimal-digits_value, digits_decimal, digits_value-decimal, decimal_nonempty, length-decimal-le, decimal_digit, first_decimal}
use Rattle.std.proofs.lemmas.Int.Digits.{digits_value-lt}
use Rattle.std.proofs.lemmas.Str.Parse.{IsNumeralModel, numerals_by_value, tells_all_ascii_digits}
use Rattle.std.proofs.Math.Nat.{pow-le-pow_right}
use Rattle.decimals.specs.Decimals.{Says, begins_as_one, digits_number, number_of}

-- digits and their value, as std's lemmas take them
numerals : IsNumeralModel (λ ds. all_ascii_digits ds ≡ true) (digits_value 10)
numerals = numerals_by_value (λ ds. all_ascii_digits ds ≡ true) tells_all_ascii_digits

-- where a test chose the value, it held
chosen : {A : Type 0} (b : Bool) (o : Option A) (x : A) → cond b o None ≡ Some x → (b ≡ true) × (o ≡ Some x)
chosen true o x e = (refl, e)
chosen false o x e = absurd cc

some_is : (m n : ℕ) → Some m ≡ Some n → m ≡ n
some_is m n e = cc

-- what may begin a canonical decimal is not empty, and begins with `0` only where nothing follows
begins_parts : (word : List ℕ) → begins_as_one word ≡ true → (0 < length word) × (get_or word 0 0 ≡ 48 → length word ≡ 1)
begins_parts [] e = absurd cc
begins_parts (digit ∷ []) e = (omega arith, λ _. refl)
begins_parts (digit ∷ next ∷ more) e = (omega arith, λ zero. absurd (grind (arith, e, eqb-true)))

-- the number that a word is read as is the number that it says
pub number_of-says : (word : List ℕ) (n : ℕ) → number_of word ≡ Some n → Says word n
unfolding number_of
number_of-says word n e =
    let outer = chosen (begins_as_one word && leb (length word) 10) (digits_number word) n e in
    let parts = and_parts (begins_as_one word) (leb (length word) 10) outer.0 in
    let inner = chosen (all_ascii_digits word) (Some (digits_value 10 word)) n outer.1 in
    let value : digits_value 10 word ≡ n = some_is _ _ inner.1 in
    let short : length word ≤ 10 = leb-true (length word) 10 parts.1 in
    let front = begins_parts word parts.0 in
    let below : digits_value 10 word < 10 ^ length word = digits_value-lt 10 word (numerals.to word inner.0) in
    let most : 10 ^ length word ≤ 10 ^ 10 = pow-le-pow_right (omega arith) short in
    let small : digits_value 10 word < 10 ^ 10 = omega arith in
    let again : decimal (digits_value 10 word) ≡ word = decimal-digits_value numerals word inner.0 front.0 front.1 (omega arith) in
    subst (λ k. Says word k) value (record { small = small; spelled = sym again })

-- a decimal begins as one
begins_decimal : (word : List ℕ) → 0 < length word → (1 < length word → 48 < get_or word 0 0) → begins_as_one word ≡ true
begins_decimal [] some front = absurd (omega arith)
begins_decimal (digit ∷ []) some front = refl
begins_decimal (digit ∷ next ∷ more) some front = let high : 48 < digit = front (omega arith) in not_from_false (eqb digit 48) (ne_eqb digit 48 (λ same. omega arith))

-- only `0` is written with a digit `0` in front
front_of_decimal : (n : ℕ) → n < 2 ^ 64 → 1 < length (decimal n) → 48 < get_or (decimal n) 0 0
front_of_decimal n small long =
    elim (cases_lt 0 n) [
      | inl positive ↦ first_decimal n positive small
      | inr zero ↦ let one : length (decimal n) ≡ 1 = ap length (decimal_digit n (omega arith)) in absurd (omega arith)
    ]

-- the number that a word says is the one that it is read as
pub number_of-spelled : (word : List ℕ) (n : ℕ) → Says word n → number_of word ≡ Some n
unfolding number_of
number_of-spelled word n says =
    let wide : n < 2 ^ 64 = omega (arith, says.small) in
    let short : length (decimal n) ≤ 10 = length-decimal-le 10 n (omega arith) says.small wide in
    let begins : begins_as_one (decimal n) ≡ true = begins_decimal (decimal n) (decimal_nonempty n wide) (front_of_decimal n wide) in
    let digits : all_ascii_digits (decimal n) ≡ true = digits_decimal numerals n wide in
    let value : digits_value 10 (decimal n) ≡ n = digits_value-decimal numerals n wide in
    rw (says.spelled, begins, le-leb (length (decimal n)) 10 short, digits, value) refl

-- the decimal of a number with at most ten digits is read as this number
pub number_of-decimal : (n : ℕ) → n < 10 ^ 10 → number_of (decimal n) ≡ Some n
number_of-decimal n small = number_of-spelled (decimal n) n (record { small = small; spelled = refl })

-- a decimal has digits alone
pub all_digits-decimal : (n : ℕ) → n < 10 ^ 10 → all_ascii_digits (decimal n) ≡ true
all_digits-decimal n small = digits_decimal numerals n (omega (arith, small))
