-- Decimals of 16 bits, digit by digit.
use Rattle.std.proofs.Common.{◌≡◌, ℕ, ◌+◌, ◌^◌, ◌/◌, ◌%◌, ◌<◌, ◌≤◌, [], ◌∷◌, ◌++◌, length, arith, ap, ◌∙◌, length-append, nat_lt, inl, inr}
use Rattle.std.proofs.lemmas.Bool.{cases_Bool, ltb-true, ltb-false}
use Rattle.std.specs.Fmt.{decimal}
use Rattle.std.specs.Prelude.{IsUtf8}
use Rattle.std.specs.List.{All}
use Rattle.std.proofs.lemmas.Fmt.{decimal_digit, decimal_step, decimal_by_steps, length-decimal-le}
use Rattle.std.proofs.lemmas.List.Elements.{All-append, All-cons, All-nil, All-weaker}
use Rattle.std.proofs.lemmas.Str.{IsUtf8-from_ascii}
use Rattle.std.proofs.lemmas.Str.Ascii.{IsAscii-from_all}

-- a number has at most five digits
pub decimal_len : (n : ℕ) → n < 2 ^ 16 → length (decimal n) ≤ 5
decimal_len n h = length-decimal-le 5 n (omega arith) (omega arith) (omega arith)

pub decimal_one : (n : ℕ) → n < 10 → decimal n ≡ (48 + n) ∷ []
decimal_one n h = decimal_digit n h

pub decimal_one_len : (n : ℕ) → n < 10 → length (decimal n) ≡ 1
decimal_one_len n h = ap length (decimal_one n h)

pub decimal_more : (n : ℕ) → 10 ≤ n → n < 2 ^ 16 → decimal n ≡ decimal (n / 10) ++ (48 + n % 10) ∷ []
decimal_more n h small = decimal_step n h (omega arith)

pub decimal_more_len : (n : ℕ) → 10 ≤ n → n < 2 ^ 16 → length (decimal n) ≡ length (decimal (n / 10)) + 1
decimal_more_len n h small =
    ap length (decimal_more n h small) ∙ length-append (decimal (n / 10)) ((48 + n % 10) ∷ [])

pub decimal_some : (n : ℕ) → n < 2 ^ 16 → 0 < length (decimal n)
decimal_some n h =
    elim (cases_Bool (nat_lt n 10)) [
      | inl small ↦ let low = ltb-true n 10 small in omega (arith, decimal_one_len n low)
      | inr large ↦ let high = ltb-false n 10 large in omega (arith, decimal_more_len n high h)
    ]

-- every byte of a decimal is a digit
pub decimal_digits : (n : ℕ) → n < 2 ^ 16 → All (λ b. (47 < b) × (b < 58)) (decimal n)
decimal_digits n h =
    let IsDigit : ℕ → Type 0 = λ b. (47 < b) × (b < 58) in
    decimal_by_steps (λ k ds. All IsDigit ds)
    (λ k small. All-cons IsDigit (48 + k) [] (omega arith, omega arith) (All-nil IsDigit))
    (λ k ds large all. All-append IsDigit ds ((48 + k % 10) ∷ []) all (All-cons IsDigit (48 + k % 10) [] (omega arith, omega arith) (All-nil IsDigit)))
    n (omega arith)

pub decimal_utf8 : (n : ℕ) → n < 2 ^ 16 → IsUtf8 (decimal n)
decimal_utf8 n h =
    IsUtf8-from_ascii (decimal n)
    (IsAscii-from_all (decimal n) (All-weaker (λ b. (47 < b) × (b < 58)) (λ b. b < 128) (λ b t. omega arith) (decimal n) (decimal_digits n h)))
