use Rattle.std.proofs.Common.{◌≡◌, ℕ, ◌+◌, ◌*◌, ◌-◌, ◌^◌, ◌<◌, ◌≤◌, leb, true, List, length, get_or, take, drop, sym, ◌∙◌, arith}
use Rattle.std.specs.Char.{digit_value, is_ascii_digit}
use Rattle.std.specs.Str.{all_ascii_digits}
use Rattle.std.specs.Str.Parse.{digits_value}
use Rattle.std.proofs.lemmas.Bool.{and_parts, leb-true}
use Rattle.std.proofs.lemmas.Grind.{pow_more}
use Rattle.std.proofs.lemmas.List.{at_drop_more}
use Rattle.std.proofs.lemmas.Int.Digits.{digits_value_more}
use Rattle.std.proofs.lemmas.Str.{digit_value_digit}
use Rattle.decimals.proofs.value.Goals as goal

-- one more digit
module _ (word : List ℕ) (i value : ℕ) (inside : i < length word) (digit : is_ascii_digit (get_or word i 0) ≡ true) where
  in_range : (48 ≤ get_or word i 0) × (get_or word i 0 ≤ 57)
  in_range =
      let parts = and_parts (leb 48 (get_or word i 0)) (leb (get_or word i 0) 57) digit in
      (leb-true 48 (get_or word i 0) parts.0, leb-true (get_or word i 0) 57 parts.1)

  weighs : digit_value (get_or word i 0) + 48 ≡ get_or word i 0
  weighs = digit_value_digit (get_or word i 0) in_range

  says : value ≡ digits_value 10 (take i word) → value * 10 + (get_or word i 0 - 48) ≡ digits_value 10 (take (i + 1) word)
  says so_far = omega (arith, so_far, weighs, digits_value_more 10 word i inside)

  small : value < 10 ^ i → value * 10 + (get_or word i 0 - 48) < 10 ^ (i + 1)
  small below = omega (arith, below, in_range, pow_more 10 i)

  rest : all_ascii_digits (drop i word) ≡ all_ascii_digits word → all_ascii_digits (drop (i + 1) word) ≡ all_ascii_digits word
  rest so_far = let here = at_drop_more all_ascii_digits word i 0 inside in sym (rw digit at here) ∙ so_far

pub loop-digit-preserved : goal.loop-digit-preserved
loop-digit-preserved c =
    let word = c.args.word.now in
    let i = c.loop-digit.digit-index in
    let digit : is_ascii_digit (get_or word i 0) ≡ true = sym c.is_ascii_digit.ensures.value ∙ c.if-not-is_ascii_digit.false in
    rw c.from.ensures (record {
      says = says word i c.loop-digit.value c.loop-digit-test.true digit c.loop-digit.invariant.says;
      small = small word i c.loop-digit.value c.loop-digit-test.true digit c.loop-digit.invariant.small;
      rest = rest word i c.loop-digit.value c.loop-digit-test.true digit c.loop-digit.invariant.rest;
    })
