use Rattle.std.proofs.Common.{◌≡◌, ◌+◌, ◌-◌, ◌*◌, ◌&&◌, ℕ, min, take, get_or, ap, ◌∙◌, sym, arith, true}
use Rattle.std.specs.Char.{is_ascii_digit, digit_value}
use Rattle.std.specs.Int.{IsInRange}
use Rattle.std.specs.Str.Parse.{digits_value}
use Rattle.std.proofs.lemmas.List.Folds.{list_all_more}
use Rattle.std.proofs.lemmas.Int.Digits.{digits_value_more}
use Rattle.std.proofs.lemmas.Str.{digit_value_digit}
use Rattle.http_lines.proofs.Decimals.{capped_more}
use Rattle.http_lines.proofs.values.decimal.Goals as goal

pub loop-digit-preserved : goal.loop-digit-preserved
loop-digit-preserved c =
    let text = c.args.text.now in
    let i = c.loop-digit.digit-index in
    let digit = get_or text i 0 in
    let so_far = c.loop-digit.invariant in
    let is_digit : is_ascii_digit digit ≡ true = sym c.is_ascii_digit.ensures.value ∙ c.if-not-is_ascii_digit.false in
    let in_range : IsInRange 48 57 digit = grind (arith, is_digit) in
    let total = digits_value 10 (take i text) in
    let last : digit_value digit + 48 ≡ digit = digit_value_digit digit in_range in
    let grown : total * 10 + (digit - 48) ≡ digits_value 10 (take (i + 1) text) = omega (arith, digits_value_more 10 text i c.loop-digit-test.true) in
    record {
      digits = list_all_more is_ascii_digit text i 0 c.loop-digit-test.true ∙ (λ k. so_far.digits k && is_digit k);
      so_far = c.min-value.ensures ∙ capped_more c.loop-digit.value total (digit - 48) 4097 so_far.so_far ∙ ap (λ (n : ℕ). min n 4097) grown;
    }
