use Rattle.std.proofs.Common.{◌≡◌, ◌^◌, ◌<◌, take, drop}
use Rattle.std.specs.Str.{all_ascii_digits}
use Rattle.std.specs.Str.Parse.{digits_value}
use Rattle.decimals.proofs.value.Given as goal

abbrev pub invariant-loop-digit : goal.invariant-loop-digit
invariant-loop-digit l = record {
  says : l.value ≡ digits_value 10 (take l.digit-index l.word);
  small : l.value < 10 ^ l.digit-index;
  rest : all_ascii_digits (drop l.digit-index l.word) ≡ all_ascii_digits l.word;
}
