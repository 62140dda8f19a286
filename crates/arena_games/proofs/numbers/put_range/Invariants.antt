use Rattle.std.proofs.Common.{◌≡◌, ◌+◌, ◌-◌, ◌++◌, vec_len, vec_capacity}
use Rattle.std.specs.List.{range_with_len}
use Rattle.arena_games.proofs.numbers.put_range.Given as goal

abbrev pub invariant-putting : goal.invariant-putting
invariant-putting l = record {
  items : l.numbers.items ≡ l.initial.numbers.items ++ range_with_len l.first (l.number - l.first);
  len : vec_len l.numbers ≡ vec_len l.initial.numbers + (l.number - l.first);
  room : vec_capacity l.numbers ≡ vec_capacity l.initial.numbers;
}
