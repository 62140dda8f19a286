use Rattle.std.proofs.Common.{◌≡◌, length}
use Rattle.arena_players.proofs.tests.counts_for_both_players.Given as goal

-- as many games count as were played, and the four players stay
abbrev pub invariant-playing : goal.invariant-playing
invariant-playing g l = record {
  size : length l.scores.accounts ≡ 4;
  counted : l.scores.counted ≡ l.case-index;
}
