use Rattle.std.proofs.Common.{◌≡◌, length}
use Rattle.game_line.proofs.tests.the_kept_positions_count_as_the_whole_line.Given as goal

abbrev pub invariant-loop-word : goal.invariant-loop-word
invariant-loop-word g l =
    (goal.iterator-loop-word g).can_next l.word-iterator ×
    (goal.iterator-loop-word g).is_finite l.word-iterator ×
    (length l.past ≡ l.kept)
