use Rattle.std.proofs.Common.{◌≡◌, ◌++◌, length}
use Rattle.journal_text.specs.Writing.{own_of, behind_own, pairs_text}
use Rattle.journal_text.proofs.write.put_pairs.Given as goal

abbrev pub invariant-pairs : goal.invariant-pairs
invariant-pairs l = record {
  put : l.text.items ++ pairs_text (own_of l.number l.rest) ≡ l.initial.text.items ++ pairs_text (own_of l.number l.games);
  left : behind_own l.number l.rest ≡ behind_own l.number l.games;
}

abbrev pub decreases-pairs : goal.decreases-pairs
decreases-pairs l = length l.rest
