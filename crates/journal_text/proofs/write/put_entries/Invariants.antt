use Rattle.std.proofs.Common.{◌≡◌, ◌+◌, ◌++◌, length}
use Rattle.journal_text.specs.Writing.{entries_text}
use Rattle.journal_text.proofs.write.put_entries.Given as goal

abbrev pub invariant-entries : goal.invariant-entries
invariant-entries l = record {
  put : l.text.items ++ entries_text l.number l.left l.rest ≡ l.initial.text.items ++ entries_text 0 l.games l.entries;
  counted : l.number + length l.rest ≡ length l.entries;
}

abbrev pub decreases-entries : goal.decreases-entries
decreases-entries l = length l.rest
