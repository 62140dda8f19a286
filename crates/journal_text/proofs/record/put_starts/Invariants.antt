use Rattle.std.proofs.Common.{◌≡◌, ◌++◌, length}
use Rattle.journal_text.specs.EntryForms.{starts_in}
use Rattle.journal_text.proofs.record.put_starts.Given as goal

abbrev pub invariant-words : goal.invariant-words
invariant-words l = l.starts.items ++ starts_in l.players l.entry l.left ≡ l.initial.starts.items ++ starts_in l.players l.entry l.pairs

abbrev pub decreases-words : goal.decreases-words
decreases-words l = length l.left
