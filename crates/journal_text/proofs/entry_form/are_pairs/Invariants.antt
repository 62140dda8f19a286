use Rattle.std.proofs.Common.{◌≡◌, length}
use Rattle.journal_text.specs.EntryForms.{are_pairs}
use Rattle.journal_text.proofs.entry_form.are_pairs.Given as goal

abbrev pub invariant-words : goal.invariant-words
invariant-words l = are_pairs l.left ≡ are_pairs l.words

abbrev pub decreases-words : goal.decreases-words
decreases-words l = length l.left
