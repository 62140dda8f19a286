use Rattle.std.proofs.Common.{◌≡◌, ◌+◌, ◌≤◌, ◌&&◌, leb, length}
use Rattle.std.specs.List.{list_all}
use Rattle.std.specs.Prelude.{is_some}
use Rattle.journal_text.specs.EntryForms.{pair_in, pairs_fit}
use Rattle.journal_text.proofs.entry_lines.pairs_fit.Given as goal

abbrev pub invariant-words : goal.invariant-words
invariant-words l = record {
  goes_on : (leb (l.count + length l.left) 500 && list_all (λ w. is_some (pair_in l.players w)) l.left) ≡ pairs_fit l.players l.words;
  most : l.count ≤ 500;
}

abbrev pub decreases-words : goal.decreases-words
decreases-words l = length l.left
