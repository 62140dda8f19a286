use Rattle.std.proofs.Common.{◌≡◌, ◌+◌, ◌≤◌, length}
use Rattle.journal_text.specs.Lines.{lines_of}
use Rattle.journal_text.specs.Reading.{behind_head, journal_in, run}
use Rattle.journal_text.proofs.head.head_of.Given as goal

abbrev pub invariant-lines : goal.invariant-lines
invariant-lines l = record {
  goes_on : run (behind_head (l.wanted, l.head)) l.number (lines_of l.rest) ≡ journal_in l.text;
  placed : l.number + length l.rest ≤ length l.text + 1;
}

abbrev pub decreases-lines : goal.decreases-lines
decreases-lines l = length l.rest
