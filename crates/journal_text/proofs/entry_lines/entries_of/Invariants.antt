use Rattle.std.proofs.Common.{◌≡◌, ◌+◌, ◌≤◌, ◌^◌, length}
use Rattle.journal_text.specs.Lines.{lines_of}
use Rattle.journal_text.specs.EntryForms.{no_entries}
use Rattle.journal_text.specs.Reading.{InEntries, run}
use Rattle.journal_text.proofs.entry_lines.entries_of.Given as goal

abbrev pub invariant-lines : goal.invariant-lines
invariant-lines l = record {
  goes_on : run (InEntries l.head l.teams l.players l.«record») l.number (lines_of l.rest) ≡ run (InEntries l.head l.teams l.players no_entries) l.first (lines_of l.text);
  placed : l.number + length l.rest ≤ 2 ^ 63;
}

abbrev pub decreases-lines : goal.decreases-lines
decreases-lines l = length l.rest
