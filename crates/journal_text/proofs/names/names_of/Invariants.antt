use Rattle.std.proofs.Common.{◌≡◌, ◌+◌, ◌≤◌, ◌^◌, [], length, vec_len}
use Rattle.journal_text.specs.Lines.{lines_of}
use Rattle.journal_text.specs.Reading.{InNames, run}
use Rattle.journal_text.proofs.names.names_of.Given as goal

abbrev pub invariant-lines : goal.invariant-lines
invariant-lines l = record {
  goes_on : run (InNames l.head l.teams.items l.players.items) l.number (lines_of l.rest) ≡ run (InNames l.head [] []) l.first (lines_of l.text);
  few : vec_len l.teams ≤ 100;
  most : vec_len l.players ≤ 1000;
  placed : l.number + length l.rest ≤ 2 ^ 63;
}

abbrev pub decreases-lines : goal.decreases-lines
decreases-lines l = length l.rest
