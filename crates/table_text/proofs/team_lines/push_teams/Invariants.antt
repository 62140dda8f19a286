use Rattle.std.proofs.Common.{◌≡◌, ◌++◌, drop}
use Rattle.std.specs.List.{flat_map}
use Rattle.table_text.specs.Table.{team_row_line}
use Rattle.table_text.proofs.team_lines.push_teams.Given as goal

-- the text so far, and the lines that are left, are the whole
abbrev pub invariant-loop-row : goal.invariant-loop-row
invariant-loop-row l =
    l.text.items ++ flat_map (team_row_line l.teams) (drop l.row-index l.rows) ≡ l.initial.text.items ++ flat_map (team_row_line l.teams) l.rows
