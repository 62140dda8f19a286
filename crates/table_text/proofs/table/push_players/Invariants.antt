use Rattle.std.proofs.Common.{◌≡◌, ◌++◌, drop}
use Rattle.std.specs.List.{flat_map}
use Rattle.table_text.specs.Table.{row_line}
use Rattle.table_text.proofs.table.push_players.Given as goal

-- the text so far, and the lines that are left, are the whole
abbrev pub invariant-loop-row : goal.invariant-loop-row
invariant-loop-row l =
    l.text.items ++ flat_map (row_line l.players) (drop l.row-index l.rows) ≡ l.initial.text.items ++ flat_map (row_line l.players) l.rows
