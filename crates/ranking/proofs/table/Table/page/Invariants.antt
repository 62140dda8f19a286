use Rattle.std.proofs.Common.{◌≡◌}
use Rattle.std.specs.Prelude.{slice_range}
use Rattle.ranking.specs.Rows.{rows}
use Rattle.ranking.proofs.table.Table.page.Given as goal

abbrev pub invariant-listing : goal.invariant-listing
invariant-listing l = l.rows.items ≡ slice_range (rows l.self-inside.lines.items) l.first l.rank
