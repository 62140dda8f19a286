-- The rows of the table.
use Rattle.std.proofs.Common.{◌≡◌, ℕ, List, length, arith}
use Rattle.std.specs.Prelude.{map}
use Rattle.std.proofs.lemmas.List.{take_all, length-map}
use Rattle.std.proofs.lemmas.List.Sorted.{length_permutation}
use Rattle.ranking.specs.declared.line.Line.{Line}
use Rattle.ranking.specs.declared.row.Row.{Row}
use Rattle.ranking.specs.Laws.{RowsHaveThePlayers}
use Rattle.ranking.specs.Rows.{page, rows}

module _ (law : RowsHaveThePlayers) (lines : List Line) where
  pub length_rows : length (rows lines) ≡ length lines
  length_rows =
      let players = length_permutation (map (λ (line : Line). line.player) lines) (map (λ (row : Row). row.player) (rows lines)) (law lines) in
      let rows_too = length-map (rows lines) (λ (row : Row). row.player) in
      let lines_too = length-map lines (λ (line : Line). line.player) in
      omega (arith, players, rows_too, lines_too)

  -- all rows are one page
  pub page_all : (n : ℕ) → n ≡ length lines → page 0 n lines ≡ rows lines
  page_all n is = take_all n (rows lines) (omega (arith, is, length_rows))
