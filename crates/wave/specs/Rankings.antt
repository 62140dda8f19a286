-- The rows of a snapshot.
use Rattle.std.specs.Prelude.{◌≤◌, ◌<◌, List, length, All, AllPairs}
use Rattle.pair_cost.specs.declared.candidate.Candidate.{Candidate}

-- at most 1,000 candidates, each behind those before it in rank; no rank is above 999 and no rating above 4,000
pub record IsRanking (rows : List Candidate) : Type 0 where
  pub many : length rows ≤ 1000
  pub ranked : AllPairs (λ (a b : Candidate). a.rank < b.rank) rows
  pub places : All (λ (row : Candidate). row.rank ≤ 999) rows
  pub rated : All (λ (row : Candidate). row.rating ≤ 4000) rows
