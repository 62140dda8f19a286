-- What a group of candidates is, and the list that a solver's answer stands for.
use Rattle.std.specs.Prelude.{ℕ, ◌≤◌, ◌<◌, List, length, take, All, AllPairs}
use Rattle.pair_cost.specs.declared.candidate.Candidate.{Candidate}
use Rattle.pair_cost.specs.declared.candidate.Frame.{Frame}
use Rattle.group_pairing.specs.declared.partners.Partners.{Partners}

-- at most fourteen candidates, each behind those before it in rank; no rank is above the frame's greatest, which is at most 999, and no rating above 4,000
pub record IsGroup (rows : List Candidate) (f : Frame) : Type 0 where
  pub few : length rows ≤ 14
  pub ranked : AllPairs (λ (a b : Candidate). a.rank < b.rank) rows
  pub within : All (λ (row : Candidate). row.rank ≤ f.max) rows
  pub places : f.max ≤ 999
  pub rated : All (λ (row : Candidate). row.rating ≤ 4000) rows

-- the items of the group's places
abbrev pub list_of : Partners → List ℕ
list_of partners = take partners.len partners.to
