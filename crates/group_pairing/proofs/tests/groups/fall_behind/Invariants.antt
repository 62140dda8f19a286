use Rattle.std.specs.Prelude.{AllPairs}
use Rattle.std.proofs.Common.{◌<◌, take}
use Rattle.pair_cost.specs.declared.candidate.Candidate.{Candidate}
use Rattle.group_pairing.proofs.tests.groups.fall_behind.Given as goal

abbrev pub invariant-loop-place : goal.invariant-loop-place
invariant-loop-place l = AllPairs (λ (a b : Candidate). a.rank < b.rank) (take l.place l.rows)
