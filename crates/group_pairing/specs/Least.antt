-- The partner list of least key.
use Rattle.std.specs.Prelude.{ℕ, if◌then◌else◌, List, length, replicate, fold}
use Rattle.pair_cost.specs.declared.candidate.Candidate.{Candidate}
use Rattle.pair_cost.specs.declared.candidate.Frame.{Frame}
use Rattle.group_pairing.specs.Lists.{lists}
use Rattle.group_pairing.specs.Keys.{key, is_smaller}

-- the one of two lists whose key is smaller, and the first of two alike
abbrev pub lesser : List Candidate → Frame → List ℕ → List ℕ → List ℕ
lesser rows f best to = if is_smaller (key rows f to) (key rows f best) then to else best

-- the least of all partner lists of the group, beginning with that of nobody paired
unfoldable pub least : List Candidate → Frame → List ℕ
least rows f = fold (lesser rows f) (replicate (length rows) 14) (lists rows f)
