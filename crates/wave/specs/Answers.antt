-- What solvers answer of the groups.
use Rattle.std.specs.Prelude.{◌≡◌, ℕ, ◌+◌, ◌<◌, List, length, slice_index_or}
use Rattle.pair_cost.specs.declared.candidate.Candidate.{Candidate}
use Rattle.pair_cost.specs.declared.candidate.Frame.{Frame}
use Rattle.group_pairing.specs.declared.partners.Partners.{Partners}
use Rattle.group_pairing.specs.Groups.{list_of}
use Rattle.group_pairing.specs.Least.{least}
use Rattle.wave.specs.Plans.{group}

-- the least list of group number k
pub record IsAnswer (rows : List Candidate) (f : Frame) (k : ℕ) (answer : Partners) : Type 0 where
  pub len : answer.len ≡ length (group rows k)
  pub list : list_of answer ≡ least (group rows k) f

-- the answers of so many groups in order, from this one on
pub record HoldsAnswers (rows : List Candidate) (f : Frame) (first count : ℕ) (answers : List Partners) : Type 0 where
  pub many : length answers ≡ count
  pub each : (i : ℕ) (d : Partners) → i < count → IsAnswer rows f (first + i) (slice_index_or answers i d)
