-- The plan of a wave.
use Rattle.std.specs.Prelude.{ℕ, ◌-◌, ◌*◌, ◌==◌, nat_lt, if◌then◌else◌, List, length, take, drop, Option, Some, None, slice_get, slice_index}
use Rattle.std.specs.Int.{div_ceil}
use Rattle.std.specs.List.{range_with_len, filter_map, flat_map}
use Rattle.pair_cost.specs.declared.candidate.Candidate.{Candidate}
use Rattle.pair_cost.specs.declared.candidate.Frame.{Frame}
use Rattle.pair_cost.specs.declared.candidate.Pair.{Pair}
use Rattle.pair_cost.specs.Colours.{colours}
use Rattle.group_pairing.specs.Least.{least}

-- the rank of a row that may not be there, or 0
abbrev pub rank_of : Option Candidate → ℕ
rank_of None = 0
rank_of (Some row) = row.rank

-- the rank of the last row, or 0 without rows
abbrev pub last_rank : List Candidate → ℕ
last_rank rows = rank_of (slice_get rows (length rows - 1))

-- what holds for all groups: the rank of the last row as the greatest, how many rows there are, and the rule
abbrev pub frame : ℕ → List Candidate → Frame
frame rule rows = record { max = last_rank rows; idle = length rows; rule = rule }

-- how many groups of fourteen the rows make, the last of which has the rest
abbrev pub group_count : List Candidate → ℕ
group_count rows = div_ceil (length rows) 14

-- group number k, counted from 0
abbrev pub group : List Candidate → ℕ → List Candidate
group rows k = take 14 (drop (14 * k) rows)

-- two candidates, the first better ranked, with their colours
abbrev pub pair_of : Option Candidate → Option Candidate → Option Pair
pair_of None b = None
pair_of (Some a) None = None
pair_of (Some a) (Some b) = Some (colours a b)

-- the pair of place i of a group, where its partner has a later place
abbrev pub pair_at : List Candidate → List ℕ → ℕ → Option Pair
pair_at rows to i =
    if nat_lt i (slice_index to i) then pair_of (slice_get rows i) (slice_get rows (slice_index to i)) else None

-- the player of a row that may not be there
abbrev pub player_of : Option Candidate → Option ℕ
player_of None = None
player_of (Some row) = Some row.player

-- the player of place i of a group, where he has nobody
abbrev pub alone_at : List Candidate → List ℕ → ℕ → Option ℕ
alone_at rows to i = if slice_index to i == 14 then player_of (slice_get rows i) else None

-- the pairs of a partner list, by their smaller places
unfoldable pub pairs : List Candidate → List ℕ → List Pair
pairs rows to = filter_map (pair_at rows to) (range_with_len 0 (length rows))

-- the players whom a partner list leaves alone
unfoldable pub alone : List Candidate → List ℕ → List ℕ
alone rows to = filter_map (alone_at rows to) (range_with_len 0 (length rows))

-- the pairs of the first n groups, each paired by its least list
unfoldable pub first_pairs : List Candidate → Frame → ℕ → List Pair
first_pairs rows f n = flat_map (λ k. pairs (group rows k) (least (group rows k) f)) (range_with_len 0 n)

-- whom the least lists of the first n groups leave alone
unfoldable pub first_alone : List Candidate → Frame → ℕ → List ℕ
first_alone rows f n = flat_map (λ k. alone (group rows k) (least (group rows k) f)) (range_with_len 0 n)

-- the pairs of all groups
unfoldable pub planned_pairs : ℕ → List Candidate → List Pair
planned_pairs rule rows = first_pairs rows (frame rule rows) (group_count rows)

-- whom the plan leaves alone, in rank order
unfoldable pub planned_alone : ℕ → List Candidate → List ℕ
planned_alone rule rows = first_alone rows (frame rule rows) (group_count rows)
