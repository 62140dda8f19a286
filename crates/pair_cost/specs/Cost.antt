-- What it costs to pair two players, and to leave one alone.
use Rattle.std.specs.Prelude.{ℕ, ◌+◌, ◌-◌, ◌*◌, ◌/◌, min, Bool, false, ◌==◌, ◌&&◌, ◌||◌, nat_lt, if◌then◌else◌, Option, Some, None}
use Rattle.std.specs.Int.{abs_diff}
use Rattle.pair_cost.specs.declared.candidate.Candidate.{Candidate}
use Rattle.pair_cost.specs.declared.candidate.Frame.{Frame}

-- a last opponent, who may be none, is this player
abbrev pub met_last : Option ℕ → ℕ → Bool
met_last None player = false
met_last (Some last) player = last == player

-- each of the two is the other's last opponent
abbrev pub is_rematch : Candidate → Candidate → Bool
is_rematch a b = met_last a.last b.player && met_last b.last a.player

-- both have a team, and it is the same
abbrev pub same_team : Option ℕ → Option ℕ → Bool
same_team None b = false
same_team (Some a) None = false
same_team (Some a) (Some b) = a == b

-- under rule 2 there is no rematch while more than two are idle
abbrev pub bars_rematch : Frame → Bool
bars_rematch f = f.rule == 2 && nat_lt 2 f.idle

-- players of one team are not paired, nor those of a rematch where it is barred
abbrev pub is_forbidden : Frame → Candidate → Candidate → Bool
is_forbidden f a b = same_team a.team b.team || (bars_rematch f && is_rematch a b)

-- 20,000,000 for a rematch under rule 1
abbrev pub rematch : Frame → Candidate → Candidate → ℕ
rematch f a b = if f.rule == 1 && is_rematch a b then 20000000 else 0

-- 2,000 at the top of the table, falling with the rank to 300 at the greatest rank of all, rounded down
abbrev pub factor : ℕ → ℕ → ℕ
factor rank max = if max == 0 then 2000 else 300 + 1700 * (max - rank) / max

-- the ranks' difference times the factor of the better rank, the ratings' difference, and what a rematch costs
abbrev pub cost : Frame → Candidate → Candidate → ℕ
cost f a b = abs_diff a.rank b.rank * factor (min a.rank b.rank) f.max + abs_diff a.rating b.rating + rematch f a b

-- under rule 2, 50,000,000 for each committed wave that has left him alone since his last game began, of which a hundred count
abbrev pub charge : Frame → Candidate → ℕ
charge f a = if f.rule == 2 then 50000000 * min a.alone 100 else 0
