-- How one row changes what a team has, and how two teams compare.
use Rattle.std.specs.Prelude.{ℕ, pos, ◌+◌, ◌*◌, ◌≤◌, ◌+ℤ◌, ◌≤ℤ◌, nat_lt, if◌then◌else◌}
use Rattle.std.specs.declared.cmp.Ordering.{Ordering}
use Rattle.std.specs.Ordering.{nat_cmp, int_cmp, ordering_then}
use Rattle.ranking.specs.declared.row.Row.{Row}
use Rattle.team_battle.specs.declared.tally.Tally.{Tally}

-- a team with one row more that counts
abbrev pub added : Row → Tally → Tally
added row t = record { team = t.team; leaders = t.leaders + 1; points = t.points + row.points; performance = t.performance +ℤ row.performance }

-- a team once a row of its players came, of whom only so many count
abbrev pub counted : ℕ → Row → Tally → Tally
counted most row t = if nat_lt t.leaders most then added row t else t

-- the sums of a team are in the range of so many rows
pub record IsInRange (t : Tally) : Type 0 where
  pub points_most : t.points ≤ 1000000 * t.leaders
  pub performance_least : pos 0 ≤ℤ (t.performance +ℤ pos (500 * t.leaders))
  pub performance_most : t.performance ≤ℤ pos (4500 * t.leaders)

-- which of two teams comes first: by points and by performance, both falling, then by number
abbrev pub tally_cmp : Tally → Tally → Ordering
tally_cmp x y = ordering_then (nat_cmp y.points x.points) (ordering_then (int_cmp y.performance x.performance) (nat_cmp x.team y.team))
