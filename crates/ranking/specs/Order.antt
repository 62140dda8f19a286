-- What a table keeps of each player, and the order of its lines.
use Rattle.std.specs.Prelude.{ℕ, Bool, false, not, ◌==◌, ◌&&◌, ◌||◌, nat_lt, int_lt, pos, if◌then◌else◌, List, [], ◌∷◌, fold, slice_index_or}
use Rattle.std.specs.Ordering.{int_eq}
-- a line: a player, his rating, and what was last given of him
pub use Rattle.ranking.specs.declared.line.Line.{Line}

-- x has more points than y, or with as many a better performance, or with that the same too a higher rating
abbrev pub above : Line → Line → Bool
above x y =
    nat_lt y.points x.points || ((x.points == y.points) &&
    (int_lt y.performance x.performance || (int_eq x.performance y.performance && nat_lt y.rating x.rating)))

-- x put into a list, before the first that it stands above
abbrev pub placed : {A : Type 0} → (A → A → Bool) → List A → A → List A
placed above [] x = x ∷ []
placed above (y ∷ below) x = if above x y then x ∷ y ∷ below else y ∷ placed above below x

-- a list put in order, one after another: of two of which neither stands above the other, the earlier stays first
abbrev pub in_order : {A : Type 0} → (A → A → Bool) → List A → List A
in_order above xs = fold (placed above) [] xs

-- the lines of a table in its order, from the lines in the order of entering
unfoldable pub ranked : List Line → List Line
ranked lines = in_order above lines

-- a line of nobody, which stands for one that is not there
abbrev pub nobody : Line
nobody = record { player = 0; rating = 0; points = 0; performance = pos 0; games = 0; fire = false }

-- the line with a number, counted in the order of entering
abbrev pub line_at : List Line → ℕ → Line
line_at lines i = slice_index_or lines i nobody

-- the line with number i comes before the one with number j: it stands above it, or neither stands above the other and its
-- player entered earlier
abbrev pub comes_before : List Line → ℕ → ℕ → Bool
comes_before lines i j = above (line_at lines i) (line_at lines j) || (not (above (line_at lines j) (line_at lines i)) && nat_lt i j)
