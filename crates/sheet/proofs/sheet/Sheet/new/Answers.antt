use Rattle.std.proofs.Common.{refl}
use Rattle.sheet.specs.Worth.{points}
use Rattle.sheet.proofs.sheet.Sheet.new.Goals as goal

pub returns-clause-stands : goal.returns-clause-stands
unfolding points
returns-clause-stands c = record { points = refl; games = refl; last_won = refl; last_two_won = refl; draw_streak = refl }
