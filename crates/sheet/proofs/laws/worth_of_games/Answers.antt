use Rattle.sheet.proofs.Streaks.{streak_found, streak_holds, points_few}
use Rattle.sheet.proofs.laws.worth_of_games.Goals as goal

pub returns-clause-streak : goal.returns-clause-streak
returns-clause-streak c back = (streak_found back, streak_holds back)

pub returns-clause-few : goal.returns-clause-few
returns-clause-few c played = points_few played
