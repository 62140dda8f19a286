use Rattle.arena_games.specs.Courses.{outcome_of}
use Rattle.arena_games.proofs.Told.{told_ended_none, told_ended_some}
use Rattle.arena_games.proofs.games.Games.outcome.Goals as goal

pub returns-in-None : goal.returns-in-None
returns-in-None c games stands = told_ended_none outcome_of c.args.self.now.games games c.args.g stands c.in-None.ensures

pub returns-in-Some : goal.returns-in-Some
returns-in-Some c games stands =
    told_ended_some outcome_of c.args.self.now.games games c.args.g c.in-Some.game.now c.outcome_of.result stands c.in-Some.ensures c.outcome_of.ensures
