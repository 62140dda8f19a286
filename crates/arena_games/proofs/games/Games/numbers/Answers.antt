use Rattle.std.proofs.Common.{ap, ◌∙◌}
use Rattle.arena_games.specs.Courses.{numbers_where}
use Rattle.arena_games.specs.Keeps.{runs}
use Rattle.arena_games.specs.KeptGames.{KeptGames}
use Rattle.arena_games.proofs.Told.{numbers_so}
use Rattle.arena_games.proofs.games.Games.numbers.Goals as goal

pub returns : goal.returns
returns c games stands =
    c.as_slice.ensures.value ∙ (c.self.invariant.0 ∙ (ap (λ (v : KeptGames). numbers_where runs 0 v.games) c.self.view_is ∙ numbers_so 0 c.args.self.now.games games stands))
