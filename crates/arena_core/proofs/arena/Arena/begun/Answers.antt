use Rattle.std.proofs.Common.{◌≡◌, ◌∙◌, subst, length}
use Rattle.arena_core.specs.Held.{Held, past}
use Rattle.arena_history.specs.Games.{begun}
use Rattle.arena_history.specs.Waves.{history}
use Rattle.arena_core.specs.Courses.{courses}
use Rattle.arena_core.proofs.Followed.{length-courses}
use Rattle.arena_core.proofs.arena.Arena.begun.Goals as goal

pub returns : goal.returns
returns c =
    let b = c.self.inside.book in
    let h = history b.setup b.entries in
    subst (λ (x : Held). c.begun.result ≡ length (begun x.setup (past x))) c.self.view_is (c.begun.ensures.begun (courses b.setup h) c.self.invariant.games ∙ length-courses b.setup h)
