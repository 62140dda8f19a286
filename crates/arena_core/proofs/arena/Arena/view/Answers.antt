use Rattle.std.proofs.Common.{◌≡◌, ◌∙◌, ap, subst, length}
use Rattle.arena_core.specs.Held.{Held, past}
use Rattle.arena_history.specs.Waves.{history}
use Rattle.arena_rules.specs.declared.view.ArenaView.{ArenaView}
use Rattle.arena_rules.specs.Views.{arena_view}
use Rattle.arena_core.specs.Courses.{courses}
use Rattle.arena_core.proofs.Followed.{length-courses}
use Rattle.arena_core.proofs.Shown.{lines_kept, running_count}
use Rattle.arena_core.proofs.arena.Arena.view.Goals as goal

pub returns : goal.returns
unfolding arena_view
returns c =
    let b = c.self.inside.book in
    let h = history b.setup b.entries in
    let entered = c.entered.ensures ∙ ap length (lines_kept c.laws_of_histories.ensures b.setup h c.self.inside.people c.self.invariant.people) in
    let begun = c.begun.ensures.begun (courses b.setup h) c.self.invariant.games ∙ length-courses b.setup h in
    let running = c.running.ensures (courses b.setup h) c.self.invariant.games ∙ running_count b.setup h in
    subst (λ (x : Held). ◌≡◌ {A = ArenaView} (record { stamp = c.args.t; phase = c.phase.result; entered = c.entered.result; begun = c.begun.result; running = c.running.result }) (arena_view x.setup (past x) c.args.t)) c.self.view_is
    (λ i. record { stamp = c.args.t; phase = (c.phase.ensures ∙ ap (λ s. Rattle.arena_rules.specs.Views.phase s c.args.t) c.setup.ensures) i; entered = entered i; begun = begun i; running = running i })
