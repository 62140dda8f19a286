use Rattle.std.proofs.Common.{◌≡◌, ◌≤◌, ◌∙◌, sym, subst}
use Rattle.arena_core.specs.Held.{Held, past}
use Rattle.arena_history.specs.Stamps.{last_stamp}
use Rattle.arena_history.specs.Waves.{history}
use Rattle.arena_rules.specs.Answers.{shown_at}
use Rattle.arena_core.specs.Courses.{courses}
use Rattle.arena_core.proofs.Asked.{games_timely}
use Rattle.arena_core.proofs.Shown.{game_seen}
use Rattle.arena_core.proofs.arena.Arena.shown.Goals as goal

pub view-requires : goal.view-requires
view-requires c =
    let b = c.self.inside.book in
    let late : last_stamp b.entries ≤ c.args.t = subst (λ (x : Held). last_stamp x.entries ≤ c.args.t) (sym c.self.view_is) c.requires in
    games_timely c.laws_of_histories.ensures c.games_of_legal_lists.ensures.timed b.setup b.entries c.keeps.ensures.legal c.self.inside.games c.args.t c.self.invariant.games late

pub returns : goal.returns
returns c =
    let b = c.self.inside.book in
    let h = history b.setup b.entries in
    subst (λ (x : Held). c.view.result ≡ shown_at x.setup (past x) c.args.t c.args.g) c.self.view_is (c.view.ensures (courses b.setup h) c.self.invariant.games ∙ game_seen b.setup h c.args.t c.args.g)
