use Rattle.std.proofs.Common.{◌≡◌, ◌<◌, ◌∙◌, ap, subst, length, arith}
use Rattle.arena_core.specs.Held.{Held, past}
use Rattle.arena_history.specs.Waves.{history}
use Rattle.arena_rules.specs.Views.{me_view}
use Rattle.arena_core.specs.Views.{me_by}
use Rattle.arena_core.proofs.Shown.{me_kept}
use Rattle.arena_core.proofs.arena.Arena.me.Goals as goal

pub returns : goal.returns
returns c =
    let b = c.self.inside.book in
    let h = history b.setup b.entries in
    let lt : c.args.p < length b.setup.players = omega (arith, c.requires, ap (λ (x : Held). length x.setup.players) c.self.view_is) in
    subst (λ (x : Held). c.me_by.result ≡ me_view x.setup (past x) c.args.p) c.self.view_is (
    c.me_by.ensures ∙ ((λ i. me_by c.args.p (c.seat.ensures i) (c.row_of.ensures i)) ∙ me_kept c.laws_of_histories.ensures b.setup h c.self.inside.people c.self.invariant.people c.table_is_in_order.ensures.rows c.args.p lt)
    )
