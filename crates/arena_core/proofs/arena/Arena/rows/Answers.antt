use Rattle.std.proofs.Common.{◌≡◌, ◌∙◌, ap, subst}
use Rattle.arena_core.specs.Held.{Held, past}
use Rattle.std.specs.Prelude.{IfOk}
use Rattle.std.proofs.lemmas.Result.{IfOk-weaker}
use Rattle.ranking.specs.Rows.{rows}
use Rattle.arena_history.specs.Table.{standings}
use Rattle.arena_history.specs.Waves.{history}
use Rattle.arena_core.proofs.Shown.{lines_kept}
use Rattle.arena_core.proofs.arena.Arena.rows.Goals as goal

pub returns : goal.returns
unfolding standings
returns c =
    let b = c.self.inside.book in
    let h = history b.setup b.entries in
    subst (λ (x : Held). IfOk c.rows.result (λ v. v.items ≡ standings x.setup (past x))) c.self.view_is (
    IfOk-weaker c.rows.result (λ v. v.items ≡ rows c.self.inside.people.scores.lines) (λ v. v.items ≡ standings b.setup h) (λ v is. is ∙ ap rows (lines_kept c.laws_of_histories.ensures b.setup h c.self.inside.people c.self.invariant.people)) c.rows.ensures
    )
