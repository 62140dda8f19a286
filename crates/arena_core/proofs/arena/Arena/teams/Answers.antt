use Rattle.std.proofs.Common.{◌≡◌, ◌∙◌, sym, subst, length, List}
use Rattle.arena_core.specs.Held.{past}
use Rattle.std.specs.List.{All}
use Rattle.std.proofs.lemmas.Result.{IfOk-weaker}
use Rattle.entries.specs.Ranges.{IsGood}
use Rattle.entries.specs.declared.setup.Setup.{Setup}
use Rattle.ranking.specs.declared.row.Row.{Row}
use Rattle.team_battle.specs.Teams as battle
use Rattle.team_battle.specs.Teams.{IsRowOf}
use Rattle.arena_history.specs.Table.{standings, team_standings}
use Rattle.arena_core.proofs.arena.Arena.teams.Goals as goal

pub team_table-requires-clause-good : goal.team_table-requires-clause-good
team_table-requires-clause-good c = subst IsGood (sym c.setup.ensures) c.shows_legal.ensures.good

pub team_table-requires-clause-rows : goal.team_table-requires-clause-rows
team_table-requires-clause-rows c =
    let was = c.args.self.now in
    let rows : c.as_slice.result.now ≡ standings was.setup (past was) = c.as_slice.ensures.value ∙ c.in_ok-rows.ensures in
    subst (λ (x : Setup × List Row). All (IsRowOf (length x.0.players)) x.1) (λ i. (sym c.setup.ensures i, sym rows i)) (c.tables_of_legal_lists.ensures.ranges was.setup was.entries c.shows_legal.ensures.good c.shows_legal.ensures.legal)

pub returns : goal.returns
unfolding team_standings
returns c =
    let was = c.args.self.now in
    let rows : c.as_slice.result.now ≡ standings was.setup (past was) = c.as_slice.ensures.value ∙ c.in_ok-rows.ensures in
    IfOk-weaker c.team_table.result (λ v. v.items ≡ battle.teams c.setup.result.now c.as_slice.result.now) (λ v. v.items ≡ team_standings was.setup (past was)) (λ v is. is ∙ (λ i. battle.teams (c.setup.ensures i) (rows i))) c.team_table.ensures
