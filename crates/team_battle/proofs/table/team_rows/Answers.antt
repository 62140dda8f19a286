use Rattle.std.proofs.Common.{[], ◌∷◌, ◌++◌, sym, ap, ◌∙◌, arith}
use Rattle.std.proofs.lemmas.List.{take_all}
use Rattle.team_battle.specs.Teams.{team_rows_from}
use Rattle.team_battle.proofs.Tallies.{length-team_rows_from, team_rows_more}
use Rattle.team_battle.proofs.table.team_rows.Goals as goal

pub ranking-preserved : goal.ranking-preserved
ranking-preserved c = c.in_ok-push.ensures.items ∙ (ap (λ l. l ++ c.team_row.result ∷ []) c.ranking.invariant ∙ sym (team_rows_more c.args.teams.now c.ranking.rank c.team_row.result _ c.ranking-test.true c.team_row.ensures))

pub returns : goal.returns
returns c = c.ranking.invariant ∙ take_all c.ranking.rank (team_rows_from 0 c.args.teams.now) (omega (arith, length-team_rows_from 0 c.args.teams.now))
