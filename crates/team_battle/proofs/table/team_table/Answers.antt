use Rattle.std.proofs.Common.{◌≡◌, List, IfOk, length, subst, ap, ◌∙◌, arith, rules}
use Rattle.ranking.specs.Order.{in_order}
use Rattle.ranking.proofs.Sorts.{sorted_in_order}
use Rattle.team_battle.specs.declared.team_row.TeamRow.{TeamRow}
use Rattle.team_battle.specs.Compare.{tally_cmp}
use Rattle.team_battle.specs.Teams.{above, tallies, team_rows_from, teams}
use Rattle.team_battle.proofs.Tallies.{length-tallies}
use Rattle.team_battle.proofs.TeamOrder.{tally_cmp_total, above-cmp}
use Rattle.team_battle.proofs.table.team_table.Goals as goal

pub team_rows-requires : goal.team_rows-requires
team_rows-requires c =
    omega (arith, c.as_slice.ensures.len, c.in_ok-sort_by.ensures.len, c.in_ok-teams.teams.ok.0, ap length c.in_ok-teams.ensures, length-tallies c.args.setup.now c.args.rows.now, c.requires.good.teams_most)

pub returns : goal.returns
unfolding teams
returns c =
    let sorted : c.sort_by.new.self.items ≡ in_order above c.in_ok-teams.teams.items =
    sorted_in_order above tally_cmp tally_cmp_total above-cmp c.in_ok-teams.teams.items c.sort_by.new.self.items c.in_ok-sort_by.ensures.sorted c.in_ok-sort_by.ensures.stable (λ a r q k. search rules) in
    let is : c.as_slice.result.now ≡ in_order above (tallies c.args.setup.now c.args.rows.now) = c.as_slice.ensures.value ∙ (sorted ∙ ap (in_order above) c.in_ok-teams.ensures) in
    subst (λ (l : List TeamRow). IfOk c.team_rows.result (λ table. table.items ≡ l)) (ap (team_rows_from 0) is) c.team_rows.ensures
