use Rattle.std.proofs.Common.{◌≡◌, ◌++◌, [], length, ap, ◌∙◌}
use Rattle.std.specs.List.{flat_map}
use Rattle.entries.specs.declared.setup.Setup.{Setup}
use Rattle.arena_history.specs.Table.{standings, team_standings}
use Rattle.arena_core.specs.Held.{past}
use Rattle.table_text.specs.Table.{row_line, team_row_line, count_line, counted_games, table}
use Rattle.table_text.proofs.Lines.{rows_have_players}
use Rattle.table_text.proofs.TeamLines.{rows_have_teams}
use Rattle.table_text.proofs.table.write_table.Goals as goal

pub push_players-requires : goal.push_players-requires
push_players-requires c =
    let a = c.args.a.now in
    let rows : c.deref.result.now ≡ standings a.setup (past a) = c.deref.ensures.value ∙ c.in_ok-rows.ensures in
    let players : c.items.result.now ≡ a.setup.players = c.items.ensures ∙ ap (λ (x : Setup). x.players) c.setup-setup.ensures in
    rows_have_players _ _ _ _ rows players (c.tables_of_legal_lists.ensures.ranges a.setup a.entries c.shows_legal.ensures.good c.shows_legal.ensures.legal)

pub push_teams-requires : goal.push_teams-requires
unfolding team_standings
push_teams-requires c =
    let a = c.args.a.now in
    let names : c.items-2.result.now ≡ a.setup.teams = c.items-2.ensures ∙ ap (λ (x : Setup). x.teams) c.setup-setup.ensures in
    rows_have_teams _ _ _ _ (c.deref-2.ensures.value ∙ c.in_ok-teams.ensures) names (c.each_team_stands_once.ensures.once a.setup (standings a.setup (past a)))

pub returns : goal.returns
unfolding table
returns c =
    let a = c.args.a.now in
    let setup : c.setup-setup.result.now ≡ a.setup = c.setup-setup.ensures in
    let rows : c.deref.result.now ≡ standings a.setup (past a) = c.deref.ensures.value ∙ c.in_ok-rows.ensures in
    let players : c.items.result.now ≡ a.setup.players = c.items.ensures ∙ ap (λ (x : Setup). x.players) setup in
    let names : c.items-2.result.now ≡ a.setup.teams = c.items-2.ensures ∙ ap (λ (x : Setup). x.teams) setup in
    let table : c.deref-2.result.now ≡ team_standings a.setup (past a) = c.deref-2.ensures.value ∙ c.in_ok-teams.ensures in
    let empty : c.new-text.result.items ≡ [] = c.new-text.ensures.items in
    let games : c.from.result ≡ counted_games a.setup (past a) = c.from.ensures ∙ c.finished.ensures in
    c.of.ensures
    ∙ c.in_ok-push_counts.ensures
    ∙ (λ i. (c.in_ok-push_teams.ensures i) ++ count_line (games i) (c.len.ensures i))
    ∙ (λ i. ((c.in_ok-push_players.ensures i) ++ flat_map (team_row_line (names i)) (table i)) ++ count_line (counted_games a.setup (past a)) (length a.entries))
    ∙ (λ i. ((empty i ++ flat_map (row_line (players i)) (rows i)) ++ flat_map (team_row_line a.setup.teams) (team_standings a.setup (past a))) ++ count_line (counted_games a.setup (past a)) (length a.entries))
