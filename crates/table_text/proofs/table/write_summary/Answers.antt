use Rattle.std.proofs.Common.{◌≡◌, ◌++◌, List, [], take, length, ap, ◌∙◌}
use Rattle.std.specs.List.{flat_map}
use Rattle.entries.specs.declared.setup.Setup.{Setup}
use Rattle.ranking.specs.declared.row.Row.{Row}
use Rattle.arena_history.specs.Table.{standings}
use Rattle.arena_core.specs.Held.{past}
use Rattle.table_text.specs.Table.{row_line, count_line, counted_games, summary}
use Rattle.table_text.proofs.Lines.{first_rows_have_players}
use Rattle.table_text.proofs.table.write_summary.Goals as goal

pub push_players-requires : goal.push_players-requires
push_players-requires c =
    let a = c.args.a.now in
    let rows : c.first_ten.result.now ≡ take 10 (standings a.setup (past a)) = c.first_ten.ensures ∙ ap (λ (l : List Row). take 10 l) (c.deref.ensures.value ∙ c.in_ok-rows.ensures) in
    let players : c.items.result.now ≡ a.setup.players = c.items.ensures ∙ ap (λ (x : Setup). x.players) c.setup.ensures in
    first_rows_have_players _ _ _ _ rows players (c.tables_of_legal_lists.ensures.ranges a.setup a.entries c.shows_legal.ensures.good c.shows_legal.ensures.legal)

pub returns : goal.returns
unfolding summary
returns c =
    let a = c.args.a.now in
    let rows : c.first_ten.result.now ≡ take 10 (standings a.setup (past a)) = c.first_ten.ensures ∙ ap (λ (l : List Row). take 10 l) (c.deref.ensures.value ∙ c.in_ok-rows.ensures) in
    let players : c.items.result.now ≡ a.setup.players = c.items.ensures ∙ ap (λ (x : Setup). x.players) c.setup.ensures in
    let empty : c.new-text.result.items ≡ [] = c.new-text.ensures.items in
    let games : c.from.result ≡ counted_games a.setup (past a) = c.from.ensures ∙ c.finished.ensures in
    c.of.ensures
    ∙ c.in_ok-push_counts.ensures
    ∙ (λ i. (c.in_ok-push_players.ensures i) ++ count_line (games i) (c.len.ensures i))
    ∙ (λ i. (empty i ++ flat_map (row_line (players i)) (rows i)) ++ count_line (counted_games a.setup (past a)) (length a.entries))
