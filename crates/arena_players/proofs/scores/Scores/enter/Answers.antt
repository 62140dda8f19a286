use Rattle.std.proofs.Common.{◌<◌, length, ap, sym, subst, ◌∙◌, arith}
use Rattle.arena_history.specs.Results.{results_among}
use Rattle.std.specs.Prelude.{not}
use Rattle.ranking.specs.Rows.{Listed, has}
use Rattle.arena_players.specs.Accounts.{KeptScores, StandsFor}
use Rattle.arena_players.proofs.Lists.{get_read}
use Rattle.arena_players.proofs.TableLines.{has_by_rank, lines_entered, lines_stay}
use Rattle.arena_players.proofs.scores.Scores.enter.Goals as goal

pub returns-then-is_none-clause-stands : goal.returns-then-is_none-clause-stands
returns-then-is_none-clause-stands c = λ s games players stands.
    let p = c.args.p in
    let xs = c.self.inside.accounts.items in
    let kept = subst (λ k. StandsFor k s games players) (sym c.self.view_is) stands in
    let size = ap (λ (k : KeptScores). length k.accounts) c.self.view_is in
    let within : p < length xs = (let lt = c.requires in omega (arith, lt, size)) in
    let account = kept.accounts p c.index-account.result.now (get_read xs p c.index-account.result.now within c.index-account.ensures) in
    record {
      counted = kept.counted;
      size = kept.size;
      accounts = kept.accounts;
      lines = lines_entered c.lines_with_one_more.ensures.player s games players p c.index-account.result.now.rating c.self.inside.table.lines c.enter.new.self.lines c.score.new.table.lines kept.lines (has_by_rank c.rank_of.result (has c.self.inside.table.lines p) c.rank_of.ensures.entered ∙ (c.is_none.ensures ∙ ap not c.if-is_none.true)) account.rating
          (ap (λ (t : Listed). t.lines) c.enter.ensures)
          (c.score.ensures.lines (results_among s games p) account.results);
    }

pub returns-else-is_none-clause-stands : goal.returns-else-is_none-clause-stands
returns-else-is_none-clause-stands c = λ s games players stands.
    record {
      counted = stands.counted;
      size = stands.size;
      accounts = stands.accounts;
      lines = lines_stay c.lines_with_one_more.ensures.player s games players c.args.p c.args.self.now.lines stands.lines (ap (λ (k : KeptScores). has k.lines c.args.p) (sym c.self.view_is) ∙ (has_by_rank c.rank_of.result (has c.self.inside.table.lines c.args.p) c.rank_of.ensures.entered ∙ (c.is_none.ensures ∙ ap not c.if-is_none.false)));
    }
