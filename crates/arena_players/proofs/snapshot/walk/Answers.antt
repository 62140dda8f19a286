use Rattle.std.proofs.Common.{◌++◌, ◌∷◌, [], sym, ap, ◌∙◌, arith}
use Rattle.std.proofs.lemmas.List.{take_all}
use Rattle.ranking.specs.Rows.{rows}
use Rattle.arena_players.specs.Candidates.{candidates_by}
use Rattle.arena_players.proofs.TableRows.{length_rows}
use Rattle.arena_players.proofs.Walk.{walk_more}
use Rattle.arena_players.proofs.snapshot.walk.Goals as goal

pub walking-preserved : goal.walking-preserved
walking-preserved c =
    let s = c.args.setup.now in
    let facts = c.args.pairings.now.facts in
    let seats = c.args.seats.now in
    let rs = rows c.args.scores.now.lines in
    let all = length_rows c.rows_are_the_lines.ensures.players c.args.scores.now.lines in
    let len = c.len-len.ensures in
    record {
      items = c.put_waiting.ensures.items
          ∙ (ap (λ l. l ++ candidates_by s facts seats (c.in-Some.row ∷ [])) c.walking.invariant.items
          ∙ sym (walk_more s facts seats rs c.walking.rank c.in-Some.row (omega (arith, all, len)) (sym c.in-Some.ensures.row)));
      len = omega arith;
      room = omega arith;
    }

pub returns : goal.returns
returns c =
    let rs = rows c.args.scores.now.lines in
    let all = length_rows c.rows_are_the_lines.ensures.players c.args.scores.now.lines in
    let len = c.len-len.ensures in
    c.walking.invariant.items ∙ ap (candidates_by c.args.setup.now c.args.pairings.now.facts c.args.seats.now) (take_all c.walking.rank rs (omega (arith, all, len)))
