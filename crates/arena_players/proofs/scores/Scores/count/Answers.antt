use Rattle.std.proofs.Common.{◌<◌, ◌++◌, ◌∷◌, [], length, set, ap, sym, subst, ◌∙◌, arith}
use Rattle.std.proofs.lemmas.List.{length-set, length_push}
use Rattle.arena_history.specs.Results.{results_among}
use Rattle.arena_players.specs.Accounts.{IsAccountOf, KeptScores, StandsFor}
use Rattle.arena_players.proofs.Lists.{Each, get_read}
use Rattle.arena_players.proofs.Games.{each_counted_by}
use Rattle.arena_players.proofs.TableLines.{lines_counted, scored_by}
use Rattle.arena_players.proofs.scores.Scores.count.Goals as goal

pub returns-clause-stands : goal.returns-clause-stands
returns-clause-stands c = λ s games players x is_header is_outcome stands.
    let h = c.args.header.now in
    let more = games ++ x ∷ [] in
    let xs = c.self.inside.accounts.items in
    let ys = set xs h.white c.add.new.self in
    let zs = set ys h.black c.add-2.new.self in
    let kept = subst (λ k. StandsFor k s games players) (sym c.self.view_is) stands in
    let size = ap (λ (k : KeptScores). length k.accounts) c.self.view_is in
    let size-2 = length-set xs h.white c.add.new.self in
    let size-3 = length-set ys h.black c.add-2.new.self in
    let white : h.white < length xs = (let lt = c.requires.white in omega (arith, lt, size)) in
    let black : h.black < length xs = (let lt = c.requires.black in omega (arith, lt, size)) in
    let white_rated = (kept.accounts h.white c.index.result.now (get_read xs h.white c.index.result.now white c.index.ensures)).rating in
    let black_rated = (kept.accounts h.black c.index-2.result.now (get_read xs h.black c.index-2.result.now black c.index-2.ensures)).rating in
    let counted : Each (IsAccountOf s more) zs =
    each_counted_by c.lines_with_one_more.ensures.results s games x h c.args.outcome.now c.index.result.now.rating c.index-2.result.now.rating
    xs c.index_mut.result.now c.add.new.self c.index_mut-2.result.now c.add-2.new.self is_header is_outcome white_rated black_rated c.requires.two kept.accounts
    (get_read xs h.white c.index_mut.result.now white c.index_mut.ensures.value)
    (record { rating = c.add.ensures.rating; results = c.add.ensures.results })
    (get_read ys h.black c.index_mut-2.result.now (omega (arith, black, size-2)) c.index_mut-2.ensures.value)
    (record { rating = c.add-2.ensures.rating; results = c.add-2.ensures.results }) in
    let white_has = (counted h.white c.index-3.result.now (get_read zs h.white c.index-3.result.now (omega (arith, white, size-2, size-3)) c.index-3.ensures)).results in
    let black_has = (counted h.black c.index-4.result.now (get_read zs h.black c.index-4.result.now (omega (arith, black, size-2, size-3)) c.index-4.ensures)).results in
    let number = kept.counted in
    record {
      counted = (let one = length_push games x in omega (arith, number, one));
      size = size-3 ∙ (size-2 ∙ kept.size);
      accounts = counted;
      lines = lines_counted c.lines_with_one_more.ensures.game s games x players c.self.inside.table.lines c.score.new.table.lines c.score-2.new.table.lines kept.lines
          (c.score.ensures.lines (results_among s more h.white) white_has ∙ (λ i. scored_by (sym is_header i).white (results_among s more (sym is_header i).white) c.self.inside.table.lines))
          (c.score-2.ensures.lines (results_among s more h.black) black_has ∙ (λ i. scored_by (sym is_header i).black (results_among s more (sym is_header i).black) c.score.new.table.lines));
    }
