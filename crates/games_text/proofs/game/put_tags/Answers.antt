use Rattle.std.proofs.Common.{◌≡◌, ◌∙◌, ◌++◌, refl, sym, append_assoc}
use Rattle.std.proofs.lemmas.Option.{slice_get_read}
use Rattle.std.proofs.lemmas.Result.{on_ok_weaker}
use Rattle.games_text.specs.GameTexts.{name_of, result_of, site_tags, player_tags}
use Rattle.games_text.proofs.Tags.{name_at}
use Rattle.games_text.proofs.game.put_tags.Goals as goal

pub returns : goal.returns
returns c =
    let players = c.args.players.now in
    let x = c.args.x.now in
    let old = c.args.tags.now.items in
    let white : name_of players x.white ≡ c.index-players-x.result.name = name_at players x.white c.index-players-x.result (slice_get_read players _ _ c.index-players-x.result refl c.requires.white c.index-players-x.is) in
    let black : name_of players x.black ≡ c.index-players-x-2.result.name = name_at players x.black c.index-players-x-2.result (slice_get_read players _ _ c.index-players-x-2.result refl c.requires.black c.index-players-x-2.is) in
    on_ok_weaker c.put_players.result
    (λ put.
    put
    ∙ (λ i. c.in_ok-put_site.ensures i ++ player_tags (sym white i) (sym black i) (c.result_of.ensures i))
    ∙ append_assoc old (site_tags x.id) (player_tags (name_of players x.white) (name_of players x.black) (result_of x.outcome.winner)))
    c.put_players.ensures
