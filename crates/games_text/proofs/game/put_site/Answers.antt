use Rattle.std.proofs.Common.{◌∙◌, ap, ◌++◌, ◌∷◌, [], codes}
use Rattle.std.proofs.lemmas.Result.{on_ok_weaker}
use Rattle.games_text.specs.GameTexts.{tag}
use Rattle.games_text.proofs.Tags.{four_tags}
use Rattle.games_text.proofs.game.put_site.Goals as goal

pub returns : goal.returns
returns c =
    on_ok_weaker c.put_tag-4.result
    (λ put.
    put
    ∙ ap (λ l. c.put_tag-3.new.tags.items ++ tag (codes "Round") l ∷ []) (c.as_bytes.ensures.value ∙ c.format.ensures.text)
    ∙ four_tags _ _ _ _ c.args.tags.now.items c.put_tag.new.tags.items c.put_tag-2.new.tags.items c.put_tag-3.new.tags.items c.in_ok-put_tag.ensures c.in_ok-put_tag-2.ensures c.in_ok-put_tag-3.ensures)
    c.put_tag-4.ensures
