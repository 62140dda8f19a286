use Rattle.arena_main.proofs.FiveWords.{has_serve}
use Rattle.arena_main.proofs.words.form.Goals as goal

pub returns-in-len5-clause-has : goal.returns-in-len5-clause-has
returns-in-len5-clause-has c =
    has_serve c.args.words.now c.word-item-then-words-lt6.result c.port-item.result c.workers-item.result c.serve_form.result
    c.in-len5.len_at_least c.in-len5.len_below c.word-item-then-words-lt6.is c.port-item.is c.workers-item.is
    (c.has_bytes-then-words-lt6.ensures.0 c.if-has_bytes-2.true) c.serve_form.ensures.has
