use Rattle.std.proofs.Common.{sym, subst}
use Rattle.server.specs.Evenings.{WroteBoth}
use Rattle.server.proofs.Writing.{wrote_both}
use Rattle.server.proofs.record.write_both.Goals as goal

pub returns-clause-wrote : goal.returns-clause-wrote
returns-clause-wrote g c = λ a b made_a made_b.
    let old = g.K.Sink.held c.args.journal_sink.now in
    let new = g.K.Sink.held c.write_made-first.new.sink in
    let old' = g.T.Sink.held c.args.table_sink.now in
    let new' = g.T.Sink.held c.write_made-then.new.sink in
    subst (λ end. WroteBoth a old new b old' new' end) (sym c.worse.ensures)
    (wrote_both a b old new old' new' c.write_made-first.result c.write_made-then.result
    (c.write_made-first.ensures.wrote a made_a) (c.write_made-then.ensures.wrote b made_b))
