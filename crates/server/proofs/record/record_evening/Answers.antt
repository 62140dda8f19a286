use Rattle.server.specs.Evenings.{journal_text}
use Rattle.table_text.specs.Table.{table}
use Rattle.server.proofs.record.record_evening.Goals as goal

pub returns-clause-wrote : goal.returns-clause-wrote
returns-clause-wrote g c =
    let s = c.args.arena.setup in
    let es = c.args.arena.entries in
    c.write_both.ensures.wrote (journal_text s es) (table s es) c.write_version_two-journal_made.ensures c.write_table-table_made.ensures
