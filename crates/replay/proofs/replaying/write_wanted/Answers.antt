use Rattle.conn.specs.Told.{GaveAll}
use Rattle.replay.specs.Fates as fate
use Rattle.replay.specs.Fates.{Fate}
use Rattle.replay.specs.Replayed.{Replayed}
use Rattle.replay.proofs.Ends.{had_fate, ends_as_due}
use Rattle.replay.proofs.replaying.write_wanted.Goals as goal

pub returns-in-Err-BadJournal-clause-complete : goal.returns-in-Err-BadJournal-clause-complete
returns-in-Err-BadJournal-clause-complete g c =
    let left = g.S.Source.left in
    let gave : GaveAll (left c.args.source.now) (left c.read_all.new.source) c.deref.result.now = rw c.deref.ensures.value c.in-Ok.ensures.all in
    let f : Fate = fate.BadJournal c.in-Err-BadJournal.fault in
    let due : Replayed c.deref.result.now f = rw c.in-Err-BadJournal.field-0-is at c.in-Err-BadJournal.ensures in
    ends_as_due c.one_fate.ensures.one (left c.args.source.now) f (had_fate _ _ _ f gave due)

pub returns-in-Err-Illegal-clause-complete : goal.returns-in-Err-Illegal-clause-complete
returns-in-Err-Illegal-clause-complete g c =
    let left = g.S.Source.left in
    let gave : GaveAll (left c.args.source.now) (left c.read_all.new.source) c.deref.result.now = rw c.deref.ensures.value c.in-Ok.ensures.all in
    let f : Fate = fate.Illegal c.in-Err-Illegal.line c.in-Err-Illegal.cause in
    let due : Replayed c.deref.result.now f = rw c.in-Err-Illegal.field-0-is at c.in-Err-Illegal.ensures in
    ends_as_due c.one_fate.ensures.one (left c.args.source.now) f (had_fate _ _ _ f gave due)

pub returns-in-Ok-write_all-clause-complete : goal.returns-in-Ok-write_all-clause-complete
returns-in-Ok-write_all-clause-complete g c =
    let left = g.S.Source.left in
    let gave : GaveAll (left c.args.source.now) (left c.read_all.new.source) c.deref.result.now = rw c.deref.ensures.value c.in-Ok.ensures.all in
    let f : Fate = fate.Legal c.in-Ok-text_for.ensures.0 in
    ends_as_due c.one_fate.ensures.one (left c.args.source.now) f (had_fate _ _ _ f gave c.in-Ok-text_for.ensures.1)
