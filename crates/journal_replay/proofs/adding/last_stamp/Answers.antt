use Rattle.std.proofs.Common.{sym, arith}
use Rattle.journal_replay.proofs.Counted.{last_stamp-last}
use Rattle.journal_replay.proofs.adding.last_stamp.Goals as goal

pub returns : goal.returns
returns c = sym (last_stamp-last c.args.arena.now.entries c.in-Some.i c.in-Some-entry.e (omega arith) (sym c.in-Some-entry.ensures))
