use Rattle.std.proofs.Common.{◌≡◌, Some, Err, subst}
use Rattle.journal_replay.specs.Causes.{first_illegal}
use Rattle.journal_replay.specs.Replays.{Replays}
use Rattle.journal_replay.specs.declared.illegal.ReplayFault.{ReplayFault}
use Rattle.replay.proofs.Places.{first_entry}
use Rattle.replay.proofs.reaching.reach.Goals as goal

pub line_of_entry-line-requires-clause-entry : goal.line_of_entry-line-requires-clause-entry
line_of_entry-line-requires-clause-entry g c =
    let j = c.in-Ok.journal in
    let first : first_illegal j ≡ Some (c.in-Err-Illegal.entry, c.in-Err-Illegal.cause) = subst (λ (f : ReplayFault). Replays j (Err f)) c.in-Err-Illegal.field-0-is c.in-Err-Illegal.ensures in
    first_entry j c.in-Err-Illegal.entry c.in-Err-Illegal.cause first
