use Rattle.std.proofs.Common.{◌≡◌, Some, refl, subst}
use Rattle.arena_core.specs.Held.{past}
use Rattle.arena_history.specs.Stamps.{stamp_of}
use Rattle.arena_rules.specs.Commits.{IsCommitted, commit_refusal}
use Rattle.arena_rules.specs.declared.commit_fault.CommitFault.TheVariants as fault
use Rattle.journal_replay.specs.Causes.{games_cause, games_of_wave}
use Rattle.journal_replay.specs.declared.illegal.IllegalCause.TheVariants.{Full, PairsDiffer}
use Rattle.journal_replay.proofs.Started.{as_closed, as_early, as_full, never_closed, never_early, tries_differ, tries_full, tries_same}
use Rattle.journal_replay.proofs.Tried.{tries_illegal}
use Rattle.journal_replay.proofs.waves.start_wave.Goals as goal

pub unreachable-requires : goal.unreachable-requires
unreachable-requires c =
    let a = c.args.arena.now in
    let e = c.args.e.now in
    let n = c.args.plan.now.n in
    let at : stamp_of a.entries e.stamp ≡ e.stamp = c.stamps_of_entries.ensures.stays a.entries e.stamp c.requires.not_before c.requires.most in
    let early : commit_refusal a.setup (past a) (stamp_of a.entries e.stamp) n ≡ Some fault.Early = as_early _ _ _ _ _ c.in-Err-Early.ensures.answer c.in-Err-Early.field-0-is in
    never_early c.beginnings_are_histories.ensures.entries c.args.journal.now a c.requires.setup e.stamp e.pass n c.requires.in_time (subst (λ t. commit_refusal a.setup (past a) t n ≡ Some fault.Early) at early)

pub unreachable-requires-in-Err-Closed : goal.unreachable-requires-in-Err-Closed
unreachable-requires-in-Err-Closed c =
    let a = c.args.arena.now in
    let e = c.args.e.now in
    let n = c.args.plan.now.n in
    let at : stamp_of a.entries e.stamp ≡ e.stamp = c.stamps_of_entries.ensures.stays a.entries e.stamp c.requires.not_before c.requires.most in
    let closed : commit_refusal a.setup (past a) (stamp_of a.entries e.stamp) n ≡ Some fault.Closed = as_closed _ _ _ _ _ c.in-Err-Closed.ensures.answer c.in-Err-Closed.field-0-is in
    never_closed c.beginnings_are_histories.ensures.entries c.args.journal.now a c.requires.setup e.stamp e.pass n c.requires.in_time (subst (λ t. commit_refusal a.setup (past a) t n ≡ Some fault.Closed) at closed)

pub returns-in-Err-Full-clause-tries : goal.returns-in-Err-Full-clause-tries
returns-in-Err-Full-clause-tries c =
    let j = c.args.journal.now in
    let a = c.args.arena.now in
    let e = c.args.e.now in
    let n = c.args.plan.now.n in
    let at : stamp_of a.entries e.stamp ≡ e.stamp = c.stamps_of_entries.ensures.stays a.entries e.stamp c.requires.not_before c.requires.most in
    let full : commit_refusal a.setup (past a) (stamp_of a.entries e.stamp) n ≡ Some fault.Full = as_full _ _ _ _ _ c.in-Err-Full.ensures.answer c.in-Err-Full.field-0-is in
    tries_illegal (games_cause j (past a) (games_of_wave j (past a) n)) a.entries c.commit.new.self.entries e c.illegal-in-Err-Full.result c.len-number.result Full c.illegal-in-Err-Full.ensures
    (tries_full c.beginnings_are_histories.ensures.entries j a c.requires.setup e.stamp e.pass n c.requires.in_time c.len-number.result (subst (λ t. commit_refusal a.setup (past a) t n ≡ Some fault.Full) at full) c.len-number.ensures)

pub returns-then-lists_others-clause-tries : goal.returns-then-lists_others-clause-tries
returns-then-lists_others-clause-tries c =
    let j = c.args.journal.now in
    let a = c.args.arena.now in
    let b = c.commit.new.self in
    let e = c.args.e.now in
    let n = c.args.plan.now.n in
    let count = c.in-Ok.field-0 in
    let at : stamp_of a.entries e.stamp ≡ e.stamp = c.stamps_of_entries.ensures.stays a.entries e.stamp c.requires.not_before c.requires.most in
    let done : IsCommitted a.setup a.entries e.pass e.stamp n b.entries count = subst (λ t. IsCommitted a.setup a.entries e.pass t n b.entries count) at c.in-Ok.ensures.answer in
    tries_illegal (games_cause j (past a) (games_of_wave j (past a) n)) a.entries b.entries e c.illegal-then-lists_others.result c.len-number.result PairsDiffer c.illegal-then-lists_others.ensures
    (tries_differ c.beginnings_are_histories.ensures.entries j a c.requires.setup e.stamp e.pass n c.requires.in_time c.beginnings_are_histories.ensures.grow c.games_with_one_more.ensures.numbered b count c.begun-begun.result c.len-number.result
    c.commit.ensures.setup done c.in-Ok.field-0-test.1 c.begun-begun.ensures c.len-number.ensures c.lists_others.result c.lists_others.ensures c.if-lists_others.true)

pub returns-else-lists_others-clause-tries : goal.returns-else-lists_others-clause-tries
returns-else-lists_others-clause-tries c =
    let j = c.args.journal.now in
    let a = c.args.arena.now in
    let b = c.commit.new.self in
    let e = c.args.e.now in
    let n = c.args.plan.now.n in
    let count = c.in-Ok.field-0 in
    let at : stamp_of a.entries e.stamp ≡ e.stamp = c.stamps_of_entries.ensures.stays a.entries e.stamp c.requires.not_before c.requires.most in
    let done : IsCommitted a.setup a.entries e.pass e.stamp n b.entries count = subst (λ t. IsCommitted a.setup a.entries e.pass t n b.entries count) at c.in-Ok.ensures.answer in
    tries_same c.beginnings_are_histories.ensures.entries j a c.requires.setup e.stamp e.pass n c.requires.in_time c.beginnings_are_histories.ensures.grow c.games_with_one_more.ensures.numbered b count c.begun-begun.result c.len-number.result
    c.commit.ensures.setup done c.in-Ok.field-0-test.1 c.begun-begun.ensures c.len-number.ensures c.lists_others.result e c.lists_others.ensures c.if-lists_others.false refl refl c.requires.wave
