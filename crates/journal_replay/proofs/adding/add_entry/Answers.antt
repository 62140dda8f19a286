use Rattle.std.proofs.Common.{◌≤◌, ◌<◌, subst}
use Rattle.std.specs.Option.{option_map}
use Rattle.arena_core.specs.Held.{past}
use Rattle.arena_history.specs.Stamps.{last_stamp}
use Rattle.arena_history.specs.Waves.{history}
use Rattle.arena_rules.specs.declared.command.Command.TheVariants.{Enter, Pause, Leave, Act, Tick}
use Rattle.arena_rules.specs.Verdicts.{verdict}
use Rattle.journal_replay.specs.Causes.{cause_of, wave_cause}
use Rattle.journal_replay.specs.declared.illegal.IllegalCause.TheVariants.{Refused, StampFalls}
use Rattle.journal_replay.proofs.Tried.{falls, of_command, of_wave, tries_at, tries_illegal}
use Rattle.journal_replay.proofs.adding.add_entry.Goals as goal

pub returns-then-e-last_stamp-clause-adds : goal.returns-then-e-last_stamp-clause-adds
returns-then-e-last_stamp-clause-adds c =
    let j = c.args.journal.now in
    let a = c.args.arena.now in
    let e = c.args.e.now in
    let less : e.stamp < last_stamp a.entries = subst (λ m. e.stamp < m) c.last_stamp.ensures c.if-e-last_stamp.true in
    tries_illegal (cause_of j (history j.setup a.entries) e) a.entries a.entries e c.illegal.result c.len.result StampFalls c.illegal.ensures
    (falls c.beginnings_are_histories.ensures.entries j a c.requires.setup e less, c.len.ensures)

pub returns-in-Enter-clause-adds : goal.returns-in-Enter-clause-adds
returns-in-Enter-clause-adds c =
    let j = c.args.journal.now in
    let a = c.args.arena.now in
    let e = c.args.e.now in
    let le : last_stamp a.entries ≤ e.stamp = subst (λ m. m ≤ e.stamp) c.last_stamp.ensures c.if-e-last_stamp.false in
    tries_at (cause_of j (history j.setup a.entries) e) (option_map Refused (verdict a.setup (past a) e.stamp (Enter c.in-Enter.p))) a.entries c.obey.new.arena.entries e c.obey.result
    (of_command c.beginnings_are_histories.ensures.entries j a c.requires.setup e (Enter c.in-Enter.p) le c.in-Enter.is) c.obey.ensures.tries

pub returns-in-Pause-clause-adds : goal.returns-in-Pause-clause-adds
returns-in-Pause-clause-adds c =
    let j = c.args.journal.now in
    let a = c.args.arena.now in
    let e = c.args.e.now in
    let le : last_stamp a.entries ≤ e.stamp = subst (λ m. m ≤ e.stamp) c.last_stamp.ensures c.if-e-last_stamp.false in
    tries_at (cause_of j (history j.setup a.entries) e) (option_map Refused (verdict a.setup (past a) e.stamp (Pause c.in-Pause.p))) a.entries c.obey-in-Pause.new.arena.entries e c.obey-in-Pause.result
    (of_command c.beginnings_are_histories.ensures.entries j a c.requires.setup e (Pause c.in-Pause.p) le c.in-Pause.is) c.obey-in-Pause.ensures.tries

pub returns-in-Leave-clause-adds : goal.returns-in-Leave-clause-adds
returns-in-Leave-clause-adds c =
    let j = c.args.journal.now in
    let a = c.args.arena.now in
    let e = c.args.e.now in
    let le : last_stamp a.entries ≤ e.stamp = subst (λ m. m ≤ e.stamp) c.last_stamp.ensures c.if-e-last_stamp.false in
    tries_at (cause_of j (history j.setup a.entries) e) (option_map Refused (verdict a.setup (past a) e.stamp (Leave c.in-Leave.p))) a.entries c.obey-in-Leave.new.arena.entries e c.obey-in-Leave.result
    (of_command c.beginnings_are_histories.ensures.entries j a c.requires.setup e (Leave c.in-Leave.p) le c.in-Leave.is) c.obey-in-Leave.ensures.tries

pub returns-in-Act-clause-adds : goal.returns-in-Act-clause-adds
returns-in-Act-clause-adds c =
    let j = c.args.journal.now in
    let a = c.args.arena.now in
    let e = c.args.e.now in
    let le : last_stamp a.entries ≤ e.stamp = subst (λ m. m ≤ e.stamp) c.last_stamp.ensures c.if-e-last_stamp.false in
    tries_at (cause_of j (history j.setup a.entries) e) (option_map Refused (verdict a.setup (past a) e.stamp (Act c.in-Act.p c.in-Act.g c.in-Act.action))) a.entries c.obey-in-Act.new.arena.entries e c.obey-in-Act.result
    (of_command c.beginnings_are_histories.ensures.entries j a c.requires.setup e (Act c.in-Act.p c.in-Act.g c.in-Act.action) le c.in-Act.is) c.obey-in-Act.ensures.tries

pub returns-in-Tick-clause-adds : goal.returns-in-Tick-clause-adds
returns-in-Tick-clause-adds c =
    let j = c.args.journal.now in
    let a = c.args.arena.now in
    let e = c.args.e.now in
    let le : last_stamp a.entries ≤ e.stamp = subst (λ m. m ≤ e.stamp) c.last_stamp.ensures c.if-e-last_stamp.false in
    tries_at (cause_of j (history j.setup a.entries) e) (option_map Refused (verdict a.setup (past a) e.stamp Tick)) a.entries c.obey-in-Tick.new.arena.entries e c.obey-in-Tick.result
    (of_command c.beginnings_are_histories.ensures.entries j a c.requires.setup e Tick le c.in-Tick.is) c.obey-in-Tick.ensures.tries

pub returns-in-Wave-clause-adds : goal.returns-in-Wave-clause-adds
returns-in-Wave-clause-adds c =
    let j = c.args.journal.now in
    let a = c.args.arena.now in
    let e = c.args.e.now in
    let le : last_stamp a.entries ≤ e.stamp = subst (λ m. m ≤ e.stamp) c.last_stamp.ensures c.if-e-last_stamp.false in
    tries_at (cause_of j (history j.setup a.entries) e) (wave_cause j (past a) e.stamp c.in-Wave.n) a.entries c.add_wave.new.arena.entries e c.add_wave.result
    (of_wave c.beginnings_are_histories.ensures.entries j a c.requires.setup e c.in-Wave.n le c.in-Wave.is) c.add_wave.ensures.tries
