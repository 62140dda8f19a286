use Rattle.std.proofs.Common.{◌≡◌, ◌∙◌, length, None, Some, ap, sym}
use Rattle.std.specs.Prelude.{option_copied}
use Rattle.std.specs.BTreeMap.{get}
use Rattle.std.specs.Ordering.{nat_cmp}
use Rattle.entries.specs.declared.journal.What.TheVariants as what
use Rattle.arena_core.specs.Held.{past}
use Rattle.journal_replay.specs.Causes.{games_cause, games_of_wave, wave_cause, window_cause}
use Rattle.journal_replay.proofs.Tried.{in_its_time, tries_at}
use Rattle.journal_replay.proofs.waves.add_wave.Goals as goal

pub start_wave-requires-clause-wave : goal.start_wave-requires-clause-wave
start_wave-requires-clause-wave c =
    let p = c.in-Some-of_length.plan.now in
    let found : get nat_cmp c.args.plans.now.made c.args.n ≡ Some p = sym c.of_length.ensures ∙ ap option_copied c.in-Some-of_length.is in
    c.requires.wave ∙ ap what.Wave (sym (c.requires.own c.args.n p found).0)

pub start_wave-requires-clause-in_time : goal.start_wave-requires-clause-in_time
start_wave-requires-clause-in_time c =
    let p = c.in-Some-of_length.plan.now in
    let s = c.args.journal.now.setup in
    let t = c.args.e.now.stamp in
    let found : get nat_cmp c.args.plans.now.made c.args.n ≡ Some p = sym c.of_length.ensures ∙ ap option_copied c.in-Some-of_length.is in
    ap (window_cause s (length c.args.arena.now.entries) t) (c.requires.own c.args.n p found).0 ∙ (ap (λ m. window_cause s m t c.args.n) (sym c.len-number.ensures) ∙ (sym c.window_cause.ensures ∙ c.in_default.is))

pub returns-clause-tries : goal.returns-clause-tries
returns-clause-tries c =
    let p = c.in-Some-of_length.plan.now in
    let j = c.args.journal.now in
    let a = c.args.arena.now in
    let t = c.args.e.now.stamp in
    let n = c.args.n in
    let found : get nat_cmp c.args.plans.now.made n ≡ Some p = sym c.of_length.ensures ∙ ap option_copied c.in-Some-of_length.is in
    let in_time : window_cause j.setup (length a.entries) t n ≡ None = ap (λ m. window_cause j.setup m t n) (sym c.len-number.ensures) ∙ (sym c.window_cause.ensures ∙ c.in_default.is) in
    tries_at (wave_cause j (past a) t n) (games_cause j (past a) (games_of_wave j (past a) p.n)) a.entries c.start_wave.new.arena.entries c.args.e.now c.start_wave.result
    (in_its_time c.beginnings_are_histories.ensures.entries j a c.requires.setup t n in_time ∙ ap (λ m. games_cause j (past a) (games_of_wave j (past a) m)) (sym (c.requires.own n p found).0))
    c.start_wave.ensures.tries
