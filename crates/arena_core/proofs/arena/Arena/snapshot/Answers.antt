use Rattle.std.proofs.Common.{◌≡◌, ◌∙◌, sym, ap, subst, length}
use Rattle.arena_core.specs.Held.{Held, past}
use Rattle.arena_history.specs.Snapshots.{candidates, snapshot}
use Rattle.arena_history.specs.Stamps.{stamp_of}
use Rattle.arena_history.specs.Waves.{history}
use Rattle.wave.specs.declared.snapshot.Snapshot.{Snapshot}
use Rattle.arena_core.specs.Courses.{courses}
use Rattle.arena_core.proofs.Shown.{running_count}
use Rattle.arena_core.proofs.arena.Arena.snapshot.Goals as goal

pub returns : goal.returns
unfolding snapshot
returns c =
    let b = c.self.inside.book in
    let h = history b.setup b.entries in
    let running = c.running.ensures (courses b.setup h) c.self.invariant.games ∙ running_count b.setup h in
    let long = c.len.ensures ∙ ap length (sym (c.laws_of_histories.ensures.entries b.setup b.entries)) in
    let stamp : c.stamp.result ≡ stamp_of b.entries c.args.now = c.stamp.ensures.stamp ∙ ap (λ (x : Held). stamp_of x.entries c.args.now) (sym c.self.view_is) in
    let rows : c.of.result ≡ candidates b.setup h = c.of.ensures ∙ (c.in_ok-rows.ensures h (subst (λ s. Rattle.arena_core.specs.People.StandsFor c.self.inside.people s (Rattle.arena_core.specs.People.standing s h)) (sym c.setup.ensures) c.self.invariant.people) ∙ ap (λ s. candidates s h) c.setup.ensures) in
    subst (λ (x : Held). ◌≡◌ {A = Snapshot} (record { n = c.len.result; stamp = c.stamp.result; last_wave = c.last_wave.result; running = c.running.result; rule = c.setup-2.result.now.rule; rows = c.of.result }) (snapshot x.setup (past x) (stamp_of x.entries c.args.now))) c.self.view_is
    (λ i. record { n = long i; stamp = stamp i; last_wave = c.last_wave.ensures i; running = running i; rule = ap (λ (s : Rattle.entries.specs.declared.setup.Setup.Setup). s.rule) c.setup-2.ensures i; rows = rows i })
