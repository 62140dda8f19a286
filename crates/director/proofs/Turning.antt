-- What the steps make of a whole turn.
use Rattle.std.proofs.Common.{◌≡◌, ℕ, inl, inr, List, length, Result, Ok, Err, refl, sym, ap, ◌∙◌, subst}
use Rattle.entries.specs.declared.journal.Entry.{Entry}
use Rattle.entries.specs.declared.setup.Setup.{Setup}
use Rattle.wave.specs.declared.snapshot.Plan.{Plan}
use Rattle.wave.specs.declared.snapshot.Snapshot.{Snapshot}
use Rattle.wave.specs.Plans.{planned_pairs, planned_alone}
use Rattle.arena_history.specs.Snapshots.{plan, snapshot}
use Rattle.arena_history.specs.Waves.{history}
use Rattle.arena_rules.specs.Commits.{IsPlanOf}
use Rattle.arena_rules.specs.PlanLaws.{PlansAreOfTheirEntries}
use Rattle.director.specs.declared.turn.TurnFault.{TurnFault}
use Rattle.director.specs.declared.turn.TurnFault.TheVariants.{Full, OutOfMemory}
use Rattle.director.specs.declared.turn.WaveEnd.{WaveEnd}
use Rattle.director.specs.Answers.{turn_of}
use Rattle.director.specs.Steps.{State, Looked, Snapped}
use Rattle.director.specs.Turns.{Prepared, IsSnapshotOf, EndsWave, Directs}

is_plan : (s : Setup) (es : List Entry) (snap : Snapshot) → IsSnapshotOf s es snap → (p : Plan) → p.n ≡ snap.n → p.pairs ≡ planned_pairs snap.rule snap.rows → p.alone ≡ planned_alone snap.rule snap.rows → p ≡ plan s (history s es)
unfolding plan snapshot
is_plan s es snap taken p n pairs alone =
    let by_n : p.n ≡ length (history s es).entries = n ∙ ap (λ (x : Snapshot). x.n) taken.1 in
    let by_pairs : p.pairs ≡ (plan s (history s es)).pairs = pairs ∙ ap (λ (x : Snapshot). planned_pairs x.rule x.rows) taken.1 in
    let by_alone : p.alone ≡ (plan s (history s es)).alone = alone ∙ ap (λ (x : Snapshot). planned_alone x.rule x.rows) taken.1 in
    λ i. record { n = by_n i; pairs = by_pairs i; alone = by_alone i }

-- the plan of a snapshot of these entries is a plan of theirs
pub plan_of_snapshot : PlansAreOfTheirEntries → (s : Setup) (es : List Entry) (snap : Snapshot) → IsSnapshotOf s es snap → (p : Plan) → p.n ≡ snap.n → p.pairs ≡ planned_pairs snap.rule snap.rows → p.alone ≡ planned_alone snap.rule snap.rows → IsPlanOf s es p
plan_of_snapshot law s es snap taken p n pairs alone = subst (λ (x : Plan). IsPlanOf s es x) (sym (is_plan s es snap taken p n pairs alone)) (law s es)

module _ (s : Setup) (a b c d : State) (ended : ℕ) (snap : Snapshot) (looked : Looked s a b ended) (snapped : Snapped s b c snap) where
  abbrev prepared : Prepared s a c ended snap
  prepared = record { b = b; looked = looked; snapped = snapped }

  pub directs : (wave : Result WaveEnd TurnFault) → EndsWave s c d snap wave → Directs s a d (turn_of s ended snap wave)
  directs (Ok wave) e = record { c = c; snap = snap; prepared = prepared; n = refl; idle = refl; over = refl; wave = e }
  directs (Err Full) e = inr (record { c = c; ended = ended; snap = snap; prepared = prepared; planned = e })
  directs (Err OutOfMemory) (inl e) = inr (inr (inl (record { ended = ended; snap = snap; prepared = subst (λ x. Prepared s a x ended snap) (sym e.1) prepared; due = e.0 })))
  directs (Err OutOfMemory) (inr e) = inr (inr (inr (record { c = c; ended = ended; snap = snap; prepared = prepared; planned = e })))
