-- The plan that is made of an arena's snapshot is that of its journal.
use Rattle.std.proofs.Common.{◌≡◌, ℕ, Result, Ok, Err, IfOk, length, ap, subst, sym, ◌∙◌}
use Rattle.std.specs.declared.alloc.AllocError.{AllocError}
use Rattle.wave.specs.declared.snapshot.Plan.{Plan}
use Rattle.wave.specs.declared.snapshot.Snapshot.{Snapshot}
use Rattle.wave.specs.Plans.{planned_alone, planned_pairs}
use Rattle.wave.specs.Rankings.{IsRanking}
use Rattle.arena_core.specs.Held.{Held, past}
use Rattle.arena_history.specs.HistoryLaws.{HasItsEntries}
use Rattle.arena_rules.specs.Commits.{IsPlanOf}
use Rattle.arena_rules.specs.PlanLaws.{PlansAreOfTheirEntries}
use Rattle.arena_history.specs.Snapshots.{candidates, plan, snapshot}

module _ (a : Held) (x : Snapshot) (t : ℕ) (taken : x ≡ snapshot a.setup (past a) t) where
  -- its rows are a ranking
  pub rows_are : IsRanking (candidates a.setup (past a)) → IsRanking x.rows
  unfolding snapshot
  rows_are ranking = subst (λ (y : Snapshot). IsRanking y.rows) (sym taken) ranking

  made_of : PlansAreOfTheirEntries → (made : Plan) → made.n ≡ x.n → made.pairs ≡ planned_pairs x.rule x.rows → made.alone ≡ planned_alone x.rule x.rows → IsPlanOf a.setup a.entries made
  unfolding snapshot plan
  made_of own made n pairs alone =
      let of_n = n ∙ ap (λ (y : Snapshot). y.n) taken in
      let of_pairs = pairs ∙ ap (λ (y : Snapshot). planned_pairs y.rule y.rows) taken in
      let of_alone = alone ∙ ap (λ (y : Snapshot). planned_alone y.rule y.rows) taken in
      let same : made ≡ plan a.setup (past a) = λ i. record { n = of_n i; pairs = of_pairs i; alone = of_alone i } in
      subst (λ (y : Plan). IsPlanOf a.setup a.entries y) (sym same) (own a.setup a.entries)

  -- what is planned of it is its plan
  pub plan_is : PlansAreOfTheirEntries → (result : Result Plan AllocError) → IfOk result (λ made. made.n ≡ x.n) → IfOk result (λ made. made.pairs ≡ planned_pairs x.rule x.rows) → IfOk result (λ made. made.alone ≡ planned_alone x.rule x.rows) → IfOk result (IsPlanOf a.setup a.entries)
  plan_is own (Ok made) n pairs alone = made_of own made n pairs alone
  plan_is own (Err e) n pairs alone = tt

  long_of : HasItsEntries → x.n ≡ length a.entries
  unfolding snapshot
  long_of entries = ap (λ (y : Snapshot). y.n) taken ∙ ap length (entries a.setup a.entries)

  -- of all its entries
  pub is_whole : HasItsEntries → (result : Result Plan AllocError) → IfOk result (λ made. made.n ≡ x.n) → IfOk result (λ made. made.n ≡ length a.entries)
  is_whole entries (Ok made) n = n ∙ long_of entries
  is_whole entries (Err e) n = tt
