-- Plans of first entries, and what a commit starts of them.
use Rattle.std.proofs.Common.{◌≡◌, ◌≤◌, List, ◌++◌, take, length, refl, sym, ap, ◌∙◌, arith}
use Rattle.std.specs.Prelude.{filter}
use Rattle.std.proofs.lemmas.List.{length-take, take_all, take-append-le}
use Rattle.entries.specs.declared.setup.Setup.{Setup}
use Rattle.entries.specs.declared.journal.Entry.{Entry}
use Rattle.wave.specs.declared.snapshot.Plan.{Plan}
use Rattle.arena_history.specs.History.{History}
use Rattle.arena_history.specs.Snapshots.{plan}
use Rattle.arena_history.specs.Waves.{both_still, started, history}
use Rattle.arena_rules.specs.Below.{LawsOfHistories}
use Rattle.arena_rules.specs.Commits.{IsPlanOf}

number_of_plan : (s : Setup) (h : History) → (plan s h).n ≡ length h.entries
unfolding plan
number_of_plan s h = refl

module _ (known : LawsOfHistories) where
  pub plan_of_all : (s : Setup) (es : List Entry) → IsPlanOf s es (plan s (history s es))
  plan_of_all s es =
      let all : (plan s (history s es)).n ≡ length es = number_of_plan s (history s es) ∙ ap length (known.entries s es) in
      ap (λ l. plan s (history s l)) (sym (take_all (plan s (history s es)).n es (omega (arith, all))))

  pub plan_known : (s : Setup) (es : List Entry) (p : Plan) → IsPlanOf s es p → p.n ≤ length es
  plan_known s es p of =
      let is : p.n ≡ length (take p.n es) = ap (λ (x : Plan). x.n) of ∙ (number_of_plan s (history s (take p.n es)) ∙ ap length (known.entries s (take p.n es))) in
      omega (arith, is, length-take p.n es)

  pub plan_stays : (s : Setup) (es more : List Entry) (p : Plan) → IsPlanOf s es p → IsPlanOf s (es ++ more) p
  plan_stays s es more p of = of ∙ ap (λ l. plan s (history s l)) (sym (take-append-le p.n es more (plan_known s es p of)))

  pub plan_filtered : (s : Setup) (es : List Entry) (p : Plan) → IsPlanOf s es p → started s (history s es) p.n ≡ filter (both_still s (history s es) p.n) p.pairs
  unfolding started
  plan_filtered s es p of =
      let h = history s es in
      ap (λ (x : Plan). filter (both_still s h p.n) x.pairs) (ap (plan s) (known.beginnings s es p.n) ∙ sym of)
