-- Rounds, one by one.
use Rattle.std.proofs.Common.{◌≡◌, ℕ, suc, ◌+◌, ◌-◌, ◌<◌, ◌≤◌, List, [], ◌∷◌, Result, Err, refl, ap, ◌∙◌, arith}
use Rattle.std.specs.Prelude.{IsErrAnd}
use Rattle.std.specs.List.{range_with_len}
use Rattle.entries.specs.declared.journal.Entry.{Entry}
use Rattle.entries.specs.declared.setup.Setup.{Setup}
use Rattle.workload.specs.Drafts.{Draft, ended}
use Rattle.workload.specs.Rounds.{round}
use Rattle.workload.specs.Steps.{ComesTo}
use Rattle.workload.specs.Workloads.{stamp_of_round, with_rounds}
use Rattle.workload.specs.declared.drafting.Stop.{Stop}
use Rattle.workload.specs.declared.drafting.Stop.TheVariants.{NotAllowed, OutOfMemory}
use Rattle.workload.proofs.Drafted.{passed_on}
use Rattle.workload.proofs.Rounded.{round_ended}

module _ (seed : ℕ) (s : Setup) where
  rounds_ended : (es : List Entry) (rs : List ℕ) → with_rounds seed s (ended es) rs ≡ ended es
  unfolding with_rounds
  rounds_ended es [] = refl
  rounds_ended es (r ∷ rs) = ap (λ d. with_rounds seed s d rs) (round_ended seed s (stamp_of_round r) es) ∙ rounds_ended es rs

  module _ (d : Draft) where
    -- the next one comes first
    pub one_round : (r : ℕ) → r < 4 → with_rounds seed s d (range_with_len r (4 - r)) ≡ with_rounds seed s (round seed s (stamp_of_round r) d) (range_with_len (r + 1) (4 - (r + 1)))
    unfolding with_rounds
    one_round r more = let count : 4 - r ≡ suc (4 - (r + 1)) = omega (arith, more) in ap (λ n. with_rounds seed s d (range_with_len r n)) count

    -- at the end none is left
    pub no_round : (r : ℕ) → 4 ≤ r → with_rounds seed s d (range_with_len r (4 - r)) ≡ d
    unfolding with_rounds
    no_round r all = let count : 4 - r ≡ 0 = omega (arith, all) in ap (λ n. with_rounds seed s d (range_with_len r n)) count

    stop : (rs : List ℕ) (new : List Entry) (f : Stop) → ComesTo d new (Err f) → ComesTo (with_rounds seed s d rs) new (Err f)
    stop rs new NotAllowed comes = ap (λ x. with_rounds seed s x rs) comes ∙ rounds_ended new rs
    stop rs new OutOfMemory comes = tt

    -- a list that has stopped comes no further
    pub rounds_stop : (rs : List ℕ) (new : List Entry) (r : Result (Unit {0}) Stop) (f : Stop) → IsErrAnd r (λ g. g ≡ f) → ComesTo d new (Err f) → ComesTo (with_rounds seed s d rs) new r
    rounds_stop rs new r f is comes = passed_on (with_rounds seed s d rs) new r f is (stop rs new f comes)
