-- Players who enter, one by one.
use Rattle.std.proofs.Common.{◌≡◌, ℕ, suc, ◌+◌, ◌-◌, ◌<◌, ◌≤◌, List, [], ◌∷◌, map, ap, arith}
use Rattle.std.specs.List.{range_with_len}
use Rattle.entries.specs.declared.journal.Entry.{Entry}
use Rattle.entries.specs.declared.setup.Setup.{Setup}
use Rattle.arena_history.specs.Waves.{history}
use Rattle.arena_rules.specs.declared.command.Command.TheVariants.{Enter}
use Rattle.arena_rules.specs.Commands.{entry_of}
use Rattle.workload.specs.Drafts.{behind, going, with_all}

abbrev pub enter : ℕ → Entry
enter p = entry_of 0 0 (Enter p)

-- so many players enter, from one on
abbrev pub enters_from : ℕ → ℕ → List Entry
enters_from p n = map enter (range_with_len p n)

pub nothing_begun : (s now : Setup) (es : List Entry) → es ≡ [] → (history now es).starts ≡ []
unfolding history
nothing_begun s now es none = ap (λ (xs : List Entry). (history now xs).starts) none

module _ (s : Setup) (p players : ℕ) (more : p < players) where
  next : enters_from p (players - p) ≡ enter p ∷ enters_from (p + 1) (players - (p + 1))
  next = let count : players - p ≡ suc (players - (p + 1)) = omega (arith, more) in ap (enters_from p) count

  module _ (es : List Entry) where
    -- the next one's entry comes first
    pub one_enters : with_all s (going es) (enters_from p (players - p)) ≡ with_all s (behind s es (enter p)) (enters_from (p + 1) (players - (p + 1)))
    unfolding with_all
    one_enters = ap (with_all s (going es)) next

-- at the end nobody is left
pub all_entered : (s : Setup) (es : List Entry) (p players : ℕ) → players ≤ p → with_all s (going es) (enters_from p (players - p)) ≡ going es
unfolding with_all
all_entered s es p players all = let count : players - p ≡ 0 = omega (arith, all) in ap (λ n. with_all s (going es) (enters_from p n)) count
