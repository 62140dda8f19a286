use Rattle.std.proofs.Common.{◌≡◌}
use Rattle.journal_replay.specs.Plans.{HasLastUses, waves_among}
use Rattle.journal_replay.proofs.plans.last_uses.Given as goal

-- the last uses among the entries so far are known, and so are the numbers of waves and entries
abbrev pub invariant-noting : goal.invariant-noting
invariant-noting l = record {
  number : l.number ≡ l.e-index;
  waves : l.waves ≡ waves_among l.entries l.e-index;
  uses : HasLastUses l.entries l.e-index l.uses;
}
