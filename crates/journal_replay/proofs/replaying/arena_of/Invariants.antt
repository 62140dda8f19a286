use Rattle.std.proofs.Common.{◌≡◌, drop, length}
use Rattle.journal_replay.specs.Causes.{first_from, first_illegal}
use Rattle.journal_replay.specs.Plans.{HavePlans}
use Rattle.journal_replay.proofs.replaying.arena_of.Given as goal

-- the arena has the entries so far, of which none is the first that is not allowed, and the plans that are still used are kept
abbrev pub invariant-adding : goal.invariant-adding
invariant-adding g l = record {
  count : length l.arena.entries ≡ l.e-index;
  plans : HavePlans l.journal l.arena l.plans.last_uses l.plans.made;
  so_far : first_illegal l.journal ≡ first_from l.journal l.e-index (drop l.e-index l.journal.entries);
}
