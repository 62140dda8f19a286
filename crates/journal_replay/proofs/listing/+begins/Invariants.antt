use Rattle.std.proofs.Common.{length}
use Rattle.journal_replay.proofs.listing.+begins.Given as goal

-- the games that are left
abbrev pub decreases-begins : goal.decreases-begins
decreases-begins l = length l.listed.now
