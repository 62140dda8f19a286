use Rattle.std.proofs.Common.{subst, arith}
use Rattle.arena_players.specs.Accounts.{IsFreshOf}
use Rattle.arena_players.proofs.Fresh.{fresh_next}
use Rattle.arena_players.proofs.scores.accounts_of.Goals as goal

pub listing-preserved : goal.listing-preserved
listing-preserved c = record {
  fresh = fresh_next c.items-players.result.now c.listing.player-index c.player-item.result c.listing.accounts.items c.push_reserved.new.self.items c.new.result (omega arith) c.listing.invariant.fresh
      (subst (λ p. IsFreshOf p c.new.result) c.player-item.is (record { rating = c.new.ensures.rating; sheet = c.new.ensures.sheet; perf = c.new.ensures.perf; results = c.new.ensures.results }))
      c.push_reserved.ensures.items;
  len = omega arith;
  room = omega arith;
}
