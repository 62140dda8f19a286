use Rattle.std.proofs.Common.{◌≡◌, ◌+◌, ◌++◌, ◌∷◌, [], suc, ap, ◌∙◌, arith}
use Rattle.workload.specs.Numbers.{state}
use Rattle.workload.specs.Setups.{players_of}
use Rattle.workload.proofs.Listed.{one_player_more}
use Rattle.workload.proofs.setup.players.Goals as goal

pub making-init : goal.making-init
unfolding players_of
making-init c = record { drawn = λ seed is. is; players = λ seed is. c.new-made.ensures.items }

pub making-preserved : goal.making-preserved
making-preserved c =
    let p = c.making.p in
    let more : suc p ≡ p + 1 = omega arith in
    record {
      drawn = λ seed is. c.in_ok-player.ensures.drawn seed (c.making.invariant.drawn seed is) ∙ ap (state seed) more;
      players = λ seed is.
          let same : c.push.new.self.items ≡ c.making.made.items ++ c.in_ok-player.field-0 ∷ [] = c.in_ok-push.ensures.items in
          same ∙ one_player_more seed c.making.made.items c.in_ok-player.field-0 p (c.making.invariant.players seed is) (c.in_ok-player.ensures.player seed (c.making.invariant.drawn seed is));
    }
