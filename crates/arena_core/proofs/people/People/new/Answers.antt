use Rattle.std.proofs.Common.{◌≡◌, ◌∙◌, sym, ap, subst, length, replicate, []}
use Rattle.seats.specs.Places.{unknown}
use Rattle.arena_history.specs.Endings.{finished}
use Rattle.arena_history.specs.History.{along}
use Rattle.arena_history.specs.Table.{entered}
use Rattle.arena_history.specs.Waves.{history}
use Rattle.arena_players.specs.Facts as pairings
use Rattle.arena_core.proofs.people.People.new.Goals as goal

pub returns : goal.returns
unfolding history finished entered along
returns c =
    let s = c.args.setup.now in
    let players : length c.items.result.now ≡ length s.players = ap length c.items.ensures in
    record {
      places = c.in_ok-seats.ensures ∙ (ap (λ n. replicate n unknown) players ∙ sym (c.laws_of_histories.ensures.places.nothing s));
      scores = c.in_ok-scores.ensures;
      pairings = subst (λ n. pairings.StandsFor c.in_ok-pairings.pairings n [] []) players c.in_ok-pairings.ensures;
      counted = c.new-4.ensures.items;
    }
