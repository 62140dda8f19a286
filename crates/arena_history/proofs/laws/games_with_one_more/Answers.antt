use Rattle.std.proofs.Common.{◌∙◌, ap, refl, if◌then◌else◌, None, option_map}
use Rattle.std.proofs.lemmas.Bool.{ne_eqb}
use Rattle.game_room.specs.Events.{act_of}
use Rattle.arena_history.specs.Games.{event_in, side_of}
use Rattle.arena_history.proofs.BegunGames.{number_at, length-begun}
use Rattle.arena_history.proofs.GrownGames.{begun-push, events-push, new_games-push, running-push}
use Rattle.arena_history.proofs.Numbered.{running_are, running_rise}
use Rattle.arena_history.proofs.laws.games_with_one_more.Goals as goal

pub returns-clause-numbered : goal.returns-clause-numbered
returns-clause-numbered c = record { numbered = number_at; counted = length-begun }

pub returns-clause-begun : goal.returns-clause-begun
returns-clause-begun c = begun-push

pub returns-clause-events : goal.returns-clause-events
returns-clause-events c = events-push

pub returns-clause-new_games : goal.returns-clause-new_games
returns-clause-new_games c = new_games-push

pub returns-clause-running : goal.returns-clause-running
returns-clause-running c = running-push

pub returns-clause-run : goal.returns-clause-run
returns-clause-run c = record { run = running_are; rise = running_rise }

pub returns-clause-own : goal.returns-clause-own
returns-clause-own c = record {
  pass = λ g e q. refl;
  another = λ g e p n a is other. ap (event_in g e.stamp) is ∙ ap (λ b. if b then option_map (λ side. act_of side a e.stamp) (side_of g p) else None) (ne_eqb n g.id other);
  look = λ g e is. ap (event_in g e.stamp) is;
}
