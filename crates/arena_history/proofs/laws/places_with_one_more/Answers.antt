use Rattle.arena_history.proofs.PlaceLists.{places-nothing, length-places, place_at-places, entered_places, paused_places, left_places, freed_places, seated_places}
use Rattle.arena_history.proofs.Placed.{place-nothing, place_with_one_more}
use Rattle.arena_history.proofs.Played.{ended_apart, no_show_of_game}
use Rattle.arena_history.proofs.Seated.{PlansPairOnce}
use Rattle.arena_history.proofs.laws.places_with_one_more.Goals as goal

pub returns-clause-nothing : goal.returns-clause-nothing
returns-clause-nothing c = place-nothing

pub returns-clause-one_more : goal.returns-clause-one_more
returns-clause-one_more c = λ s es e p. place_with_one_more (record { named = c.each_player_once.ensures.paired; once = c.each_player_once.ensures.apart }) s es e p

pub returns-clause-apart : goal.returns-clause-apart
returns-clause-apart c = ended_apart (record { named = c.each_player_once.ensures.paired; once = c.each_player_once.ensures.apart })

pub returns-clause-no_show : goal.returns-clause-no_show
returns-clause-no_show c = no_show_of_game (record { named = c.each_player_once.ensures.paired; once = c.each_player_once.ensures.apart })

pub returns-clause-all : goal.returns-clause-all
returns-clause-all c =
    let known : PlansPairOnce = record { named = c.each_player_once.ensures.paired; once = c.each_player_once.ensures.apart } in
    record {
      nothing = places-nothing;
      long = length-places;
      at = place_at-places;
      enter = entered_places known;
      pause = paused_places known;
      leave = left_places known;
      endings = freed_places known;
      wave = seated_places known;
    }
