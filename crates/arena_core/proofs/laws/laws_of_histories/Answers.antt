use Rattle.arena_core.proofs.laws.laws_of_histories.Goals as goal

pub returns : goal.returns
returns c = record {
  entries = c.beginnings_are_histories.ensures.entries;
  beginnings = c.beginnings_are_histories.ensures.beginnings;
  grow = c.beginnings_are_histories.ensures.grow;
  belong = c.beginnings_are_histories.ensures.belong;
  numbered = c.games_with_one_more.ensures.numbered;
  begun = c.games_with_one_more.ensures.begun;
  events = c.games_with_one_more.ensures.events;
  new_games = c.games_with_one_more.ensures.new_games;
  run = c.games_with_one_more.ensures.run;
  ended = c.games_end.ensures.ended;
  by_events = c.games_end.ensures.by_events;
  by_act = c.games_end.ensures.by_act;
  others = c.games_end.ensures.others;
  no_longer = c.games_end.ensures.no_longer;
  few = c.games_count_once.ensures.room;
  counted = c.games_count_once.ensures.one_more;
  places = c.places_with_one_more.ensures.all;
  apart = c.places_with_one_more.ensures.apart;
  played = c.players_sit_in_their_games.ensures.played;
  lines = c.lines_with_one_more.ensures.lines;
  entered = c.lines_with_one_more.ensures.entered;
  candidates = c.waves_begin_games.ensures.candidates;
  by_numbers = c.waves_begin_games.ensures.by_numbers;
  started = c.waves_begin_games.ensures.started;
  wave = c.candidates_with_one_more.ensures.wave;
}
