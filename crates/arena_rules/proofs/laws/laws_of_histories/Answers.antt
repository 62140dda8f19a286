use Rattle.arena_rules.proofs.laws.laws_of_histories.Goals as goal

pub returns : goal.returns
returns c = record {
  entries = c.beginnings_are_histories.ensures.entries;
  beginnings = c.beginnings_are_histories.ensures.beginnings;
  grow = c.beginnings_are_histories.ensures.grow;
  belong = c.beginnings_are_histories.ensures.belong;
  numbered = c.games_with_one_more.ensures.numbered;
  begun = c.games_with_one_more.ensures.begun;
  events = c.games_with_one_more.ensures.events;
  new_games = c.games_with_one_more.ensures.new_games;
  running = c.games_with_one_more.ensures.running;
  ended = c.games_end.ensures.ended;
  by_events = c.games_end.ensures.others;
  no_longer = c.games_end.ensures.no_longer;
  by_look = c.games_end.ensures.by_look;
  room = c.games_count_once.ensures.room;
  counted = c.games_count_once.ensures.ended;
  counted_once = c.games_count_once.ensures.once;
  counted_stay = c.games_count_once.ensures.stay;
  wish = c.wishes_of_players.ensures.one_more;
  at_most_one = c.players_sit_in_their_games.ensures.at_most_one;
  played = c.players_sit_in_their_games.ensures.played;
  still = c.idle_players.ensures.throughout;
  entered = c.lines_with_one_more.ensures.entered;
  begin = c.waves_begin_games.ensures.begin;
  started = c.waves_begin_games.ensures.started;
  timed = c.events_are_entries.ensures;
  few_rows = c.rows_are_in_range.ensures.few;
  rows = c.rows_are_in_range.ensures.ranges;
  ranking = c.rows_are_in_range.ensures.ranking;
  small = c.waves_list_their_games.ensures.small;
  players = c.waves_list_their_games.ensures.players;
  order = c.waves_list_their_games.ensures.order;
}
