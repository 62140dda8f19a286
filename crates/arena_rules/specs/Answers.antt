-- What a command that is not refused is answered, and what a question is.
use Rattle.std.specs.Prelude.{ℕ, ◌*◌, length, take, drop, Option, Some}
use Rattle.std.specs.Option.{option_map}
use Rattle.entries.specs.declared.journal.Entry.{Entry}
use Rattle.entries.specs.declared.setup.Setup.{Setup}
use Rattle.game_room.specs.declared.view.GameView.{GameView}
use Rattle.ranking.specs.Rows.{page}
use Rattle.arena_history.specs.History.{History}
use Rattle.arena_history.specs.Endings.{ended_by}
use Rattle.arena_history.specs.Games.{Begun}
use Rattle.arena_history.specs.Table.{lines, team_standings}
use Rattle.arena_history.specs.Waves.{after}
use Rattle.arena_rules.specs.declared.command.Command.{Command}
use Rattle.arena_rules.specs.declared.command.Command.TheVariants as command
use Rattle.arena_rules.specs.declared.query.Query.{Query}
use Rattle.arena_rules.specs.declared.query.Query.TheVariants as query
use Rattle.arena_rules.specs.declared.query.Reply.{Reply}
use Rattle.arena_rules.specs.declared.query.Reply.TheVariants as reply
use Rattle.arena_rules.specs.declared.query.Answer.{Answer}
use Rattle.arena_rules.specs.declared.query.Answer.TheVariants as answers
use Rattle.arena_rules.specs.Commands.{entry_of}
use Rattle.arena_rules.specs.Verdicts.{game_at}
use Rattle.arena_rules.specs.Views.{arena_view, me_view, game_shown}

-- the game with this number as it is shown at a stamp, if so many were begun
abbrev pub shown_at : Setup → History → ℕ → ℕ → Option GameView
shown_at s h t number = option_map (λ (g : Begun). game_shown h g t) (game_at s h number)

-- the reply to a command once it has made an entry, at the history before and at the one with that entry: the player who asked,
-- the game in which he acted, or how many games the look ended
abbrev pub reply_with : Setup → History → Entry → Command → Option Reply
reply_with s h e (command.Enter p) = Some (reply.Me (me_view s (after s h e) p))
reply_with s h e (command.Pause p) = Some (reply.Me (me_view s (after s h e) p))
reply_with s h e (command.Leave p) = Some (reply.Me (me_view s (after s h e) p))
reply_with s h e (command.Act p number a) = option_map reply.Game (shown_at s (after s h e) e.stamp number)
reply_with s h e command.Tick = Some (reply.Ticked (length (ended_by s h e)))

-- the reply to a command of a pass at a stamp, at the history before it
unfoldable pub reply_to : Setup → History → ℕ → ℕ → Command → Option Reply
reply_to s h t pass c = reply_with s h (entry_of t pass c) c

-- the answer to a question at a history and a stamp: there is none about a game that was not begun
abbrev pub answer_to : Setup → History → ℕ → Query → Option Answer
answer_to s h t query.Arena = Some (answers.Arena (arena_view s h t))
answer_to s h t (query.Standing k) = Some (answers.Standing (length (lines s h)) (page (10 * k) 10 (lines s h)))
answer_to s h t query.Teams = Some (answers.Teams (team_standings s h))
answer_to s h t (query.Me p) = Some (answers.Me (me_view s h p))
answer_to s h t (query.Game number) = option_map answers.Game (shown_at s h t number)
answer_to s h t (query.Journal k) = Some (answers.Journal (length h.entries) (take 1000 (drop k h.entries)))
