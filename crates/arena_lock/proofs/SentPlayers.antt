-- A setup, a journal's entries and what an arena keeps of its players may be sent to another thread, and a setup may be shared.
use denote.Param.Send.{IsSend, IsSync, sendable}
use Rattle.std.proofs.Crossing.{crosses}
use Rattle.conn.specs.contracts.text.Text as text
use Rattle.entries.specs.contracts.action.Action as action
use Rattle.entries.specs.contracts.journal.Entry as entry
use Rattle.entries.specs.contracts.journal.What as what
use Rattle.entries.specs.contracts.journal.Start as start
use Rattle.entries.specs.contracts.setup.Control as control
use Rattle.entries.specs.contracts.setup.Player as player
use Rattle.entries.specs.contracts.setup.Setup as setup
use Rattle.seats.specs.contracts.seats.Seats as seats
use Rattle.ranking.specs.contracts.table.Table as table
use Rattle.sheet.specs.contracts.sheet.Sheet as sheet
use Rattle.performance.specs.contracts.perf.Perf as perf
use Rattle.arena_players.specs.contracts.account.Account as account
use Rattle.arena_players.specs.contracts.pairings.Pairings as pairings
use Rattle.arena_players.specs.contracts.scores.Scores as scores
use Rattle.arena_core.specs.contracts.people.People as people
use Rattle.arena_lock.proofs.SentBoards.{a_move}

a_text : IsSend text.the_row
a_text = search (sendable, crosses) depth 20

the_control : IsSend control.the_field.row
the_control = search (sendable, crosses) depth 20

a_player : IsSend player.the_row
a_player = search (sendable, crosses, a_text) depth 20

pub a_setup : IsSend setup.the_field.row
a_setup = search (sendable, crosses, the_control, a_text, a_player) depth 30

text_sync : IsSync text.the_row
text_sync = search (sendable, crosses) depth 20

control_sync : IsSync control.the_field.row
control_sync = search (sendable, crosses) depth 20

player_sync : IsSync player.the_row
player_sync = search (sendable, crosses, text_sync) depth 20

pub setup_sync : IsSync setup.the_field.row
setup_sync = search (sendable, crosses, control_sync, text_sync, player_sync) depth 30

an_action : IsSend action.the_field.row
an_action = search (sendable, crosses, a_move) depth 20

a_what : IsSend what.the_field.row
a_what = search (sendable, crosses, an_action) depth 20

pub an_entry : IsSend entry.the_row
an_entry = search (sendable, crosses, a_what) depth 20

the_seats : IsSend seats.the_row
the_seats = search (sendable, crosses) depth 20

the_table : IsSend table.the_row
the_table = search (sendable, crosses) depth 20

a_sheet : IsSend sheet.the_row
a_sheet = search (sendable, crosses) depth 20

a_perf : IsSend perf.the_row
a_perf = search (sendable, crosses) depth 20

an_account : IsSend account.the_row
an_account = search (sendable, crosses, a_sheet, a_perf) depth 20

the_scores : IsSend scores.the_row
the_scores = search (sendable, crosses, an_account, the_table) depth 20

the_pairings : IsSend pairings.the_row
the_pairings = search (sendable, crosses) depth 20

pub the_people : IsSend people.the_row
the_people = search (sendable, crosses, the_seats, the_scores, the_pairings) depth 20
