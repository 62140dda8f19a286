-- A lobby may be shared between threads, and its passes may be sent to them.
use denote.Param.Send.{IsSend, IsSync, sendable}
use Rattle.std.proofs.Crossing.{crosses}
use Rattle.entries.specs.contracts.journal.Entry as entry
use Rattle.entries.specs.contracts.setup.Setup as setup
use Rattle.arena_core.specs.contracts.arena.Arena as arena
use Rattle.arena_core.specs.contracts.arena.ArenaHistoried.TheImpl as historied
use Rattle.arena_core.specs.contracts.book.Book as book
use Rattle.turnstile.specs.contracts.pass.Pass as pass
use Rattle.turnstile.specs.contracts.turnstile.Turnstile as turnstile
use Rattle.turnstile.proofs.Crossing as lock
use Rattle.arena_lock.specs.contracts.lobby.Lobby as lobby
use Rattle.arena_lock.proofs.SentGames.{the_games}
use Rattle.arena_lock.proofs.SentPlayers.{a_setup, setup_sync, an_entry, the_people}

the_book : IsSend book.the_row
the_book = search (sendable, crosses, a_setup, an_entry) depth 20

an_arena : IsSend arena.the_row
an_arena = search (sendable, crosses, the_book, the_games, the_people) depth 20

pub pass_send : IsSend (pass.the_row arena.the_row entry.the_row setup.the_row historied.ghosts)
pass_send = lock.pass_send arena.the_row entry.the_row setup.the_row historied.ghosts an_arena

turnstile_sync : IsSync (turnstile.the_row arena.the_row entry.the_row setup.the_row historied.ghosts)
turnstile_sync = lock.turnstile_sync arena.the_row entry.the_row setup.the_row historied.ghosts an_arena

pub lobby_sync : IsSync lobby.the_row
lobby_sync = search (sendable, crosses, turnstile_sync, setup_sync) depth 20
