use Rattle.game_room.proofs.Stays.{ended_stays, ended_view_stays, ended_refuses, refused_is_no_event, look_changes_nothing}
use Rattle.game_room.proofs.laws.what_changes_nothing.Goals as goal

pub returns-clause-ended : goal.returns-clause-ended
returns-clause-ended c h events later o over = ended_stays h events later o over

pub returns-clause-refused : goal.returns-clause-refused
returns-clause-refused c h events later side a t r e = refused_is_no_event h events later side a t r e

pub returns-clause-look : goal.returns-clause-look
returns-clause-look c h events later t off = look_changes_nothing h events later t off

pub returns-clause-over : goal.returns-clause-over
returns-clause-over c h events side a t o over = ended_refuses h events side a t o over

pub returns-clause-seen : goal.returns-clause-seen
returns-clause-seen c h events later o t over = ended_view_stays h events later o t over
