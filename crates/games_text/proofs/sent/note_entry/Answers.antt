use Rattle.std.proofs.Common.{sym, ◌∙◌}
use Rattle.std.proofs.lemmas.Result.{on_ok_weaker}
use Rattle.games_text.proofs.Noted.{entry_more, entry_there}
use Rattle.games_text.proofs.sent.note_entry.Goals as goal

pub returns-in-Some : goal.returns-in-Some
returns-in-Some c =
    on_ok_weaker c.note.result
    (λ on count was. entry_more count c.args.a.now.entries c.args.i c.in-Some.entry c.args.lines.now.items c.note.new.lines.items (sym c.entry.ensures ∙ c.in-Some.is) was on)
    c.note.ensures

pub returns-in-None : goal.returns-in-None
returns-in-None c count was = absurd (entry_there c.args.a.now.entries c.args.i c.requires (sym c.entry.ensures ∙ c.in-None.is))
