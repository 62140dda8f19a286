use Rattle.std.proofs.Common.{◌≡◌, ◌∙◌, sym, ap, Some, None, true, false}
use Rattle.std.specs.Prelude.{cond}
use Rattle.arena_rules.specs.declared.refusal.Refusal.TheVariants as refusal
use Rattle.arena_rules.specs.Verdicts.{some_due}
use Rattle.arena_core.specs.Courses.{courses}
use Rattle.arena_core.specs.Written.{written_past}
use Rattle.arena_core.proofs.Asked.{due_read, games_timely}
use Rattle.arena_core.proofs.asking.look_refusal.Goals as goal

pub some_due-requires : goal.some_due-requires
some_due-requires c =
    games_timely c.laws_of_histories.ensures c.games_of_legal_lists.ensures.timed c.args.book.now.setup c.args.book.now.entries c.keeps.ensures.legal c.args.games.now c.args.t c.requires.kept.games c.requires.not_before

pub returns-then-some_due : goal.returns-then-some_due
returns-then-some_due c =
    let b = c.args.book.now in
    let is : some_due b.setup (written_past b) c.args.t ≡ true = sym (due_read b.setup (written_past b) c.args.t) ∙ (sym (c.some_due.ensures (courses b.setup (written_past b)) c.requires.kept.games) ∙ c.if-some_due.true) in
    sym (ap (λ d. cond d None (Some refusal.NothingDue)) is)

pub returns-else-some_due : goal.returns-else-some_due
returns-else-some_due c =
    let b = c.args.book.now in
    let is : some_due b.setup (written_past b) c.args.t ≡ false = sym (due_read b.setup (written_past b) c.args.t) ∙ (sym (c.some_due.ensures (courses b.setup (written_past b)) c.requires.kept.games) ∙ c.if-some_due.false) in
    sym (ap (λ d. cond d None (Some refusal.NothingDue)) is)
