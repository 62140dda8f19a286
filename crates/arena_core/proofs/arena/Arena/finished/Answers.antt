use Rattle.std.proofs.Common.{◌≡◌, ◌∙◌, ap, length, arith}
use Rattle.std.proofs.lemmas.List.{length-map}
use Rattle.entries.specs.declared.journal.Entry.{Entry}
use Rattle.entries.specs.declared.journal.What.TheVariants as what
use Rattle.arena_history.specs.Endings.{EndedGame, finished}
use Rattle.arena_history.specs.Waves.{history}
use Rattle.arena_core.proofs.arena.Arena.finished.Goals as goal

pub overflow_cast-result : goal.overflow_cast-result
overflow_cast-result c =
    let b = c.self.inside.book in
    let e : Entry = record { stamp = 0; pass = 0; what = what.Tick } in
    let few = (c.legal_lists_in_range.ensures.few b.setup b.entries e c.keeps.ensures.legal).0 in
    let long : length c.self.inside.people.counted ≡ length (finished b.setup (history b.setup b.entries)) = ap length c.self.invariant.people.counted ∙ length-map (finished b.setup (history b.setup b.entries)) (λ (x : EndedGame). x.game.header.id) in
    omega (arith, few, long, ap length c.counted.ensures)
