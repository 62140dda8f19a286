use Rattle.std.proofs.Common.{ap, sym, ◌∙◌}
use Rattle.std.specs.Prelude.{is_none}
use Rattle.arena_games.specs.Keeps.{KeptFor, runs}
use Rattle.arena_games.specs.KeptGames.{KeptGames}
use Rattle.arena_games.proofs.Items.{zip_tells}
use Rattle.arena_games.proofs.Listed.{parted_by, numbers_kept, numbers_without}
use Rattle.arena_games.proofs.Told.{may_act_at, read_at, read_in, stands_set}
use Rattle.arena_games.proofs.games.Games.act.Goals as goal

pub act_in-requires-clause-in_time : goal.act_in-requires-clause-in_time
act_in-requires-clause-in_time c =
    let r = c.requires.timely in
    may_act_at c.args.self.now.games r.games c.args.t c.args.g c.index_mut.result.now r.stands r.past r.short
    (read_at c.args.self.now c.self.inside.games.items c.args.g c.index_mut.result.now (ap (λ (v : KeptGames). v.games) c.self.view_is) c.requires.begun c.index_mut.ensures.value)

pub invariant_of-self-in-Ok-None : goal.invariant_of-self-in-Ok-None
invariant_of-self-in-Ok-None c =
    let read = read_in c.args.self.now c.self.inside.games.items c.args.g c.index_mut.result.now (ap (λ (v : KeptGames). v.games) c.self.view_is) c.requires.begun c.index_mut.ensures.value in
    let same = c.in-Ok-None.ensures.runs ∙ (ap is_none c.in-Ok-None.field-0-is ∙ sym c.in-Ok-None.ensures.ran) in
    (c.self.invariant.0 ∙ sym (numbers_kept runs c.self.inside.games.items c.args.g c.index_mut.result.now c.act_in.new.game read same), c.self.invariant.1)

pub take_out-requires : goal.take_out-requires
take_out-requires c =
    let read = read_in c.args.self.now c.self.inside.games.items c.args.g c.index_mut.result.now (ap (λ (v : KeptGames). v.games) c.self.view_is) c.requires.begun c.index_mut.ensures.value in
    parted_by runs c.self.inside.games.items c.self.inside.running.items c.args.g c.index_mut.result.now c.self.invariant.0 read c.in-Ok-Some.ensures.ran

pub invariant_of-self-in-Ok-Some : goal.invariant_of-self-in-Ok-Some
invariant_of-self-in-Ok-Some c =
    let read = read_in c.args.self.now c.self.inside.games.items c.args.g c.index_mut.result.now (ap (λ (v : KeptGames). v.games) c.self.view_is) c.requires.begun c.index_mut.ensures.value in
    let over = c.in-Ok-Some.ensures.runs ∙ ap is_none c.in-Ok-Some.field-0-is in (
      c.take_out.ensures.items (parted_by runs c.self.inside.games.items c.self.inside.running.items c.args.g c.index_mut.result.now c.self.invariant.0 read c.in-Ok-Some.ensures.ran)
          ∙ numbers_without runs c.self.inside.games.items c.self.inside.running.items c.args.g c.index_mut.result.now c.act_in.new.game c.self.invariant.0 read c.in-Ok-Some.ensures.ran over,
      c.self.invariant.1,
    )

pub returns-in-Err-clause-answer : goal.returns-in-Err-clause-answer
returns-in-Err-clause-answer c games k stands at =
    let read = read_at c.args.self.now c.self.inside.games.items c.args.g c.index_mut.result.now (ap (λ (v : KeptGames). v.games) c.self.view_is) c.requires.begun c.index_mut.ensures.value in
    c.in-Err.ensures.answer k (zip_tells KeptFor c.args.self.now.games games c.args.g c.index_mut.result.now k stands read at)

pub returns-in-Ok-None-clause-answer : goal.returns-in-Ok-None-clause-answer
returns-in-Ok-None-clause-answer c games k stands at =
    let read = read_at c.args.self.now c.self.inside.games.items c.args.g c.index_mut.result.now (ap (λ (v : KeptGames). v.games) c.self.view_is) c.requires.begun c.index_mut.ensures.value in
    rw c.in-Ok-None.field-0-is at (c.in-Ok-None.ensures.answer k (zip_tells KeptFor c.args.self.now.games games c.args.g c.index_mut.result.now k stands read at))

pub returns-in-Ok-None-clause-accepted : goal.returns-in-Ok-None-clause-accepted
returns-in-Ok-None-clause-accepted c games k stands at =
    let same = ap (λ (v : KeptGames). v.games) c.self.view_is in
    let read = read_at c.args.self.now c.self.inside.games.items c.args.g c.index_mut.result.now same c.requires.begun c.index_mut.ensures.value in
    stands_set c.args.self.now c.self.inside.games.items games c.args.g c.act_in.new.game _ same stands
    (c.in-Ok-None.ensures.stands k (zip_tells KeptFor c.args.self.now.games games c.args.g c.index_mut.result.now k stands read at))

pub returns-in-Ok-Some-clause-answer : goal.returns-in-Ok-Some-clause-answer
returns-in-Ok-Some-clause-answer c games k stands at =
    let read = read_at c.args.self.now c.self.inside.games.items c.args.g c.index_mut.result.now (ap (λ (v : KeptGames). v.games) c.self.view_is) c.requires.begun c.index_mut.ensures.value in
    rw c.in-Ok-Some.field-0-is at (c.in-Ok-Some.ensures.answer k (zip_tells KeptFor c.args.self.now.games games c.args.g c.index_mut.result.now k stands read at))

pub returns-in-Ok-Some-clause-accepted : goal.returns-in-Ok-Some-clause-accepted
returns-in-Ok-Some-clause-accepted c games k stands at =
    let same = ap (λ (v : KeptGames). v.games) c.self.view_is in
    let read = read_at c.args.self.now c.self.inside.games.items c.args.g c.index_mut.result.now same c.requires.begun c.index_mut.ensures.value in
    stands_set c.args.self.now c.self.inside.games.items games c.args.g c.act_in.new.game _ same stands
    (c.in-Ok-Some.ensures.stands k (zip_tells KeptFor c.args.self.now.games games c.args.g c.index_mut.result.now k stands read at))
