use Rattle.std.proofs.Common.{ap, sym, ◌∙◌}
use Rattle.arena_games.specs.Keeps.{KeptFor, runs}
use Rattle.arena_games.specs.KeptGames.{KeptGames}
use Rattle.arena_games.proofs.Items.{zip_tells}
use Rattle.arena_games.proofs.Listed.{parted_by, numbers_kept, numbers_without}
use Rattle.arena_games.proofs.Told.{in_time_at, looked_at, read_at, read_in}
use Rattle.arena_games.proofs.games.Games.look_at.Goals as goal

pub look_in-requires : goal.look_in-requires
look_in-requires c =
    let r = c.requires.timely in
    in_time_at c.args.self.now.games r.games c.args.t c.args.g c.index_mut.result.now r.stands r.past
    (read_at c.args.self.now c.self.inside.games.items c.args.g c.index_mut.result.now (ap (λ (v : KeptGames). v.games) c.self.view_is) c.requires.begun c.index_mut.ensures.value)

pub invariant_of-self : goal.invariant_of-self
invariant_of-self c =
    let read = read_in c.args.self.now c.self.inside.games.items c.args.g c.index_mut.result.now (ap (λ (v : KeptGames). v.games) c.self.view_is) c.requires.begun c.index_mut.ensures.value in
    (c.self.invariant.0 ∙ sym (numbers_kept runs c.self.inside.games.items c.args.g c.index_mut.result.now c.look_in.new.game read c.in-None.ensures.runs), c.self.invariant.1)

pub take_out-requires : goal.take_out-requires
take_out-requires c =
    let read = read_in c.args.self.now c.self.inside.games.items c.args.g c.index_mut.result.now (ap (λ (v : KeptGames). v.games) c.self.view_is) c.requires.begun c.index_mut.ensures.value in
    parted_by runs c.self.inside.games.items c.self.inside.running.items c.args.g c.index_mut.result.now c.self.invariant.0 read c.in-Some.ensures.ran

pub invariant_of-self-in-Some : goal.invariant_of-self-in-Some
invariant_of-self-in-Some c =
    let read = read_in c.args.self.now c.self.inside.games.items c.args.g c.index_mut.result.now (ap (λ (v : KeptGames). v.games) c.self.view_is) c.requires.begun c.index_mut.ensures.value in (
      c.take_out.ensures.items (parted_by runs c.self.inside.games.items c.self.inside.running.items c.args.g c.index_mut.result.now c.self.invariant.0 read c.in-Some.ensures.ran)
          ∙ numbers_without runs c.self.inside.games.items c.self.inside.running.items c.args.g c.index_mut.result.now c.look_in.new.game c.self.invariant.0 read c.in-Some.ensures.ran c.in-Some.ensures.ended,
      c.self.invariant.1,
    )

pub returns-in-None-clause-answer : goal.returns-in-None-clause-answer
returns-in-None-clause-answer c games k stands at =
    let read = read_at c.args.self.now c.self.inside.games.items c.args.g c.index_mut.result.now (ap (λ (v : KeptGames). v.games) c.self.view_is) c.requires.begun c.index_mut.ensures.value in
    c.in-None.ensures.answer k (zip_tells KeptFor c.args.self.now.games games c.args.g c.index_mut.result.now k stands read at)

pub returns-in-None-clause-idle : goal.returns-in-None-clause-idle
returns-in-None-clause-idle c games k stands at =
    let read = read_at c.args.self.now c.self.inside.games.items c.args.g c.index_mut.result.now (ap (λ (v : KeptGames). v.games) c.self.view_is) c.requires.begun c.index_mut.ensures.value in
    c.in-None.ensures.idle k (zip_tells KeptFor c.args.self.now.games games c.args.g c.index_mut.result.now k stands read at)

pub returns-in-None-clause-looked : goal.returns-in-None-clause-looked
returns-in-None-clause-looked c =
    looked_at c.args.self.now c.self.inside.games.items c.args.g c.args.t c.index_mut.result.now c.look_in.new.game (ap (λ (v : KeptGames). v.games) c.self.view_is) c.requires.begun c.index_mut.ensures.value c.in-None.ensures.stands

pub returns-in-Some-clause-answer : goal.returns-in-Some-clause-answer
returns-in-Some-clause-answer c games k stands at =
    let read = read_at c.args.self.now c.self.inside.games.items c.args.g c.index_mut.result.now (ap (λ (v : KeptGames). v.games) c.self.view_is) c.requires.begun c.index_mut.ensures.value in
    c.in-Some.ensures.answer k (zip_tells KeptFor c.args.self.now.games games c.args.g c.index_mut.result.now k stands read at)

pub returns-in-Some-clause-looked : goal.returns-in-Some-clause-looked
returns-in-Some-clause-looked c =
    looked_at c.args.self.now c.self.inside.games.items c.args.g c.args.t c.index_mut.result.now c.look_in.new.game (ap (λ (v : KeptGames). v.games) c.self.view_is) c.requires.begun c.index_mut.ensures.value c.in-Some.ensures.stands
