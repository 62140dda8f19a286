use Rattle.std.proofs.Common.{ap, sym, ◌∙◌, arith}
use Rattle.arena_games.specs.Keeps.{runs}
use Rattle.arena_games.specs.KeptGames.{KeptGames}
use Rattle.arena_games.proofs.Listed.{parted}
use Rattle.arena_games.proofs.Scans.{is_left, found, not_found, none_found, in_time_left}
use Rattle.arena_games.proofs.games.Games.first_due.Goals as goal

pub place_of-start-requires : goal.place_of-start-requires
place_of-start-requires c = parted runs c.self.inside.games.items c.as_slice.result.now c.args.from (c.as_slice.ensures.value ∙ c.self.invariant.0)

pub index-requires : goal.index-requires
index-requires c =
    let left = is_left c.self.inside.games.items c.as_slice.result.now c.as_slice-2.result.now c.self.inside.running.items c.split_at.result.1.now c.args.from c.place_of-start.result c.as_slice.ensures.value c.self.invariant.0 c.as_slice-2.ensures.value c.split_at.ensures.back c.place_of-start.ensures.place in
    let within = left.within c.looking.number-index 0 (omega arith) in
    let len = c.self.inside.games.ok.0 in
    omega arith

pub is_due-requires : goal.is_due-requires
is_due-requires c =
    let left = is_left c.self.inside.games.items c.as_slice.result.now c.as_slice-2.result.now c.self.inside.running.items c.split_at.result.1.now c.args.from c.place_of-start.result c.as_slice.ensures.value c.self.invariant.0 c.as_slice-2.ensures.value c.split_at.ensures.back c.place_of-start.ensures.place in
    in_time_left c.args.t c.args.self.now c.self.inside.games.items c.args.from c.looking.number-index c.split_at.result.1.now c.index.result.now
    (ap (λ (v : KeptGames). v.games) c.self.view_is) left (omega arith) c.index.ensures c.requires

pub returns-then-is_due : goal.returns-then-is_due
returns-then-is_due c =
    let left = is_left c.self.inside.games.items c.as_slice.result.now c.as_slice-2.result.now c.self.inside.running.items c.split_at.result.1.now c.args.from c.place_of-start.result c.as_slice.ensures.value c.self.invariant.0 c.as_slice-2.ensures.value c.split_at.ensures.back c.place_of-start.ensures.place in
    found c.args.t c.args.self.now c.self.inside.games.items c.args.from c.looking.number-index c.split_at.result.1.now c.index.result.now
    (ap (λ (v : KeptGames). v.games) c.self.view_is) left c.looking.invariant (omega arith) c.index.ensures (sym c.is_due.ensures ∙ c.if-is_due.true)

pub looking-preserved : goal.looking-preserved
looking-preserved c =
    let left = is_left c.self.inside.games.items c.as_slice.result.now c.as_slice-2.result.now c.self.inside.running.items c.split_at.result.1.now c.args.from c.place_of-start.result c.as_slice.ensures.value c.self.invariant.0 c.as_slice-2.ensures.value c.split_at.ensures.back c.place_of-start.ensures.place in
    not_found c.args.t c.self.inside.games.items c.args.from c.looking.number-index c.split_at.result.1.now c.index.result.now
    left c.looking.invariant (omega arith) c.index.ensures (sym c.is_due.ensures ∙ c.if-is_due.false)

pub returns : goal.returns
returns c =
    let left = is_left c.self.inside.games.items c.as_slice.result.now c.as_slice-2.result.now c.self.inside.running.items c.split_at.result.1.now c.args.from c.place_of-start.result c.as_slice.ensures.value c.self.invariant.0 c.as_slice-2.ensures.value c.split_at.ensures.back c.place_of-start.ensures.place in
    none_found c.args.t c.args.self.now c.self.inside.games.items c.args.from c.looking.number-index c.split_at.result.1.now
    (ap (λ (v : KeptGames). v.games) c.self.view_is) left c.looking.invariant (omega arith)
