use Rattle.std.proofs.Common.{◌≡◌, ◌≤◌, ap, ◌∙◌, sym, None, arith}
use Rattle.board.specs.declared.parts.Parts.{Parts}
use Rattle.move_rules.specs.After.{after}
use Rattle.game_clock.specs.Clocks.{Clocks}
use Rattle.game_room.specs.Endings.{outcome_if_ended}
use Rattle.game_room.proofs.RoomLeft.{canonical_half, follows, fits, kept_count, has_room, ended_at, since_move}
use Rattle.game_room.proofs.room.changes.play.Goals as goal

pub push-requires-clause-follows : goal.push-requires-clause-follows
push-requires-clause-follows c ne =
    let going : c.room.inside.outcome ≡ None = ap (λ k. k.outcome) c.room.view_is ∙ c.requires.going in
    let open_now = c.room.invariant.0 going in
    let made : c.make-position.result.half ≡ (after c.room.inside.position c.args.m).half = ap (λ (p : Parts). p.half) c.make-position.ensures.is in
    let compared : c.canonical.result.half ≡ c.make-position.result.half = ap (λ (p : Parts). p.half) c.canonical.ensures ∙ canonical_half c.make-position.result in
    follows c.room.inside.position c.args.m c.room.inside.past _ (omega arith) open_now.0 open_now.1 ne

pub push-requires-clause-room : goal.push-requires-clause-room
push-requires-clause-room c =
    let going : c.room.inside.outcome ≡ None = ap (λ k. k.outcome) c.room.view_is ∙ c.requires.going in
    let made : c.make-position.result.half ≡ (after c.room.inside.position c.args.m).half = ap (λ (p : Parts). p.half) c.make-position.ensures.is in
    let compared : c.canonical.result.half ≡ c.make-position.result.half = ap (λ (p : Parts). p.half) c.canonical.ensures ∙ canonical_half c.make-position.result in
    fits c.room.inside.position c.args.m _ (omega arith) ((c.room.invariant.0 going).0)

pub invariant_of-room : goal.invariant_of-room
invariant_of-room c =
    let going : c.room.inside.outcome ≡ None = ap (λ k. k.outcome) c.room.view_is ∙ c.requires.going in
    let open_now = c.room.invariant.0 going in
    let made : c.make-position.result.half ≡ (after c.room.inside.position c.args.m).half = ap (λ (p : Parts). p.half) c.make-position.ensures.is in
    let compared : c.canonical.result.half ≡ c.make-position.result.half = ap (λ (p : Parts). p.half) c.canonical.ensures ∙ canonical_half c.make-position.result in
    let count = kept_count c.room.inside.position c.args.m c.room.inside.past c.push.new.self _ _ c.push.ensures (omega arith) open_now.0 open_now.1 in
    let outcome = c.outcome_if_ended-room-inside.ensures ∙ ap (λ e. outcome_if_ended c.moved.new.self e c.args.t) c.ending_after_move-ending.ensures in
    let since = ap (λ (k : Clocks). k.since) c.moved.ensures.is ∙ since_move c.room.inside.clock c.args.t in (
      λ none. (has_room c.moved.new.self c.make-position.result c.count.result c.args.t c.args.side (sym outcome ∙ none), omega arith),
      λ o ended.
          (let late : c.args.t ≤ o.stamp = ended_at c.moved.new.self c.ending_after_move-ending.result c.args.t o (sym c.outcome_if_ended-room-inside.ensures ∙ ended) in
          omega arith),
    )
