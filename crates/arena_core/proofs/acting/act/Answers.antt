use Rattle.std.proofs.Common.{◌≡◌, ◌∙◌, suc, sym, ap, subst, refl, length, Some, None, [], ◌∷◌, take, ℕ, Bool, arith}
use Rattle.std.specs.Prelude.{slice_set}
use Rattle.std.specs.Option.{option_map, option_to_list}
use Rattle.game_room.specs.declared.outcome.Outcome.{Outcome}
use Rattle.game_room.specs.Events.{act_of}
use Rattle.arena_games.specs.Courses.{outcome_of, with_event}
use Rattle.arena_games.specs.KeptGames as games
use Rattle.arena_history.specs.Endings.{EndedGame, ended_by}
use Rattle.arena_history.specs.Games.{side_of}
use Rattle.arena_rules.specs.declared.command.Command.TheVariants.{Act}
use Rattle.arena_rules.specs.Commands.{entry_of}
use Rattle.arena_core.specs.Courses.{course, courses}
use Rattle.arena_core.specs.People.{StandsFor, standing, MayEnd, with_end}
use Rattle.arena_core.specs.Written.{written_past}
use Rattle.arena_core.proofs.Acted.{allowed_act, acted_ends, kept_acted, header_of_game, course_of_game, act_within, act_answered}
use Rattle.arena_core.proofs.Asked.{games_go_on}
use Rattle.arena_core.proofs.Playing.{may_end}
use Rattle.arena_core.proofs.acting.act.Goals as goal

pub unreachable-requires : goal.unreachable-requires
unreachable-requires c =
    let b = c.args.book.now in
    let h = written_past b in
    let w = allowed_act b.setup h c.args.t c.args.p c.args.g c.args.action c.requires.granted in
    let found = header_of_game b.setup h c.args.t c.args.p c.args.g c.args.action w c.header.result (c.header.ensures (courses b.setup h) c.requires.kept.games) in
    cc (found, c.in_default.is)

pub unreachable-requires-in_default-side_of : goal.unreachable-requires-in_default-side_of
unreachable-requires-in_default-side_of c =
    let b = c.args.book.now in
    let h = written_past b in
    let w = allowed_act b.setup h c.args.t c.args.p c.args.g c.args.action c.requires.granted in
    let found = header_of_game b.setup h c.args.t c.args.p c.args.g c.args.action w c.header.result (c.header.ensures (courses b.setup h) c.requires.kept.games) in
    let header : c.in-Some.header ≡ w.game.header = cc (found, c.in-Some.is) in
    let plays : side_of c.in-Some.header c.args.p ≡ Some w.side = ap (λ x. side_of x c.args.p) header ∙ w.plays in
    cc (plays, c.side_of.ensures, c.in_default-side_of.is)

pub act-requires-clause-begun : goal.act-requires-clause-begun
act-requires-clause-begun c =
    let b = c.args.book.now in
    let h = written_past b in
    let w = allowed_act b.setup h c.args.t c.args.p c.args.g c.args.action c.requires.granted in
    act_within b.setup h c.args.t c.args.p c.args.g c.args.action w c.args.games.now c.requires.kept.games

pub act-requires-clause-timely : goal.act-requires-clause-timely
act-requires-clause-timely c =
    games_go_on c.laws_of_histories.ensures c.games_of_legal_lists.ensures.timed c.args.book.now.setup c.args.book.now.entries c.keeps.ensures.legal c.args.games.now c.args.t c.requires.kept.games c.requires.not_before

pub end-requires : goal.end-requires
end-requires c =
    let b = c.args.book.now in
    let h = written_past b in
    let t = c.args.t in
    let p = c.args.p in
    let g = c.args.g in
    let a = c.args.action in
    let w = allowed_act b.setup h t p g a c.requires.granted in
    let told = act_answered b.setup h t p g a w c.in-Some.header c.in-Some-side_of.side c.header.result c.side_of.result c.act.result (c.header.ensures (courses b.setup h) c.requires.kept.games) c.in-Some.is c.side_of.ensures c.in-Some-side_of.is (λ x at. c.act.ensures.answer (courses b.setup h) x c.requires.kept.games at) in
    let out : outcome_of (with_event (act_of w.side a t) (course h w.game)) ≡ Some c.in-Ok-Some.outcome = cc (told.answer, c.in-Ok-Some.is, c.in-Ok-Some.field-0-is) in
    let x : EndedGame = record { game = w.game; outcome = c.in-Ok-Some.outcome } in
    let ended : (pass : ℕ) → ended_by b.setup h (entry_of t pass (Act p g a)) ≡ x ∷ [] = λ pass. acted_ends c.laws_of_histories.ensures c.acts_go_on.ensures b.setup b.entries t p g a w pass ∙ ap (λ o. option_to_list (option_map (λ (y : Outcome). record { game = w.game; outcome = y }) o)) out in
    record {
      may = subst (MayEnd c.args.people.now) (sym told.header_is) (may_end c.laws_of_histories.ensures c.games_of_legal_lists.ensures.headers c.legal_lists_in_range.ensures.games b.setup b.entries c.keeps.ensures.good c.keeps.ensures.legal (entry_of t 0 (Act p g a)) (x ∷ []) (ended 0) 0 x refl 0 Rattle.std.proofs.Common.true c.args.people.now c.requires.kept.people c.requires.kept.room);
    }

pub unreachable-requires-in-Err : goal.unreachable-requires-in-Err
unreachable-requires-in-Err c =
    let b = c.args.book.now in
    let h = written_past b in
    let t = c.args.t in
    let p = c.args.p in
    let g = c.args.g in
    let a = c.args.action in
    let w = allowed_act b.setup h t p g a c.requires.granted in
    let told = act_answered b.setup h t p g a w c.in-Some.header c.in-Some-side_of.side c.header.result c.side_of.result c.act.result (c.header.ensures (courses b.setup h) c.requires.kept.games) c.in-Some.is c.side_of.ensures c.in-Some-side_of.is (λ x at. c.act.ensures.answer (courses b.setup h) x c.requires.kept.games at) in
    cc (told.answer, c.in-Err.is)

pub returns-in-Ok-None-clause-kept : goal.returns-in-Ok-None-clause-kept
returns-in-Ok-None-clause-kept c =
    λ pass.
    let b = c.args.book.now in
    let h = written_past b in
    let t = c.args.t in
    let p = c.args.p in
    let g = c.args.g in
    let a = c.args.action in
    let w = allowed_act b.setup h t p g a c.requires.granted in
    let told = act_answered b.setup h t p g a w c.in-Some.header c.in-Some-side_of.side c.header.result c.side_of.result c.act.result (c.header.ensures (courses b.setup h) c.requires.kept.games) c.in-Some.is c.side_of.ensures c.in-Some-side_of.is (λ x at. c.act.ensures.answer (courses b.setup h) x c.requires.kept.games at) in
    let out : outcome_of (with_event (act_of w.side a t) (course h w.game)) ≡ None = cc (told.answer, c.in-Ok-None.is, c.in-Ok-None.field-0-is) in
    let ended : (pass : ℕ) → ended_by b.setup h (entry_of t pass (Act p g a)) ≡ [] = λ pass. acted_ends c.laws_of_histories.ensures c.acts_go_on.ensures b.setup b.entries t p g a w pass ∙ ap (λ o. option_to_list (option_map (λ (y : Outcome). record { game = w.game; outcome = y }) o)) out in
    let stands = subst (λ y. games.StandsFor c.act.new.self (slice_set (courses b.setup h) g (with_event (act_of y a t) (course h w.game)))) told.side_is (c.in-Ok-None.ensures.accepted (courses b.setup h) (course h w.game) c.requires.kept.games (course_of_game b.setup h t p g a w)) in
    kept_acted c.laws_of_histories.ensures c.acts_go_on.ensures b.setup b.entries t p g a w pass c.args.people.now [] c.act.new.self c.args.people.now c.requires.kept.room (ended pass) stands c.requires.kept.people refl

pub returns-in-Ok-None-clause-ended : goal.returns-in-Ok-None-clause-ended
returns-in-Ok-None-clause-ended c =
    λ pass.
    let b = c.args.book.now in
    let h = written_past b in
    let t = c.args.t in
    let p = c.args.p in
    let g = c.args.g in
    let a = c.args.action in
    let w = allowed_act b.setup h t p g a c.requires.granted in
    let told = act_answered b.setup h t p g a w c.in-Some.header c.in-Some-side_of.side c.header.result c.side_of.result c.act.result (c.header.ensures (courses b.setup h) c.requires.kept.games) c.in-Some.is c.side_of.ensures c.in-Some-side_of.is (λ x at. c.act.ensures.answer (courses b.setup h) x c.requires.kept.games at) in
    let out : outcome_of (with_event (act_of w.side a t) (course h w.game)) ≡ None = cc (told.answer, c.in-Ok-None.is, c.in-Ok-None.field-0-is) in
    let ended : (pass : ℕ) → ended_by b.setup h (entry_of t pass (Act p g a)) ≡ [] = λ pass. acted_ends c.laws_of_histories.ensures c.acts_go_on.ensures b.setup b.entries t p g a w pass ∙ ap (λ o. option_to_list (option_map (λ (y : Outcome). record { game = w.game; outcome = y }) o)) out in
    sym (ap length (ended pass))

pub returns-in-Ok-Some-clause-kept : goal.returns-in-Ok-Some-clause-kept
returns-in-Ok-Some-clause-kept c =
    λ pass.
    let b = c.args.book.now in
    let h = written_past b in
    let t = c.args.t in
    let p = c.args.p in
    let g = c.args.g in
    let a = c.args.action in
    let w = allowed_act b.setup h t p g a c.requires.granted in
    let told = act_answered b.setup h t p g a w c.in-Some.header c.in-Some-side_of.side c.header.result c.side_of.result c.act.result (c.header.ensures (courses b.setup h) c.requires.kept.games) c.in-Some.is c.side_of.ensures c.in-Some-side_of.is (λ x at. c.act.ensures.answer (courses b.setup h) x c.requires.kept.games at) in
    let out : outcome_of (with_event (act_of w.side a t) (course h w.game)) ≡ Some c.in-Ok-Some.outcome = cc (told.answer, c.in-Ok-Some.is, c.in-Ok-Some.field-0-is) in
    let x : EndedGame = record { game = w.game; outcome = c.in-Ok-Some.outcome } in
    let ended : (pass : ℕ) → ended_by b.setup h (entry_of t pass (Act p g a)) ≡ x ∷ [] = λ pass. acted_ends c.laws_of_histories.ensures c.acts_go_on.ensures b.setup b.entries t p g a w pass ∙ ap (λ o. option_to_list (option_map (λ (y : Outcome). record { game = w.game; outcome = y }) o)) out in
    let stands = subst (λ y. games.StandsFor c.act.new.self (slice_set (courses b.setup h) g (with_event (act_of y a t) (course h w.game)))) told.side_is (c.in-Ok-Some.ensures.accepted (courses b.setup h) (course h w.game) c.requires.kept.games (course_of_game b.setup h t p g a w)) in
    let n : c.next_len.result ≡ suc (length b.entries) = omega (arith, c.next_len.ensures) in
    let people = subst (λ (q : ℕ × Bool). StandsFor c.end.new.self b.setup (with_end q.0 q.1 (standing b.setup h) x)) (λ i. (n i, c.counts_at.ensures i)) (c.end.ensures.stands b.setup (standing b.setup h) x (sym told.header_is) refl c.requires.kept.people) in
    kept_acted c.laws_of_histories.ensures c.acts_go_on.ensures b.setup b.entries t p g a w pass c.args.people.now (x ∷ []) c.act.new.self c.end.new.self c.requires.kept.room (ended pass) stands people c.end.ensures.room

pub returns-in-Ok-Some-clause-ended : goal.returns-in-Ok-Some-clause-ended
returns-in-Ok-Some-clause-ended c =
    λ pass.
    let b = c.args.book.now in
    let h = written_past b in
    let t = c.args.t in
    let p = c.args.p in
    let g = c.args.g in
    let a = c.args.action in
    let w = allowed_act b.setup h t p g a c.requires.granted in
    let told = act_answered b.setup h t p g a w c.in-Some.header c.in-Some-side_of.side c.header.result c.side_of.result c.act.result (c.header.ensures (courses b.setup h) c.requires.kept.games) c.in-Some.is c.side_of.ensures c.in-Some-side_of.is (λ x at. c.act.ensures.answer (courses b.setup h) x c.requires.kept.games at) in
    let out : outcome_of (with_event (act_of w.side a t) (course h w.game)) ≡ Some c.in-Ok-Some.outcome = cc (told.answer, c.in-Ok-Some.is, c.in-Ok-Some.field-0-is) in
    let x : EndedGame = record { game = w.game; outcome = c.in-Ok-Some.outcome } in
    let ended : (pass : ℕ) → ended_by b.setup h (entry_of t pass (Act p g a)) ≡ x ∷ [] = λ pass. acted_ends c.laws_of_histories.ensures c.acts_go_on.ensures b.setup b.entries t p g a w pass ∙ ap (λ o. option_to_list (option_map (λ (y : Outcome). record { game = w.game; outcome = y }) o)) out in
    sym (ap length (ended pass))
