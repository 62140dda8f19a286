use Rattle.std.proofs.Common.{◌≡◌, ◌≤◌, ◌<◌, ◌+◌, ◌∙◌, ℕ, suc, sym, ap, subst, length, List, take, drop, Bool, arith}
use Rattle.std.specs.List.{filter_map}
use Rattle.std.proofs.lemmas.Option.{slice_get_within}
use Rattle.entries.specs.Limits.{max_games}
use Rattle.arena_games.specs.Answers.{ends_behind}
use Rattle.arena_games.specs.Courses.{looked_below}
use Rattle.arena_history.specs.Endings.{EndedGame}
use Rattle.arena_history.specs.Games.{Begun, begun}
use Rattle.arena_rules.specs.declared.command.Command.TheVariants.{Tick}
use Rattle.arena_rules.specs.Commands.{entry_of}
use Rattle.arena_core.specs.Courses.{courses}
use Rattle.arena_core.specs.People.{MayEnd, StandsFor, standing, with_ends}
use Rattle.arena_core.specs.Written.{written_past}
use Rattle.arena_core.proofs.Asked.{games_past}
use Rattle.arena_core.proofs.Looked.{ended_at, look_ends, looked_ends, length_looked, game_there, header_there, next_end, ends_more, none_left, kept_looked}
use Rattle.arena_core.proofs.Playing.{may_end, few_ended}
use Rattle.arena_core.proofs.looking.end_due_games.Goals as goal

pub end_next_due-requires : goal.end_next_due-requires
end_next_due-requires c =
    let b = c.args.book.now in
    let h = written_past b in
    let t = c.args.t in
    let cs = courses b.setup h in
    let xs = look_ends b.setup h t in
    let now = c.ending.invariant in
    record {
      games = looked_below c.ending.from t cs;
      stands = now.games;
      past = c.looks_end.ensures.past c.ending.from t cs (games_past c.laws_of_histories.ensures c.games_of_legal_lists.ensures.timed b.setup b.entries c.keeps.ensures.legal t c.requires.not_before);
    }

pub returns-in_default-clause-kept : goal.returns-in_default-clause-kept
returns-in_default-clause-kept c =
    λ pass.
    let b = c.args.book.now in
    let h = written_past b in
    let t = c.args.t in
    let cs = courses b.setup h in
    let xs = look_ends b.setup h t in
    let now = c.ending.invariant in
    let none = none_left (begun b.setup h) xs c.ending.count (ends_behind c.ending.from t cs) now.left (c.in_default.ensures.next cs now.games) now.most in
    let n : c.next_len-n.result ≡ suc (length b.entries) = omega (arith, c.next_len-n.ensures) in
    let people = subst (λ (q : ℕ × Bool × List EndedGame). StandsFor c.ending.people b.setup (with_ends q.0 q.1 q.2 (standing b.setup h))) (λ i. (n i, c.counts_at-counts.ensures i, none.0 i)) now.people in
    kept_looked c.laws_of_histories.ensures c.looks_end.ensures.ends b.setup b.entries t pass c.args.people.now c.end_next_due.new.self c.ending.people c.requires.kept.room (c.in_default.ensures.none cs now.games) people now.room

pub returns-in_default-clause-ended : goal.returns-in_default-clause-ended
returns-in_default-clause-ended c =
    λ pass.
    let b = c.args.book.now in
    let h = written_past b in
    let t = c.args.t in
    let cs = courses b.setup h in
    let xs = look_ends b.setup h t in
    let now = c.ending.invariant in
    let none = none_left (begun b.setup h) xs c.ending.count (ends_behind c.ending.from t cs) now.left (c.in_default.ensures.next cs now.games) now.most in
    none.1 ∙ sym (ap length (looked_ends c.laws_of_histories.ensures c.looks_end.ensures.ends b.setup b.entries t pass))

pub unreachable-requires : goal.unreachable-requires
unreachable-requires c =
    let b = c.args.book.now in
    let h = written_past b in
    let t = c.args.t in
    let cs = courses b.setup h in
    let xs = look_ends b.setup h t in
    let now = c.ending.invariant in
    let end = c.in-Some.end in
    let there = game_there b.setup h c.ending.from t end.game c.ending.games now.games c.in-Some.ensures.within.1 in
    let next = next_end (begun b.setup h) xs c.ending.count there.0 end (ends_behind c.ending.from t cs) (ends_behind (suc end.game) t cs) now.left (c.in-Some.ensures.next cs now.games) there.1 in
    let found = header_there b.setup h (end.game + 1) t end.game there.0 c.header.result there.1 (c.header.ensures (looked_below (end.game + 1) t cs) (c.in-Some.ensures.some cs now.games)) in
    cc (found, c.in_default-header.is)

pub end-requires : goal.end-requires
end-requires c =
    let b = c.args.book.now in
    let h = written_past b in
    let t = c.args.t in
    let cs = courses b.setup h in
    let xs = look_ends b.setup h t in
    let now = c.ending.invariant in
    let end = c.in-Some.end in
    let there = game_there b.setup h c.ending.from t end.game c.ending.games now.games c.in-Some.ensures.within.1 in
    let next = next_end (begun b.setup h) xs c.ending.count there.0 end (ends_behind c.ending.from t cs) (ends_behind (suc end.game) t cs) now.left (c.in-Some.ensures.next cs now.games) there.1 in
    let found = header_there b.setup h (end.game + 1) t end.game there.0 c.header.result there.1 (c.header.ensures (looked_below (end.game + 1) t cs) (c.in-Some.ensures.some cs now.games)) in
    let header : next.game.game.header ≡ c.in-Some-header.header = ap (λ (g : Begun). g.header) next.of ∙ cc (found, c.in-Some-header.is) in
    let room : length h.starts ≤ c.ending.people.room = (let before : length h.starts ≤ c.args.people.now.room = c.requires.kept.room in omega (arith, now.room)) in
    record {
      may = subst (MayEnd c.ending.people) header (may_end c.laws_of_histories.ensures c.games_of_legal_lists.ensures.headers c.legal_lists_in_range.ensures.games b.setup b.entries c.keeps.ensures.good c.keeps.ensures.legal (entry_of t 0 Tick) xs (looked_ends c.laws_of_histories.ensures c.looks_end.ensures.ends b.setup b.entries t 0) c.ending.count next.game next.at c.next_len-n.result c.counts_at-counts.result c.ending.people now.people room);
    }

pub overflow_add-from : goal.overflow_add-from
overflow_add-from c =
    let b = c.args.book.now in
    let h = written_past b in
    let t = c.args.t in
    let cs = courses b.setup h in
    let xs = look_ends b.setup h t in
    let now = c.ending.invariant in
    let most : length (begun b.setup h) ≤ max_games = c.legal_lists_in_range.ensures.games b.setup b.entries c.keeps.ensures.legal in
    let within : c.in-Some.end.game < length c.ending.games.games = c.in-Some.ensures.within.1 in
    omega (arith, most, within, length_looked b.setup h c.ending.from t c.ending.games now.games)

pub overflow_add-count : goal.overflow_add-count
overflow_add-count c =
    let b = c.args.book.now in
    let h = written_past b in
    let t = c.args.t in
    let cs = courses b.setup h in
    let xs = look_ends b.setup h t in
    let now = c.ending.invariant in
    let end = c.in-Some.end in
    let there = game_there b.setup h c.ending.from t end.game c.ending.games now.games c.in-Some.ensures.within.1 in
    let next = next_end (begun b.setup h) xs c.ending.count there.0 end (ends_behind c.ending.from t cs) (ends_behind (suc end.game) t cs) now.left (c.in-Some.ensures.next cs now.games) there.1 in
    let most : length (begun b.setup h) ≤ max_games = c.legal_lists_in_range.ensures.games b.setup b.entries c.keeps.ensures.legal in
    let same : length (begun b.setup h) ≡ length h.starts = c.laws_of_histories.ensures.numbered.counted b.setup h in
    let within : c.ending.count < length xs = slice_get_within xs c.ending.count next.game next.at in
    omega (arith, most, same, within, few_ended c.laws_of_histories.ensures c.games_of_legal_lists.ensures.headers c.legal_lists_in_range.ensures.games b.setup b.entries c.keeps.ensures.good c.keeps.ensures.legal (entry_of t 0 Tick) xs (looked_ends c.laws_of_histories.ensures c.looks_end.ensures.ends b.setup b.entries t 0))

pub ending-smaller : goal.ending-smaller
ending-smaller c =
    let b = c.args.book.now in
    let h = written_past b in
    let t = c.args.t in
    let cs = courses b.setup h in
    let xs = look_ends b.setup h t in
    let now = c.ending.invariant in
    let within : (c.ending.from ≤ c.in-Some.end.game) × (c.in-Some.end.game < length c.ending.games.games) = c.in-Some.ensures.within in
    omega (arith, within.0, within.1, length_looked b.setup h c.ending.from t c.ending.games now.games)

pub ending-preserved : goal.ending-preserved
ending-preserved c =
    let b = c.args.book.now in
    let h = written_past b in
    let t = c.args.t in
    let cs = courses b.setup h in
    let xs = look_ends b.setup h t in
    let now = c.ending.invariant in
    let end = c.in-Some.end in
    let there = game_there b.setup h c.ending.from t end.game c.ending.games now.games c.in-Some.ensures.within.1 in
    let next = next_end (begun b.setup h) xs c.ending.count there.0 end (ends_behind c.ending.from t cs) (ends_behind (suc end.game) t cs) now.left (c.in-Some.ensures.next cs now.games) there.1 in
    let found = header_there b.setup h (end.game + 1) t end.game there.0 c.header.result there.1 (c.header.ensures (looked_below (end.game + 1) t cs) (c.in-Some.ensures.some cs now.games)) in
    let header : next.game.game.header ≡ c.in-Some-header.header = ap (λ (g : Begun). g.header) next.of ∙ cc (found, c.in-Some-header.is) in
    let one : suc c.ending.count ≡ c.ending.count + 1 = omega arith in
    let behind : suc end.game ≡ end.game + 1 = omega arith in
    let within : c.ending.count < length xs = slice_get_within xs c.ending.count next.game next.at in
    let ended = c.end.ensures.stands b.setup (with_ends c.next_len-n.result c.counts_at-counts.result (take c.ending.count xs) (standing b.setup h)) next.game header next.so now.people in
    record {
      games = c.in-Some.ensures.some cs now.games;
      people = subst (λ k. StandsFor c.end.new.self b.setup (with_ends c.next_len-n.result c.counts_at-counts.result (take k xs) (standing b.setup h))) one (subst (StandsFor c.end.new.self b.setup) (sym (ends_more c.next_len-n.result c.counts_at-counts.result xs c.ending.count next.game (standing b.setup h) next.done)) ended);
      left = subst (λ (q : ℕ × ℕ). filter_map (ended_at (begun b.setup h)) (ends_behind q.0 t cs) ≡ drop q.1 xs) (λ i. (behind i, one i)) next.left;
      most = omega (arith, within);
      room = c.end.ensures.room ∙ now.room;
    }
