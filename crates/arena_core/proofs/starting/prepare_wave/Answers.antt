use Rattle.std.proofs.Common.{◌≡◌, ◌+◌, ◌≤◌, ◌∙◌, sym, ap, subst, length, arith}
use Rattle.std.specs.List.{All}
use Rattle.entries.specs.Limits.{max_games}
use Rattle.entries.specs.declared.setup.Setup.{Setup}
use Rattle.arena_games.specs.Beginnings.{MayBegin}
use Rattle.arena_history.specs.Waves.{started}
use Rattle.arena_core.specs.Starting.{headers_from, waiting}
use Rattle.arena_core.specs.Written.{written_past}
use Rattle.arena_core.proofs.Starters.{headers_may, waiting_is, kept_with_room}
use Rattle.arena_core.proofs.Waited.{length-headers}
use Rattle.arena_core.proofs.starting.prepare_wave.Goals as goal

pub headers_of-requires : goal.headers_of-requires
headers_of-requires c =
    let b = c.args.book.now in
    let h = written_past b in
    let p = c.args.plan.now in
    let wait : waiting c.args.people.now.places p.n p.pairs ≡ started b.setup h p.n = waiting_is c.laws_of_histories.ensures c.tables_of_legal_lists.ensures.ranges c.legal_lists.ensures.beginnings c.each_player_once.ensures.paired b.setup b.entries c.keeps.ensures.good c.keeps.ensures.legal p c.requires.plan c.args.people.now c.requires.kept.people (c.plans_of_entries.ensures.within b.setup b.entries p c.requires.plan) in
    let room : length h.starts + length (started b.setup h p.n) ≤ max_games = c.requires.allowed.games_room in
    let first : length c.starts.result.now ≡ length h.starts = ap length c.starts.ensures in
    omega (arith, room, first, ap length wait)

pub prepare-requires : goal.prepare-requires
prepare-requires c =
    let b = c.args.book.now in
    let h = written_past b in
    let p = c.args.plan.now in
    let wait : waiting c.args.people.now.places p.n p.pairs ≡ started b.setup h p.n = waiting_is c.laws_of_histories.ensures c.tables_of_legal_lists.ensures.ranges c.legal_lists.ensures.beginnings c.each_player_once.ensures.paired b.setup b.entries c.keeps.ensures.good c.keeps.ensures.legal p c.requires.plan c.args.people.now c.requires.kept.people (c.plans_of_entries.ensures.within b.setup b.entries p c.requires.plan) in
    let room : length h.starts + length (started b.setup h p.n) ≤ max_games = c.requires.allowed.games_room in
    let first : length c.starts.result.now ≡ length h.starts = ap length c.starts.ensures in
    let made : c.in_ok-headers.headers.items ≡ headers_from b.setup.control c.args.t (length c.starts.result.now) (waiting c.args.people.now.places p.n p.pairs) = c.in_ok-headers.ensures ∙ ap (λ k. headers_from k c.args.t (length c.starts.result.now) (waiting c.args.people.now.places p.n p.pairs)) (ap (λ (s : Setup). s.control) c.setup.ensures) in
    let long : length c.in_ok-headers.headers.items ≡ length (started b.setup h p.n) = ap length made ∙ (length-headers b.setup.control c.args.t (length c.starts.result.now) (waiting c.args.people.now.places p.n p.pairs) ∙ ap length wait) in
    subst (All MayBegin) (sym (c.as_slice.ensures.value ∙ made)) (headers_may b.setup.control c.args.t (length c.starts.result.now) (waiting c.args.people.now.places p.n p.pairs) c.keeps.ensures.good.timed c.requires.most)

pub overflow_cast-len : goal.overflow_cast-len
overflow_cast-len c =
    let b = c.args.book.now in
    let h = written_past b in
    let p = c.args.plan.now in
    let wait : waiting c.args.people.now.places p.n p.pairs ≡ started b.setup h p.n = waiting_is c.laws_of_histories.ensures c.tables_of_legal_lists.ensures.ranges c.legal_lists.ensures.beginnings c.each_player_once.ensures.paired b.setup b.entries c.keeps.ensures.good c.keeps.ensures.legal p c.requires.plan c.args.people.now c.requires.kept.people (c.plans_of_entries.ensures.within b.setup b.entries p c.requires.plan) in
    let room : length h.starts + length (started b.setup h p.n) ≤ max_games = c.requires.allowed.games_room in
    let first : length c.starts.result.now ≡ length h.starts = ap length c.starts.ensures in
    let made : c.in_ok-headers.headers.items ≡ headers_from b.setup.control c.args.t (length c.starts.result.now) (waiting c.args.people.now.places p.n p.pairs) = c.in_ok-headers.ensures ∙ ap (λ k. headers_from k c.args.t (length c.starts.result.now) (waiting c.args.people.now.places p.n p.pairs)) (ap (λ (s : Setup). s.control) c.setup.ensures) in
    let long : length c.in_ok-headers.headers.items ≡ length (started b.setup h p.n) = ap length made ∙ (length-headers b.setup.control c.args.t (length c.starts.result.now) (waiting c.args.people.now.places p.n p.pairs) ∙ ap length wait) in
    omega (arith, room, long, c.len.ensures, c.in_ok-headers.headers.ok.0)

pub overflow_add-first : goal.overflow_add-first
overflow_add-first c =
    let b = c.args.book.now in
    let h = written_past b in
    let p = c.args.plan.now in
    let wait : waiting c.args.people.now.places p.n p.pairs ≡ started b.setup h p.n = waiting_is c.laws_of_histories.ensures c.tables_of_legal_lists.ensures.ranges c.legal_lists.ensures.beginnings c.each_player_once.ensures.paired b.setup b.entries c.keeps.ensures.good c.keeps.ensures.legal p c.requires.plan c.args.people.now c.requires.kept.people (c.plans_of_entries.ensures.within b.setup b.entries p c.requires.plan) in
    let room : length h.starts + length (started b.setup h p.n) ≤ max_games = c.requires.allowed.games_room in
    let first : length c.starts.result.now ≡ length h.starts = ap length c.starts.ensures in
    let made : c.in_ok-headers.headers.items ≡ headers_from b.setup.control c.args.t (length c.starts.result.now) (waiting c.args.people.now.places p.n p.pairs) = c.in_ok-headers.ensures ∙ ap (λ k. headers_from k c.args.t (length c.starts.result.now) (waiting c.args.people.now.places p.n p.pairs)) (ap (λ (s : Setup). s.control) c.setup.ensures) in
    let long : length c.in_ok-headers.headers.items ≡ length (started b.setup h p.n) = ap length made ∙ (length-headers b.setup.control c.args.t (length c.starts.result.now) (waiting c.args.people.now.places p.n p.pairs) ∙ ap length wait) in
    omega (arith, room, first, long, c.len.ensures, c.in_ok-headers.headers.ok.0)

pub returns-in_err-reserve-clause-kept : goal.returns-in_err-reserve-clause-kept
returns-in_err-reserve-clause-kept c =
    kept_with_room c.args.book.now.setup c.args.book.now.entries c.args.games.now c.prepare.new.self c.args.people.now c.reserve.new.self c.requires.kept c.prepare.ensures.kept (λ x is. c.reserve.ensures.stands c.args.book.now.setup x is) c.reserve.ensures.no_less

pub returns-clause-kept : goal.returns-clause-kept
returns-clause-kept c =
    kept_with_room c.args.book.now.setup c.args.book.now.entries c.args.games.now c.prepare.new.self c.args.people.now c.reserve.new.self c.requires.kept c.prepare.ensures.kept (λ x is. c.reserve.ensures.stands c.args.book.now.setup x is) c.reserve.ensures.no_less

pub returns-clause-headers : goal.returns-clause-headers
returns-clause-headers c =
    let b = c.args.book.now in
    let h = written_past b in
    let p = c.args.plan.now in
    let wait : waiting c.args.people.now.places p.n p.pairs ≡ started b.setup h p.n = waiting_is c.laws_of_histories.ensures c.tables_of_legal_lists.ensures.ranges c.legal_lists.ensures.beginnings c.each_player_once.ensures.paired b.setup b.entries c.keeps.ensures.good c.keeps.ensures.legal p c.requires.plan c.args.people.now c.requires.kept.people (c.plans_of_entries.ensures.within b.setup b.entries p c.requires.plan) in
    let room : length h.starts + length (started b.setup h p.n) ≤ max_games = c.requires.allowed.games_room in
    let first : length c.starts.result.now ≡ length h.starts = ap length c.starts.ensures in
    let made : c.in_ok-headers.headers.items ≡ headers_from b.setup.control c.args.t (length c.starts.result.now) (waiting c.args.people.now.places p.n p.pairs) = c.in_ok-headers.ensures ∙ ap (λ k. headers_from k c.args.t (length c.starts.result.now) (waiting c.args.people.now.places p.n p.pairs)) (ap (λ (s : Setup). s.control) c.setup.ensures) in
    let long : length c.in_ok-headers.headers.items ≡ length (started b.setup h p.n) = ap length made ∙ (length-headers b.setup.control c.args.t (length c.starts.result.now) (waiting c.args.people.now.places p.n p.pairs) ∙ ap length wait) in
    made ∙ (λ i. headers_from b.setup.control c.args.t (first i) (wait i))
