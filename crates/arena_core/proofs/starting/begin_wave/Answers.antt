use Rattle.std.proofs.Common.{◌≡◌, ◌≢◌, ◌<◌, ◌≤◌, ◌+◌, ◌++◌, ◌∙◌, suc, take, sym, ap, subst, refl, length, Some, arith}
use Rattle.std.specs.Prelude.{map, slice_get, slice_index_or}
use Rattle.std.specs.List.{All, AllPairs}
use Rattle.std.specs.Option.{option_map}
use Rattle.std.proofs.lemmas.List.{length-map, length-append, length-take, take_all}
use Rattle.std.proofs.lemmas.Option.{slice_get-get_or, slice_get-map}
use Rattle.entries.specs.Limits.{max_games}
use Rattle.entries.specs.declared.journal.Start.{Start}
use Rattle.game_room.specs.declared.header.Header.{Header}
use Rattle.arena_games.specs.Courses as course
use Rattle.arena_games.specs.Keeps.{KeptFor}
use Rattle.arena_history.specs.Games.{begun}
use Rattle.arena_history.specs.History.{LeftAlone}
use Rattle.arena_history.specs.Waves.{started}
use Rattle.arena_core.specs.Courses.{courses}
use Rattle.arena_core.specs.People.{Standing, StandsFor, standing, with_starts, with_alone}
use Rattle.arena_core.specs.Starting.{start_at}
use Rattle.arena_core.specs.Written.{written_past}
use Rattle.arena_core.proofs.Asked.{length_kept}
use Rattle.arena_core.proofs.Followed.{length-courses}
use Rattle.arena_core.proofs.Placed.{length_places}
use Rattle.arena_core.proofs.Seating.{starts_more}
use Rattle.arena_core.proofs.Steps.{with_starts_is}
use Rattle.arena_core.proofs.Waited.{length-headers}
use Rattle.arena_core.proofs.Waved.{alone_differ, alone_are_players, alone_is, lefts_before, next_sits, kept_waved}
use Rattle.arena_core.proofs.starting.begin_wave.Goals as goal

pub leave_alone-requires-clause-players : goal.leave_alone-requires-clause-players
leave_alone-requires-clause-players c =
    let b = c.args.book.now in
    let p = c.args.plan.now in
    let long : length c.args.people.now.places ≡ length b.setup.players = length_places c.laws_of_histories.ensures b.setup (written_past b) c.args.people.now c.requires.kept.people in
    subst (All (λ q. q < length c.args.people.now.places)) (sym c.items.ensures) (subst (λ n. All (λ q. q < n) p.alone) (sym long) (alone_are_players c.laws_of_histories.ensures b.setup b.entries p c.requires.plan c.tables_of_legal_lists.ensures.ranges c.legal_lists.ensures.beginnings c.each_player_once.ensures.alone c.keeps.ensures.good c.keeps.ensures.legal))

pub leave_alone-requires-clause-once : goal.leave_alone-requires-clause-once
leave_alone-requires-clause-once c =
    let b = c.args.book.now in
    subst (AllPairs (λ x y. x ≢ y)) (sym c.items.ensures) (alone_differ c.laws_of_histories.ensures b.setup b.entries c.args.plan.now c.requires.plan c.each_player_once.ensures.alone_once)

pub seating-init : goal.seating-init
seating-init c =
    let b = c.args.book.now in
    let h = written_past b in
    let p = c.args.plan.now in
    let hs = c.args.headers.now in
    let wave : LeftAlone = record { entry = length b.entries; players = p.alone } in
    record {
      people = c.leave_alone.ensures.stands b.setup (standing b.setup h) wave (sym c.items.ensures) (c.waves_are_entries.ensures.games b.setup b.entries) c.requires.kept.people;
      room = c.leave_alone.ensures.room;
    }

pub begin-requires : goal.begin-requires
begin-requires c =
    let b = c.args.book.now in
    let h = written_past b in
    let p = c.args.plan.now in
    let hs = c.args.headers.now in
    let i = c.seating.header-index in
    let d : Header = record { id = 0; white = 0; black = 0; control = record { initial_ms = 0; inc_ms = 0; first_ms = 0 }; start = 0 } in
    let at : slice_get hs i ≡ Some (slice_index_or hs i d) = slice_get-get_or hs i d c.seating-test.true in
    let le : p.n ≤ length b.entries = (let known : p.n ≤ length h.entries = c.requires.allowed.known in omega (arith, ap length (c.laws_of_histories.ensures.entries b.setup b.entries))) in
    let next = next_sits c.laws_of_histories.ensures c.tables_of_legal_lists.ensures.ranges c.legal_lists.ensures.beginnings c.each_player_once.ensures.paired c.each_player_once.ensures.apart b.setup b.entries c.keeps.ensures.good c.keeps.ensures.legal p c.requires.plan c.args.people.now c.requires.kept.people le c.requires.allowed.games_room c.args.t hs c.requires.headers i (slice_index_or hs i d) at p.alone c.seating.people c.seating.invariant.people in
    record { may = next.0 }

pub seating-preserved : goal.seating-preserved
seating-preserved c =
    let b = c.args.book.now in
    let h = written_past b in
    let p = c.args.plan.now in
    let hs = c.args.headers.now in
    let i = c.seating.header-index in
    let d : Header = record { id = 0; white = 0; black = 0; control = record { initial_ms = 0; inc_ms = 0; first_ms = 0 }; start = 0 } in
    let at : slice_get hs i ≡ Some (slice_index_or hs i d) = slice_get-get_or hs i d c.seating-test.true in
    let le : p.n ≤ length b.entries = (let known : p.n ≤ length h.entries = c.requires.allowed.known in omega (arith, ap length (c.laws_of_histories.ensures.entries b.setup b.entries))) in
    let next = next_sits c.laws_of_histories.ensures c.tables_of_legal_lists.ensures.ranges c.legal_lists.ensures.beginnings c.each_player_once.ensures.paired c.each_player_once.ensures.apart b.setup b.entries c.keeps.ensures.good c.keeps.ensures.legal p c.requires.plan c.args.people.now c.requires.kept.people le c.requires.allowed.games_room c.args.t hs c.requires.headers i (slice_index_or hs i d) at p.alone c.seating.people c.seating.invariant.people in
    let gs = map (start_at (length b.entries)) hs in
    let before : Standing = with_alone (record { entry = length b.entries; players = p.alone }) (standing b.setup h) in
    let g : Start = start_at (length b.entries) (slice_index_or hs i d) in
    let there : slice_get gs i ≡ Some g = slice_get-map (start_at (length b.entries)) hs i ∙ ap (option_map (start_at (length b.entries))) at in
    let so = with_starts_is (take i gs) before in
    let count : length (with_starts (take i gs) before).starts ≡ length (h.starts ++ take i gs) = ap (λ (x : Standing). length x.starts) so in
    let number : (slice_index_or hs i d).id ≡ length (with_starts (take i gs) before).starts = omega (arith, next.1, count, length-append h.starts (take i gs), length-take i gs, length-map hs (start_at (length b.entries)), c.seating-test.true) in
    let lefts : All (λ (y : LeftAlone). y.entry ≤ length b.entries) (with_starts (take i gs) before).lefts = subst (All (λ (y : LeftAlone). y.entry ≤ length b.entries)) (sym (ap (λ (x : Standing). x.lefts) so)) (lefts_before c.waves_are_entries.ensures.waves b.setup b.entries p.alone) in
    let stands = c.begin.ensures.stands b.setup (with_starts (take i gs) before) g refl refl number lefts c.seating.invariant.people in
    let one : suc i ≡ i + 1 = omega arith in
    record {
      people = subst (λ k. StandsFor c.begin.new.self b.setup (with_starts (take k gs) before)) one (subst (StandsFor c.begin.new.self b.setup) (sym (starts_more gs i g before there)) stands);
      room = c.begin.ensures.room ∙ c.seating.invariant.room;
    }

pub begin-requires-2-clause-few : goal.begin-requires-2-clause-few
begin-requires-2-clause-few c =
    let b = c.args.book.now in
    let h = written_past b in
    let p = c.args.plan.now in
    let hs = c.args.headers.now in
    let long : length hs ≡ length (started b.setup h p.n) = ap length c.requires.headers ∙ length-headers b.setup.control c.args.t (length h.starts) (started b.setup h p.n) in
    let room : length h.starts + length (started b.setup h p.n) ≤ max_games = c.requires.allowed.games_room in
    let same : length (begun b.setup h) ≡ length h.starts = c.laws_of_histories.ensures.numbered.counted b.setup h in
    omega (arith, long, room, same, c.requires.ready.count, length-courses b.setup h, length_kept KeptFor c.args.games.now.games (courses b.setup h) c.requires.kept.games)

pub returns : goal.returns
returns c =
    λ pass.
    let b = c.args.book.now in
    let h = written_past b in
    let p = c.args.plan.now in
    let hs = c.args.headers.now in
    let long : length hs ≡ length (started b.setup h p.n) = ap length c.requires.headers ∙ length-headers b.setup.control c.args.t (length h.starts) (started b.setup h p.n) in
    let gs = map (start_at (length b.entries)) hs in
    let before : Standing = with_alone (record { entry = length b.entries; players = p.alone }) (standing b.setup h) in
    let all : take c.seating.header-index gs ≡ gs = take_all c.seating.header-index gs (omega (arith, c.seating-test.false, length-map hs (start_at (length b.entries)))) in
    let people = subst (λ l. StandsFor c.seating.people b.setup (with_starts l before)) all c.seating.invariant.people in
    let room : length h.starts + length hs ≤ c.seating.people.room = (let ready : length h.starts + length hs ≤ c.args.people.now.room = c.requires.ready.people_room in omega (arith, c.seating.invariant.room)) in
    kept_waved c.laws_of_histories.ensures b.setup b.entries c.args.t pass p.n hs p.alone c.begin-2.new.self c.seating.people c.requires.headers (alone_is c.laws_of_histories.ensures b.setup b.entries p c.requires.plan) (c.begin-2.ensures.stands (courses b.setup h) (map course.begun hs) c.requires.kept.games c.requires.ready.games) people room
