use Rattle.std.proofs.Common.{◌≡◌, ◌<◌, ◌∙◌, sym, ap, length, Some, None, arith}
use Rattle.std.specs.Prelude.{slice_get}
use Rattle.std.specs.Option.{option_map}
use Rattle.std.proofs.lemmas.Option.{slice_get_within}
use Rattle.arena_games.specs.Keeps.{KeptFor}
use Rattle.arena_history.specs.Games.{Begun, begun, side_of}
use Rattle.arena_core.specs.Courses.{course, courses}
use Rattle.arena_core.specs.Written.{written_past}
use Rattle.arena_core.proofs.Asked.{header_found, header_missing, header_at, no_game, not_his, as_the_game, length_kept, games_timely}
use Rattle.arena_core.proofs.Followed.{course_at, length-courses}
use Rattle.arena_core.proofs.asking.act_refusal.Goals as goal

pub returns-in_default : goal.returns-in_default
returns-in_default c =
    let b = c.args.book.now in
    let h = written_past b in
    let is : option_map (λ (g : Begun). g.header) (slice_get (begun b.setup h) c.args.g) ≡ None = sym (header_at b.setup h c.args.g) ∙ (sym (c.header.ensures (courses b.setup h) c.requires.kept.games) ∙ c.in_default.is) in
    no_game b.setup h c.args.p c.args.g c.args.t c.args.action (header_missing _ is)

pub returns-in_default-side_of : goal.returns-in_default-side_of
returns-in_default-side_of c =
    let b = c.args.book.now in
    let h = written_past b in
    let is : option_map (λ (g : Begun). g.header) (slice_get (begun b.setup h) c.args.g) ≡ Some c.in-Some.header = sym (header_at b.setup h c.args.g) ∙ (sym (c.header.ensures (courses b.setup h) c.requires.kept.games) ∙ c.in-Some.is) in
    let found = header_found (slice_get (begun b.setup h) c.args.g) c.in-Some.header is in
    not_his b.setup h c.args.p c.args.g c.args.t c.args.action found.0 found.1 (ap (λ x. side_of x c.args.p) found.2 ∙ (sym c.side_of.ensures ∙ c.in_default-side_of.is))

pub allowed-requires-clause-begun : goal.allowed-requires-clause-begun
allowed-requires-clause-begun c =
    let b = c.args.book.now in
    let h = written_past b in
    let is : option_map (λ (g : Begun). g.header) (slice_get (begun b.setup h) c.args.g) ≡ Some c.in-Some.header = sym (header_at b.setup h c.args.g) ∙ (sym (c.header.ensures (courses b.setup h) c.requires.kept.games) ∙ c.in-Some.is) in
    let found = header_found (slice_get (begun b.setup h) c.args.g) c.in-Some.header is in
    let within : c.args.g < length (begun b.setup h) = slice_get_within (begun b.setup h) c.args.g found.0 found.1 in
    omega (arith, within, length-courses b.setup h, length_kept KeptFor c.args.games.now.games (courses b.setup h) c.requires.kept.games)

pub allowed-requires-clause-timely : goal.allowed-requires-clause-timely
allowed-requires-clause-timely c =
    games_timely c.laws_of_histories.ensures c.games_of_legal_lists.ensures.timed c.args.book.now.setup c.args.book.now.entries c.keeps.ensures.legal c.args.games.now c.args.t c.requires.kept.games c.requires.not_before

pub returns-in-Ok : goal.returns-in-Ok
returns-in-Ok c =
    let b = c.args.book.now in
    let h = written_past b in
    let is : option_map (λ (g : Begun). g.header) (slice_get (begun b.setup h) c.args.g) ≡ Some c.in-Some.header = sym (header_at b.setup h c.args.g) ∙ (sym (c.header.ensures (courses b.setup h) c.requires.kept.games) ∙ c.in-Some.is) in
    let found = header_found (slice_get (begun b.setup h) c.args.g) c.in-Some.header is in
    let at : slice_get (courses b.setup h) c.args.g ≡ Some (course h found.0) = course_at b.setup h c.args.g ∙ ap (option_map (course h)) found.1 in
    let plays = ap (λ x. side_of x c.args.p) found.2 ∙ (sym c.side_of.ensures ∙ c.in-Some-side_of.is) in
    sym (as_the_game b.setup h c.args.p c.args.g c.args.t c.args.action found.0 _ _ found.1 plays (sym (c.allowed.ensures (courses b.setup h) (course h found.0) c.requires.kept.games at) ∙ c.in-Ok.is))

pub returns-in-Err : goal.returns-in-Err
returns-in-Err c =
    let b = c.args.book.now in
    let h = written_past b in
    let is : option_map (λ (g : Begun). g.header) (slice_get (begun b.setup h) c.args.g) ≡ Some c.in-Some.header = sym (header_at b.setup h c.args.g) ∙ (sym (c.header.ensures (courses b.setup h) c.requires.kept.games) ∙ c.in-Some.is) in
    let found = header_found (slice_get (begun b.setup h) c.args.g) c.in-Some.header is in
    let at : slice_get (courses b.setup h) c.args.g ≡ Some (course h found.0) = course_at b.setup h c.args.g ∙ ap (option_map (course h)) found.1 in
    let plays = ap (λ x. side_of x c.args.p) found.2 ∙ (sym c.side_of.ensures ∙ c.in-Some-side_of.is) in
    sym (as_the_game b.setup h c.args.p c.args.g c.args.t c.args.action found.0 _ _ found.1 plays (sym (c.allowed.ensures (courses b.setup h) (course h found.0) c.requires.kept.games at) ∙ c.in-Err.is))
