use Rattle.std.proofs.Common.{◌≡◌, ◌∷◌, [], ◌≤◌, List, length, map, ap, sym, subst, ◌∙◌, arith}
use Rattle.std.specs.List.{AllZip}
use Rattle.std.proofs.lemmas.List.Elements.{All-cons, All-nil}
use Rattle.game_room.specs.declared.header.Header.{Header}
use Rattle.arena_games.specs.declared.kept.Kept.{Kept}
use Rattle.arena_games.specs.Courses.{begun}
use Rattle.arena_games.specs.Keeps.{KeptFor}
use Rattle.arena_games.proofs.Trials.{lasts_first}
use Rattle.arena_games.proofs.tests.begun.Goals as goal

pub begin-requires-clause-room : goal.begin-requires-clause-room
begin-requires-clause-room c = c.in_ok-prepared.ensures.room

pub begin-requires-clause-few : goal.begin-requires-clause-few
begin-requires-clause-few c =
    let none : length c.prepare.new.self.games ≡ 0 = ap length (c.in_ok-prepared.ensures.kept ∙ c.new-games.ensures.none) in
    let three : length c.in_ok-prepared.prepared ≡ 3 = c.in_ok-prepared.ensures.count in
    omega arith

pub returns : goal.returns
returns c =
    let p : Header → Type 0 = λ h. h.start ≤ c.args.now in
    let hs : List Header = c.header.result ∷ c.header-2.result ∷ c.header-3.result ∷ [] in
    let first : c.header.result.start ≤ c.args.now = (let a = c.header.ensures.start in let b = c.min.ensures in omega arith) in
    let second : c.header-2.result.start ≤ c.args.now = (let a = c.header-2.ensures.start in let b = c.min-2.ensures in omega arith) in
    let third : c.header-3.result.start ≤ c.args.now = (let a = c.header-3.ensures.start in let b = c.min-3.ensures in omega arith) in
    let empty = subst (λ (ks : List Kept). AllZip KeptFor ks []) (sym c.in_ok-prepared.ensures.kept) c.new-games.ensures.stands in
    lasts_first c.begin.new.self c.args.now hs
    (All-cons p c.header.result (c.header-2.result ∷ c.header-3.result ∷ []) first
    (All-cons p c.header-2.result (c.header-3.result ∷ []) second (All-cons p c.header-3.result [] third (All-nil p))))
    (c.begin.ensures.stands [] (map begun hs) empty c.in_ok-prepared.ensures.prepared)
