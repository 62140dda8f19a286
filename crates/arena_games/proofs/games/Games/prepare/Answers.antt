use Rattle.std.proofs.Common.{◌≡◌, ◌+◌, ◌<◌, ℕ, length, List, [], ◌∷◌, ◌++◌, get_or, map, take, true, ap, sym, subst, ◌∙◌, arith}
use Rattle.std.specs.List.{AllPass, AllZip}
use Rattle.std.proofs.lemmas.List.{map-append, take_more}
use Rattle.std.proofs.lemmas.List.Elements.{All-push}
use Rattle.game_room.specs.declared.header.Header.{Header}
use Rattle.arena_games.specs.declared.kept.Kept.{Kept}
use Rattle.arena_games.specs.Courses.{begun}
use Rattle.arena_games.specs.Keeps.{KeptFor, runs}
use Rattle.arena_games.proofs.Items.{zip_append}
use Rattle.arena_games.proofs.games.Games.prepare.Goals as goal

-- one game more is prepared
kept_more : (hs : List Header) (i : ℕ) (d : Header) (old new : List Kept) (k : Kept) → i < length hs → AllZip KeptFor old (map begun (take i hs)) → KeptFor k (begun (get_or hs i d))
    → new ≡ old ++ k ∷ [] → AllZip KeptFor new (map begun (take (i + 1) hs))
kept_more hs i d old new k lt kept here is =
    let more = ap (map begun) (take_more hs i d lt) ∙ map-append begun (take i hs) (get_or hs i d ∷ []) in
    subst (λ ks. AllZip KeptFor ks (map begun (take (i + 1) hs))) (sym is)
    (subst (λ cs. AllZip KeptFor (old ++ k ∷ []) cs) (sym more)
    (zip_append KeptFor old (k ∷ []) (map begun (take i hs)) (begun (get_or hs i d) ∷ []) kept (here, tt)))

run_more : (old new : List Kept) (k : Kept) → AllPass runs old → runs k ≡ true → new ≡ old ++ k ∷ [] → AllPass runs new
run_more old new k all here is = subst (λ (ks : List Kept). AllPass runs ks) (sym is) (All-push (λ (x : Kept). runs x ≡ true) old k all here)

pub preparing-preserved : goal.preparing-preserved
preparing-preserved c = record {
  kept = kept_more c.args.headers.now c.preparing.header-index _ c.preparing.games.items c.push_reserved.new.self.items c.in_ok-new_game.field-0 (omega arith) c.preparing.invariant.kept c.in_ok-new_game.ensures.begun c.push_reserved.ensures.items;
  run = run_more c.preparing.games.items c.push_reserved.new.self.items c.in_ok-new_game.field-0 c.preparing.invariant.run c.in_ok-new_game.ensures.runs c.push_reserved.ensures.items;
  len = omega arith;
  room = omega arith;
}
