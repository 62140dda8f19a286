use Rattle.std.proofs.Common.{◌≡◌, ◌+◌, ◌-◌, length, List, ◌++◌, ap, sym, subst, ◌∙◌, arith}
use Rattle.std.specs.List.{AllZip}
use Rattle.arena_games.specs.declared.kept.Kept.{Kept}
use Rattle.arena_games.specs.Courses.{numbers_where}
use Rattle.arena_games.specs.Keeps.{KeptFor, runs}
use Rattle.arena_games.specs.KeptGames.{KeptGames}
use Rattle.arena_games.proofs.Items.{zip_append}
use Rattle.arena_games.proofs.Listed.{numbers_more}
use Rattle.arena_games.proofs.games.Games.begin.Goals as goal

pub invariant_of-self : goal.invariant_of-self
invariant_of-self c =
    let old = c.self.inside.games.items in
    let new = c.into_games-games.result.items in
    let old_len : c.len-first.result ≡ length old = c.len-first.ensures ∙ c.self.inside.games.ok.0 in
    let new_len : c.len.result ≡ length new = c.len.ensures ∙ c.into_games-games.result.ok.0 in
    let many : c.len-first.result + c.len.result - c.len-first.result ≡ length new = omega arith in
    let before = ap (λ (v : KeptGames). length v.games) c.self.view_is in
    let more = ap length c.into_games-games.ensures.games in
    let all = c.in-Ok.ensures.len in (
      c.put_range.ensures.items
          ∙ (numbers_more runs old new c.self.inside.running.items c.len-first.result (c.len-first.result + c.len.result - c.len-first.result) c.self.invariant.0 old_len many c.into_games-games.ensures.run
          ∙ ap (λ (ks : List Kept). numbers_where runs 0 ks) (sym c.in-Ok.ensures.items)),
      omega (arith, c.self.inside.games.ok.0, c.into_games-games.result.ok.0),
    )

pub returns-clause-stands : goal.returns-clause-stands
returns-clause-stands c games more stands prepared =
    subst (λ (ks : List Kept). AllZip KeptFor ks (games ++ more)) (sym c.in-Ok.ensures.items)
    (zip_append KeptFor c.self.inside.games.items c.into_games-games.result.items games more
    (subst (λ (ks : List Kept). AllZip KeptFor ks games) (sym (ap (λ (v : KeptGames). v.games) c.self.view_is)) stands)
    (subst (λ (ks : List Kept). AllZip KeptFor ks more) (sym c.into_games-games.ensures.games) prepared))
