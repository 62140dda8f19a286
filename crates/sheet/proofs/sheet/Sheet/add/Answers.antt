use Rattle.std.proofs.Common.{◌≡◌, ◌∙◌, ◌+◌, ◌*◌, ◌++◌, ◌∷◌, [], ◌&&◌, cond, Bool, sym, ap, ℕ, List, length, length-append, arith}
use Rattle.sheet.specs.Worth.{Played, points, worth_after, looking_back, last_won, last_two_won, draw_streak, streak_after, base_points, berserk_points}
use Rattle.sheet.proofs.OneMore.{worth_last, points-append, looking_back-append}
use Rattle.sheet.proofs.sheet.Sheet.add.Goals as goal

-- the points of the new game are those that the kept facts give
new_worth : (played : List Played) (game : Played) (two streak : Bool) (base twice bonus : ℕ)
    → two ≡ last_two_won (looking_back played) → streak ≡ draw_streak (looking_back played)
    → base ≡ base_points game.score game.plies streak → twice ≡ cond two (2 * base) base → bonus ≡ berserk_points game
    → twice + bonus ≡ worth_after (looking_back played) game
new_worth played game two streak base twice bonus two_is streak_is base_is twice_is bonus_is =
    let base_back : base ≡ base_points game.score game.plies (draw_streak (looking_back played)) = base_is ∙ ap (base_points game.score game.plies) streak_is in
    (λ i. twice_is i + bonus_is i) ∙ (λ i. cond (two_is i) (2 * base_back i) (base_back i) + berserk_points game)

pub returns-clause-worth : goal.returns-clause-worth
returns-clause-worth c played stands =
    let game : Played = record { score = c.args.score; berserk = c.args.berserk; plies = c.args.plies } in
    new_worth played game c.self.inside.last_two_won c.self.inside.draw_streak c.base_points-base.result c.doubled.result c.berserk_points.result (ap (λ k. k.last_two_won) c.self.view_is ∙ stands.last_two_won) (ap (λ k. k.draw_streak) c.self.view_is ∙ stands.draw_streak) c.base_points-base.ensures.worth c.doubled.ensures.worth c.berserk_points.ensures.worth
    ∙ sym (worth_last played game)

pub returns-clause-stands : goal.returns-clause-stands
returns-clause-stands c played stands =
    let game : Played = record { score = c.args.score; berserk = c.args.berserk; plies = c.args.plies } in
    let back : looking_back (played ++ game ∷ []) ≡ game ∷ looking_back played = looking_back-append played game in
    let two : c.self.inside.last_two_won ≡ last_two_won (looking_back played) = ap (λ k. k.last_two_won) c.self.view_is ∙ stands.last_two_won in
    let won : c.self.inside.last_won ≡ last_won (looking_back played) = ap (λ k. k.last_won) c.self.view_is ∙ stands.last_won in
    let streak : c.self.inside.draw_streak ≡ draw_streak (looking_back played) = ap (λ k. k.draw_streak) c.self.view_is ∙ stands.draw_streak in
    let before : c.self.inside.points ≡ points played = ap (λ k. k.points) c.self.view_is ∙ stands.points in
    let count : c.self.inside.games ≡ length played = ap (λ k. k.games) c.self.view_is ∙ stands.games in
    let worth_now : c.doubled.result + c.berserk_points.result ≡ worth_after (looking_back played) game =
    new_worth played game c.self.inside.last_two_won c.self.inside.draw_streak c.base_points-base.result c.doubled.result c.berserk_points.result two streak c.base_points-base.ensures.worth c.doubled.ensures.worth c.berserk_points.ensures.worth in
    record {
      points = (λ i. before i + worth_now i) ∙ sym (points-append played game);
      games = omega (arith, length-append played (game ∷ []), count);
      last_won = c.is_win-self-inside.ensures ∙ sym (ap last_won back);
      last_two_won = c.both-self-inside.ensures ∙ ((λ i. c.is_win.ensures i && won i) ∙ sym (ap last_two_won back));
      draw_streak = c.streak_after-self-inside.ensures ∙ (ap (streak_after c.args.score c.args.plies) streak ∙ sym (ap draw_streak back));
    }
