-- When a streak of draws holds, and how much games are worth at most.
use Rattle.std.proofs.Common.{◌≡◌, ℕ, ◌+◌, ◌*◌, ◌<◌, ◌≤◌, ◌||◌, ◌&&◌, ◌⊎◌, inl, inr, Bool, true, false, List, [], ◌∷◌, ◌++◌, length, take, sum_by, Option, Some, None, refl, ap, ◌∙◌, arith}
use Rattle.std.specs.Prelude.{nat_le, nat_lt, if◌then◌else◌, slice_get, slice_index_or}
use Rattle.std.specs.List.{range_with_len}
use Rattle.std.proofs.lemmas.List.Sums.{sum_by-le}
use Rattle.std.proofs.lemmas.List.FromFn.{length-range_with_len}
use Rattle.std.specs.List.{All}
use Rattle.std.proofs.lemmas.List.Elements.{All-nil, All-cons, All-head, All-tail}
use Rattle.std.proofs.lemmas.Bool.{leb-true, le-leb}
use Rattle.std.proofs.lemmas.Bool.Decides.{leb_tells}
use Rattle.sheet.specs.declared.score.Score.{Score}
use Rattle.sheet.specs.declared.score.Score.TheVariants.{Win, Draw, Loss}
use Rattle.sheet.specs.Worth.{Played, draw_streak, streak_after, draw_points, base_points, berserk_points, is_win, last_two_won, worth, worth_of, worth_after, points, looking_back}
use Rattle.sheet.specs.Laws.{IsInStreak, IsPassedOver}

cond_few : (b : Bool) (m n most : ℕ) → m ≤ most → n ≤ most → (if b then m else n) ≤ most
cond_few true m n most first second = first
cond_few false m n most first second = second

-- a streak of the older games goes on over a game that is passed over
passed : (game : Played) (older : List Played) → IsPassedOver game → IsInStreak older → IsInStreak (game ∷ older)
passed game older over s = record {
  since = game ∷ s.since;
  draw = s.draw;
  older = s.older;
  place = ap (λ games. game ∷ games) s.place;
  drawn = s.drawn;
  long = s.long;
  passed_over = All-cons IsPassedOver game s.since over s.passed_over;
}

-- a long draw begins one
begun : (game : Played) (older : List Played) → game.score ≡ Draw → 20 ≤ game.plies → IsInStreak (game ∷ older)
begun game older drawn long = record {
  since = [];
  draw = game;
  older = older;
  place = refl;
  drawn = drawn;
  long = long;
  passed_over = All-nil IsPassedOver;
}

after_draw : (game : Played) (older : List Played) (long : Bool) → nat_le 20 game.plies ≡ long → game.score ≡ Draw → (long || draw_streak older) ≡ true → (draw_streak older ≡ true → IsInStreak older) → IsInStreak (game ∷ older)
after_draw game older true is drawn streak before = begun game older drawn (leb-true 20 game.plies is)
after_draw game older false is drawn streak before = passed game older (inr (drawn, grind (arith, is, leb_tells 20 game.plies))) (before streak)

after_game : (game : Played) (older : List Played) (score : Score) → game.score ≡ score → streak_after score game.plies (draw_streak older) ≡ true → (draw_streak older ≡ true → IsInStreak older) → IsInStreak (game ∷ older)
after_game game older Win is streak before = absurd cc
after_game game older Draw is streak before = after_draw game older (nat_le 20 game.plies) refl is streak before
after_game game older Loss is streak before = passed game older (inl is) (before streak)

pub streak_found : (back : List Played) → draw_streak back ≡ true → IsInStreak back
streak_found [] streak = absurd cc
streak_found (game ∷ older) streak = after_game game older game.score refl streak (streak_found older)

or_true : (b : Bool) → (b || true) ≡ true
or_true true = refl
or_true false = refl

-- a streak of the older games is kept over a game that is passed over
over_one : (game : Played) (older : List Played) → IsPassedOver game → draw_streak older ≡ true → draw_streak (game ∷ older) ≡ true
over_one game older (inl loss) streak = ap (λ score. streak_after score game.plies (draw_streak older)) loss ∙ streak
over_one game older (inr draw) streak =
    ap (λ score. streak_after score game.plies (draw_streak older)) draw.0
    ∙ (ap (λ b. nat_le 20 game.plies || b) streak ∙ or_true (nat_le 20 game.plies))

over_all : (since rest : List Played) → All IsPassedOver since → draw_streak rest ≡ true → draw_streak (since ++ rest) ≡ true
over_all [] rest over streak = streak
over_all (game ∷ since) rest over streak =
    over_one game (since ++ rest) (All-head IsPassedOver game since over) (over_all since rest (All-tail IsPassedOver game since over) streak)

long_draw : (draw : Played) (older : List Played) → draw.score ≡ Draw → 20 ≤ draw.plies → draw_streak (draw ∷ older) ≡ true
long_draw draw older drawn long =
    ap (λ score. streak_after score draw.plies (draw_streak older)) drawn ∙ ap (λ b. b || draw_streak older) (le-leb 20 draw.plies long)

pub streak_holds : (back : List Played) → IsInStreak back → draw_streak back ≡ true
streak_holds back s = ap draw_streak s.place ∙ over_all s.since (s.draw ∷ s.older) s.passed_over (long_draw s.draw s.older s.drawn s.long)

-- a draw is worth a point or none
draw_few : (plies : ℕ) (streak : Bool) → draw_points plies streak ≤ 1
draw_few plies streak = cond_few (nat_lt plies 20 || (nat_lt plies 60 && streak)) 0 1 1 (omega arith) (omega arith)

base_few : (score : Score) (plies : ℕ) (streak : Bool) → base_points score plies streak ≤ 2
base_few Win plies streak = omega arith
base_few Draw plies streak = omega (arith, draw_few plies streak)
base_few Loss plies streak = omega arith

worth_few : (back : List Played) (game : Played) → worth_after back game ≤ 5
worth_few back game =
    let base = base_points game.score game.plies (draw_streak back) in
    let few : base ≤ 2 = base_few game.score game.plies (draw_streak back) in
    let doubled : (if last_two_won back then 2 * base else base) ≤ 4 = cond_few (last_two_won back) (2 * base) base 4 (omega (arith, few)) (omega (arith, few)) in
    let more : berserk_points game ≤ 1 = cond_few (is_win game.score && game.berserk && nat_le 14 game.plies) 1 0 1 (omega arith) (omega arith) in
    omega (arith, doubled, more)

each_few : (back : List Played) (game : Option Played) → worth_of back game ≤ 5
each_few back None = omega arith
each_few back (Some game) = worth_few back game

pub points_few : (played : List Played) → points played ≤ 5 * length played
unfolding points worth
points_few played =
    let places : List ℕ = range_with_len 0 (length played) in
    let each : All (λ i. worth played i ≤ 5) places = λ k d lt. let i = slice_index_or places k d in each_few (looking_back (take i played)) (slice_get played i) in
    let sum : sum_by (worth played) places ≤ length places * 5 = sum_by-le (worth played) 5 places each in
    let long : length places ≡ length played = length-range_with_len 0 (length played) in
    omega (arith, sum, long)
