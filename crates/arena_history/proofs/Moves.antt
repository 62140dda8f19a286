-- Whom an entry moves: the players of the games that it ends or begins, and him whose wish it sets.
use Rattle.std.proofs.Common.{◌≡◌, ℕ, ◌≤◌, ⊎_elim, List, [], ◌∷◌, Option, Some, None, Bool, true, false, ◌||◌, ◌&&◌, refl, sym, ap, ◌∙◌, arith}
use Rattle.std.specs.Prelude.{filter, cond, not, sum_by, ◌==◌}
use Rattle.std.specs.List.{list_any, find}
use Rattle.std.specs.Option.{option_or, option_map_or}
use Rattle.std.proofs.lemmas.Bool.{cases_Bool}
use Rattle.std.proofs.lemmas.List.Folds.{find-append}
use Rattle.board.specs.declared.piece.Colour.{Colour}
use Rattle.board.specs.declared.piece.Colour.TheVariants.{White, Black}
use Rattle.board.specs.Piece.{other}
use Rattle.entries.specs.declared.setup.Setup.{Setup}
use Rattle.entries.specs.declared.journal.Entry.{Entry}
use Rattle.seats.specs.declared.wish.Wish.TheVariants as wishes
use Rattle.seats.specs.Places.{wish_freed}
use Rattle.arena_history.specs.History.{History, with_entry}
use Rattle.arena_history.specs.Games.{Begun, player_on, has_player, goes_on, running}
use Rattle.arena_history.specs.Endings.{EndedGame, ended_by}
use Rattle.arena_history.specs.Wishes.{is_no_show, has_lost, did_not_appear, no_show, wish_in, wish_step, wish}
use Rattle.arena_history.specs.Changes.{ends_game_of}
use Rattle.arena_history.specs.Waves.{after}
use Rattle.arena_history.proofs.Histories.{IsWhole}
use Rattle.arena_history.proofs.Walks.{along-after}
use Rattle.arena_history.proofs.BegunGames.{new_games, running-after}
use Rattle.arena_history.proofs.Ended.{ended_games, any-map}
use Rattle.arena_history.proofs.Lists.{find_none}
use Rattle.arena_history.proofs.Sides.{game_sides, sides_parts, any_sides, no_sides}

-- p has at most one side of the games that run
abbrev pub PlaysOnce : Setup → History → ℕ → Type 0
PlaysOnce s h p = sum_by (game_sides p) (running s h) ≤ 1

pub find_kept : {X : Type 0} (p r : X → Bool) (xs : List X) → list_any p (filter (λ x. not (r x)) xs) ≡ false → find p (filter r xs) ≡ find p xs
find_kept p r [] h = refl
find_kept p r (x ∷ xs) h =
    ⊎_elim
    (λ (stays : r x ≡ true). let tail : list_any p (filter (λ x. not (r x)) xs) ≡ false = rw stays at h in rw stays (ap (λ o. cond (p x) (Some x) o) (find_kept p r xs tail)))
    (λ (out : r x ≡ false).
    let both : (p x || list_any p (filter (λ x. not (r x)) xs)) ≡ false = rw out at h in
    let off : p x ≡ false = or_off (p x) _ both in
    let tail : list_any p (filter (λ x. not (r x)) xs) ≡ false = or_rest (p x) _ both in
    rw (out, off) (find_kept p r xs tail))
    (cases_Bool (r x))
  where
    or_off : (a b : Bool) → (a || b) ≡ false → a ≡ false
    or_off true b e = e
    or_off false b e = refl

    or_rest : (a b : Bool) → (a || b) ≡ false → b ≡ false
    or_rest true b e = cc
    or_rest false b e = e

none-or : {A : Type 0} (o : Option A) → option_or o None ≡ o
none-or None = refl
none-or (Some x) = refl

module _ (s : Setup) (h : History) (e : Entry) (whole : IsWhole h) where
  -- the games that run on
  abbrev kept : List Begun
  kept = filter (goes_on (with_entry h e)) (running s h)

  pub ends_is : (p : ℕ) → ends_game_of s h e p ≡ list_any (has_player p) (filter (λ g. not (goes_on (with_entry h e) g)) (running s h))
  unfolding ends_game_of
  ends_is p = any-map (λ (x : EndedGame). x.game) (has_player p) (ended_by s h e) ∙ ap (list_any (has_player p)) (ended_games s h e)

  -- the game that p plays with one entry more
  pub game-after : (p : ℕ) → find (has_player p) (running s (after s h e)) ≡ option_or (find (has_player p) kept) (find (has_player p) (new_games s h e))
  game-after p = ap (find (has_player p)) (running-after s h e whole) ∙ find-append (has_player p) kept (new_games s h e)

  -- who is in no game that e ends or begins plays what he played
  pub game_kept : (p : ℕ) → ends_game_of s h e p ≡ false → find (has_player p) (new_games s h e) ≡ None → find (has_player p) (running s (after s h e)) ≡ find (has_player p) (running s h)
  game_kept p out new =
      let off : list_any (has_player p) (filter (λ g. not (goes_on (with_entry h e) g)) (running s h)) ≡ false = sym (ends_is p) ∙ out in
      game-after p ∙ ((λ i. option_or (find_kept (has_player p) (goes_on (with_entry h e)) (running s h) off i) (new i)) ∙ none-or (find (has_player p) (running s h)))

  -- who was in a game that e ends plays at most what it begins
  pub game_freed : (p : ℕ) → PlaysOnce s h p → ends_game_of s h e p ≡ true → find (has_player p) (running s (after s h e)) ≡ find (has_player p) (new_games s h e)
  game_freed p once out =
      let on : list_any (has_player p) (filter (λ g. not (goes_on (with_entry h e) g)) (running s h)) ≡ true = sym (ends_is p) ∙ out in
      let none : sum_by (game_sides p) kept ≡ 0 = omega (arith, once, sides_parts p (goes_on (with_entry h e)) (running s h), any_sides p (filter (λ g. not (goes_on (with_entry h e) g)) (running s h)) on) in
      game-after p ∙ ap (λ o. option_or o (find (has_player p) (new_games s h e))) (find_none (has_player p) kept (no_sides p kept none))

  -- who plays nothing plays what e begins
  pub game_begun : (p : ℕ) → find (has_player p) (running s h) ≡ None → find (has_player p) (running s (after s h e)) ≡ find (has_player p) (new_games s h e)
  game_begun p none =
      game-after p ∙ ap (λ o. option_or o (find (has_player p) (new_games s h e))) (still_none (running s h) none)
    where
      still_none : (gs : List Begun) → find (has_player p) gs ≡ None → find (has_player p) (filter (goes_on (with_entry h e)) gs) ≡ None
      still_none [] is = refl
      still_none (g ∷ gs) is =
          ⊎_elim
          (λ (on : has_player p g ≡ true). let never : Some g ≡ None = ap (λ b. cond b (Some g) (find (has_player p) gs)) (sym on) ∙ is in cc)
          (λ (off : has_player p g ≡ false).
          let rest : find (has_player p) gs ≡ None = ap (λ b. cond b (Some g) (find (has_player p) gs)) (sym off) ∙ is in
          ⊎_elim (λ (on : goes_on (with_entry h e) g ≡ true). rw (on, off) (still_none gs rest)) (λ (out : goes_on (with_entry h e) g ≡ false). rw out (still_none gs rest)) (cases_Bool (goes_on (with_entry h e) g)))
          (cases_Bool (has_player p g))

-- a no-show is of a player of a game that ended

lost_by_player : (p : ℕ) (x : EndedGame) → has_player p x.game ≡ false → has_lost p x ≡ false
lost_by_player p x off = by x.outcome.winner
  where
    off_white : (a b : Bool) → (a || b) ≡ false → a ≡ false
    off_white true b e = e
    off_white false b e = refl

    off_black : (a b : Bool) → (a || b) ≡ false → b ≡ false
    off_black true b e = cc
    off_black false b e = e

    by : (o : Option Colour) → option_map_or (λ (winner : Colour). player_on (other winner) x.game.header == p) o false ≡ false
    by None = refl
    by (Some White) = off_black (x.game.header.white == p) (x.game.header.black == p) off
    by (Some Black) = off_white (x.game.header.white == p) (x.game.header.black == p) off

and-false : (b : Bool) → (b && false) ≡ false
and-false true = refl
and-false false = refl

pub appears_elsewhere : (p : ℕ) (x : EndedGame) → has_player p x.game ≡ false → did_not_appear p x ≡ false
appears_elsewhere p x off = ap (λ b. is_no_show x.outcome.cause && b) (lost_by_player p x off) ∙ and-false (is_no_show x.outcome.cause)

no_show_in : (p : ℕ) (xs : List EndedGame) → list_any (λ x. has_player p x.game) xs ≡ false → list_any (did_not_appear p) xs ≡ false
no_show_in p [] off = refl
no_show_in p (x ∷ xs) off =
    ⊎_elim
    (λ (on : has_player p x.game ≡ true). let never : true ≡ false = ap (λ b. b || list_any (λ (y : EndedGame). has_player p y.game) xs) (sym on) ∙ off in cc)
    (λ (out : has_player p x.game ≡ false).
    let rest : list_any (λ (y : EndedGame). has_player p y.game) xs ≡ false = ap (λ b. b || list_any (λ (y : EndedGame). has_player p y.game) xs) (sym out) ∙ off in
    λ i. appears_elsewhere p x out i || no_show_in p xs rest i)
    (cases_Bool (has_player p x.game))

-- who is in no game that an entry ends did not miss one
pub no_show_none : (s : Setup) (h : History) (e : Entry) (p : ℕ) → ends_game_of s h e p ≡ false → no_show s h e p ≡ false
unfolding no_show ends_game_of
no_show_none s h e p off = no_show_in p (ended_by s h e) off

-- a wish after one entry more
pub wish-after : (s : Setup) (h : History) (e : Entry) (p : ℕ) → IsWhole h → wish s (after s h e) p ≡ wish_freed (no_show s h e p) (wish_in p e.what (wish s h p))
unfolding wish
wish-after s h e p whole = along-after (wish_step s p) s h e wishes.Absent whole

-- the wish of who is in no game that an entry ends is set by the entry alone
pub wish_kept : (s : Setup) (h : History) (e : Entry) (p : ℕ) → IsWhole h → ends_game_of s h e p ≡ false → wish s (after s h e) p ≡ wish_in p e.what (wish s h p)
wish_kept s h e p whole off = wish-after s h e p whole ∙ ap (λ b. wish_freed b (wish_in p e.what (wish s h p))) (no_show_none s h e p off)
