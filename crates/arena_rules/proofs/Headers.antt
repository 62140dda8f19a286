-- The headers of the games of a legal list.
use Rattle.std.proofs.Common.{◌≡◌, ℕ, suc, List, [], ◌∷◌, ◌++◌, Some, refl, sym, subst, arith}
use Rattle.std.specs.Prelude.{◌≢◌, slice_get, filter}
use Rattle.std.specs.List.{AllByRecursion}
use Rattle.entries.specs.declared.setup.Setup.{Setup}
use Rattle.entries.specs.declared.journal.Entry.{Entry}
use Rattle.entries.specs.declared.journal.Start.{Start}
use Rattle.entries.specs.Ranges.{IsControl, IsGood}
use Rattle.arena_history.specs.GameLaws.{IsGameOf, games_begun_by}
use Rattle.arena_history.specs.Games.{Begun, games_from, begun, goes_on, running}
use Rattle.arena_history.specs.PlayerLaws.{IsPlayed}
use Rattle.arena_history.specs.Waves.{history}
use Rattle.arena_history.proofs.Lists.{all_at, slice_get_within, snoc_induction}
use Rattle.arena_rules.specs.Below.{LawsOfHistories}
use Rattle.arena_rules.specs.RoomLaws.{HasHeaderInRange}
use Rattle.arena_rules.specs.Legal.{IsLegal}
use Rattle.arena_rules.proofs.Bounds.{games-legal}
use Rattle.arena_rules.proofs.Entrants.{players_of_game}
use Rattle.arena_rules.proofs.Stamps.{last_stamp-legal}
use Rattle.arena_rules.proofs.Timed.{no_game, older_or_new, timed}

controls : (s : Setup) (es : List Entry) (k : ℕ) (xs : List Start) → AllByRecursion (λ (g : Begun). g.header.control ≡ s.control) (games_from s es k xs)
controls s es k [] = tt
controls s es k (x ∷ xs) = (refl, controls s es (suc k) xs)

all_behind : {X : Type 0} (P : X → Type 0) (xs ys : List X) → AllByRecursion P (xs ++ ys) → AllByRecursion P ys
all_behind P [] ys all = all
all_behind P (x ∷ xs) ys all = all_behind P xs ys all.1

module _ (known : LawsOfHistories) where
  pub control_of_game : (s : Setup) (es : List Entry) (g : Begun) → IsGameOf s es g → g.header.control ≡ s.control
  unfolding begun
  control_of_game s es g of = all_at (λ (k : Begun). k.header.control ≡ s.control) (begun s (history s es)) g.header.id g (controls s (history s es).entries 0 (history s es).starts) of

  -- the games that an entry begins run, and so they are played by two
  new_two : (s : Setup) (es : List Entry) (e : Entry) (i : ℕ) (g : Begun) → slice_get (games_begun_by s es e) i ≡ Some g → g.header.white ≢ g.header.black
  new_two s es e i g at =
      let more = history s (es ++ e ∷ []) in
      let all = subst (AllByRecursion (IsPlayed s more)) (known.running s es e) (known.played s (es ++ e ∷ [])) in
      (all_at (IsPlayed s more) (games_begun_by s es e) i g (all_behind (IsPlayed s more) (filter (goes_on more) (running s (history s es))) (games_begun_by s es e) all) at).two

  -- each game is between two players
  two_players : (s : Setup) (es : List Entry) (g : Begun) → IsGameOf s es g → g.header.white ≢ g.header.black
  two_players s es =
      snoc_induction (λ l. (g : Begun) → IsGameOf s l g → g.header.white ≢ g.header.black)
      (λ g of. absurd (no_game s g of))
      (λ l e before g of. older_or_new known s l e g (g.header.white ≢ g.header.black) of (before g) (λ i at. new_two s l e i g at))
      es

  pub header_in_range : (s : Setup) (es : List Entry) (g : Begun) → IsGood s → IsLegal s es → IsGameOf s es g → HasHeaderInRange s g
  header_in_range s es g good legal of =
      let players = players_of_game known s es g legal of in
      let control = control_of_game s es g of in
      record {
        number = omega (arith, slice_get_within (begun s (history s es)) g.header.id g of, known.numbered.counted s (history s es), games-legal known s es legal);
        control = control;
        timed = subst IsControl (sym control) good.timed;
        start_most = omega (arith, (timed known s es g legal of).1, last_stamp-legal known s es legal);
        white = players.0;
        black = players.1;
        two = two_players s es g of;
      }
