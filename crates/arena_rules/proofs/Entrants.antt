-- Those who entered a legal list are players of its setup, and so are the players of its games, who all entered.
use Rattle.std.proofs.Common.{◌≡◌, ℕ, ◌<◌, List, [], ◌∷◌, ◌++◌, length, true, false, refl, sym, ◌∙◌, subst}
use Rattle.std.specs.Prelude.{cond, ◌==◌, IsTrue}
use Rattle.std.specs.List.{list_any, AllByRecursion}
use Rattle.entries.specs.declared.setup.Setup.{Setup}
use Rattle.entries.specs.declared.journal.Entry.{Entry}
use Rattle.entries.specs.declared.journal.What.{What}
use Rattle.entries.specs.declared.journal.What.TheVariants as what
use Rattle.arena_history.specs.BoundLaws.{EnteredArePlayers}
use Rattle.arena_history.specs.GameLaws.{IsGameOf}
use Rattle.arena_history.specs.Games.{Begun, begun}
use Rattle.arena_history.specs.History.{History}
use Rattle.arena_history.specs.Table.{joined, entered_in, entered}
use Rattle.arena_history.specs.Waves.{history}
use Rattle.arena_history.specs.Wishes.{has_entered}
use Rattle.arena_history.proofs.Lists.{all_append, all_at}
use Rattle.arena_rules.specs.Below.{LawsOfHistories}
use Rattle.arena_rules.specs.Legal.{AllowsWhat, IsLegal}
use Rattle.arena_rules.proofs.Asked.{OfGame, of_starts, has_asked, players_asked, asked_entered}
use Rattle.arena_rules.proofs.Legality.{legal_induction}

players_joined : (n p : ℕ) (ps : List ℕ) → p < n → AllByRecursion (λ q. q < n) ps → AllByRecursion (λ q. q < n) (joined ps p)
players_joined n p ps below all =
    elim (list_any (λ q. q == p) ps) as (λ b. AllByRecursion (λ q. q < n) (cond b ps (ps ++ p ∷ []))) [
      | true ↦ all
      | false ↦ all_append (λ q. q < n) ps (p ∷ []) all (below, tt)
    ]

players_in : (s : Setup) (h : History) (t : ℕ) (w : What) (ps : List ℕ) → AllowsWhat s h t w → AllByRecursion (λ p. p < length s.players) ps → AllByRecursion (λ p. p < length s.players) (entered_in w ps)
players_in s h t (what.Enter p) ps may all = players_joined (length s.players) p ps may.in_range all
players_in s h t (what.Pause p) ps may all = all
players_in s h t (what.Leave p) ps may all = all
players_in s h t (what.Act p number a) ps may all = all
players_in s h t what.Tick ps may all = all
players_in s h t (what.Wave n) ps may all = all

none_entered : (s : Setup) → entered (history s []) ≡ []
unfolding entered history
none_entered s = refl

module _ (known : LawsOfHistories) where
  pub entered_are_players : (s : Setup) (es : List Entry) → IsLegal s es → EnteredArePlayers s (history s es)
  entered_are_players s es legal =
      legal_induction s (λ l. EnteredArePlayers s (history s l)) (subst (AllByRecursion (λ p. p < length s.players)) (sym (none_entered s)) tt)
      (λ l e was allowed all. subst (AllByRecursion (λ p. p < length s.players)) (sym (known.entered s l e)) (players_in s (history s l) e.stamp e.what (entered (history s l)) allowed.granted all))
      es legal

  -- the players of a game
  pub players_of_game : (s : Setup) (es : List Entry) (g : Begun) → IsLegal s es → IsGameOf s es g → (g.header.white < length s.players) × (g.header.black < length s.players)
  unfolding begun
  players_of_game s es g legal of =
      all_at (OfGame (λ p. p < length s.players)) (begun s (history s es)) g.header.id g
      (of_starts (λ p. p < length s.players) s (history s es).entries 0 (history s es).starts (known.players s es (entered_are_players s es legal))) of

  pub players_entered : (s : Setup) (es : List Entry) (g : Begun) → IsLegal s es → IsGameOf s es g → IsTrue (has_entered (history s es) g.header.white) × IsTrue (has_entered (history s es) g.header.black)
  players_entered s es g legal of =
      let both = all_at (OfGame (λ p. has_asked (wish_at p) ≡ true)) (begun s (history s es)) g.header.id g (players_asked known s es legal) of in
      (asked_entered known s es g.header.white legal ∙ both.0, asked_entered known s es g.header.black legal ∙ both.1)
    where
      wish_at : ℕ → Rattle.seats.specs.declared.wish.Wish.Wish
      wish_at p = Rattle.arena_history.specs.Wishes.wish s (history s es) p
