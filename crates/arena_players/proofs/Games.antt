-- What one counted game more is for its players and for everybody else.
use Rattle.std.proofs.Common.{◌≡◌, ℕ, List, [], ◌∷◌, ◌++◌, Some, set, refl, sym, ap, subst, ◌∙◌, append-nil}
use Rattle.std.specs.Prelude.{slice_get, ◌≢◌}
use Rattle.std.specs.List.{filter_map}
use Rattle.std.proofs.lemmas.Bool.{eq-eqb, ne_eqb}
use Rattle.board.specs.declared.piece.Colour.TheVariants.{White, Black}
use Rattle.entries.specs.declared.setup.Setup.{Setup}
use Rattle.game_room.specs.declared.header.Header.{Header}
use Rattle.game_room.specs.declared.outcome.Outcome.{Outcome}
use Rattle.arena_history.specs.Endings.{EndedGame}
use Rattle.arena_history.specs.Results.{GameResult, rating_of, result_for, results_among}
use Rattle.arena_history.specs.TableLaws.{ResultsWithOneMore}
use Rattle.arena_players.specs.Accounts.{IsAccountOf}
use Rattle.arena_players.specs.Results.{HasResults, result_of}
use Rattle.arena_players.specs.declared.account.Account.{Account}
use Rattle.arena_players.proofs.Lists.{Each, each_set}

-- an account has one result more
pub record HasOneMore (a f : Account) (r : GameResult) : Type 0 where
  pub rating : f.rating ≡ a.rating
  pub results : (rs : List GameResult) → HasResults a rs → HasResults f (rs ++ r ∷ [])

module _ (law : ResultsWithOneMore) (s : Setup) (games : List EndedGame) (x : EndedGame) where
  abbrev more : List EndedGame
  more = games ++ x ∷ []

  abbrev white : ℕ
  white = x.game.header.white

  abbrev black : ℕ
  black = x.game.header.black

  results-white : results_among s more white ≡ results_among s games white ++ result_of White x.outcome (rating_of s black) ∷ []
  results-white = law s games x white ∙ ap (λ l. results_among s games white ++ l) here
    where
      here : filter_map (result_for s white) (x ∷ []) ≡ result_of White x.outcome (rating_of s black) ∷ []
      here = rw (eq-eqb white white refl) refl

  results-black : white ≢ black → results_among s more black ≡ results_among s games black ++ result_of Black x.outcome (rating_of s white) ∷ []
  results-black two = law s games x black ∙ ap (λ l. results_among s games black ++ l) here
    where
      here : filter_map (result_for s black) (x ∷ []) ≡ result_of Black x.outcome (rating_of s white) ∷ []
      here = rw (ne_eqb white black two, eq-eqb black black refl) refl

  results-others : (p : ℕ) → white ≢ p → black ≢ p → results_among s more p ≡ results_among s games p
  results-others p not_white not_black = law s games x p ∙ (ap (λ l. results_among s games p ++ l) none ∙ append-nil (results_among s games p))
    where
      none : filter_map (result_for s p) (x ∷ []) ≡ []
      none = rw (ne_eqb white p not_white, ne_eqb black p not_black) refl

  -- the account of a player once White's game is added and Black's is not
  record IsHalf (p : ℕ) (a : Account) : Type 0 where
    others : black ≢ p → IsAccountOf s more p a
    own : black ≡ p → IsAccountOf s games p a

  half_white : (a f : Account) → white ≢ black → IsAccountOf s games white a → HasOneMore a f (result_of White x.outcome (rating_of s black)) → IsHalf white f
  half_white a f two was one = record {
    others = λ _. record { rating = one.rating ∙ was.rating; results = subst (HasResults f) (sym results-white) (one.results (results_among s games white) was.results) };
    own = λ same. absurd (two (sym same));
  }

  half_others : (p : ℕ) (a : Account) → white ≢ p → IsAccountOf s games p a → IsHalf p a
  half_others p a not_white was = record {
    others = λ not_black. record { rating = was.rating; results = subst (HasResults a) (sym (results-others p not_white not_black)) was.results };
    own = λ _. was;
  }

  -- with both accounts written each player's is that with one game more
  pub each_counted : (xs : List Account) (a f b g : Account) → white ≢ black
      → Each (IsAccountOf s games) xs
      → slice_get xs white ≡ Some a
      → HasOneMore a f (result_of White x.outcome (rating_of s black))
      → slice_get (set xs white f) black ≡ Some b
      → HasOneMore b g (result_of Black x.outcome (rating_of s white))
      → Each (IsAccountOf s more) (set (set xs white f) black g)
  each_counted xs a f b g two each read one read-2 one-2 =
      let half : Each IsHalf (set xs white f) = each_set (IsAccountOf s games) IsHalf xs white f each half_others (half_white a f two (each white a read) one) in
      let was : IsAccountOf s games black b = (half black b read-2).own refl in
      each_set IsHalf (IsAccountOf s more) (set xs white f) black g half
      (λ p k other is. is.others other)
      (record { rating = one-2.rating ∙ was.rating; results = subst (HasResults g) (sym (results-black two)) (one-2.results (results_among s games black) was.results) })

-- so it is where the accounts are written by a header, an outcome and the ratings that are kept
pub each_counted_by : ResultsWithOneMore → (s : Setup) (games : List EndedGame) (x : EndedGame) (h : Header) (o : Outcome) (white_rating black_rating : ℕ) (xs : List Account) (a f b g : Account)
    → x.game.header ≡ h
    → x.outcome ≡ o
    → white_rating ≡ rating_of s h.white
    → black_rating ≡ rating_of s h.black
    → h.white ≢ h.black
    → Each (IsAccountOf s games) xs
    → slice_get xs h.white ≡ Some a
    → HasOneMore a f (result_of White o black_rating)
    → slice_get (set xs h.white f) h.black ≡ Some b
    → HasOneMore b g (result_of Black o white_rating)
    → Each (IsAccountOf s (games ++ x ∷ [])) (set (set xs h.white f) h.black g)
each_counted_by law s games x h o white_rating black_rating xs a f b g is_header is_outcome =
    subst
    (λ (k : Header). white_rating ≡ rating_of s k.white
    → black_rating ≡ rating_of s k.black
    → k.white ≢ k.black
    → Each (IsAccountOf s games) xs
    → slice_get xs k.white ≡ Some a
    → HasOneMore a f (result_of White o black_rating)
    → slice_get (set xs k.white f) k.black ≡ Some b
    → HasOneMore b g (result_of Black o white_rating)
    → Each (IsAccountOf s (games ++ x ∷ [])) (set (set xs k.white f) k.black g))
    is_header
    (λ white black two each read one read-2 one-2.
    each_counted law s games x xs a f b g two each read
    (subst (HasOneMore a f) (λ i. result_of White (sym is_outcome i) (black i)) one)
    read-2
    (subst (HasOneMore b g) (λ i. result_of Black (sym is_outcome i) (white i)) one-2))
