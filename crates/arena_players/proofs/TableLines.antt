-- The lines of the table once a player enters and once a game counts.
use Rattle.std.proofs.Common.{◌≡◌, ℕ, List, [], ◌∷◌, ◌++◌, length, ⊎_elim, Bool, true, false, ◌||◌, refl, sym, ap, ◌∙◌}
use Rattle.std.specs.Prelude.{cond, ℤ, ◌==◌, ◌↔◌, is_some, IsSome, IsTrue, Option, Some, None}
use Rattle.std.proofs.lemmas.Bool.{cases_Bool, eq-eqb}
use Rattle.std.proofs.lemmas.List.{map-append}
use Rattle.entries.specs.declared.setup.Setup.{Setup}
use Rattle.ranking.specs.declared.line.Line.{Line}
use Rattle.ranking.specs.Rows.{fresh, given, has, scored}
use Rattle.arena_history.specs.Endings.{EndedGame}
use Rattle.arena_history.specs.Results.{GameResult, rating_of, results_among, points_of, performance_of, fire_of}
use Rattle.arena_history.specs.Table.{joined, line_among, lines_among}
use Rattle.arena_history.specs.TableLaws.{LinesWithOneMore, LinesWithOnePlayerMore}

-- a player without a line is given nothing
pub scored_absent : (p points : ℕ) (performance : ℤ) (games : ℕ) (fire : Bool) (lines : List Line) → has lines p ≡ false → scored p points performance games fire lines ≡ lines
scored_absent p points performance games fire [] none = refl
scored_absent p points performance games fire (line ∷ lines) none =
    ⊎_elim
    (λ (own : (line.player == p) ≡ true). let never : true ≡ false = sym (ap (λ b. b || has lines p) own) ∙ none in cc)
    (λ (other : (line.player == p) ≡ false).
    λ i. cond (other i) (given points performance games fire line) line ∷ scored_absent p points performance games fire lines (sym (ap (λ b. b || has lines p) other) ∙ none) i)
    (cases_Bool (line.player == p))

-- the lines once a player is given what these results come to
abbrev pub scored_by : ℕ → List GameResult → List Line → List Line
scored_by p rs lines = scored p (points_of rs) (performance_of rs) (length rs) (fire_of rs) lines

-- a counted game gives the lines of its two players anew
pub lines_counted : LinesWithOneMore → (s : Setup) (games : List EndedGame) (x : EndedGame) (players : List ℕ) (before white both : List Line)
    → before ≡ lines_among s games players
    → white ≡ scored_by x.game.header.white (results_among s (games ++ x ∷ []) x.game.header.white) before
    → both ≡ scored_by x.game.header.black (results_among s (games ++ x ∷ []) x.game.header.black) white
    → both ≡ lines_among s (games ++ x ∷ []) players
unfolding line_among
lines_counted law s games x players before white both was first second =
    let more = games ++ x ∷ [] in
    second ∙ (ap (scored_by x.game.header.black (results_among s more x.game.header.black)) (first ∙ ap (scored_by x.game.header.white (results_among s more x.game.header.white)) was) ∙ sym (law s games x players))

-- a player who enters has his line behind the others, with what his games count for
pub lines_entered : LinesWithOnePlayerMore → (s : Setup) (games : List EndedGame) (players : List ℕ) (p rating : ℕ) (before fresh_one after : List Line)
    → before ≡ lines_among s games players
    → has before p ≡ false
    → rating ≡ rating_of s p
    → fresh_one ≡ before ++ fresh p rating ∷ []
    → after ≡ scored_by p (results_among s games p) fresh_one
    → after ≡ lines_among s games (joined players p)
unfolding line_among
lines_entered law s games players p rating before fresh_one after was none rated added given_now =
    let rs = results_among s games p in
    given_now
    ∙ (ap (scored_by p rs) added
    ∙ (map-append (λ (line : Line). cond (line.player == p) (given (points_of rs) (performance_of rs) (length rs) (fire_of rs) line) line) before (fresh p rating ∷ [])
    ∙ ((λ i. scored_absent p (points_of rs) (performance_of rs) (length rs) (fire_of rs) before none i ++ own i ∷ [])
    ∙ (ap (λ l. l ++ line_among s games p ∷ []) was
    ∙ sym (law s games players p ∙ ap (λ b. cond b (lines_among s games players) (lines_among s games players ++ line_among s games p ∷ [])) (ap (λ l. has l p) (sym was) ∙ none))))))
  where
    own : cond (p == p) (given (points_of (results_among s games p)) (performance_of (results_among s games p)) (length (results_among s games p)) (fire_of (results_among s games p)) (fresh p rating)) (fresh p rating) ≡ line_among s games p
    own = rw (eq-eqb p p refl, rated) refl

-- a player who has a line changes nothing by entering
pub lines_stay : LinesWithOnePlayerMore → (s : Setup) (games : List EndedGame) (players : List ℕ) (p : ℕ) (lines : List Line)
    → lines ≡ lines_among s games players
    → has lines p ≡ true
    → lines ≡ lines_among s games (joined players p)
lines_stay law s games players p lines was here =
    was ∙ sym (law s games players p ∙ ap (λ b. cond b (lines_among s games players) (lines_among s games players ++ line_among s games p ∷ [])) (ap (λ l. has l p) (sym was) ∙ here))

-- a player has a line exactly where he has a rank
pub has_by_rank : (rank : Option ℕ) (here : Bool) → IsSome rank ↔ IsTrue here → here ≡ is_some rank
has_by_rank (Some k) here iff = iff.0 refl
has_by_rank None true iff = sym (iff.1 refl)
has_by_rank None false iff = refl
