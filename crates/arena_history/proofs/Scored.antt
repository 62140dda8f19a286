-- One counted game more changes the lines of its two players alone.
use Rattle.std.proofs.Common.{◌≡◌, ℕ, List, [], ◌∷◌, ◌++◌, true, false, ⊎_elim, refl, sym, ap, ◌∙◌, cond, append-nil}
use Rattle.std.specs.Prelude.{◌==◌, map}
use Rattle.std.specs.List.{filter_map}
use Rattle.std.proofs.lemmas.Bool.{cases_Bool, eqb-true, eqb-false, ne_eqb}
use Rattle.std.proofs.lemmas.List.Elements.{filter_map-append}
use Rattle.entries.specs.declared.setup.Setup.{Setup}
use Rattle.ranking.specs.declared.line.Line.{Line}
use Rattle.ranking.specs.Rows.{given}
use Rattle.arena_history.specs.Endings.{EndedGame}
use Rattle.arena_history.specs.Results.{result_for, results_among, rating_of}
use Rattle.arena_history.specs.Table.{line_by, line_among, lines_among}
use Rattle.arena_history.specs.TableLaws.{rescored}

-- who does not play it has the results that he had
same_results : (s : Setup) (fs : List EndedGame) (x : EndedGame) (p : ℕ) → (x.game.header.white == p) ≡ false → (x.game.header.black == p) ≡ false → results_among s (fs ++ x ∷ []) p ≡ results_among s fs p
unfolding results_among
same_results s fs x p white black =
    filter_map-append (result_for s p) fs (x ∷ []) ∙ (ap (λ l. filter_map (result_for s p) fs ++ l) none ∙ append-nil (filter_map (result_for s p) fs))
  where
    none : filter_map (result_for s p) (x ∷ []) ≡ []
    none = rw (white, black) refl

-- a line that is given the values of its own player's line is that line
given_own : (s : Setup) (fs more : List EndedGame) (p q : ℕ) → p ≡ q → given (line_among s more p).points (line_among s more p).performance (line_among s more p).games (line_among s more p).fire (line_among s fs q) ≡ line_among s more q
unfolding line_among
given_own s fs more p q same = λ i. line_by q (rating_of s q) (results_among s more (same i))

given_again : (s : Setup) (more : List EndedGame) (p q : ℕ) → p ≡ q → given (line_among s more p).points (line_among s more p).performance (line_among s more p).games (line_among s more p).fire (line_among s more q) ≡ line_among s more q
given_again s more p q same = given_own s more more p q same

turned : (a b : ℕ) → (a == b) ≡ false → (b == a) ≡ false
turned a b off = ne_eqb b a (λ same. eqb-false a b off (sym same))

module _ (s : Setup) (fs : List EndedGame) (x : EndedGame) where
  abbrev to : ℕ → Line → Line
  to p l = let y = line_among s (fs ++ x ∷ []) p in cond (l.player == y.player) (given y.points y.performance y.games y.fire l) l

  white_first : (p : ℕ) → to x.game.header.white (line_among s fs p) ≡ cond (p == x.game.header.white) (line_among s (fs ++ x ∷ []) p) (line_among s fs p)
  unfolding line_among
  white_first p =
      ⊎_elim
      (λ (on : (p == x.game.header.white) ≡ true). rw on (given_own s fs (fs ++ x ∷ []) x.game.header.white p (sym (eqb-true p x.game.header.white on))))
      (λ (off : (p == x.game.header.white) ≡ false). rw off refl)
      (cases_Bool (p == x.game.header.white))

  same : (p : ℕ) → (p == x.game.header.white) ≡ false → (p == x.game.header.black) ≡ false → line_among s fs p ≡ line_among s (fs ++ x ∷ []) p
  unfolding line_among
  same p white black = ap (line_by p (rating_of s p)) (sym (same_results s fs x p (turned p x.game.header.white white) (turned p x.game.header.black black)))

  again : (p : ℕ) → to x.game.header.black (line_among s (fs ++ x ∷ []) p) ≡ line_among s (fs ++ x ∷ []) p
  unfolding line_among
  again p =
      ⊎_elim
      (λ (on : (p == x.game.header.black) ≡ true). rw on (given_again s (fs ++ x ∷ []) x.game.header.black p (sym (eqb-true p x.game.header.black on))))
      (λ (off : (p == x.game.header.black) ≡ false). rw off refl)
      (cases_Bool (p == x.game.header.black))

  otherwise : (p : ℕ) → (p == x.game.header.white) ≡ false → to x.game.header.black (line_among s fs p) ≡ line_among s (fs ++ x ∷ []) p
  unfolding line_among
  otherwise p white =
      ⊎_elim
      (λ (on : (p == x.game.header.black) ≡ true). rw on (given_own s fs (fs ++ x ∷ []) x.game.header.black p (sym (eqb-true p x.game.header.black on))))
      (λ (off : (p == x.game.header.black) ≡ false). rw off (same p white off))
      (cases_Bool (p == x.game.header.black))

  both : (p : ℕ) → line_among s (fs ++ x ∷ []) p ≡ to x.game.header.black (to x.game.header.white (line_among s fs p))
  both p =
      ⊎_elim
      (λ (on : (p == x.game.header.white) ≡ true). sym (ap (to x.game.header.black) (white_first p ∙ ap (λ b. cond b (line_among s (fs ++ x ∷ []) p) (line_among s fs p)) on) ∙ again p))
      (λ (off : (p == x.game.header.white) ≡ false). sym (ap (to x.game.header.black) (white_first p ∙ ap (λ b. cond b (line_among s (fs ++ x ∷ []) p) (line_among s fs p)) off) ∙ otherwise p off))
      (cases_Bool (p == x.game.header.white))

  each : (ps : List ℕ) → map (line_among s (fs ++ x ∷ [])) ps ≡ map (to x.game.header.black) (map (to x.game.header.white) (map (line_among s fs) ps))
  each [] = refl
  each (p ∷ ps) = λ i. both p i ∷ each ps i

  pub one_more : (ps : List ℕ) → lines_among s (fs ++ x ∷ []) ps ≡ rescored (line_among s (fs ++ x ∷ []) x.game.header.black) (rescored (line_among s (fs ++ x ∷ []) x.game.header.white) (lines_among s fs ps))
  unfolding lines_among
  one_more ps = each ps
