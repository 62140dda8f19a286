-- What tells a piece apart does so.
use Rattle.std.proofs.Common.{◌≡◌, ◌≢◌, ℕ, ◌<◌, refl, sym, ◌∙◌, arith, true, false, Bool, not, [], ◌∷◌, None, get_or, inl, inr, subst}
use Rattle.std.specs.List.{list_any, range_with_len}
use Rattle.std.proofs.lemmas.Bool.{and_from, eq-eqb, ne_eqb, not_from_false, not_from_true, cond-false, cond-true, cases_Bool, cases_eq, both_ways}
use Rattle.std.proofs.lemmas.List.Folds.{list_any_at}
use Rattle.std.proofs.lemmas.List.FromFn.{get_or-range_with_len, length-range_with_len}
use Rattle.board.specs.declared.piece.Kind.{Kind}
use Rattle.board.specs.declared.parts.Parts.{Parts}
use Rattle.board.specs.Moves.{MoveWord, IsMove}
use Rattle.board.specs.Square.{file_of, rank_of}
use Rattle.board.specs.Attack.{piece_on}
use Rattle.board.specs.Words.{square_word}
use Rattle.board.specs.Cells.{is_kind}
use Rattle.move_rules.specs.Legal.{legal}
use Rattle.move_rules.specs.Lists.{squares, move_of}
use Rattle.pgn_text.specs.San.{is_rival, is_file_rival, is_rank_rival, apart_text, file_letter, rank_digit}
use Rattle.pgn_text.proofs.Letters.{heads, tails, one_square}
use Rattle.pgn_text.proofs.Shapes.{one_word}

some_below : (test : ℕ → Bool) (n a : ℕ) → a < n → test a ≡ true → list_any test (range_with_len 0 n) ≡ true
some_below test n a on h =
    let found = get_or-range_with_len 0 n a 0 on in
    let at : get_or (range_with_len 0 n) a 0 ≡ a = omega arith in
    list_any_at test (range_with_len 0 n) a 0 (omega (arith, length-range_with_len 0 n)) (subst (λ (x : ℕ). test x ≡ true) (sym at) h)

-- a square of the board that passes is found
pub some_square : (test : ℕ → Bool) (a : ℕ) → a < 64 → test a ≡ true → list_any test squares ≡ true
some_square test a on h = some_below test 64 a on h

-- how a piece with rivals is told apart
data Told (p : Parts) (m : MoveWord) (k : Kind) : Type 0 where
  ByFile : list_any (is_file_rival p m k) squares ≡ false → apart_text p m k ≡ file_letter m.from ∷ [] → Told p m k
  ByRank : list_any (is_rank_rival p m k) squares ≡ false → apart_text p m k ≡ rank_digit m.from ∷ [] → Told p m k
  ByBoth : apart_text p m k ≡ square_word m.from → Told p m k

told : (p : Parts) (m : MoveWord) (k : Kind) → list_any (is_rival p m k) squares ≡ true → Told p m k
unfolding apart_text
told p m k h =
    let some = cond-false (not (list_any (is_rival p m k) squares)) _ _ (not_from_true _ h) in
    elim (cases_Bool (list_any (is_file_rival p m k) squares)) [
      | inr none ↦ ByFile none (some ∙ cond-true _ _ _ (not_from_false _ none))
      | inl on_file ↦
          let on = some ∙ cond-false _ _ _ (not_from_true _ on_file) in
          elim (cases_Bool (list_any (is_rank_rival p m k) squares)) [
            | inr none ↦ ByRank none (on ∙ cond-true _ _ _ (not_from_false _ none))
            | inl on_rank ↦ ByBoth (on ∙ cond-false _ _ _ (not_from_true _ on_rank))
          ]
    ]

-- two pieces that can go to one square are told apart
apart_by : (p : Parts) (m n : MoveWord) (k : Kind) → m.from < 64 → n.from < 64 → m.from ≢ n.from → is_rival p m k n.from ≡ true → is_rival p n k m.from ≡ true → Told p m k → Told p n k → apart_text p m k ≡ apart_text p n k → ⊥
apart_by p m n k mon non away rival back (ByFile none e) (ByFile _ f) same =
    let it : file_letter m.from ≡ file_letter n.from = heads _ _ _ _ (sym e ∙ same ∙ f) in
    both_ways _ none (some_square (is_file_rival p m k) n.from non (and_from _ _ (eq-eqb (file_of n.from) (file_of m.from) (omega arith)) rival))
apart_by p m n k mon non away rival back (ByFile none e) (ByRank _ f) same =
    let it : file_letter m.from ≡ rank_digit n.from = heads _ _ _ _ (sym e ∙ same ∙ f) in
    omega arith
apart_by p m n k mon non away rival back (ByFile none e) (ByBoth f) same =
    let it : [] ≡ rank_digit n.from ∷ [] = tails _ _ _ _ (sym e ∙ same ∙ f) in
    cc
apart_by p m n k mon non away rival back (ByRank none e) (ByFile _ f) same =
    let it : rank_digit m.from ≡ file_letter n.from = heads _ _ _ _ (sym e ∙ same ∙ f) in
    omega arith
apart_by p m n k mon non away rival back (ByRank none e) (ByRank _ f) same =
    let it : rank_digit m.from ≡ rank_digit n.from = heads _ _ _ _ (sym e ∙ same ∙ f) in
    both_ways _ none (some_square (is_rank_rival p m k) n.from non (and_from _ _ (eq-eqb (rank_of n.from) (rank_of m.from) (omega arith)) rival))
apart_by p m n k mon non away rival back (ByRank none e) (ByBoth f) same =
    let it : [] ≡ rank_digit n.from ∷ [] = tails _ _ _ _ (sym e ∙ same ∙ f) in
    cc
apart_by p m n k mon non away rival back (ByBoth e) (ByFile _ f) same =
    let it : rank_digit m.from ∷ [] ≡ [] = tails _ _ _ _ (sym e ∙ same ∙ f) in
    cc
apart_by p m n k mon non away rival back (ByBoth e) (ByRank _ f) same =
    let it : rank_digit m.from ∷ [] ≡ [] = tails _ _ _ _ (sym e ∙ same ∙ f) in
    cc
apart_by p m n k mon non away rival back (ByBoth e) (ByBoth f) same =
    let file : file_letter m.from ≡ file_letter n.from = heads _ _ _ _ (sym e ∙ same ∙ f) in
    let rank : rank_digit m.from ≡ rank_digit n.from = heads _ _ _ _ (tails _ _ _ _ (sym e ∙ same ∙ f)) in
    away (one_square m.from n.from (omega arith) (omega arith))

-- a piece of the same kind that goes to the same square from elsewhere is a rival
rival : (p : Parts) (m n : MoveWord) (k : Kind) → n.from ≢ m.from → n.to ≡ m.to → n.promo ≡ None → is_kind k (piece_on p.cells n.from) ≡ true → legal p n ≡ true → is_rival p m k n.from ≡ true
rival p m n k away to promo kind ok =
    let word : n ≡ move_of n.from m.to None = one_word n (move_of n.from m.to None) refl to promo in
    and_from _ _ (and_from _ _ (not_from_false _ (ne_eqb n.from m.from away)) kind) (subst (λ (w : MoveWord). legal p w ≡ true) word ok)

-- two moves of pieces of one kind to one square with one text to tell them apart start on one square
pub one_origin : (p : Parts) (m n : MoveWord) (k : Kind) → IsMove m → IsMove n → legal p m ≡ true → legal p n ≡ true → is_kind k (piece_on p.cells m.from) ≡ true → is_kind k (piece_on p.cells n.from) ≡ true → m.promo ≡ None → n.promo ≡ None → m.to ≡ n.to → apart_text p m k ≡ apart_text p n k → m.from ≡ n.from
one_origin p m n k mw nw ml nl mk nk mp np to same =
    elim (cases_eq m.from n.from) [
      | inl e ↦ e
      | inr away ↦
          let one = rival p m n k (λ e. away (sym e)) (sym to) np nk nl in
          let other = rival p n m k away to mp mk ml in
          absurd (apart_by p m n k mw.from nw.from away one other (told p m k (some_square (is_rival p m k) n.from nw.from one)) (told p n k (some_square (is_rival p n k) m.from mw.from other)) same)
    ]
