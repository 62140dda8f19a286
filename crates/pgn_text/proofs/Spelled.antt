-- A written move is a word, and is read as the move.
use Rattle.std.proofs.Common.{◌≡◌, ◌≢◌, ℕ, ◌+◌, ◌<◌, ◌≤◌, ◌==◌, Bool, true, false, not, ◌||◌, List, [], ◌∷◌, ◌++◌, Option, Some, None, Ok, codes, drop, refl, sym, ap, subst, ◌∙◌, arith, inl, inr, nat_le}
use Rattle.std.specs.List.{list_all, list_any, position_or_len}
use Rattle.std.specs.Str.{bytes_eq}
use Rattle.std.proofs.lemmas.Bool.{cond_both, cond-true, cond-false, and_parts, and_from, and_left, and_right, or_from, or_left, not_from_false, ne_eqb, eqb-true, or_cases, lt-leb}
use Rattle.std.proofs.lemmas.List.{append-nil}
use Rattle.board.specs.declared.piece.Kind.{Kind}
use Rattle.board.specs.declared.parts.Parts.{Parts}
use Rattle.board.specs.Moves.{MoveWord, IsMove}
use Rattle.board.specs.Words.{square_word}
use Rattle.move_rules.specs.After.{after}
use Rattle.move_rules.specs.Legal.{legal}
use Rattle.move_rules.specs.Lists.{squares}
use Rattle.pgn_text.specs.declared.game.PgnResult.{PgnResult}
use Rattle.pgn_text.specs.declared.runs.Run.TheVariants.{Digits, Dots, Token}
use Rattle.pgn_text.specs.San.{letter, file_letter, rank_digit, promotion_text, apart_text, cross, captures, is_rival, is_file_rival, is_rank_rival, plain, sign, san}
use Rattle.pgn_text.specs.Reading.{Names, is_sign, san_in}
use Rattle.pgn_text.specs.Games.{is_digit}
use Rattle.pgn_text.specs.Runs.{is_skipped, ends, run_len}
use Rattle.pgn_text.specs.Tokens.{number_len, is_mark, result_in, end_said}
use Rattle.pgn_text.specs.PgnReading.{Sofar, item, token_read, with_move}
use Rattle.pgn_text.proofs.Letters.{letter_least, letter_most}
use Rattle.pgn_text.proofs.Shapes.{Shape, Castles, Steps, Takes, Goes, shape}
use Rattle.pgn_text.proofs.OneMove.{IsBare, bare, sign_tells}
use Rattle.pgn_text.proofs.Naming.{search_finds}
use Rattle.pgn_text.proofs.Words.{IsWord, word_item, word_says}

abbrev goes : ℕ → Bool
goes b = not (ends Token b)

range_goes : (b : ℕ) → 33 ≤ b → b < 123 → goes b ≡ true
range_goes b low high =
    not_from_false (ends Token b) (or_from (is_skipped b) (b == 123) (or_from _ _ (or_from _ _ (or_from _ _ (ne_eqb b 32 (λ e. omega arith)) (ne_eqb b 9 (λ e. omega arith))) (ne_eqb b 13 (λ e. omega arith))) (ne_eqb b 10 (λ e. omega arith))) (ne_eqb b 123 (λ e. omega arith)))

all_append : (xs ys : List ℕ) → list_all goes xs ≡ true → list_all goes ys ≡ true → list_all goes (xs ++ ys) ≡ true
all_append [] ys h g = g
all_append (x ∷ xs) ys h g = let t = and_parts (goes x) (list_all goes xs) h in and_from (goes x) (list_all goes (xs ++ ys)) t.0 (all_append xs ys t.1 g)

one_goes : (b : ℕ) → 33 ≤ b → b < 123 → list_all goes (b ∷ []) ≡ true
one_goes b low high = and_from (goes b) true (range_goes b low high) refl

square_goes : (s : ℕ) → s < 64 → list_all goes (square_word s) ≡ true
square_goes s on = and_from (goes (file_letter s)) (list_all goes (rank_digit s ∷ [])) (range_goes (file_letter s) (omega arith) (omega arith)) (one_goes (rank_digit s) (omega arith) (omega arith))

promotion_goes : (k : Option Kind) → list_all goes (promotion_text k) ≡ true
promotion_goes None = refl
promotion_goes (Some k) = let low = letter_least k in let high = letter_most k in and_from (goes 61) (list_all goes (letter k ∷ [])) refl (one_goes (letter k) (omega arith) (omega arith))

apart_goes : (p : Parts) (m : MoveWord) (k : Kind) → m.from < 64 → list_all goes (apart_text p m k) ≡ true
unfolding apart_text
apart_goes p m k on =
    cond_both (not (list_any (is_rival p m k) squares)) _ _ (λ xs. list_all goes xs ≡ true) (λ _. refl)
    (λ _. cond_both (not (list_any (is_file_rival p m k) squares)) _ _ (λ xs. list_all goes xs ≡ true) (λ _. one_goes (file_letter m.from) (omega arith) (omega arith))
    (λ _. cond_both (not (list_any (is_rank_rival p m k) squares)) _ _ (λ xs. list_all goes xs ≡ true) (λ _. one_goes (rank_digit m.from) (omega arith) (omega arith))
    (λ _. square_goes m.from on)))

cross_goes : (p : Parts) (m : MoveWord) → list_all goes (cross p m) ≡ true
cross_goes p m = cond_both (captures p m) (codes "x") [] (λ xs. list_all goes xs ≡ true) (λ _. refl) (λ _. refl)

-- how a text begins, and that it goes on as a token does
record Begins (text : List ℕ) : Type 0 where
  first : ℕ
  others : List ℕ
  is : text ≡ first ∷ others
  low : 66 ≤ first
  no_tag : first ≢ 91
  goes_on : list_all goes text ≡ true

begins_by : (text : List ℕ) (first : ℕ) (others : List ℕ) → text ≡ first ∷ others → 66 ≤ first → first ≢ 91 → list_all goes (first ∷ others) ≡ true → Begins text
begins_by text first others e low apart h = record { first = first; others = others; is = e; low = low; no_tag = apart; goes_on = subst (λ (xs : List ℕ). list_all goes xs ≡ true) (sym e) h }

shape_begins : (p : Parts) (m : MoveWord) → IsMove m → Shape p m → Begins (plain p m)
shape_begins p m w (Castles true _ text) = begins_by (plain p m) 79 (45 ∷ 79 ∷ []) text (omega arith) (λ e. omega arith) refl
shape_begins p m w (Castles false _ text) = begins_by (plain p m) 79 (45 ∷ 79 ∷ 45 ∷ 79 ∷ []) text (omega arith) (λ e. omega arith) refl
shape_begins p m w (Steps _ _ text) = begins_by (plain p m) (file_letter m.to) (rank_digit m.to ∷ promotion_text m.promo) text (omega arith) (λ e. omega arith) (all_append (square_word m.to) (promotion_text m.promo) (square_goes m.to w.to) (promotion_goes m.promo))
shape_begins p m w (Takes _ text) = begins_by (plain p m) (file_letter m.from) (120 ∷ square_word m.to ++ promotion_text m.promo) text (omega arith) (λ e. omega arith)
    (and_from (goes (file_letter m.from)) _ (range_goes (file_letter m.from) (omega arith) (omega arith)) (and_from (goes 120) (list_all goes (square_word m.to ++ promotion_text m.promo)) refl (all_append (square_word m.to) (promotion_text m.promo) (square_goes m.to w.to) (promotion_goes m.promo))))
shape_begins p m w (Goes k _ _ _ text) =
    let low = letter_least k in
    let high = letter_most k in
    begins_by (plain p m) (letter k) ((apart_text p m k ++ cross p m) ++ square_word m.to) text low (λ e. omega arith)
    (and_from (goes (letter k)) _ (range_goes (letter k) (omega arith) (omega arith)) (all_append (apart_text p m k ++ cross p m) (square_word m.to) (all_append (apart_text p m k) (cross p m) (apart_goes p m k w.from) (cross_goes p m)) (square_goes m.to w.to)))

-- a word that ends as it does
record EndsWell (text : List ℕ) : Type 0 where
  front : List ℕ
  last : ℕ
  end : text ≡ front ++ last ∷ []
  bare : is_mark last ≡ false
  goes_on : (list_all goes text) ≡ true

sign_goes : (b : ℕ) → is_sign b ≡ true → (list_all goes (b ∷ []) ≡ true) × (is_mark b ≡ false)
sign_goes b h = elim (or_cases (b == 43) (b == 35) h) [
  | inl e ↦ let is : b ≡ 43 = eqb-true b 43 e in (one_goes b (omega arith) (omega arith), or_from (b == 33) (b == 63) (ne_eqb b 33 (λ z. omega arith)) (ne_eqb b 63 (λ z. omega arith)))
  | inr e ↦ let is : b ≡ 35 = eqb-true b 35 e in (one_goes b (omega arith) (omega arith), or_from (b == 33) (b == 63) (ne_eqb b 33 (λ z. omega arith)) (ne_eqb b 63 (λ z. omega arith)))
]

san_ends : (p : Parts) (m : MoveWord) → IsBare (plain p m) → Begins (plain p m) → EndsWell (san p m)
unfolding san
san_ends p m t b = elim (sign_tells (after p m)) [
  | inl none ↦
      let same : plain p m ++ sign (after p m) ≡ plain p m = ap (λ (x : List ℕ). plain p m ++ x) none ∙ append-nil (plain p m) in
      record { front = t.front; last = t.last; end = same ∙ t.is; bare = t.no_mark; goes_on = subst (λ (x : List ℕ). list_all goes x ≡ true) (sym same) b.goes_on }
  | inr some ↦
      let with_ : plain p m ++ sign (after p m) ≡ plain p m ++ some.0 ∷ [] = ap (λ (x : List ℕ). plain p m ++ x) some.2 in
      let facts = sign_goes some.0 some.1 in
      record { front = plain p m; last = some.0; end = with_; bare = facts.1; goes_on = subst (λ (x : List ℕ). list_all goes x ≡ true) (sym with_) (all_append (plain p m) (some.0 ∷ []) b.goes_on facts.0) }
]

no_digit : (b : ℕ) → 66 ≤ b → is_digit b ≡ false
no_digit b low = and_right (nat_le 48 b) (nat_le b 57) (lt-leb b 57 (omega arith))

no_number : (first : ℕ) (xs : List ℕ) → 66 ≤ first → number_len (first ∷ xs) ≡ 0
unfolding number_len
no_number first xs low =
    let n : run_len Digits (first ∷ xs) ≡ 0 = cond-false (not (not (is_digit first))) (1 + position_or_len (ends Digits) xs) 0 (ap (λ (y : Bool). not (not y)) (no_digit first low)) in
    let dots = run_len Dots (drop (run_len Digits (first ∷ xs)) (first ∷ xs)) in
    cond-true ((run_len Digits (first ∷ xs) == 0) || (dots == 0)) 0 (run_len Digits (first ∷ xs) + dots) (or_left (run_len Digits (first ∷ xs) == 0) (dots == 0) (ap (λ (m : ℕ). m == 0) n))

no_result : (first : ℕ) (xs : List ℕ) → 66 ≤ first → result_in (first ∷ xs) ≡ None
unfolding result_in
no_result first xs low =
    cond-false (bytes_eq (first ∷ xs) (codes "1-0")) _ _ (and_left _ _ (ne_eqb first 49 (λ e. omega arith)))
    ∙ cond-false (bytes_eq (first ∷ xs) (codes "0-1")) _ _ (and_left _ _ (ne_eqb first 48 (λ e. omega arith)))
    ∙ cond-false (bytes_eq (first ∷ xs) (codes "1/2-1/2")) _ _ (and_left _ _ (ne_eqb first 49 (λ e. omega arith)))
    ∙ cond-false (bytes_eq (first ∷ xs) (codes "*")) _ _ (and_left _ _ (ne_eqb first 42 (λ e. omega arith)))

san_first : (p : Parts) (m : MoveWord) (b : Begins (plain p m)) → san p m ≡ b.first ∷ (b.others ++ sign (after p m))
unfolding san
san_first p m b = ap (λ (x : List ℕ). x ++ sign (after p m)) b.is

-- the SAN of a legal move is a word
pub san_word : (p : Parts) (m : MoveWord) → IsMove m → legal p m ≡ true → IsWord (san p m)
san_word p m w ok =
    let b = shape_begins p m w (shape p m ok) in
    let t = san_ends p m (bare p m w.to ok) b in
    let is = san_first p m b in
    let low = b.low in
    record {
      first = b.first;
      others = b.others ++ sign (after p m);
      is = is;
      no_tag = ne_eqb b.first 91 b.no_tag;
      no_glyph = ne_eqb b.first 36 (λ e. omega arith);
      no_variation = ne_eqb b.first 40 (λ e. omega arith);
      goes_on = t.goes_on;
      front = t.front;
      last = t.last;
      end = t.end;
      bare = t.bare;
      no_number = λ c more. subst (λ (x : List ℕ). number_len (x ++ c ∷ more) ≡ 0) (sym is) (no_number b.first ((b.others ++ sign (after p m)) ++ c ∷ more) low);
    }

san_no_result : (p : Parts) (m : MoveWord) → IsMove m → legal p m ≡ true → result_in (san p m) ≡ None
san_no_result p m w ok =
    let b = shape_begins p m w (shape p m ok) in
    subst (λ (x : List ℕ). result_in x ≡ None) (sym (san_first p m b)) (no_result b.first (b.others ++ sign (after p m)) b.low)

names_itself : (p : Parts) (m : MoveWord) → IsMove m → legal p m ≡ true → Names p (san p m) m
names_itself p m w ok = record { move = w; legal = ok; spelled = inl refl }

-- a written move is read as the move
pub san_item : (total : ℕ) (s : Sofar) (m : MoveWord) (more : List ℕ) (b : ℕ) → IsMove m → legal s.position m ≡ true → is_skipped b ≡ true → item total s (san s.position m ++ b ∷ more) ≡ Ok (with_move s m, None, b ∷ more)
san_item total s m more b w ok skipped =
    word_item total s (san s.position m) more b (san_word s.position m w ok) skipped
    ∙ ap (token_read total s (san s.position m ++ b ∷ more) (b ∷ more)) (word_says s.position (san s.position m) (san_word s.position m w ok)
    ∙ ap (λ (o : Option PgnResult). end_said o (san_in s.position (san s.position m))) (san_no_result s.position m w ok)
    ∙ ap (end_said None) (search_finds s.position (san s.position m) m (names_itself s.position m w ok)))
