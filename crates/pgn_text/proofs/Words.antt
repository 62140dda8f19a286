-- Written tokens are read.
use Rattle.std.proofs.Common.{◌≡◌, ℕ, suc, ◌+◌, ◌<◌, ◌≤◌, ◌^◌, ◌%◌, ◌==◌, Bool, true, false, not, ◌&&◌, ◌||◌, cond, List, [], ◌∷◌, ◌++◌, Option, Some, None, Ok, length, take, drop, reverse, refl, sym, ap, subst, ◌∙◌, arith}
use Rattle.std.specs.List.{list_all, position_or_len}
use Rattle.std.specs.Fmt.{decimal}
use Rattle.std.proofs.lemmas.Fmt.{decimal_by_steps}
use Rattle.std.proofs.lemmas.Bool.{cond-true, cond-false, and_parts, and_from, and_left, or_parts, or_from, or_left, not-true, ne_eqb, le-leb, leb-true}
use Rattle.std.proofs.lemmas.List.{take_at, drop_at, append_assoc, reverse-append, reverse-reverse, length-append}
use Rattle.board.specs.declared.parts.Parts.{Parts}
use Rattle.pgn_text.specs.declared.game.PgnResult.{PgnResult}
use Rattle.pgn_text.specs.declared.game.PgnResult.TheVariants.{White, Black, Draw, Unknown}
use Rattle.pgn_text.specs.declared.word.Said.TheVariants.{Passed}
use Rattle.pgn_text.specs.declared.runs.Run.TheVariants.{Digits, Dots, Token}
use Rattle.pgn_text.specs.Reading.{san_in}
use Rattle.pgn_text.specs.Games.{is_digit}
use Rattle.pgn_text.specs.Pgn.{result_text}
use Rattle.pgn_text.specs.Runs.{is_skipped, ends, run_len}
use Rattle.pgn_text.specs.Tokens.{number_len, is_glyph, is_mark, past_mark, unmark, result_in, opens, end_said, said_of, word_said}
use Rattle.pgn_text.specs.PgnReading.{Sofar, item, token_item, token_read, with_token}
use Rattle.pgn_text.proofs.Leads.{Leads, leads_item, leads_from, stop}

-- a token that is no number, no glyph, no variation and has no mark
pub record IsWord (text : List ℕ) : Type 0 where
  pub first : ℕ
  pub others : List ℕ
  pub is : text ≡ first ∷ others
  pub no_tag : (first == 91) ≡ false
  pub no_glyph : (first == 36) ≡ false
  pub no_variation : (first == 40) ≡ false
  pub goes_on : list_all (λ b. not (ends Token b)) text ≡ true
  pub front : List ℕ
  pub last : ℕ
  pub end : text ≡ front ++ last ∷ []
  pub bare : is_mark last ≡ false
  pub no_number : (b : ℕ) (more : List ℕ) → number_len (text ++ b ∷ more) ≡ 0

-- a token stands in front
front_token : (total : ℕ) (s : Sofar) (b : ℕ) (bs : List ℕ) → ends Token b ≡ false → (b == 91) ≡ false → item total s (b ∷ bs) ≡ token_item total s (b ∷ bs)
unfolding item
front_token total s b bs goes no_tag =
    let parts = or_parts (is_skipped b) (b == 123) goes in
    cond-false (is_skipped b) _ _ parts.0 ∙ cond-false (b == 123) _ _ parts.1 ∙ cond-false ((b == 91) && not s.began) _ _ (and_left (b == 91) (not s.began) no_tag)

word_cut : (total : ℕ) (s : Sofar) (text more : List ℕ) (b : ℕ) → list_all (λ x. not (ends Token x)) text ≡ true → ends Token b ≡ true → number_len (text ++ b ∷ more) ≡ 0 → token_item total s (text ++ b ∷ more) ≡ token_read total s (text ++ b ∷ more) (b ∷ more) (word_said s.position text)
unfolding token_item
word_cut total s text more b goes far none =
    let n : run_len Token (text ++ b ∷ more) ≡ length text = stop (ends Token) text b more goes far in
    cond-true (number_len (text ++ b ∷ more) == 0) _ _ (ap (λ (x : ℕ). x == 0) none)
    ∙ ap (λ (m : ℕ). token_read total s (text ++ b ∷ more) (drop m (text ++ b ∷ more)) (word_said s.position (take m (text ++ b ∷ more)))) n
    ∙ ap (λ (xs : List ℕ). token_read total s (text ++ b ∷ more) xs (word_said s.position (take (length text) (text ++ b ∷ more)))) (drop_at text (b ∷ more) (length text) refl)
    ∙ ap (λ (xs : List ℕ). token_read total s (text ++ b ∷ more) (b ∷ more) (word_said s.position xs)) (take_at text (b ∷ more) (length text) refl)

-- what a word says is read
pub word_item : (total : ℕ) (s : Sofar) (text more : List ℕ) (b : ℕ) → IsWord text → is_skipped b ≡ true → item total s (text ++ b ∷ more) ≡ token_read total s (text ++ b ∷ more) (b ∷ more) (word_said s.position text)
word_item total s text more b w skipped =
    let goes = and_parts (not (ends Token w.first)) (list_all (λ x. not (ends Token x)) w.others) (subst (λ (xs : List ℕ). list_all (λ x. not (ends Token x)) xs ≡ true) w.is w.goes_on) in
    subst (λ (xs : List ℕ). item total s (xs ++ b ∷ more) ≡ token_item total s (xs ++ b ∷ more)) (sym w.is) (front_token total s w.first (w.others ++ b ∷ more) (not-true (ends Token w.first) goes.0) w.no_tag)
    ∙ word_cut total s text more b w.goes_on (or_left (is_skipped b) (b == 123) skipped) (w.no_number b more)

unmark_keeps : (text front : List ℕ) (last : ℕ) → text ≡ front ++ last ∷ [] → is_mark last ≡ false → unmark text ≡ text
unfolding unmark
unmark_keeps text front last e bare =
    let back : reverse text ≡ last ∷ reverse front = ap reverse e ∙ reverse-append front (last ∷ []) in
    ap (λ (xs : List ℕ). reverse (past_mark xs)) back
    ∙ ap reverse (cond-false (is_mark last) (reverse front) (last ∷ reverse front) bare)
    ∙ ap reverse (sym back) ∙ reverse-reverse text

-- a word says its result, or else its move
pub word_says : (p : Parts) (text : List ℕ) → IsWord text → word_said p text ≡ end_said (result_in text) (san_in p text)
unfolding word_said said_of
word_says p text w =
    let kept = unmark_keeps text w.front w.last w.end w.bare in
    cond-false (is_glyph text) Passed (said_of p (unmark (unmark text))) (subst (λ (xs : List ℕ). is_glyph xs ≡ false) (sym w.is) (and_left _ _ (and_left _ _ w.no_glyph)))
    ∙ ap (λ (xs : List ℕ). said_of p (unmark xs)) kept ∙ ap (said_of p) kept
    ∙ cond-false (opens text) _ _ (subst (λ (xs : List ℕ). opens xs ≡ false) (sym w.is) w.no_variation)

-- the words of results
pub result_word : (r : PgnResult) → IsWord (result_text r)
unfolding number_len
result_word White = record { first = 49; others = 45 ∷ 48 ∷ []; is = refl; no_tag = refl; no_glyph = refl; no_variation = refl; goes_on = refl; front = 49 ∷ 45 ∷ []; last = 48; end = refl; bare = refl; no_number = λ b more. refl }
result_word Black = record { first = 48; others = 45 ∷ 49 ∷ []; is = refl; no_tag = refl; no_glyph = refl; no_variation = refl; goes_on = refl; front = 48 ∷ 45 ∷ []; last = 49; end = refl; bare = refl; no_number = λ b more. refl }
result_word Draw = record { first = 49; others = 47 ∷ 50 ∷ 45 ∷ 49 ∷ 47 ∷ 50 ∷ []; is = refl; no_tag = refl; no_glyph = refl; no_variation = refl; goes_on = refl; front = 49 ∷ 47 ∷ 50 ∷ 45 ∷ 49 ∷ 47 ∷ []; last = 50; end = refl; bare = refl; no_number = λ b more. refl }
result_word Unknown = record { first = 42; others = []; is = refl; no_tag = refl; no_glyph = refl; no_variation = refl; goes_on = refl; front = []; last = 42; end = refl; bare = refl; no_number = λ b more. refl }

result_read : (r : PgnResult) → result_in (result_text r) ≡ Some r
unfolding result_in
result_read White = refl
result_read Black = refl
result_read Draw = refl
result_read Unknown = refl

-- a written result is read
pub result_item : (total : ℕ) (s : Sofar) (r : PgnResult) (more : List ℕ) (b : ℕ) → is_skipped b ≡ true → item total s (result_text r ++ b ∷ more) ≡ Ok (with_token s, Some r, b ∷ more)
result_item total s r more b skipped =
    word_item total s (result_text r) more b (result_word r) skipped
    ∙ ap (token_read total s (result_text r ++ b ∷ more) (b ∷ more)) (word_says s.position (result_text r) (result_word r) ∙ ap (λ (o : Option PgnResult). end_said o (san_in s.position (result_text r))) (result_read r))

-- ---- numbers

-- digits, and at least one
pub record IsDecimal (text : List ℕ) : Type 0 where
  pub digits : list_all is_digit text ≡ true
  pub some : 0 < length text

all_push : (xs : List ℕ) (d : ℕ) → list_all is_digit xs ≡ true → is_digit d ≡ true → list_all is_digit (xs ++ d ∷ []) ≡ true
all_push [] d h ok = and_from (is_digit d) true ok refl
all_push (x ∷ xs) d h ok = let t = and_parts (is_digit x) (list_all is_digit xs) h in and_from (is_digit x) (list_all is_digit (xs ++ d ∷ [])) t.0 (all_push xs d t.1 ok)

digit : (n : ℕ) → n < 10 → is_digit (48 + n) ≡ true
digit n h = and_from _ _ (le-leb 48 (48 + n) (omega arith)) (le-leb (48 + n) 57 (omega arith))

pub decimal_is : (n : ℕ) → n < 2 ^ 64 → IsDecimal (decimal n)
decimal_is n h = decimal_by_steps (λ _ ds. IsDecimal ds)
    (λ m low. record { digits = and_from (is_digit (48 + m)) true (digit m low) refl; some = omega arith })
    (λ m ds big d. record { digits = all_push ds (48 + m % 10) d.digits (digit (m % 10) (omega arith)); some = omega (arith, length-append ds ((48 + m % 10) ∷ [])) })
    n h

digit_goes : (b : ℕ) → is_digit b ≡ true → (ends Token b ≡ false) × ((b == 91) ≡ false)
digit_goes b h =
    let t = and_parts _ _ h in
    let low : 48 ≤ b = leb-true 48 b t.0 in
    let high : b ≤ 57 = leb-true b 57 t.1 in
    (or_from (is_skipped b) (b == 123) (or_from _ _ (or_from _ _ (or_from _ _ (ne_eqb b 32 (λ e. omega arith)) (ne_eqb b 9 (λ e. omega arith))) (ne_eqb b 13 (λ e. omega arith))) (ne_eqb b 10 (λ e. omega arith))) (ne_eqb b 123 (λ e. omega arith)), ne_eqb b 91 (λ e. omega arith))

all_not_not : (xs : List ℕ) → list_all is_digit xs ≡ true → list_all (λ x. not (ends Digits x)) xs ≡ true
all_not_not [] h = refl
all_not_not (x ∷ xs) h = let t = and_parts (is_digit x) (list_all is_digit xs) h in and_from (not (ends Digits x)) (list_all (λ z. not (ends Digits z)) xs) (ap (λ (y : Bool). not (not y)) t.0) (all_not_not xs t.1)

digits_end : (xs more : List ℕ) → list_all is_digit xs ≡ true → run_len Digits (xs ++ 46 ∷ more) ≡ length xs
digits_end xs more h = stop (ends Digits) xs 46 more (all_not_not xs h) refl

number_found : (xs more : List ℕ) (b : ℕ) → IsDecimal xs → (b == 46) ≡ false → number_len (xs ++ 46 ∷ b ∷ more) ≡ length xs + 1
unfolding number_len
number_found xs more b d far =
    let n : run_len Digits (xs ++ 46 ∷ b ∷ more) ≡ length xs = digits_end xs (b ∷ more) d.digits in
    let behind : drop (length xs) (xs ++ 46 ∷ b ∷ more) ≡ 46 ∷ b ∷ more = drop_at xs (46 ∷ b ∷ more) (length xs) refl in
    let dots : run_len Dots (46 ∷ b ∷ more) ≡ 1 = ap (λ (m : ℕ). 1 + m) (cond-false (not (not (b == 46))) (1 + position_or_len (ends Dots) more) 0 (ap (λ (y : Bool). not (not y)) far)) in
    ap (λ (m : ℕ). cond ((m == 0) || (run_len Dots (drop m (xs ++ 46 ∷ b ∷ more)) == 0)) 0 (m + run_len Dots (drop m (xs ++ 46 ∷ b ∷ more)))) n
    ∙ ap (λ (ys : List ℕ). cond ((length xs == 0) || (run_len Dots ys == 0)) 0 (length xs + run_len Dots ys)) behind
    ∙ ap (λ (m : ℕ). cond ((length xs == 0) || (m == 0)) 0 (length xs + m)) dots
    ∙ cond-false ((length xs == 0) || (1 == 0)) 0 (length xs + 1) (or_from (length xs == 0) (1 == 0) (ne_eqb (length xs) 0 (λ e. let some = d.some in omega arith)) refl)

number_cut : (total : ℕ) (s : Sofar) (text rest : List ℕ) (n : ℕ) → number_len text ≡ suc n → drop (suc n) text ≡ rest → token_item total s text ≡ Ok (with_token s, None, rest)
unfolding token_item
number_cut total s text rest n e left =
    cond-false (number_len text == 0) _ _ (ne_eqb (number_len text) 0 (λ z. omega arith))
    ∙ ap (λ (m : ℕ). Ok (with_token s, None, drop m text)) e ∙ ap (λ (xs : List ℕ). Ok (with_token s, None, xs)) left

drop_number : (xs more : List ℕ) → drop (suc (length xs)) (xs ++ 46 ∷ more) ≡ more
drop_number [] more = refl
drop_number (x ∷ xs) more = drop_number xs more

-- the number of a move is passed over
pub leads_number : (total : ℕ) (s : Sofar) (xs more : List ℕ) (b : ℕ) → IsDecimal xs → (b == 46) ≡ false → Leads total s ((xs ++ 46 ∷ []) ++ b ∷ more) (with_token s) (b ∷ more)
leads_number total s [] more b d far = let some = d.some in absurd (omega arith)
leads_number total s (x ∷ xs) more b d far =
    let t = and_parts (is_digit x) (list_all is_digit xs) d.digits in
    let goes = digit_goes x t.0 in
    let text : ((x ∷ xs) ++ 46 ∷ []) ++ b ∷ more ≡ (x ∷ xs) ++ 46 ∷ b ∷ more = append_assoc (x ∷ xs) (46 ∷ []) (b ∷ more) in
    leads_from total s (with_token s) (((x ∷ xs) ++ 46 ∷ []) ++ b ∷ more) ((x ∷ xs) ++ 46 ∷ b ∷ more) (b ∷ more) text
    (leads_item total s (with_token s) ((x ∷ xs) ++ 46 ∷ b ∷ more) (b ∷ more) (omega (arith, length-append (x ∷ xs) (46 ∷ b ∷ more)))
    (front_token total s x (xs ++ 46 ∷ b ∷ more) goes.0 goes.1
    ∙ number_cut total s ((x ∷ xs) ++ 46 ∷ b ∷ more) (b ∷ more) (length (x ∷ xs)) (number_found (x ∷ xs) more b d far ∙ omega arith) (drop_number (x ∷ xs) (b ∷ more))))
