-- Tokens put one behind the other.
use Rattle.std.proofs.Common.{◌≡◌, ℕ, ◌≤◌, ◌-◌, true, List, [], ◌∷◌, ◌++◌, length, take, drop, get_or, sym, ap, subst, ◌∙◌, arith}
use Rattle.std.proofs.lemmas.Bool.{and_parts}
use Rattle.std.proofs.lemmas.List.{append_assoc, append-nil, take_all}
use Rattle.board.specs.declared.piece.Colour.{Colour}
use Rattle.board.specs.declared.parts.Parts.{Parts}
use Rattle.board.specs.Moves.{MoveWord}
use Rattle.move_rules.specs.After.{after}
use Rattle.move_rules.specs.Legal.{legal}
use Rattle.pgn_text.specs.declared.game.PgnResult.{PgnResult}
use Rattle.pgn_text.specs.San.{san}
use Rattle.pgn_text.specs.Games.{is_line}
use Rattle.pgn_text.specs.Pgn.{result_text, number_tokens, next_number, tokens_from, separator, column_after, laid, Lays}

-- a token that was put is laid
pub token_laid : (before behind token : List ℕ) (column next : ℕ) → behind ≡ before ++ (separator column token ++ token) → next ≡ column_after column token → Lays before behind column next (token ∷ [])
unfolding laid
token_laid before behind token column next put at more =
    ap (λ (x : List ℕ). x ++ laid next more) put ∙ append_assoc before (separator column token ++ token) (laid next more) ∙ ap (λ (c : ℕ). before ++ ((separator column token ++ token) ++ laid c more)) at

-- a move that was put is laid, and what further moves come to stays the same
pub move_laid : (before behind whole : List ℕ) (column next n : ℕ) (p : Parts) (m : MoveWord) (ms : List MoveWord) (r : PgnResult) → Lays before behind column next (number_tokens p.turn n ++ san p m ∷ []) → before ++ laid column (tokens_from n p (m ∷ ms) r) ≡ whole → behind ++ laid next (tokens_from (next_number p.turn n) (after p m) ms r) ≡ whole
unfolding tokens_from
move_laid before behind whole column next n p m ms r lays e =
    lays (tokens_from (next_number p.turn n) (after p m) ms r) ∙ ap (λ (ts : List (List ℕ)). before ++ laid column ts) (append_assoc (number_tokens p.turn n) (san p m ∷ []) (tokens_from (next_number p.turn n) (after p m) ms r)) ∙ e

-- behind the last move stands the result
pub result_laid : (before behind whole : List ℕ) (column next n : ℕ) (p : Parts) (r : PgnResult) → Lays before behind column next (result_text r ∷ []) → before ++ laid column (tokens_from n p [] r) ≡ whole → behind ≡ whole
unfolding tokens_from laid
result_laid before behind whole column next n p r lays e = sym (append-nil behind) ∙ lays [] ∙ e

-- the first move of a legal line is legal, and the others are a legal line after it
pub line_parts : (p : Parts) (m : MoveWord) (ms : List MoveWord) → is_line p (m ∷ ms) ≡ true → (legal p m ≡ true) × (is_line (after p m) ms ≡ true)
unfolding is_line
line_parts p m ms h = and_parts (legal p m) (is_line (after p m) ms) h

-- the same where the values are known by equations
pub next_laid : (before behind whole : List ℕ) (column next n n' : ℕ) (t : Colour) (p p' : Parts) (m : MoveWord) (xs ms : List MoveWord) (r : PgnResult) → xs ≡ m ∷ ms → Lays before behind column next (number_tokens p.turn n ++ san p m ∷ []) → n' ≡ next_number t n → t ≡ p.turn → p' ≡ after p m → before ++ laid column (tokens_from n p xs r) ≡ whole → behind ++ laid next (tokens_from n' p' ms r) ≡ whole
next_laid before behind whole column next n n' t p p' m xs ms r split lays number turn position e =
    let known = move_laid before behind whole column next n p m ms r lays (subst (λ (ys : List MoveWord). before ++ laid column (tokens_from n p ys r) ≡ whole) split e) in
    let at : n' ≡ next_number p.turn n = number ∙ ap (λ (c : Colour). next_number c n) turn in
    subst (λ (k : ℕ). behind ++ laid next (tokens_from k p' ms r) ≡ whole) (sym at) (subst (λ (q : Parts). behind ++ laid next (tokens_from (next_number p.turn n) q ms r) ≡ whole) (sym position) known)

pub next_line : (p p' : Parts) (m : MoveWord) (xs ms : List MoveWord) → xs ≡ m ∷ ms → p' ≡ after p m → is_line p xs ≡ true → is_line p' ms ≡ true
next_line p p' m xs ms split position h =
    subst (λ (q : Parts). is_line q ms ≡ true) (sym position) (line_parts p m ms (subst (λ (ys : List MoveWord). is_line p ys ≡ true) split h)).1

-- a list with an item is the item and the others
pub front_item : {X : Type 0} (xs : List X) (x : X) → 1 ≤ length xs → x ≡ get_or xs 0 x → xs ≡ x ∷ take (length xs - 1) (drop 1 xs)
front_item [] x h e = absurd (omega arith)
front_item (y ∷ ys) x h e = ap (λ z. z ∷ ys) (sym e) ∙ ap (λ zs. x ∷ zs) (sym (take_all (length (y ∷ ys) - 1) ys (omega arith)))

pub last_laid : (before behind whole : List ℕ) (column next n : ℕ) (p : Parts) (xs : List MoveWord) (token : List ℕ) (r : PgnResult) → xs ≡ [] → token ≡ result_text r → Lays before behind column next (token ∷ []) → before ++ laid column (tokens_from n p xs r) ≡ whole → behind ≡ whole
last_laid before behind whole column next n p xs token r none is lays e =
    result_laid before behind whole column next n p r (subst (λ (t : List ℕ). Lays before behind column next (t ∷ [])) is lays) (subst (λ (ys : List MoveWord). before ++ laid column (tokens_from n p ys r) ≡ whole) none e)
