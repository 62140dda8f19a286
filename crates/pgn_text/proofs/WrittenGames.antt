-- A written game is read as the same game.
use Rattle.std.proofs.Common.{◌≡◌, ℕ, suc, ◌+◌, ◌<◌, ◌^◌, ◌==◌, true, false, not, List, [], ◌∷◌, ◌++◌, Result, Ok, Err, length, nat_le, refl, sym, ap, subst, ◌∙◌, arith, inl, inr}
use Rattle.std.specs.List.{All, list_all, flat_map}
use Rattle.std.specs.Fmt.{decimal}
use Rattle.std.proofs.lemmas.Bool.{cases_Bool, cond-true, cond-false, and_parts, not-true, ne_eqb}
use Rattle.std.proofs.lemmas.List.{append_assoc, append-nil, length-append}
use Rattle.board.specs.declared.piece.Colour.{Colour}
use Rattle.board.specs.declared.piece.Colour.TheVariants.{White, Black}
use Rattle.board.specs.declared.parts.Parts.{Parts}
use Rattle.board.specs.Moves.{MoveWord, IsMove}
use Rattle.board.specs.Start.{start_parts}
use Rattle.move_rules.specs.After.{after}
use Rattle.move_rules.specs.Legal.{legal}
use Rattle.pgn_text.specs.declared.game.Tag.{Tag}
use Rattle.pgn_text.specs.declared.game.PgnResult.{PgnResult}
use Rattle.pgn_text.specs.declared.game.PgnGame.{PgnGame}
use Rattle.pgn_text.specs.declared.fault.PgnFault.{PgnFault}
use Rattle.pgn_text.specs.declared.fault.ReadPgnFault.{ReadPgnFault}
use Rattle.pgn_text.specs.declared.fault.ReadPgnFault.TheVariants.{Bad, OutOfMemory}
use Rattle.std.specs.Result.{MatchResult}
use Rattle.pgn_text.specs.San.{san}
use Rattle.pgn_text.specs.Games.{is_tag, is_start_name, is_line, IsGame}
use Rattle.pgn_text.specs.Pgn.{tag_line, result_text, number_tokens, next_number, tokens_from, separator, column_after, laid, movetext, pgn_of}
use Rattle.pgn_text.specs.Runs.{is_skipped}
use Rattle.pgn_text.specs.PgnReading.{Sofar, fresh, with_token, with_tag, with_move, game_of, ended, run, game_in, GoesOn}
use Rattle.pgn_text.proofs.Turns.{run_over}
use Rattle.pgn_text.proofs.Leads.{Leads, stays, leads_on, leads_item, leads_from, leads_skip, leads_tag, leads_run}
use Rattle.pgn_text.proofs.Words.{IsWord, result_item, leads_number, decimal_is}
use Rattle.pgn_text.proofs.Spelled.{san_item, san_word}

-- what stands behind the last token
abbrev pub tail : List ℕ
tail = 10 ∷ 10 ∷ []

-- what stands behind a token: a space or a line feed
record Breaks (text : List ℕ) : Type 0 where
  b : ℕ
  more : List ℕ
  is : text ≡ b ∷ more
  skipped : is_skipped b ≡ true
  no_dot : (b == 46) ≡ false

breaks_by : (text more : List ℕ) (b : ℕ) → text ≡ b ∷ more → is_skipped b ≡ true → (b == 46) ≡ false → Breaks text
breaks_by text more b e h d = record { b = b; more = more; is = e; skipped = h; no_dot = d }

-- the tokens behind the first one begin with a space or a line feed
laid_breaks : (column : ℕ) (tokens : List (List ℕ)) → (column == 0) ≡ false → Breaks (laid column tokens ++ tail)
unfolding laid
laid_breaks column [] h = breaks_by tail (10 ∷ []) 10 refl refl refl
laid_breaks column (token ∷ tokens) h =
    let rest = token ++ laid (column_after column token) tokens in
    let split : laid column (token ∷ tokens) ++ tail ≡ separator column token ++ (rest ++ tail) = ap (λ (x : List ℕ). x ++ tail) (append_assoc (separator column token) token (laid (column_after column token) tokens)) ∙ append_assoc (separator column token) rest tail in
    elim (cases_Bool (nat_le (column + 1 + length token) 79)) [
      | inl fits ↦ breaks_by (laid column (token ∷ tokens) ++ tail) (rest ++ tail) 32 (split ∙ ap (λ (x : List ℕ). x ++ (rest ++ tail)) (cond-false (column == 0) _ _ h ∙ cond-true _ _ _ fits)) refl refl
      | inr long ↦ breaks_by (laid column (token ∷ tokens) ++ tail) (rest ++ tail) 10 (split ∙ ap (λ (x : List ℕ). x ++ (rest ++ tail)) (cond-false (column == 0) _ _ h ∙ cond-false _ _ _ long)) refl refl
    ]

after_some : (column : ℕ) (token : List ℕ) → 0 < length token → (column_after column token == 0) ≡ false
after_some column token some = elim (cases_Bool (column == 0)) [
  | inl first ↦ ap (λ (n : ℕ). n == 0) (cond-true (column == 0) _ _ first) ∙ ne_eqb (length token) 0 (λ e. omega arith)
  | inr later ↦ elim (cases_Bool (nat_le (column + 1 + length token) 79)) [
    | inl fits ↦ ap (λ (n : ℕ). n == 0) (cond-false (column == 0) _ _ later ∙ cond-true _ _ _ fits) ∙ ne_eqb (column + 1 + length token) 0 (λ e. omega arith)
    | inr long ↦ ap (λ (n : ℕ). n == 0) (cond-false (column == 0) _ _ later ∙ cond-false _ _ _ long) ∙ ne_eqb (length token) 0 (λ e. omega arith)
  ]
]

-- what stands before a token is skipped
separator_leads : (total : ℕ) (s : Sofar) (column : ℕ) (token rest : List ℕ) → Leads total s (separator column token ++ rest) s rest
separator_leads total s column token rest = elim (cases_Bool (column == 0)) [
  | inl first ↦ leads_from total s s (separator column token ++ rest) rest rest (ap (λ (x : List ℕ). x ++ rest) (cond-true (column == 0) _ _ first)) (stays total s rest)
  | inr later ↦ elim (cases_Bool (nat_le (column + 1 + length token) 79)) [
    | inl fits ↦ leads_from total s s (separator column token ++ rest) (32 ∷ rest) rest (ap (λ (x : List ℕ). x ++ rest) (cond-false (column == 0) _ _ later ∙ cond-true _ _ _ fits)) (leads_skip total s 32 rest refl)
    | inr long ↦ leads_from total s s (separator column token ++ rest) (10 ∷ rest) rest (ap (λ (x : List ℕ). x ++ rest) (cond-false (column == 0) _ _ later ∙ cond-false _ _ _ long)) (leads_skip total s 10 rest refl)
  ]
]

laid_split : (column : ℕ) (token : List ℕ) (tokens : List (List ℕ)) → laid column (token ∷ tokens) ++ tail ≡ separator column token ++ (token ++ (laid (column_after column token) tokens ++ tail))
unfolding laid
laid_split column token tokens = simp append_assoc

-- a token that is read wherever a space or a line feed stands behind it is read on its line
token_leads : (total : ℕ) (s t : Sofar) (column : ℕ) (token : List ℕ) (tokens : List (List ℕ)) → 0 < length token → ((b : ℕ) (more : List ℕ) → is_skipped b ≡ true → (b == 46) ≡ false → Leads total s (token ++ b ∷ more) t (b ∷ more)) → Leads total s (laid column (token ∷ tokens) ++ tail) t (laid (column_after column token) tokens ++ tail)
token_leads total s t column token tokens some reads =
    let behind = laid (column_after column token) tokens ++ tail in
    let breaks = laid_breaks (column_after column token) tokens (after_some column token some) in
    leads_from total s t (laid column (token ∷ tokens) ++ tail) (separator column token ++ (token ++ behind)) behind (laid_split column token tokens)
    (leads_on total s s t (separator column token ++ (token ++ behind)) (token ++ behind) behind
    (separator_leads total s column token (token ++ behind))
    (subst (λ (x : List ℕ). Leads total s (token ++ x) t x) (sym breaks.is) (reads breaks.b breaks.more breaks.skipped breaks.no_dot)))

word_some : (text : List ℕ) → IsWord text → 0 < length text
word_some text w = subst (λ (x : List ℕ). 0 < length x) (sym w.is) (omega arith)

-- a written move is read on its line
move_leads : (total : ℕ) (s : Sofar) (m : MoveWord) (column : ℕ) (tokens : List (List ℕ)) → IsMove m → legal s.position m ≡ true → Leads total s (laid column (san s.position m ∷ tokens) ++ tail) (with_move s m) (laid (column_after column (san s.position m)) tokens ++ tail)
move_leads total s m column tokens w ok =
    let some = word_some (san s.position m) (san_word s.position m w ok) in
    token_leads total s (with_move s m) column (san s.position m) tokens some
    (λ b more skipped dot. leads_item total s (with_move s m) (san s.position m ++ b ∷ more) (b ∷ more) (omega (arith, length-append (san s.position m) (b ∷ more))) (san_item total s m more b w ok skipped))

number_leads : (total : ℕ) (s : Sofar) (n : ℕ) (column : ℕ) (tokens : List (List ℕ)) → n < 2 ^ 64 → Leads total s (laid column ((decimal n ++ 46 ∷ []) ∷ tokens) ++ tail) (with_token s) (laid (column_after column (decimal n ++ 46 ∷ [])) tokens ++ tail)
number_leads total s n column tokens h =
    token_leads total s (with_token s) column (decimal n ++ 46 ∷ []) tokens (omega (arith, length-append (decimal n) (46 ∷ [])))
    (λ b more skipped dot. leads_number total s (decimal n) more b (decimal_is n h) dot)

-- ---- all moves

ended_tail : (total : ℕ) (s : Sofar) (r : PgnResult) → ended total s r tail ≡ Ok (game_of s r)
unfolding ended
ended_tail total s r = refl

result_laid : (column : ℕ) (r : PgnResult) → laid column (result_text r ∷ []) ++ tail ≡ separator column (result_text r) ++ (result_text r ++ tail)
unfolding laid
result_laid column r = simp (append_assoc, append-nil)

-- the result ends the game
result_ends : (total : ℕ) (s : Sofar) (column : ℕ) (r : PgnResult) (k : ℕ) → length (laid column (result_text r ∷ []) ++ tail) < k → run total k s (laid column (result_text r ∷ []) ++ tail) ≡ Ok (game_of s r)
result_ends total s column r k h =
    let at = leads_run total s s (laid column (result_text r ∷ []) ++ tail) (result_text r ++ tail)
    (leads_from total s s (laid column (result_text r ∷ []) ++ tail) (separator column (result_text r) ++ (result_text r ++ tail)) (result_text r ++ tail) (result_laid column r) (separator_leads total s column (result_text r) (result_text r ++ tail))) k h in
    at.2 ∙ run_over total at.0 s (with_token s) (result_text r ++ tail) tail r at.1 (omega (arith, length-append (result_text r) tail)) (result_item total s r (10 ∷ []) 10 refl)
    ∙ ended_tail total (with_token s) r

-- a move and its number, if one stands before it
turn_leads : (t : Colour) (total : ℕ) (s : Sofar) (n column : ℕ) (m : MoveWord) (tokens : List (List ℕ)) → IsMove m → legal s.position m ≡ true → n < 2 ^ 64 → (next : ℕ) × Leads total s (laid column (number_tokens t n ++ san s.position m ∷ tokens) ++ tail) (with_move s m) (laid next tokens ++ tail)
turn_leads White total s n column m tokens w ok few =
    let number = decimal n ++ 46 ∷ [] in
    let at = column_after column number in (
      column_after at (san s.position m),
      leads_on total s (with_token s) (with_move s m) (laid column (number ∷ san s.position m ∷ tokens) ++ tail) (laid at (san s.position m ∷ tokens) ++ tail) (laid (column_after at (san s.position m)) tokens ++ tail)
          (number_leads total s n column (san s.position m ∷ tokens) few) (move_leads total (with_token s) m at tokens w ok),
    )
turn_leads Black total s n column m tokens w ok few = (column_after column (san s.position m), move_leads total s m column tokens w ok)

next_few : (t : Colour) (n k : ℕ) → n + (k + 1) < 2 ^ 64 → next_number t n + k < 2 ^ 64
next_few White n k h = omega arith
next_few Black n k h = omega arith

line_parts : (p : Parts) (m : MoveWord) (ms : List MoveWord) → is_line p (m ∷ ms) ≡ true → (legal p m ≡ true) × (is_line (after p m) ms ≡ true)
unfolding is_line
line_parts p m ms h = and_parts (legal p m) (is_line (after p m) ms) h

-- the moves are read from where they stand
moves_read : (total : ℕ) (s : Sofar) (n column : ℕ) (ms : List MoveWord) (r : PgnResult) → All IsMove ms → is_line s.position ms ≡ true → n + length ms < 2 ^ 64 → (k : ℕ) → length (laid column (tokens_from n s.position ms r) ++ tail) < k → run total k s (laid column (tokens_from n s.position ms r) ++ tail) ≡ Ok (record { tags = s.tags; moves = s.moves ++ ms; result = r })
unfolding tokens_from
moves_read total s n column [] r ws line few k h =
    result_ends total s column r k h ∙ ap (λ (xs : List MoveWord). Ok (record { tags = s.tags; moves = xs; result = r })) (sym (append-nil s.moves))
moves_read total s n column (m ∷ ms) r ws line few k h =
    let t = line_parts s.position m ms line in
    let tokens = tokens_from (next_number s.position.turn n) (after s.position m) ms r in
    let f = turn_leads s.position.turn total s n column m tokens (ws 0 m (omega arith)) t.0 (omega arith) in
    let at = leads_run total s (with_move s m) (laid column (number_tokens s.position.turn n ++ san s.position m ∷ tokens) ++ tail) (laid f.0 tokens ++ tail) f.1 k h in
    at.2
    ∙ moves_read total (with_move s m) (next_number s.position.turn n) f.0 ms r (λ i d short. ws (suc i) d (omega arith)) t.1 (next_few s.position.turn n (length ms) (omega arith)) at.0 at.1
    ∙ ap (λ (xs : List MoveWord). Ok (record { tags = s.tags; moves = xs; result = r })) (append_assoc s.moves (m ∷ []) ms)

-- ---- tags

by_tags : Sofar → List Tag → Sofar
by_tags s tags = record { tags = s.tags ++ tags; moves = s.moves; position = s.position; began = s.began }

tags_read : (total : ℕ) (s : Sofar) (tags : List Tag) (rest : List ℕ) → s.began ≡ false → list_all is_tag tags ≡ true → list_all (λ (t : Tag). not (is_start_name t.name)) tags ≡ true → Leads total s (flat_map tag_line tags ++ rest) (by_tags s tags) rest
unfolding by_tags
tags_read total s [] rest b ok plain =
    subst (λ (xs : List Tag). Leads total s rest (record { tags = xs; moves = s.moves; position = s.position; began = s.began }) rest) (sym (append-nil s.tags)) (stays total s rest)
tags_read total s (t ∷ tags) rest b ok plain =
    let x = and_parts (is_tag t) (list_all is_tag tags) ok in
    let y = and_parts (not (is_start_name t.name)) (list_all (λ (u : Tag). not (is_start_name u.name)) tags) plain in
    let others = flat_map tag_line tags ++ rest in
    let on = leads_on total s (with_tag s t) (by_tags (with_tag s t) tags) (tag_line t ++ others) others rest (leads_tag total s t others b x.0 (not-true (is_start_name t.name) y.0)) (tags_read total (with_tag s t) tags rest b x.1 y.1) in
    leads_from total s (by_tags s (t ∷ tags)) (flat_map tag_line (t ∷ tags) ++ rest) (tag_line t ++ others) rest (append_assoc (tag_line t) (flat_map tag_line tags) rest)
    (subst (λ (xs : List Tag). Leads total s (tag_line t ++ others) (record { tags = xs; moves = s.moves; position = s.position; began = s.began }) rest) (append_assoc s.tags (t ∷ []) tags) on)

-- ---- a game

pgn_split : (g : PgnGame) → pgn_of g ≡ flat_map tag_line g.tags ++ (10 ∷ (movetext g ++ tail))
unfolding pgn_of
pgn_split g = simp append_assoc

begins : PgnGame → Sofar
begins g = record { tags = g.tags; moves = []; position = start_parts; began = false }

tags_lead : (total : ℕ) (g : PgnGame) (rest : List ℕ) → IsGame g → Leads total fresh (flat_map tag_line g.tags ++ rest) (begins g) rest
unfolding by_tags begins
tags_lead total g rest ok = tags_read total fresh g.tags rest refl ok.tags ok.start

moves_lead : (total : ℕ) (g : PgnGame) (k : ℕ) → IsGame g → All IsMove g.moves → length g.moves < 2 ^ 63 → length (movetext g ++ tail) < k → run total k (begins g) (movetext g ++ tail) ≡ Ok g
unfolding begins
moves_lead total g k ok ws few h = moves_read total (begins g) 1 0 g.moves g.result ws ok.line (omega arith) k h

-- what was written is read as the same game
pub game_read : (g : PgnGame) → IsGame g → All IsMove g.moves → length g.moves < 2 ^ 63 → game_in (pgn_of g) ≡ Ok g
unfolding game_in
game_read g ok ws few =
    let total = length (pgn_of g) in
    let moves = movetext g ++ tail in
    let whole = leads_from total fresh (begins g) (pgn_of g) (flat_map tag_line g.tags ++ (10 ∷ moves)) moves (pgn_split g)
    (leads_on total fresh (begins g) (begins g) (flat_map tag_line g.tags ++ (10 ∷ moves)) (10 ∷ moves) moves (tags_lead total g (10 ∷ moves) ok) (leads_skip total (begins g) 10 moves refl)) in
    let at = leads_run total fresh (begins g) (pgn_of g) moves whole (total + 1) (omega arith) in
    at.2 ∙ moves_lead total g at.0 ok ws few at.1

-- so where a text is that of a game, reading answers this game, unless memory runs out
pub again : (bytes : List ℕ) (r : Result PgnGame ReadPgnFault) → GoesOn (λ (g : PgnGame). Ok g) r (game_in bytes) → (g : PgnGame) → IsGame g → All IsMove g.moves → length g.moves < 2 ^ 63 → pgn_of g ≡ bytes → MatchResult r (λ read. read ≡ g) (λ fault. fault ≡ OutOfMemory)
again bytes (Ok x) e g ok ws few text =
    let same : ◌≡◌ {A = Result PgnGame PgnFault} (Ok x) (Ok g) = sym e ∙ ap game_in (sym text) ∙ game_read g ok ws few in
    cc
again bytes (Err (Bad fault)) e g ok ws few text =
    let clash : ◌≡◌ {A = Result PgnGame PgnFault} (Err fault) (Ok g) = sym e ∙ ap game_in (sym text) ∙ game_read g ok ws few in
    absurd cc
again bytes (Err OutOfMemory) e g ok ws few text = refl
