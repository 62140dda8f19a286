-- The lines of the table, as they are put together from their pieces.
use Rattle.std.proofs.Common.{◌≡◌, ◌+◌, ◌<◌, ℕ, ℤ, drop, take, map, length, get_or, Some, slice_get, List, [], ◌∷◌, ◌++◌, codes, Result, Ok, Err, OnOk, subst, sym, ap, ◌∙◌, append_assoc}
use Rattle.std.specs.Bool.{if◌then◌else◌}
use Rattle.std.specs.List.{flat_map, All}
use Rattle.std.specs.Result.{is_ok}
use Rattle.std.specs.Fmt.{decimal, signed_decimal}
use Rattle.std.specs.Option.{option_map_or}
use Rattle.std.proofs.lemmas.List.{at_drop_more, get_or-map, length-map}
use Rattle.std.proofs.lemmas.List.Elements.{All-take}
use Rattle.entries.specs.declared.setup.Player.{Player}
use Rattle.ranking.specs.declared.row.Row.{Row}
use Rattle.team_battle.specs.Teams.{IsRowOf}
use Rattle.journal_text.specs.Lines.{line}
use Rattle.table_text.specs.Table.{score_words, player_line, row_line, count_line}

-- what was put behind a text is a line where its bytes are those of the line
pub pushed : {E : Type 0} (result : Result (Unit {0}) E) (old new piece line : List ℕ) → new ≡ (if is_ok result then old ++ piece else old) → piece ≡ line → OnOk result (new ≡ old ++ line)
pushed (Ok done) old new piece line put same = put ∙ ap (λ l. old ++ l) same
pushed (Err e) old new piece line put same = tt

-- the last line in one piece
pub count_line-pieces : (games entries : ℕ) → codes "games " ++ (decimal games ++ (codes " entries " ++ (decimal entries ++ 10 ∷ []))) ≡ count_line games entries
unfolding count_line
count_line-pieces games entries = simp append_assoc

-- a score in one piece
abbrev pub score_text : ℕ → ℤ → ℕ → List ℕ
score_text points performance games = decimal points ++ 32 ∷ (signed_decimal performance ++ 32 ∷ (decimal games ++ 10 ∷ []))

pub score_words-pieces : (row : Row) → score_text row.points row.performance row.games ≡ line (score_words row)
score_words-pieces row = simp append_assoc

-- a player's line, put behind a text in four pieces: his place, his name, his rating, and his score
pub player_pushed : {E : Type 0} (result : Result (Unit {0}) E) (p : Player) (row : Row) (old one two three new front name mid back : List ℕ)
    → front ≡ decimal (row.rank + 1) ++ 32 ∷ [] → name ≡ p.name → mid ≡ 32 ∷ (decimal p.rating ++ 32 ∷ []) → back ≡ line (score_words row)
    → one ≡ old ++ front → two ≡ one ++ name → three ≡ two ++ mid → new ≡ (if is_ok result then three ++ back else three)
    → OnOk result (new ≡ old ++ player_line p row)
unfolding player_line
player_pushed (Ok done) p row old one two three new front name mid back is_front is_name is_mid is_back first second third fourth =
    fourth
    ∙ (λ i. third i ++ is_back i)
    ∙ (λ i. (second i ++ is_mid i) ++ line (score_words row))
    ∙ (λ i. ((first i ++ is_name i) ++ (32 ∷ (decimal p.rating ++ 32 ∷ []))) ++ line (score_words row))
    ∙ (λ i. (((old ++ is_front i) ++ p.name) ++ (32 ∷ (decimal p.rating ++ 32 ∷ []))) ++ line (score_words row))
    ∙ simp append_assoc
player_pushed (Err e) p row old one two three new front name mid back is_front is_name is_mid is_back first second third fourth = tt

-- the line of a row whose player is found
pub row_line-found : (players : List Player) (row : Row) (p : Player) → slice_get players row.player ≡ Some p → row_line players row ≡ player_line p row
unfolding row_line
row_line-found players row p found = ap (λ o. option_map_or (λ (x : Player). player_line x row) o []) found

-- one row's line more, with those that are left
pub rows_more : (players : List Player) (rows : List Row) (i : ℕ) (d : Row) (p : Player) (start old new : List ℕ)
    → i < length rows
    → slice_get players (get_or rows i d).player ≡ Some p
    → new ≡ old ++ player_line p (get_or rows i d)
    → old ++ flat_map (row_line players) (drop i rows) ≡ start
    → new ++ flat_map (row_line players) (drop (i + 1) rows) ≡ start
rows_more players rows i d p start old new within found put so_far =
    let row = get_or rows i d in
    let rest = flat_map (row_line players) (drop (i + 1) rows) in
    ap (λ l. l ++ rest) (put ∙ ap (λ l. old ++ l) (sym (row_line-found players row p found)))
    ∙ append_assoc old (row_line players row) rest
    ∙ ap (λ l. old ++ l) (sym (at_drop_more (flat_map (row_line players)) rows i d within))
    ∙ so_far

-- rows whose players are all of a list, where both are these
pub rows_have_players : (rows table : List Row) (players all : List Player) → rows ≡ table → players ≡ all
    → All (IsRowOf (length all)) table
    → (k : ℕ) (d : Row) → k < length rows → (get_or rows k d).player < length players
rows_have_players rows table players all is_table is_all each k d within =
    let inside : k < length table = subst (λ (l : List Row). k < length l) is_table within in
    subst (λ (l : List Row). (get_or l k d).player < length players) (sym is_table) (subst (λ (l : List Player). (get_or table k d).player < length l) (sym is_all) (each k d inside).player)

-- the same of the first ten of them
pub first_rows_have_players : (rows table : List Row) (players all : List Player) → rows ≡ take 10 table → players ≡ all
    → All (IsRowOf (length all)) table
    → (k : ℕ) (d : Row) → k < length rows → (get_or rows k d).player < length players
first_rows_have_players rows table players all is_first is_all each = rows_have_players rows (take 10 table) players all is_first is_all (All-take (IsRowOf (length all)) 10 table each)
