-- The lines of the teams, as they are put together from their pieces.
use Rattle.std.proofs.Common.{◌≡◌, ◌+◌, ◌<◌, ℕ, ℤ, drop, map, length, get_or, Some, slice_get, List, [], ◌∷◌, ◌++◌, codes, Result, Ok, Err, OnOk, subst, sym, ap, ◌∙◌, append_assoc, arith}
use Rattle.std.specs.Bool.{if◌then◌else◌}
use Rattle.std.specs.List.{flat_map, All, range_with_len}
use Rattle.std.specs.List.Sorted.{IsPermutation}
use Rattle.std.specs.Result.{is_ok}
use Rattle.std.specs.Fmt.{decimal, signed_decimal}
use Rattle.std.specs.Option.{option_map_or}
use Rattle.std.proofs.lemmas.List.{at_drop_more, get_or-map, length-map}
use Rattle.std.proofs.lemmas.List.FromFn.{get_or-range_with_len, length-range_with_len}
use Rattle.std.proofs.lemmas.List.Sorted.{All-permutation}
use Rattle.team_battle.specs.declared.team_row.TeamRow.{TeamRow}
use Rattle.journal_text.specs.Lines.{line}
use Rattle.table_text.specs.Table.{team_words, team_line, team_row_line}

-- what a team has in one piece
abbrev pub team_text : ℕ → ℤ → List ℕ
team_text points performance = decimal points ++ 32 ∷ (signed_decimal performance ++ 10 ∷ [])

pub team_words-pieces : (row : TeamRow) → team_text row.points row.performance ≡ line (team_words row)
team_words-pieces row = simp append_assoc

-- a team's line, put behind a text in four pieces: its place, its name, a space, and what it has
pub team_pushed : {E : Type 0} (result : Result (Unit {0}) E) (name : List ℕ) (row : TeamRow) (old one two three new front mid back : List ℕ)
    → front ≡ codes "team " ++ (decimal (row.rank + 1) ++ 32 ∷ []) → mid ≡ name → back ≡ line (team_words row)
    → one ≡ old ++ front → two ≡ one ++ mid → three ≡ two ++ 32 ∷ [] → new ≡ (if is_ok result then three ++ back else three)
    → OnOk result (new ≡ old ++ team_line name row)
unfolding team_line
team_pushed (Ok done) name row old one two three new front mid back is_front is_mid is_back first second third fourth =
    fourth
    ∙ (λ i. third i ++ is_back i)
    ∙ (λ i. (second i ++ 32 ∷ []) ++ line (team_words row))
    ∙ (λ i. ((first i ++ is_mid i) ++ 32 ∷ []) ++ line (team_words row))
    ∙ (λ i. (((old ++ is_front i) ++ name) ++ 32 ∷ []) ++ line (team_words row))
    ∙ simp append_assoc
team_pushed (Err e) name row old one two three new front mid back is_front is_mid is_back first second third fourth = tt

-- the line of a row whose team is found
team_row_line-found : (names : List (List ℕ)) (row : TeamRow) (name : List ℕ) → slice_get names row.team ≡ Some name → team_row_line names row ≡ team_line name row
unfolding team_row_line
team_row_line-found names row name found = ap (λ o. option_map_or (λ x. team_line x row) o []) found

-- one row's line more, with those that are left
pub team_rows_more : (names : List (List ℕ)) (rows : List TeamRow) (i : ℕ) (d : TeamRow) (name start old new : List ℕ)
    → i < length rows
    → slice_get names (get_or rows i d).team ≡ Some name
    → new ≡ old ++ team_line name (get_or rows i d)
    → old ++ flat_map (team_row_line names) (drop i rows) ≡ start
    → new ++ flat_map (team_row_line names) (drop (i + 1) rows) ≡ start
team_rows_more names rows i d name start old new within found put so_far =
    let row = get_or rows i d in
    let rest = flat_map (team_row_line names) (drop (i + 1) rows) in
    ap (λ l. l ++ rest) (put ∙ ap (λ l. old ++ l) (sym (team_row_line-found names row name found)))
    ∙ append_assoc old (team_row_line names row) rest
    ∙ ap (λ l. old ++ l) (sym (at_drop_more (flat_map (team_row_line names)) rows i d within))
    ∙ so_far

in_range : (n k d : ℕ) → k < length (range_with_len 0 n) → get_or (range_with_len 0 n) k d < n
in_range n k d within =
    let below : k < n = subst (λ m. k < m) (length-range_with_len 0 n) within in
    subst (λ m. m < n) (sym (get_or-range_with_len 0 n k d below)) (omega (arith, below))

-- rows whose teams are each of the setup's once are of teams that it has
pub rows_have_teams : (rows table : List TeamRow) (names all : List (List ℕ)) → rows ≡ table → names ≡ all
    → IsPermutation (range_with_len 0 (length all)) (map (λ (row : TeamRow). row.team) table)
    → (k : ℕ) (d : TeamRow) → k < length rows → (get_or rows k d).team < length names
rows_have_teams rows table names all is_table is_all once k d within =
    let number : TeamRow → ℕ = λ row. row.team in
    let inside : k < length table = subst (λ (l : List TeamRow). k < length l) is_table within in
    let each : All (λ t. t < length all) (map number table) =
    All-permutation (λ t. t < length all) (range_with_len 0 (length all)) (map number table) once (in_range (length all)) in
    let below : get_or (map number table) k d.team < length all = each k d.team (subst (λ n. k < n) (sym (length-map table number)) inside) in
    let here : (get_or table k d).team < length all = subst (λ n. n < length all) (get_or-map number table k d d.team inside) below in
    subst (λ (l : List TeamRow). (get_or l k d).team < length names) (sym is_table) (subst (λ (l : List (List ℕ)). (get_or table k d).team < length l) (sym is_all) here)
