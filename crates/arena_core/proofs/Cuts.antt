-- Pages of a list, and of a table, cut at the end.
use Rattle.std.proofs.Common.{◌≡◌, ℕ, ◌-◌, ◌<◌, ◌≤◌, ⊎_elim, List, take, drop, length, map, min, sym, ap, ◌∙◌, arith}
use Rattle.std.proofs.lemmas.Bool.{cases_lt}
use Rattle.std.proofs.lemmas.List.{take_all, drop_all, length-drop, length-map}
use Rattle.std.proofs.lemmas.List.Sorted.{length_permutation}
use Rattle.ranking.specs.declared.row.Row.{Row}
use Rattle.ranking.specs.declared.line.Line.{Line}
use Rattle.ranking.specs.Rows.{rows, page}
use Rattle.ranking.specs.Laws.{RowsHaveThePlayers}

-- the first n of a list, cut at its end
take_min : {X : Type 0} (n m : ℕ) (xs : List X) → m ≡ min (length xs) n → take m xs ≡ take n xs
take_min n m xs is =
    ⊎_elim
    (λ (short : length xs < n).
    let whole : length xs ≤ m = omega (arith, is) in
    take_all m xs whole ∙ sym (take_all n xs (omega arith)))
    (λ (long : n ≤ length xs). ap (λ k. take k xs) (let same : m ≡ n = omega (arith, is) in same))
    (cases_lt (length xs) n)

-- what comes behind the first n of a list, cut at its end
drop_min : {X : Type 0} (n m : ℕ) (xs : List X) → m ≡ min (length xs) n → drop m xs ≡ drop n xs
drop_min n m xs is =
    ⊎_elim
    (λ (short : length xs < n). drop_all m xs (omega (arith, is)) ∙ sym (drop_all n xs (omega arith)))
    (λ (long : n ≤ length xs). ap (λ k. drop k xs) (let same : m ≡ n = omega (arith, is) in same))
    (cases_lt (length xs) n)

-- a page of a list whose ends are cut
pub page_cut : {X : Type 0} (xs : List X) (from n start most : ℕ) → start ≡ min (length xs) from → most ≡ min (length (take (length xs - start) (drop start xs))) n → take most (take (length xs - start) (drop start xs)) ≡ take n (drop from xs)
page_cut xs from n start most is cut =
    let rest : take (length xs - start) (drop start xs) ≡ drop from xs =
    take_all (length xs - start) (drop start xs) (omega (arith, length-drop start xs)) ∙ drop_min from start xs is in
    take_min n most (take (length xs - start) (drop start xs)) cut ∙ ap (take n) rest

-- there is a row for each line
length-rows : RowsHaveThePlayers → (ls : List Line) → length (rows ls) ≡ length ls
length-rows law ls = sym (length-map (rows ls) (λ (r : Row). r.player)) ∙ (length_permutation (map (λ (l : Line). l.player) ls) (map (λ (r : Row). r.player) (rows ls)) (law ls) ∙ length-map ls (λ (l : Line). l.player))

-- a page from a rank that is cut at the table's end
pub page_from_cut : RowsHaveThePlayers → (ls : List Line) (from start n : ℕ) → start ≡ min (length ls) from → page start n ls ≡ page from n ls
page_from_cut law ls from start n is = ap (take n) (drop_min from start (rows ls) (is ∙ ap (λ k. min k from) (sym (length-rows law ls))))
