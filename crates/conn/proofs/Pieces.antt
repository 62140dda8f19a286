-- What a read puts into a buffer, against what was there to read.
use Rattle.std.proofs.Common.{◌≡◌, ◌≤◌, ◌+◌, ℕ, List, take, drop, length, ◌++◌, sym, ap, ◌∙◌, arith, length-drop}
use Rattle.std.proofs.lemmas.List.{take_at, take-append-drop, drop-drop, length-take-le}

-- the piece at the front of a buffer, and the bytes behind it, are the bytes that were left before
pub front_and_rest : (bytes piece behind : List ℕ) (at n : ℕ) → piece ≡ take n (drop at bytes) → at + n ≤ length bytes → drop at bytes ≡ take n (piece ++ behind) ++ drop (at + n) bytes
front_and_rest bytes piece behind at n is fits =
    let long : length piece ≡ n = ap length is ∙ length-take-le n (drop at bytes) (omega (arith, length-drop at bytes)) in
    let front : take n (piece ++ behind) ≡ take n (drop at bytes) = take_at piece behind n long ∙ is in
    sym (take-append-drop n (drop at bytes)) ∙ (λ i. sym front i ++ drop-drop n at bytes i)
