-- The part of a buffer that holds what is still to be looked at.
use Rattle.std.proofs.Common.{◌≡◌, ℕ, ◌+◌, ◌≤◌, List, ◌++◌, length, take, drop, sym, ap, ◌∙◌, Option, Result, Ok, Err, IfOk, Vec}
use Rattle.std.specs.List.{slice_range}
use Rattle.std.proofs.Math.Seq.{take-add}
use Rattle.std.specs.Vec.{with_items}
use Rattle.std.specs.Io.{ReadsAtMost}
use Rattle.std.specs.Io.KnownBytes.{ReadConsumes}
use Rattle.std.proofs.lemmas.List.{drop-drop, length-take-le, take_at, drop_at, take-append-le, with_items_is}
use Rattle.std.proofs.lemmas.Slice.{between_is, between_from_start}
use Rattle.http_lines.specs.Steps.{GrewBy}

-- the part that begins so much further on
pub range_let_go : (xs : List ℕ) (start end count : ℕ) → slice_range xs (start + count) end ≡ drop count (slice_range xs start end)
range_let_go xs start end count =
    between_is xs (start + count) end ∙ sym (drop-drop count start (take end xs)) ∙ ap (drop count) (sym (between_is xs start end))

-- a front, and then the first bytes of what was put behind it
pub take_put : (front piece behind : List ℕ) (end count : ℕ) → length front ≡ end → count ≤ length piece → take (end + count) (front ++ (piece ++ behind)) ≡ front ++ take count piece
take_put front piece behind end count is few =
    take-add end count (front ++ (piece ++ behind))
    ∙ (λ i. take_at front (piece ++ behind) end is i ++ take count (drop_at front (piece ++ behind) end is i))
    ∙ ap (λ (l : List ℕ). front ++ l) (take-append-le count piece behind few)

-- what a read put behind a front
pub put_behind : {E : Type 0} (r : Result ℕ E) (left left' : Option (List ℕ)) (held front piece behind : List ℕ) (end : ℕ) → length front ≡ end → front ≡ held → ReadsAtMost r piece → ReadConsumes left left' r piece → IfOk r (λ count. GrewBy count held (take (end + count) (front ++ (piece ++ behind))) left left')
put_behind (Ok n) left left' held front piece behind end is same few gave = (
  take n piece,
  gave.0,
  take_put front piece behind end n is few.0 ∙ ap (λ (l : List ℕ). l ++ take n piece) same,
  length-take-le n piece few.0,
)
put_behind (Err e) left left' held front piece behind end is same few gave = tt

-- the part at the front of a vector whose items are these
pub held_at_front : {Z : Type 0} (v : Vec ℕ Z) (ws held : List ℕ) (n : ℕ) → length ws ≡ v.len → take n ws ≡ held → slice_range (with_items v ws).items 0 n ≡ held
held_at_front v ws held n fits is =
    ap (λ (xs : List ℕ). slice_range xs 0 n) (with_items_is v ws fits) ∙ between_from_start ws n ∙ is
