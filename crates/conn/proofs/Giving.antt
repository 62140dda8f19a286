-- What a source gave over several reads.
use Rattle.std.proofs.Common.{◌+◌, ◌≤◌, ℕ, List, ◌++◌, drop, length, Option, Some, None, refl, sym, ap, ◌∙◌, arith}
use Rattle.std.proofs.lemmas.List.{drop_at, drop-drop}
use Rattle.std.specs.Io.KnownBytes.{Consumes}
use Rattle.conn.specs.Told.{GaveAtMost}

-- these bytes were given first, and at most k after them
pub GaveAtMost-after : (old mid new : Option (List ℕ)) (bytes : List ℕ) (k most : ℕ) → Consumes old mid bytes → GaveAtMost mid new k → length bytes + k ≤ most → GaveAtMost old new most
GaveAtMost-after None mid new bytes k most given after few = tt
GaveAtMost-after (Some told) None new bytes k most given after few = absurd given
GaveAtMost-after (Some told) (Some rest) new bytes k most given (n, least, is) few = (
  length bytes + n,
  omega arith,
  is ∙ ap (λ (l : List ℕ). Some l) (sym (
      ap (drop (length bytes + n)) given
      ∙ sym (drop-drop n (length bytes) (bytes ++ rest))
      ∙ ap (drop n) (drop_at bytes rest (length bytes) refl)
      )),
)
