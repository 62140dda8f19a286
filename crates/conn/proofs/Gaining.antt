-- What a sink gained over several writes.
use Rattle.std.proofs.Common.{◌≡◌, ◌+◌, ◌-◌, ℕ, List, ◌++◌, take, drop, length, Option, Some, None, refl, sym, ap, ◌∙◌, append_assoc}
use Rattle.std.proofs.Math.Seq.{take-add}
use Rattle.std.proofs.lemmas.List.{take_rest}
use Rattle.conn.specs.Told.{followed_by, Gained}

pub followed_by-append : (told : Option (List ℕ)) (xs ys : List ℕ) → followed_by (followed_by told xs) ys ≡ followed_by told (xs ++ ys)
followed_by-append None xs ys = refl
followed_by-append (Some told) xs ys = ap (λ (l : List ℕ). Some l) (append_assoc told xs ys)

-- what was gained so far, and then the next k of the bytes
pub Gained_more : (start mid new : Option (List ℕ)) (bytes : List ℕ) (n k : ℕ) → Gained start mid (take n bytes) → Gained mid new (take k (take (length bytes - n) (drop n bytes))) → Gained start new (take (n + k) bytes)
Gained_more start mid new bytes n k so_far more =
    more
    ∙ (λ i. followed_by (so_far i) (take k (take_rest bytes n i)))
    ∙ followed_by-append start (take n bytes) (take k (drop n bytes))
    ∙ ap (followed_by start) (sym (take-add n k bytes))
