-- A table of sets agrees with a definition, by computation.
use Rattle.std.proofs.Common.{◌≡◌, ℕ, ◌<◌, Bool, true, ◌&&◌, zero, suc, arith, inl, inr}
use Rattle.std.proofs.lemmas.Bool.{agree_below, agree_below_at, and_parts, cases_eq}
use Rattle.board.specs.Sets.{has}

-- the sets of the first n squares have what the test says
abbrev pub rows_agree : (ℕ → ℕ) → (ℕ → ℕ → Bool) → ℕ → Bool
rows_agree set f zero = true
rows_agree set f (suc n) = agree_below (has (set n)) (f n) 64 && rows_agree set f n

row_at : (set : ℕ → ℕ) (f : ℕ → ℕ → Bool) (n s : ℕ) → rows_agree set f n ≡ true → s < n → agree_below (has (set s)) (f s) 64 ≡ true
row_at set f zero s h below = absurd (omega arith)
row_at set f (suc n) s h below =
    let parts = and_parts (agree_below (has (set n)) (f n) 64) (rows_agree set f n) h in
    elim (cases_eq s n) [
      | inl e ↦ rw e parts.0
      | inr ne ↦ row_at set f n s parts.1 (omega arith)
    ]

pub table_at : (set : ℕ → ℕ) (f : ℕ → ℕ → Bool) → rows_agree set f 64 ≡ true → (s t : ℕ) → s < 64 → t < 64 → has (set s) t ≡ f s t
table_at set f h s t s_on t_on = agree_below_at (has (set s)) (f s) 64 t (row_at set f 64 s h s_on) t_on

-- two tests of pairs agree on the first n rows
abbrev pub pairs_agree : (ℕ → ℕ → Bool) → (ℕ → ℕ → Bool) → ℕ → Bool
pairs_agree f g zero = true
pairs_agree f g (suc n) = agree_below (f n) (g n) 64 && pairs_agree f g n

pair_row : (f g : ℕ → ℕ → Bool) (n s : ℕ) → pairs_agree f g n ≡ true → s < n → agree_below (f s) (g s) 64 ≡ true
pair_row f g zero s h below = absurd (omega arith)
pair_row f g (suc n) s h below =
    let parts = and_parts (agree_below (f n) (g n) 64) (pairs_agree f g n) h in
    elim (cases_eq s n) [
      | inl e ↦ rw e parts.0
      | inr ne ↦ pair_row f g n s parts.1 (omega arith)
    ]

pub pair_at : (f g : ℕ → ℕ → Bool) → pairs_agree f g 64 ≡ true → (s t : ℕ) → s < 64 → t < 64 → f s t ≡ g s t
pair_at f g h s t s_on t_on = agree_below_at (f s) (g s) 64 t (pair_row f g 64 s h s_on) t_on
