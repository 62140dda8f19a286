-- The lines of the games, as they grow entry by entry.
use Rattle.std.proofs.Common.{◌≡◌, ℕ, suc, ◌<◌, ◌≤◌, ◌+◌, List, [], ◌∷◌, ◌++◌, length, take, get_or, Some, None, refl, sym, ap, ◌∙◌, subst, arith, length-append, ⊎_elim}
use Rattle.std.specs.Prelude.{slice_get}
use Rattle.std.proofs.lemmas.Bool.{cases_lt}
use Rattle.std.proofs.lemmas.List.{append-nil, get_or_append_left}
use Rattle.std.proofs.Math.Seq.{get_or-append_seam}
use Rattle.board.specs.Moves.{MoveWord}
use Rattle.entries.specs.declared.journal.Entry.{Entry}
use Rattle.arena_history.proofs.Lists.{take-suc_at, slice_get-get}
use Rattle.games_text.specs.Sent.{AreSent, GoOn, sent_in}
use Rattle.games_text.proofs.Sendings.{sent-push, none_yet}

last_line : (lines : List (List MoveWord)) (n : ℕ) → n ≡ length lines → get_or (lines ++ [] ∷ []) n [] ≡ []
last_line lines n is = ap (λ k. get_or (lines ++ [] ∷ []) k []) is ∙ get_or-append_seam lines [] [] []

-- a line more, without moves
pub one_line_more : (k : ℕ) (lines : List (List MoveWord)) → AreSent k [] lines → AreSent (k + 1) [] (lines ++ [] ∷ [])
one_line_more k lines was = record {
  counted = length-append lines ([] ∷ []) ∙ ap (λ n. n + 1) was.counted;
  each = λ n lt. ⊎_elim
      (λ (old : n < length lines). get_or_append_left lines ([] ∷ []) [] n old ∙ was.each n (subst (λ c. n < c) was.counted old))
      (λ (le : length lines ≤ n). last_line lines n (omega (arith, lt, le, was.counted)) ∙ sym (none_yet n))
      (cases_lt n (length lines));
}

pub no_line : AreSent 0 [] []
no_line = record { counted = refl; each = λ n lt. absurd (omega (arith, lt)) }

-- nothing more
pub none_more : (more : ℕ → List MoveWord) (lines : List (List MoveWord)) → ((n : ℕ) → more n ≡ []) → GoOn more lines lines
none_more more lines none = record { counted = refl; each = λ n lt. sym (ap (λ l. get_or lines n [] ++ l) (none n) ∙ append-nil (get_or lines n [])) }

-- an entry more
pub entry_more : (count : ℕ) (es : List Entry) (i : ℕ) (e : Entry) (old new : List (List MoveWord)) → slice_get es i ≡ Some e → AreSent count (take i es) old → GoOn (λ n. sent_in n e.what) old new → AreSent count (take (i + 1) es) new
entry_more count es i e old new at was on =
    let next : i + 1 ≡ suc i = omega arith in
    subst (λ l. AreSent count l new) (sym (ap (λ n. take n es) next ∙ take-suc_at es i e at))
    (record {
      counted = on.counted ∙ was.counted;
      each = λ n lt. on.each n (subst (λ c. n < c) (sym was.counted) lt) ∙ (ap (λ l. l ++ sent_in n e.what) (was.each n lt) ∙ sym (sent-push n (take i es) e));
    })

-- there is an entry with each number below their count
pub entry_there : (es : List Entry) (i : ℕ) → i < length es → slice_get es i ≡ None → ⊥
entry_there es i lt none = let x = slice_get-get es i lt in let some : slice_get es i ≡ Some x.0 = x.1 in cc
