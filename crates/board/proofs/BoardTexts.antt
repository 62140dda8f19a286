-- Each board has one text, and is read from it.
use Rattle.std.proofs.Common.{◌≡◌, ℕ, zero, suc, ◌+◌, ◌-◌, ◌*◌, ◌<◌, ◌≤◌, ◌==◌, List, [], ◌∷◌, ◌++◌, length, take, drop, false, nat_lt, arith, ap, sym, ◌∙◌, refl, Option, None, Some, append_assoc, length-append, length-drop, length-take, length-take-le, inl, inr, zero-add, subst}
use Rattle.std.specs.List.{All, position_or_len, before_first, after_first}
use Rattle.std.proofs.lemmas.Bool.{cases_Bool, ltb-true, ltb-false}
use Rattle.std.proofs.lemmas.Bool.Decides.{nat_tests}
use Rattle.std.proofs.lemmas.List.{take_all, drop-append-le, take-append-le, take-append-drop}
use Rattle.std.proofs.lemmas.List.Elements.{All-append, All-cons, All-nil, All-weaker}
use Rattle.std.proofs.Math.Seq.{drop-append_seam}
use Rattle.board.specs.declared.piece.Piece.{Piece}
use Rattle.board.specs.Fen.{piece_letter, run, rank_text, rank_cells, ranks_text}
use Rattle.board.specs.Reading.{rank_in, ranks_then, ranks_in}
use Rattle.board.proofs.Cuts.{Lacks, before_first-join, after_first-join, joined_again, after_none}
use Rattle.board.proofs.RankTexts.{letter_high, run-one, rank_in-spells, rank_in-text, none_some}

-- every byte of a rank stands behind the space and the slash
run-high : (n : ℕ) → n ≤ 8 → All (λ b. 47 < b) (run n)
run-high zero h = All-nil (λ b. 47 < b)
run-high (suc n) h =
    rw (run-one (suc n) (omega arith) (omega arith)) (All-cons (λ b. 47 < b) (48 + suc n) [] (omega arith) (All-nil (λ b. 47 < b)))

rank_text-high : (cells : List (Option Piece)) (n : ℕ) → n + length cells ≤ 8 → All (λ b. 47 < b) (rank_text n cells)
rank_text-high [] n h = run-high n (omega arith)
rank_text-high (None ∷ cells) n h = rank_text-high cells (n + 1) (omega arith)
rank_text-high (Some p ∷ cells) n h =
    let letter : 47 < piece_letter p.colour p.kind = let high = letter_high p.colour p.kind in omega arith in
    All-append (λ b. 47 < b) (run n) (piece_letter p.colour p.kind ∷ rank_text 0 cells) (run-high n (omega arith))
    (All-cons (λ b. 47 < b) (piece_letter p.colour p.kind) (rank_text 0 cells) letter (rank_text-high cells 0 (omega arith)))

lacks_low : (c : ℕ) (xs : List ℕ) → c ≤ 47 → All (λ b. 47 < b) xs → Lacks c xs
lacks_low c xs low high =
    All-weaker (λ b. 47 < b) (λ b. (b == c) ≡ false) (λ b h. grind (arith, nat_tests)) xs high

-- the cells of a rank among those of the ranks up to it
length-rank_cells : (cells : List (Option Piece)) (r : ℕ) → length (rank_cells cells r) ≤ 8
length-rank_cells cells r = rw length-take (omega arith)

rank_cells-below : (below here : List (Option Piece)) (r : ℕ) → 8 * r + 8 ≤ length below → rank_cells (below ++ here) r ≡ rank_cells below r
rank_cells-below below here r h =
    ap (λ (l : List (Option Piece)). take (8 * r + 8 - 8 * r) l) (drop-append-le (8 * r) below here (omega arith))
    ∙ take-append-le (8 * r + 8 - 8 * r) (drop (8 * r) below) here (omega (arith, length-drop (8 * r) below))

rank_cells-last : (below here : List (Option Piece)) (r : ℕ) → length below ≡ 8 * r → length here ≡ 8 → rank_cells (below ++ here) r ≡ here
rank_cells-last below here r size eight =
    let e : drop (8 * r) (below ++ here) ≡ here = rw (← size) (drop-append_seam below here) in
    ap (λ (l : List (Option Piece)). take (8 * r + 8 - 8 * r) l) e ∙ take_all (8 * r + 8 - 8 * r) here (omega arith)

ranks_text-below : (below here : List (Option Piece)) (r : ℕ) → 8 * r + 8 ≤ length below → ranks_text (below ++ here) r ≡ ranks_text below r
unfolding ranks_text
ranks_text-below below here zero h = ap (rank_text 0) (rank_cells-below below here 0 h)
ranks_text-below below here (suc r) h =
    rw (rank_cells-below below here (suc r) h, ranks_text-below below here r (omega arith)) refl

-- no byte of a board's text is a space
pub board_text-lacks : (cells : List (Option Piece)) (r : ℕ) → Lacks 32 (ranks_text cells r)
unfolding ranks_text
board_text-lacks cells zero =
    lacks_low 32 _ (omega arith) (rank_text-high (rank_cells cells 0) 0 (omega (arith, length-rank_cells cells 0)))
board_text-lacks cells (suc r) =
    let line : List ℕ = rank_text 0 (rank_cells cells (suc r)) in
    let spaceless = λ (b : ℕ). (b == 32) ≡ false in
    All-append spaceless (line ++ 47 ∷ []) (ranks_text cells r)
    (All-append spaceless line (47 ∷ [])
    (lacks_low 32 line (omega arith) (rank_text-high (rank_cells cells (suc r)) 0 (omega (arith, length-rank_cells cells (suc r)))))
    (All-cons spaceless 47 [] refl (All-nil spaceless)))
    (board_text-lacks cells r)

ranks_in-empty : (r : ℕ) → ranks_in r [] ≡ None
unfolding ranks_in rank_in
ranks_in-empty zero = refl
ranks_in-empty (suc r) = refl

ranks_then-parts : (o q : Option (List (Option Piece))) (cells : List (Option Piece)) → ranks_then o q ≡ Some cells → (below : List (Option Piece)) × (here : List (Option Piece)) × (o ≡ Some below) × (q ≡ Some here) × (cells ≡ below ++ here)
ranks_then-parts None None cells h = cc
ranks_then-parts (Some x) None cells h = cc
ranks_then-parts None (Some y) cells h = cc
ranks_then-parts (Some x) (Some y) cells h = (x, y, refl, refl, sym (let e : x ++ y ≡ cells = cc in e))

-- with no slash, nothing is left for the ranks below
ranks_in-slash : (r : ℕ) (text : List ℕ) (cells : List (Option Piece)) → ranks_in r (after_first (λ b. b == 47) text) ≡ Some cells → position_or_len (λ b. b == 47) text < length text
ranks_in-slash r text cells h =
    elim (cases_Bool (nat_lt (position_or_len (λ b. b == 47) text) (length text))) [
      | inl here ↦ ltb-true _ _ here
      | inr missing ↦
          let nothing : after_first (λ b. b == 47) text ≡ [] = after_none (λ b. b == 47) text (ltb-false _ _ missing) in
          let e : None ≡ Some cells = sym (ranks_in-empty r) ∙ ap (ranks_in r) (sym nothing) ∙ h in
          absurd (none_some e)
    ]

-- a rank on top of those below it
ranks_text-join : (r : ℕ) (below here : List (Option Piece)) → length below ≡ 8 * r + 8 → length here ≡ 8 → ranks_text (below ++ here) (suc r) ≡ rank_text 0 here ++ 47 ∷ ranks_text below r
unfolding ranks_text
ranks_text-join r below here size eight =
    rw (rank_cells-last below here (suc r) (omega arith) eight, ranks_text-below below here r (omega arith))
    (append_assoc (rank_text 0 here) (47 ∷ []) (ranks_text below r))

ranks_text-first : (cells : List (Option Piece)) → length cells ≡ 8 → ranks_text cells 0 ≡ rank_text 0 cells
unfolding ranks_text
ranks_text-first cells eight = ap (rank_text 0) (take_all 8 cells (omega arith))

-- what was read of a board is spelled by its text
pub ranks_in-spells : (r : ℕ) (text : List ℕ) (cells : List (Option Piece)) → ranks_in r text ≡ Some cells → (ranks_text cells r ≡ text) × (length cells ≡ 8 * r + 8)
unfolding ranks_in
ranks_in-spells zero text cells h =
    let t = rank_in-spells text 8 0 false cells h (λ _. refl) in
    (ranks_text-first cells t.1 ∙ t.0, t.1)
ranks_in-spells (suc r) text cells h =
    let t = ranks_then-parts (ranks_in r (after_first (λ b. b == 47) text)) (rank_in 8 false (before_first (λ b. b == 47) text)) cells h in
    let low = ranks_in-spells r (after_first (λ b. b == 47) text) t.0 t.2 in
    let line = rank_in-spells (before_first (λ b. b == 47) text) 8 0 false t.1 t.3 (λ _. refl) in
    let slash = ranks_in-slash r text t.0 t.2 in
    let parts : rank_text 0 t.1 ++ 47 ∷ ranks_text t.0 r ≡ before_first (λ b. b == 47) text ++ 47 ∷ after_first (λ b. b == 47) text = λ i. line.0 i ++ 47 ∷ low.0 i in (
      ap (λ (l : List (Option Piece)). ranks_text l (suc r)) t.4 ∙ ranks_text-join r t.0 t.1 low.1 line.1 ∙ parts ∙ sym (joined_again 47 text slash),
      ap length t.4 ∙ length-append t.0 t.1 ∙ (let e : length t.0 + length t.1 ≡ 8 * suc r + 8 = omega arith in e),
    )

-- the ranks of a board are read from their text
ranks_in-join : (r : ℕ) (below here : List (Option Piece)) → length below ≡ 8 * r + 8 → length here ≡ 8 → ranks_in r (ranks_text below r) ≡ Some below → ranks_in (suc r) (ranks_text (below ++ here) (suc r)) ≡ Some (below ++ here)
unfolding ranks_in
ranks_in-join r below here size eight h =
    let line : List ℕ = rank_text 0 here in
    let clean : Lacks 47 line = lacks_low 47 line (omega arith) (rank_text-high here 0 (omega arith)) in
    let read : rank_in 8 false line ≡ Some here = rw (zero-add, eight) at (rank_in-text here 0 (omega arith)) in
    rw (ranks_text-join r below here size eight, before_first-join 47 line clean (ranks_text below r), after_first-join 47 line clean (ranks_text below r), h, read) refl

ranks_in-first : (cells : List (Option Piece)) → length cells ≡ 8 → ranks_in 0 (ranks_text cells 0) ≡ Some cells
unfolding ranks_in
ranks_in-first cells eight =
    let read : rank_in 8 false (rank_text 0 cells) ≡ Some cells = rw (zero-add, eight) at (rank_in-text cells 0 (omega arith)) in
    rw (ranks_text-first cells eight) read

pub ranks_in-text : (r : ℕ) (cells : List (Option Piece)) → length cells ≡ 8 * r + 8 → ranks_in r (ranks_text cells r) ≡ Some cells
ranks_in-text zero cells size = ranks_in-first cells size
ranks_in-text (suc r) cells size =
    let n = 8 * r + 8 in
    let low : length (take n cells) ≡ n = length-take-le n cells (omega arith) in
    let eight : length (drop n cells) ≡ 8 = length-drop n cells ∙ (let e : length cells - n ≡ 8 = omega arith in e) in
    subst (λ (l : List (Option Piece)). ranks_in (suc r) (ranks_text l (suc r)) ≡ Some l) (take-append-drop n cells)
    (ranks_in-join r (take n cells) (drop n cells) low eight (ranks_in-text r (take n cells) low))
