-- Two positions with one text are equal, and the fields of a position's text are its fields.
use Rattle.std.proofs.Common.{◌≡◌, ℕ, ◌+◌, ◌<◌, ◌≤◌, ◌==◌, List, [], ◌∷◌, get_or, Bool, true, false, if◌then◌else◌, take, Option, None, Some, Result, Ok, Err, IsTrue, arith, ap, sym, ◌∙◌, refl}
use Rattle.std.specs.Prelude.{MatchResult}
use Rattle.std.specs.Fmt.{decimal}
use Rattle.std.specs.Str.Parse.{digits_value}
use Rattle.std.proofs.lemmas.Bool.Decides.{nat_tests}
use Rattle.std.proofs.lemmas.Bool.{and_parts, eqb-true}
use Rattle.std.proofs.lemmas.Fmt.{decimal_is_IsNumeral}
use Rattle.std.proofs.lemmas.List.Elements.{All-append, All-cons, All-nil, All-weaker}
use Rattle.board.specs.declared.piece.Colour.{Colour}
use Rattle.board.specs.declared.piece.Colour.TheVariants.{White, Black}
use Rattle.board.specs.declared.piece.Piece.{Piece}
use Rattle.board.specs.declared.parts.Parts.{Parts}
use Rattle.board.specs.declared.parts.Rights.{Rights}
use Rattle.board.specs.declared.fen.fault.FenFault.{FenFault}
use Rattle.board.specs.Square.{file_of, rank_of}
use Rattle.board.specs.Position.{IsPosition, ep_holds}
use Rattle.board.specs.Fen.{board_text, turn_text, castlings, or_dash, rights_text, ep_text, fields_of, fen_of}
use Rattle.board.specs.FenFaults.{fields, CanStand, IsFirstFault}
use Rattle.board.specs.Reading.{ranks_in, turn_in, rights_in, some_square, ep_in}
use Rattle.board.proofs.Cuts.{Lacks, slice_split-join, slice_split-clean}
use Rattle.board.proofs.Decimals.{decimal_digits}
use Rattle.board.proofs.BoardTexts.{board_text-lacks, ranks_in-text}
use Rattle.board.proofs.FieldTexts.{rights_in-text}
use Rattle.board.proofs.RankTexts.{some_one}
use Rattle.board.proofs.Spelling.{square_in-word}

spaceless_one : (b : ℕ) → (b == 32) ≡ false → Lacks 32 (b ∷ [])
spaceless_one b h = All-cons (λ x. (x == 32) ≡ false) b [] h (All-nil (λ x. (x == 32) ≡ false))

turn-lacks : (c : Colour) → Lacks 32 (turn_text c)
turn-lacks White = spaceless_one 119 refl
turn-lacks Black = spaceless_one 98 refl

mark-lacks : (right : Bool) (b : ℕ) → (b == 32) ≡ false → Lacks 32 (if right then b ∷ [] else [])
mark-lacks true b h = spaceless_one b h
mark-lacks false b h = All-nil (λ x. (x == 32) ≡ false)

or_dash-lacks : (text : List ℕ) → Lacks 32 text → Lacks 32 (or_dash text)
or_dash-lacks [] h = spaceless_one 45 refl
or_dash-lacks (b ∷ bs) h = h

rights-lacks : (r : Rights) → Lacks 32 (rights_text r)
rights-lacks r =
    let P : ℕ → Type 0 = λ x. (x == 32) ≡ false in
    or_dash-lacks (castlings r)
    (All-append P _ _
    (All-append P _ _
    (All-append P _ _ (mark-lacks r.white_short 75 refl) (mark-lacks r.white_long 81 refl))
    (mark-lacks r.black_short 107 refl))
    (mark-lacks r.black_long 113 refl))

ep-lacks : (e : Option ℕ) → Lacks 32 (ep_text e)
ep-lacks None = spaceless_one 45 refl
ep-lacks (Some s) =
    let P : ℕ → Type 0 = λ x. (x == 32) ≡ false in
    All-cons P (97 + file_of s) ((49 + rank_of s) ∷ []) (grind (arith, nat_tests)) (spaceless_one (49 + rank_of s) (grind (arith, nat_tests)))

decimal-lacks : (n : ℕ) → n ≤ 65535 → Lacks 32 (decimal n)
decimal-lacks n h =
    All-weaker (λ b. (47 < b) × (b < 58)) (λ b. (b == 32) ≡ false) (λ b t. grind (arith, nat_tests)) (decimal n) (decimal_digits n (omega arith))

-- the fields of a position's text are those that were written
pub fields-fen_of : (p : Parts) → IsPosition p → fields (fen_of p) ≡ fields_of p
fields-fen_of p good =
    let board = board_text p.cells in
    let turn = turn_text p.turn in
    let rights = rights_text p.rights in
    let ep = ep_text p.ep in
    let half = decimal p.half in
    slice_split-join 32 board (board_text-lacks p.cells 7) _
    ∙ ap (λ fs. board ∷ fs) (slice_split-join 32 turn (turn-lacks p.turn) _
    ∙ ap (λ fs. turn ∷ fs) (slice_split-join 32 rights (rights-lacks p.rights) _
    ∙ ap (λ fs. rights ∷ fs) (slice_split-join 32 ep (ep-lacks p.ep) _
    ∙ ap (λ fs. ep ∷ fs) (slice_split-join 32 half (decimal-lacks p.half good.half_most) _
    ∙ ap (λ fs. half ∷ fs) (slice_split-clean 32 (decimal p.number) (decimal-lacks p.number good.number_most))))))

turn_in-text : (c : Colour) → turn_in (turn_text c) ≡ Some c
turn_in-text White = refl
turn_in-text Black = refl

-- an en passant square is on the board
ep_on : (cells : List (Option Piece)) (c : Colour) (e : ℕ) → IsTrue (ep_holds cells c (Some e)) → e < 64
ep_on cells White e h =
    let rank : (rank_of e == 5) ≡ true = (and_parts _ _ (and_parts _ _ (and_parts _ _ h).0).0).0 in
    let at = eqb-true (rank_of e) 5 rank in
    omega arith
ep_on cells Black e h =
    let rank : (rank_of e == 2) ≡ true = (and_parts _ _ (and_parts _ _ (and_parts _ _ h).0).0).0 in
    let at = eqb-true (rank_of e) 2 rank in
    omega arith

ep_in-text : (cells : List (Option Piece)) (c : Colour) (e : Option ℕ) → IsTrue (ep_holds cells c e) → ep_in (ep_text e) ≡ Some e
ep_in-text cells c None h = refl
ep_in-text cells c (Some s) h = ap some_square (square_in-word s (ep_on cells c s h))

decimal_same : (m n : ℕ) → m ≤ 65535 → n ≤ 65535 → decimal m ≡ decimal n → m ≡ n
decimal_same m n low high h =
    sym (decimal_is_IsNumeral m (omega arith)).1 ∙ ap (digits_value 10) h ∙ (decimal_is_IsNumeral n (omega arith)).1

-- two positions with one text are equal
pub one_text : (p q : Parts) → IsPosition p → IsPosition q → fen_of p ≡ fen_of q → p ≡ q
one_text p q good fine h =
    let same : fields_of p ≡ fields_of q = sym (fields-fen_of p good) ∙ ap fields h ∙ fields-fen_of q fine in
    let at : (n : ℕ) → get_or (fields_of p) n [] ≡ get_or (fields_of q) n [] = λ n. ap (λ fs. get_or fs n []) same in
    let cells : p.cells ≡ q.cells = some_one (sym (ranks_in-text 7 p.cells good.board.squares) ∙ ap (ranks_in 7) (at 0) ∙ ranks_in-text 7 q.cells fine.board.squares) in
    let turn : p.turn ≡ q.turn = some_one (sym (turn_in-text p.turn) ∙ ap turn_in (at 1) ∙ turn_in-text q.turn) in
    let rights : p.rights ≡ q.rights = some_one (sym (rights_in-text p.rights) ∙ ap rights_in (at 2) ∙ rights_in-text q.rights) in
    let ep : p.ep ≡ q.ep = some_one (sym (ep_in-text p.cells p.turn p.ep good.ep) ∙ ap ep_in (at 3) ∙ ep_in-text q.cells q.turn q.ep fine.ep) in
    let half : p.half ≡ q.half = decimal_same p.half q.half good.half_most fine.half_most (at 4) in
    let number : p.number ≡ q.number = decimal_same p.number q.number good.number_most fine.number_most (at 5) in
    λ i. record { cells = cells i; turn = turn i; rights = rights i; ep = ep i; half = half i; number = number i }

-- the fields of a position's text can stand, however many are taken
stands : (text : List ℕ) (p : Parts) → IsPosition p → fen_of p ≡ text → (n : ℕ) → CanStand text n
stands text p good e n = (
  p,
  record {
    spelled = ap (take n) (ap fields (sym e) ∙ fields-fen_of p good);
    meets = record {
      board = λ _. good.board;
      safe = λ _. good.safe;
      rights = λ _. good.rights;
      ep = λ _. good.ep;
      half_most = λ _. good.half_most;
      number_least = λ _. good.number_least;
      number_most = λ _. good.number_most;
    };
  },
)

-- a reader that answers a position with the text, or the first fault, reads each position from its text
pub read_back : (text : List ℕ) (r : Result Parts FenFault) → MatchResult r (λ q. (fen_of q ≡ text) × IsPosition q) (λ f. IsFirstFault text f) → (p : Parts) → IsPosition p → fen_of p ≡ text → r ≡ Ok p
read_back text (Ok q) h p good e = ap Ok (one_text q p h.1 good (h.0 ∙ sym e))
read_back text (Err f) h p good e = absurd (h.refused (stands text p good e f.field))
