-- What the readers answer, case by case. Of these words public contracts cite `move_in` alone, beside the words of writing.
use Rattle.std.specs.Prelude.{ℕ, ◌+◌, ◌-◌, ◌*◌, ◌==◌, zero, suc, nat_lt, nat_le, Bool, true, false, ◌&&◌, ◌||◌, List, [], ◌∷◌, ◌++◌, Option, None, Some, if◌then◌else◌, replicate, length}
use Rattle.std.specs.List.{before_first, after_first}
use Rattle.board.specs.declared.piece.Colour.{Colour}
use Rattle.board.specs.declared.piece.Colour.TheVariants.{White, Black}
use Rattle.board.specs.declared.piece.Piece.{Piece}
use Rattle.board.specs.declared.parts.Rights.{Rights}
use Rattle.board.specs.FenFaults.{behind}
use Rattle.board.specs.declared.piece.Kind.{Kind}
use Rattle.board.specs.declared.piece.Kind.TheVariants.{Pawn, Knight, Bishop, Rook, Queen, King}
use Rattle.board.specs.Moves.{MoveWord}

-- the square of a letter and a digit
abbrev pub square_in : ℕ → ℕ → Option ℕ
square_in f r =
    if nat_le 97 f && nat_le f 104 && nat_le 49 r && nat_le r 56 then Some (8 * (r - 49) + (f - 97)) else None

-- the kind of a small letter
abbrev pub kind_in : ℕ → Option Kind
kind_in b =
    if b == 112 then Some Pawn
    else if b == 110 then Some Knight
    else if b == 98 then Some Bishop
    else if b == 114 then Some Rook
    else if b == 113 then Some Queen
    else if b == 107 then Some King
    else None

-- a kind that a pawn becomes
abbrev pub promotion : Option Kind → Option Kind
promotion None = None
promotion (Some Pawn) = None
promotion (Some Knight) = Some Knight
promotion (Some Bishop) = Some Bishop
promotion (Some Rook) = Some Rook
promotion (Some Queen) = Some Queen
promotion (Some King) = None

-- what a pawn becomes, by its letter
abbrev pub promo_in : ℕ → Option Kind
promo_in b = promotion (kind_in b)

-- the move from one square to the other, if both are there
abbrev pub joined : Option ℕ → Option ℕ → Option Kind → Option MoveWord
joined None to promo = None
joined (Some a) None promo = None
joined (Some a) (Some b) promo = Some (record { from = a; to = b; promo = promo })

-- the same with a promotion that may not be there
abbrev pub joined_with : Option ℕ → Option ℕ → Option Kind → Option MoveWord
joined_with from to None = None
joined_with from to (Some k) = joined from to (Some k)

-- the move of a word
abbrev pub move_in : List ℕ → Option MoveWord
move_in (a ∷ b ∷ c ∷ d ∷ []) = joined (square_in a b) (square_in c d) None
move_in (a ∷ b ∷ c ∷ d ∷ e ∷ []) = joined_with (square_in a b) (square_in c d) (promo_in e)
move_in _ = None

-- a digit for one to eight empty squares
abbrev pub is_run : ℕ → Bool
is_run b = nat_le 49 b && nat_le b 56

-- a piece of this colour, if it is one
abbrev pub piece_of : Colour → Option Kind → Option Piece
piece_of c None = None
piece_of c (Some k) = Some (record { colour = c; kind = k })

-- the piece of a letter
unfoldable pub piece_in : ℕ → Option Piece
piece_in b = if nat_lt b 97 then piece_of White (kind_in (b + 32)) else piece_of Black (kind_in b)

-- these cells and then those, if they are there
abbrev pub followed : List (Option Piece) → Option (List (Option Piece)) → Option (List (Option Piece))
followed xs None = None
followed xs (Some ys) = Some (xs ++ ys)

-- a piece and then those cells, if both are there
abbrev pub piece_then : Option Piece → Option (List (Option Piece)) → Option (List (Option Piece))
piece_then None rest = None
piece_then (Some piece) rest = followed (Some piece ∷ []) rest

-- so many cells of a rank, behind a digit or not
unfoldable pub rank_in : ℕ → Bool → List ℕ → Option (List (Option Piece))
rank_in room digit [] = if room == 0 then Some [] else None
rank_in room digit (b ∷ bs) =
    if is_run b then
    (if digit || nat_lt room (b - 48) then None else followed (replicate (b - 48) None) (rank_in (room - (b - 48)) true bs))
    else if room == 0 then None
    else piece_then (piece_in b) (rank_in (room - 1) false bs)

-- the ranks below and then this one, if both are there
abbrev pub ranks_then : Option (List (Option Piece)) → Option (List (Option Piece)) → Option (List (Option Piece))
ranks_then below None = None
ranks_then below (Some here) = elim below [ None ↦ None | Some cells ↦ Some (cells ++ here) ]

-- the cells of the ranks from this one down to the first
unfoldable pub ranks_in : ℕ → List ℕ → Option (List (Option Piece))
ranks_in zero text = rank_in 8 false text
ranks_in (suc rank) text =
    ranks_then
    (ranks_in rank (after_first (λ b. b == 47) text))
    (rank_in 8 false (before_first (λ b. b == 47) text))

-- the side of a letter
abbrev pub turn_in : List ℕ → Option Colour
turn_in (b ∷ []) = if b == 119 then Some White else if b == 98 then Some Black else None
turn_in _ = None

-- the text begins with this letter
abbrev pub has_first : ℕ → List ℕ → Bool
has_first c [] = false
has_first c (b ∷ bs) = b == c

-- what stands behind this letter, if the text begins with it, or else the text
abbrev pub past_first : ℕ → List ℕ → List ℕ
past_first c [] = []
past_first c (b ∷ bs) = if b == c then bs else b ∷ bs

-- the castlings of letters in their order with nothing behind them
unfoldable pub castlings_in : List ℕ → Option Rights
castlings_in text =
    let behind_k = past_first 75 text in
    let behind_q = past_first 81 behind_k in
    let behind_small_k = past_first 107 behind_q in
    if length (past_first 113 behind_small_k) == 0 then
    Some (record {
      white_short = has_first 75 text;
      white_long = has_first 81 behind_k;
      black_short = has_first 107 behind_q;
      black_long = has_first 113 behind_small_k;
    })
    else None

-- no castling is left
abbrev pub no_rights : Rights
no_rights = record { white_short = false; white_long = false; black_short = false; black_long = false }

-- the castlings of a dash or of letters
abbrev pub rights_in : List ℕ → Option Rights
rights_in [] = None
rights_in (b ∷ []) = if b == 45 then Some no_rights else castlings_in (b ∷ [])
rights_in (b ∷ c ∷ bs) = castlings_in (b ∷ c ∷ bs)

-- a square, or none
abbrev pub some_square : Option ℕ → Option (Option ℕ)
some_square None = None
some_square (Some s) = Some (Some s)

-- the square of a dash or of a letter and a digit
abbrev pub ep_in : List ℕ → Option (Option ℕ)
ep_in (b ∷ []) = if b == 45 then Some None else None
ep_in (f ∷ r ∷ []) = some_square (square_in f r)
ep_in _ = None

-- the field with this number, counted from 1
abbrev pub field : List ℕ → ℕ → List ℕ
field text n = before_first (λ b. b == 32) (behind (n - 1) text)
