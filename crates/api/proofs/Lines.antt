-- The line of an entry is text.
use Rattle.std.proofs.Common.{◌≡◌, ℕ, zero, suc, slice_index, ◌+◌, ◌<◌, ◌≤◌, ◌^◌, ◌++◌, List, [], ◌∷◌, Option, Some, None, refl, arith, codes}
use Rattle.std.specs.Str.{IsAscii, IsUtf8}
use Rattle.std.proofs.lemmas.Str.{IsAscii-append, IsUtf8-from_ascii}
use Rattle.std.proofs.lemmas.Str.Ascii.{IsAscii-nil}
use Rattle.std.proofs.lemmas.Fmt.{IsAscii-decimal}
use Rattle.board.specs.declared.piece.Kind.{Kind}
use Rattle.board.specs.declared.piece.Kind.TheVariants.{Pawn, Knight, Bishop, Rook, Queen, King}
use Rattle.board.specs.Moves.{MoveWord, IsMove}
use Rattle.board.specs.Square.{file_of, rank_of}
use Rattle.board.specs.Words.{move_word, promo_word, square_word}
use Rattle.entries.specs.declared.action.Action.{Action}
use Rattle.entries.specs.declared.action.Action.TheVariants.{Move, Resign, Offer, Accept, Decline, Claim, Berserk}
use Rattle.entries.specs.declared.journal.Entry.{Entry}
use Rattle.entries.specs.declared.journal.What.{What}
use Rattle.entries.specs.declared.journal.What.TheVariants.{Enter, Pause, Leave, Act, Tick, Wave}
use Rattle.journal_text.specs.Lines.{spaced}
use Rattle.journal_text.specs.Text.{action_words, what_words, entry_words}
use Rattle.entries.specs.Ranges.{IsAction}
use Rattle.api.specs.Short.{NamesShort, IsShort}

-- each word is text
abbrev AllAscii : List (List ℕ) → Type 0
AllAscii [] = Unit {0}
AllAscii (word ∷ words) = IsAscii word × AllAscii words

-- each byte is below 128
abbrev AllSmall : List ℕ → Type 0
AllSmall [] = Unit {0}
AllSmall (b ∷ bs) = (b < 128) × AllSmall bs

letters : (bs : List ℕ) → AllSmall bs → IsAscii bs
letters [] h = IsAscii-nil
letters (b ∷ bs) h = at h.0 (letters bs h.1)
  where
    at : b < 128 → IsAscii bs → (i : ℕ) → slice_index (b ∷ bs) i < 128
    at l ih zero = l
    at l ih (suc i) = ih i

space : IsAscii (32 ∷ [])
space = letters (32 ∷ []) (search arith)

spaced-ascii : (words : List (List ℕ)) → AllAscii words → IsAscii (spaced words)
spaced-ascii [] h = IsAscii-nil
spaced-ascii (x ∷ []) h = h.0
spaced-ascii (x ∷ y ∷ words) h = IsAscii-append x (32 ∷ spaced (y ∷ words)) h.0 (IsAscii-append (32 ∷ []) (spaced (y ∷ words)) space (spaced-ascii (y ∷ words) h.1))

promo-ascii : (k : Option Kind) → IsAscii (promo_word k)
promo-ascii None = IsAscii-nil
promo-ascii (Some Pawn) = letters (112 ∷ []) (search arith)
promo-ascii (Some Knight) = letters (110 ∷ []) (search arith)
promo-ascii (Some Bishop) = letters (98 ∷ []) (search arith)
promo-ascii (Some Rook) = letters (114 ∷ []) (search arith)
promo-ascii (Some Queen) = letters (113 ∷ []) (search arith)
promo-ascii (Some King) = letters (107 ∷ []) (search arith)

squares-ascii : (m : MoveWord) → IsMove m → IsAscii (move_word m)
squares-ascii m h =
    IsAscii-append (square_word m.from) (square_word m.to ++ promo_word m.promo) (square m.from h.from)
    (IsAscii-append (square_word m.to) (promo_word m.promo) (square m.to h.to) (promo-ascii m.promo))
  where
    square : (s : ℕ) → s < 64 → IsAscii (square_word s)
    square s l = letters (square_word s) (omega arith, (omega arith, tt))

action-ascii : (a : Action) → IsAction a → AllAscii (action_words a)
action-ascii (Move m) h = (letters (codes "move") (search arith), (squares-ascii m h, tt))
action-ascii Resign h = (letters (codes "resign") (search arith), tt)
action-ascii Offer h = (letters (codes "offer") (search arith), tt)
action-ascii Accept h = (letters (codes "accept") (search arith), tt)
action-ascii Decline h = (letters (codes "decline") (search arith), tt)
action-ascii Claim h = (letters (codes "claim") (search arith), tt)
action-ascii Berserk h = (letters (codes "berserk") (search arith), tt)

what-ascii : (w : What) → NamesShort w → AllAscii (what_words w)
what-ascii (Enter p) h = (letters (codes "enter") (search arith), (IsAscii-decimal p h, tt))
what-ascii (Pause p) h = (letters (codes "pause") (search arith), (IsAscii-decimal p h, tt))
what-ascii (Leave p) h = (letters (codes "leave") (search arith), (IsAscii-decimal p h, tt))
what-ascii (Act p game a) h = (letters (codes "act") (search arith), (IsAscii-decimal p h.0, (IsAscii-decimal game h.1, action-ascii a h.2)))
what-ascii Tick h = (letters (codes "tick") (search arith), tt)
what-ascii (Wave n) h = (letters (codes "wave") (search arith), (IsAscii-decimal n h, tt))

pub line_is_text : (e : Entry) → IsShort e → IsUtf8 (spaced (entry_words e))
line_is_text e h =
    IsUtf8-from_ascii (spaced (entry_words e))
    (spaced-ascii (entry_words e) (IsAscii-decimal e.stamp h.stamp, (IsAscii-decimal e.pass h.pass, what-ascii e.what h.what)))
