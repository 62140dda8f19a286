-- Words that are put one behind the other are a line.
use Rattle.std.proofs.Common.{◌≡◌, ℕ, ◌+◌, cond, true, false, eqb, List, [], ◌∷◌, ◌++◌, map, Option, Some, None, refl, sym, ap, ◌∙◌, append_assoc, append-nil}
use Rattle.std.specs.Prelude.{codes}
use Rattle.std.specs.Fmt.{decimal}
use Rattle.std.specs.List.{flat_map}
use Rattle.board.specs.Moves.{MoveWord}
use Rattle.board.specs.Words.{move_word}
use Rattle.entries.specs.declared.action.Action.{Action}
use Rattle.entries.specs.declared.action.Action.TheVariants as action
use Rattle.entries.specs.declared.setup.Setup.{Setup}
use Rattle.entries.specs.declared.journal.What.{What}
use Rattle.entries.specs.declared.journal.What.TheVariants.{Enter, Pause, Leave, Act, Tick, Wave}
use Rattle.entries.specs.declared.journal.Entry.{Entry}
use Rattle.entries.specs.declared.journal.Start.{Start}
use Rattle.journal_text.specs.Lines.{spaced, line}
use Rattle.journal_text.specs.Text.{action_words, what_words, entry_words, pair_word}
use Rattle.journal_text.specs.Writing.{own_of, behind_own, pairs_text, entry_text, entries_text}

-- two words and a line feed
pub two_words : (text a b : List ℕ) → (text ++ a ++ 32 ∷ []) ++ b ++ 10 ∷ [] ≡ text ++ line (a ∷ b ∷ [])
two_words text a b = simp append_assoc

-- three words and a line feed
pub three_words : (text a b c : List ℕ) → ((text ++ a ++ 32 ∷ []) ++ b ++ 32 ∷ []) ++ c ++ 10 ∷ [] ≡ text ++ line (a ∷ b ∷ c ∷ [])
three_words text a b c = simp append_assoc

-- four words and a line feed
pub four_words : (text a b c d : List ℕ) → (((text ++ a ++ 32 ∷ []) ++ b ++ 32 ∷ []) ++ c ++ 32 ∷ []) ++ d ++ 10 ∷ [] ≡ text ++ line (a ∷ b ∷ c ∷ d ∷ [])
four_words text a b c d = simp append_assoc

-- two words
pub two_last : (text a b : List ℕ) → (text ++ a ++ 32 ∷ []) ++ b ≡ text ++ spaced (a ∷ b ∷ [])
two_last text a b = simp append_assoc

-- a move and its word
pub move_put : (text : List ℕ) (m : MoveWord) → (text ++ codes "move" ++ 32 ∷ []) ++ move_word m ≡ text ++ spaced (codes "move" ∷ move_word m ∷ [])
move_put text m = two_last text (codes "move") (move_word m)

-- words before those of an action
three_before : (text a b c d : List ℕ) (more : List (List ℕ)) → (((text ++ a ++ 32 ∷ []) ++ b ++ 32 ∷ []) ++ c ++ 32 ∷ []) ++ spaced (d ∷ more) ≡ text ++ spaced (a ∷ b ∷ c ∷ d ∷ more)
three_before text a b c d more = simp append_assoc

-- what a player did in a game
pub act_put : (text : List ℕ) (p g : ℕ) (a : Action) → (((text ++ codes "act" ++ 32 ∷ []) ++ decimal p ++ 32 ∷ []) ++ decimal g ++ 32 ∷ []) ++ spaced (action_words a) ≡ text ++ spaced (what_words (Act p g a))
act_put text p g (action.Move m) = three_before text (codes "act") (decimal p) (decimal g) (codes "move") (move_word m ∷ [])
act_put text p g action.Resign = three_before text (codes "act") (decimal p) (decimal g) (codes "resign") []
act_put text p g action.Offer = three_before text (codes "act") (decimal p) (decimal g) (codes "offer") []
act_put text p g action.Accept = three_before text (codes "act") (decimal p) (decimal g) (codes "accept") []
act_put text p g action.Decline = three_before text (codes "act") (decimal p) (decimal g) (codes "decline") []
act_put text p g action.Claim = three_before text (codes "act") (decimal p) (decimal g) (codes "claim") []
act_put text p g action.Berserk = three_before text (codes "act") (decimal p) (decimal g) (codes "berserk") []

-- two words before others
two_before : (text a b c : List ℕ) (more : List (List ℕ)) → ((text ++ a ++ 32 ∷ []) ++ b ++ 32 ∷ []) ++ spaced (c ∷ more) ≡ text ++ spaced (a ∷ b ∷ c ∷ more)
two_before text a b c more = simp append_assoc

-- the stamp and the pass before what an entry did
pub entry_put : (text : List ℕ) (e : Entry) → ((text ++ decimal e.stamp ++ 32 ∷ []) ++ decimal e.pass ++ 32 ∷ []) ++ spaced (what_words e.what) ≡ text ++ spaced (entry_words e)
entry_put text e = of_what e.what
  where
    put : (c : List ℕ) (more : List (List ℕ)) → ((text ++ decimal e.stamp ++ 32 ∷ []) ++ decimal e.pass ++ 32 ∷ []) ++ spaced (c ∷ more) ≡ text ++ spaced (decimal e.stamp ∷ decimal e.pass ∷ c ∷ more)
    put c more = two_before text (decimal e.stamp) (decimal e.pass) c more

    of_what : (did : What) → ((text ++ decimal e.stamp ++ 32 ∷ []) ++ decimal e.pass ++ 32 ∷ []) ++ spaced (what_words did) ≡ text ++ spaced (decimal e.stamp ∷ decimal e.pass ∷ what_words did)
    of_what (Enter player) = put (codes "enter") (decimal player ∷ [])
    of_what (Pause player) = put (codes "pause") (decimal player ∷ [])
    of_what (Leave player) = put (codes "leave") (decimal player ∷ [])
    of_what (Act player game did) = put (codes "act") (decimal player ∷ decimal game ∷ action_words did)
    of_what Tick = put (codes "tick") []
    of_what (Wave n) = put (codes "wave") (decimal n ∷ [])

-- a space and a pair
pub pair_put : (text a b : List ℕ) → ((text ++ 32 ∷ []) ++ a ++ 45 ∷ []) ++ b ≡ text ++ 32 ∷ (a ++ 45 ∷ b)
pair_put text a b = simp append_assoc

-- an entry, its pairs and a line feed
pub entry_line_put : (text e p : List ℕ) → ((text ++ e) ++ p) ++ 10 ∷ [] ≡ text ++ e ++ p ++ 10 ∷ []
entry_line_put text e p = simp append_assoc
