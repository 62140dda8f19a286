-- The lines of the entries: what they say is what they were written from, and what was written is read again.
use Rattle.std.proofs.Common.{◌≡◌, ℕ, ◌^◌, ◌<◌, ◌≤◌, Bool, true, false, cond, eqb, leb, ltb, not, ◌&&◌, List, [], ◌∷◌, ◌++◌, length, map, Option, Some, None, is_some, Ok, option_and_then, refl, sym, ap, subst, ◌∙◌, arith, inl, inr, append_assoc}
use Rattle.std.specs.Prelude.{codes, IfSome, IsTrue}
use Rattle.std.specs.Fmt.{decimal}
use Rattle.std.specs.List.{list_all}
use Rattle.std.specs.Str.{bytes_eq}
use Rattle.std.proofs.lemmas.Bool.{cases_Bool, and_parts, and_from, leb-true, le-leb, ltb-true, lt-ltb}
use Rattle.std.proofs.lemmas.Bool.Decides.{nat_tests}
use Rattle.std.proofs.lemmas.List.{length-map}
use Rattle.board.specs.declared.piece.Kind.{Kind as PieceKind}
use Rattle.board.specs.declared.piece.Kind.TheVariants.{Pawn, Knight, Bishop, Rook, Queen, King}
use Rattle.board.specs.Moves.{MoveWord, IsMove, can_be_promo}
use Rattle.board.specs.Words.{move_word}
use Rattle.board.specs.Reading.{square_in, kind_in, promotion, promo_in, joined, joined_with, move_in}
use Rattle.board.proofs.Spelling.{move_in-spells, move_in-word}
use Rattle.decimals.proofs.DecimalLemmas.{number_of-decimal}
use Rattle.entries.specs.Ranges.{IsAction, IsWhatOf, IsEntryOf}
use Rattle.entries.specs.declared.action.Action.{Action}
use Rattle.entries.specs.declared.action.Action.TheVariants as action
use Rattle.entries.specs.declared.journal.What.{What}
use Rattle.entries.specs.declared.journal.What.TheVariants as what
use Rattle.entries.specs.declared.journal.Entry.{Entry}
use Rattle.entries.specs.declared.journal.Start.{Start}
use Rattle.journal_text.specs.declared.entry_form.Kind.{Kind}
use Rattle.journal_text.specs.declared.entry_form.Kind.TheVariants as kind
use Rattle.journal_text.specs.declared.entry_form.Deed.{Deed}
use Rattle.journal_text.specs.declared.entry_form.Deed.TheVariants.{Enter, Pause, Leave, Act, Tick, Wave}
use Rattle.journal_text.specs.declared.entry_form.Said.{Said}
use Rattle.journal_text.specs.Lines.{no_words, next_word}
use Rattle.journal_text.specs.Text.{action_words, what_words, entry_words, pair_word}
use Rattle.journal_text.specs.EntryForms.{next_number, kind_of, action_of, action_form, deed_of, are_pairs, ends_well, entry_form, deed_fits, pair_in, pairs_fit, entry_fits, what_made, entry_made, entry_in}
use Rattle.journal_text.proofs.Fails.{bind_some, guard_some, some, some_is, judged_ok, judged_again}
use Rattle.journal_text.proofs.FormLemmas.{same_word, next_number_is, next_word_is}
use Rattle.journal_text.proofs.PairLines.{AreGames, pairs_fit_again, pairs_form_again}

-- ---- moves

-- a square that is read is one of the board
square_in-below : (f r s : ℕ) → square_in f r ≡ Some s → s < 64
square_in-below f r s e = grind (arith, nat_tests, some_is)

-- two squares that are read, and what a pawn becomes, are a move
joined-IsMove : (x y : Option ℕ) (promo : Option PieceKind) (m : MoveWord) → ((s : ℕ) → x ≡ Some s → s < 64) → ((s : ℕ) → y ≡ Some s → s < 64) → can_be_promo promo ≡ true → joined x y promo ≡ Some m → IsMove m
joined-IsMove None y promo m from to can e = absurd cc
joined-IsMove (Some a) None promo m from to can e = absurd cc
joined-IsMove (Some a) (Some b) promo m from to can e = subst IsMove (some_is (record { from = a; to = b; promo = promo }) m e) (record { from = from a refl; to = to b refl; promo = can })

-- what is read as a promotion can be one
promotion-can : (o p : Option PieceKind) → promotion o ≡ p → can_be_promo p ≡ true
promotion-can None p e = subst (λ (p : Option PieceKind). can_be_promo p ≡ true) e refl
promotion-can (Some Pawn) p e = subst (λ (p : Option PieceKind). can_be_promo p ≡ true) e refl
promotion-can (Some Knight) p e = subst (λ (p : Option PieceKind). can_be_promo p ≡ true) e refl
promotion-can (Some Bishop) p e = subst (λ (p : Option PieceKind). can_be_promo p ≡ true) e refl
promotion-can (Some Rook) p e = subst (λ (p : Option PieceKind). can_be_promo p ≡ true) e refl
promotion-can (Some Queen) p e = subst (λ (p : Option PieceKind). can_be_promo p ≡ true) e refl
promotion-can (Some King) p e = subst (λ (p : Option PieceKind). can_be_promo p ≡ true) e refl

-- the same with a promotion that may not be there
joined_with-IsMove : (a b c d : ℕ) (o p : Option PieceKind) (m : MoveWord) → promotion o ≡ p → joined_with (square_in a b) (square_in c d) p ≡ Some m → IsMove m
joined_with-IsMove a b c d o None m is e = absurd cc
joined_with-IsMove a b c d o (Some k) m is e = joined-IsMove (square_in a b) (square_in c d) (Some k) m (square_in-below a b) (square_in-below c d) (promotion-can o (Some k) is) e

-- what is read as a move can be named
move_in-IsMove : (word : List ℕ) (m : MoveWord) → move_in word ≡ Some m → IsMove m
move_in-IsMove (a ∷ b ∷ c ∷ d ∷ []) m e = joined-IsMove (square_in a b) (square_in c d) None m (square_in-below a b) (square_in-below c d) refl e
move_in-IsMove (a ∷ b ∷ c ∷ d ∷ p ∷ []) m e = joined_with-IsMove a b c d (kind_in p) (promo_in p) m refl e
move_in-IsMove [] m e = absurd cc
move_in-IsMove (a ∷ []) m e = absurd cc
move_in-IsMove (a ∷ b ∷ []) m e = absurd cc
move_in-IsMove (a ∷ b ∷ c ∷ []) m e = absurd cc
move_in-IsMove (a ∷ b ∷ c ∷ d ∷ p ∷ q ∷ more) m e = absurd cc

-- what is read as a move was written so
move_takes : (word : List ℕ) (m : MoveWord) → move_in word ≡ Some m → word ≡ move_word m
move_takes word m e = sym (subst (λ (o : Option MoveWord). IfSome o (λ m. move_word m ≡ word)) e (move_in-spells word))

-- ---- what an entry did

-- of a test for one word and those behind it, what was chosen is what the words say
choose : {K : Type 0} (P : K → Type 0) (word key : List ℕ) (k chosen : K) (others : Option K) → cond (bytes_eq word key) (Some k) others ≡ Some chosen → (word ≡ key → P k) → (others ≡ Some chosen → P chosen) → P chosen
choose P word key k chosen others e here there =
    elim (cases_Bool (bytes_eq word key)) [
      | inl yes-this ↦ subst P (some_is k chosen (rw yes-this at e)) (here (same_word word key yes-this))
      | inr other ↦ there (rw other at e)
    ]

-- the word of a kind
kind_word : Kind → List ℕ
kind_word kind.Enter = codes "enter"
kind_word kind.Pause = codes "pause"
kind_word kind.Leave = codes "leave"
kind_word kind.Act = codes "act"
kind_word kind.Tick = codes "tick"
kind_word kind.Wave = codes "wave"

-- a word that is read as a kind is its word
kind_takes : (word : List ℕ) (k : Kind) → kind_of word ≡ Some k → word ≡ kind_word k
unfolding kind_of kind_word
kind_takes word k e =
    let P : Kind → Type 0 = λ k. word ≡ kind_word k in
    choose P word (codes "enter") kind.Enter k _ e (λ is. is) (λ e.
    choose P word (codes "pause") kind.Pause k _ e (λ is. is) (λ e.
    choose P word (codes "leave") kind.Leave k _ e (λ is. is) (λ e.
    choose P word (codes "act") kind.Act k _ e (λ is. is) (λ e.
    choose P word (codes "tick") kind.Tick k _ e (λ is. is) (λ e.
    choose P word (codes "wave") kind.Wave k _ e (λ is. is) (λ e. absurd cc))))))

-- words that say an action, and others behind them
abbrev SaysAction : List (List ℕ) → Action × List (List ℕ) → Type 0
SaysAction words a = (words ≡ action_words a.0 ++ a.1) × IsAction a.0

-- a word that is read as an action says it
action_takes : (word : List ℕ) (rest : List (List ℕ)) (a : Action) → action_of word ≡ Some a → SaysAction (word ∷ rest) (a, rest)
unfolding action_of
action_takes word rest a e =
    let P : Action → Type 0 = λ a. SaysAction (word ∷ rest) (a, rest) in
    let says : (key : List ℕ) → word ≡ key → word ∷ rest ≡ key ∷ rest = λ key is. ap (λ (w : List ℕ). w ∷ rest) is in
    choose P word (codes "resign") action.Resign a _ e (λ is. (says (codes "resign") is, tt)) (λ e.
    choose P word (codes "offer") action.Offer a _ e (λ is. (says (codes "offer") is, tt)) (λ e.
    choose P word (codes "accept") action.Accept a _ e (λ is. (says (codes "accept") is, tt)) (λ e.
    choose P word (codes "decline") action.Decline a _ e (λ is. (says (codes "decline") is, tt)) (λ e.
    choose P word (codes "claim") action.Claim a _ e (λ is. (says (codes "claim") is, tt)) (λ e.
    choose P word (codes "berserk") action.Berserk a _ e (λ is. (says (codes "berserk") is, tt)) (λ e. absurd cc))))))

-- words that are read as a move say it
move_form_takes : (words : List (List ℕ)) (a : Action × List (List ℕ)) → option_and_then (λ (m : List ℕ × List (List ℕ)). option_and_then (λ (made : MoveWord). some (action.Move made, m.1)) (move_in m.0)) (next_word words) ≡ Some a → SaysAction (codes "move" ∷ words) a
move_form_takes words a e =
    let m = bind_some (next_word words) _ a e in
    let b = bind_some (move_in m.0.0) (λ (made : MoveWord). some (action.Move made, m.0.1)) a m.2 in
    let words_are : words ≡ move_word b.0 ∷ m.0.1 = next_word_is words m.0 m.1 ∙ ap (λ (w : List ℕ). w ∷ m.0.1) (move_takes m.0.0 b.0 b.1) in
    subst (SaysAction (codes "move" ∷ words)) (some_is (action.Move b.0, m.0.1) a b.2) (ap (λ (ws : List (List ℕ)). codes "move" ∷ ws) words_are, move_in-IsMove m.0.0 b.0 b.1)

-- words that are read as an action, and others behind them, say it
action_form_takes : (words : List (List ℕ)) (a : Action × List (List ℕ)) → action_form words ≡ Some a → SaysAction words a
unfolding action_form
action_form_takes [] a e = absurd cc
action_form_takes (word ∷ words) a e =
    elim (cases_Bool (bytes_eq word (codes "move"))) [
      | inl move ↦ subst (λ (w : List ℕ). SaysAction (w ∷ words) a) (sym (same_word word (codes "move") move)) (move_form_takes words a (rw move at e))
      | inr other ↦
          let b = bind_some (action_of word) (λ did. some (did, words)) a (rw other at e) in
          subst (SaysAction (word ∷ words)) (some_is (b.0, words) a b.2) (action_takes word words b.0 b.1)
    ]

-- the action of a deed can be named
abbrev pub CanBeNamed : Deed → Type 0
CanBeNamed (Act p g a) = IsAction a
CanBeNamed _ = Unit {0}

-- words that say what an entry did, and others behind them
abbrev SaysDeed : List (List ℕ) → Deed × List (List ℕ) → Type 0
SaysDeed words d = (words ≡ what_words (what_made d.0) ++ d.1) × CanBeNamed d.0

-- a number behind a word
numbered : (key : List ℕ) (words : List (List ℕ)) (made : ℕ → Deed) (d : Deed × List (List ℕ)) → ((n : ℕ) (rest : List (List ℕ)) → SaysDeed (key ∷ decimal n ∷ rest) (made n, rest)) → option_and_then (λ (p : ℕ × List (List ℕ)). some (made p.0, p.1)) (next_number words) ≡ Some d → SaysDeed (key ∷ words) d
numbered key words made d says e =
    let p = bind_some (next_number words) (λ (p : ℕ × List (List ℕ)). some (made p.0, p.1)) d e in
    subst (SaysDeed (key ∷ words)) (some_is (made p.0.0, p.0.1) d p.2) (subst (λ (ws : List (List ℕ)). SaysDeed (key ∷ ws) (made p.0.0, p.0.1)) (sym (next_number_is words p.0 p.1)) (says p.0.0 p.0.1))

-- words that are read as what an entry of this kind did say it
deed_takes : (k : Kind) (words : List (List ℕ)) (d : Deed × List (List ℕ)) → deed_of k words ≡ Some d → SaysDeed (kind_word k ∷ words) d
unfolding deed_of kind_word
deed_takes kind.Enter words d e = numbered (codes "enter") words Enter d (λ n rest. (refl, tt)) e
deed_takes kind.Pause words d e = numbered (codes "pause") words Pause d (λ n rest. (refl, tt)) e
deed_takes kind.Leave words d e = numbered (codes "leave") words Leave d (λ n rest. (refl, tt)) e
deed_takes kind.Wave words d e = numbered (codes "wave") words Wave d (λ n rest. (refl, tt)) e
deed_takes kind.Tick words d e = subst (SaysDeed (codes "tick" ∷ words)) (some_is (Tick, words) d e) (refl, tt)
deed_takes kind.Act words d e =
    let p = bind_some (next_number words) _ d e in
    let g = bind_some (next_number p.0.1) _ d p.2 in
    let a = bind_some (action_form g.0.1) (λ (a : Action × List (List ℕ)). some (Act p.0.0 g.0.0 a.0, a.1)) d g.2 in
    let says = action_form_takes g.0.1 a.0 a.1 in
    let are : words ≡ decimal p.0.0 ∷ decimal g.0.0 ∷ (action_words a.0.0 ++ a.0.1) = next_number_is words p.0 p.1 ∙ ap (λ (ws : List (List ℕ)). decimal p.0.0 ∷ ws) (next_number_is p.0.1 g.0 g.1 ∙ ap (λ (ws : List (List ℕ)). decimal g.0.0 ∷ ws) says.0) in
    subst (SaysDeed (codes "act" ∷ words)) (some_is (Act p.0.0 g.0.0 a.0.0, a.0.1) d a.2) (ap (λ (ws : List (List ℕ)). codes "act" ∷ ws) are, says.1)

-- ---- an entry

-- words that say an entry, and the words of its pairs
pub record SaysEntry (version : ℕ) (words : List (List ℕ)) (e : Said × List (List ℕ)) : Type 0 where
  pub words_are : words ≡ entry_words (entry_made e.0) ++ e.1
  pub named : CanBeNamed e.0.deed
  pub ends : ends_well version e.0.deed e.1 ≡ true

-- a line with the form of an entry has just its words
pub entry_form_takes : (version : ℕ) (words : List (List ℕ)) (e : Said × List (List ℕ)) → entry_form version words ≡ Some e → SaysEntry version words e
unfolding entry_form
entry_form_takes version words e h =
    let s = bind_some (next_number words) _ e h in
    let p = bind_some (next_number s.0.1) _ e s.2 in
    let w = bind_some (next_word p.0.1) _ e p.2 in
    let k = bind_some (kind_of w.0.0) _ e w.2 in
    let d = bind_some (deed_of k.0 w.0.1) _ e k.2 in
    let g = guard_some (ends_well version d.0.0 d.0.1) (some (record { stamp = s.0.0; pass = p.0.0; deed = d.0.0 }, d.0.1)) e d.2 in
    let says = deed_takes k.0 w.0.1 d.0 d.1 in
    let did : p.0.1 ≡ what_words (what_made d.0.0) ++ d.0.1 = next_word_is p.0.1 w.0 w.1 ∙ ap (λ (x : List ℕ). x ∷ w.0.1) (kind_takes w.0.0 k.0 k.1) ∙ says.0 in
    let are : words ≡ decimal s.0.0 ∷ decimal p.0.0 ∷ (what_words (what_made d.0.0) ++ d.0.1) = next_number_is words s.0 s.1 ∙ ap (λ (ws : List (List ℕ)). decimal s.0.0 ∷ ws) (next_number_is s.0.1 p.0 p.1 ∙ ap (λ (ws : List (List ℕ)). decimal p.0.0 ∷ ws) did) in
    subst (SaysEntry version words) (some_is (record { stamp = s.0.0; pass = p.0.0; deed = d.0.0 }, d.0.1) e g.1) (record { words_are = are; named = says.1; ends = g.0 })

-- what an entry did is in range where the tests say so
deed_in_range : (players : ℕ) (d : Deed) → CanBeNamed d → deed_fits players d ≡ true → IsWhatOf players (what_made d)
deed_in_range players (Enter p) named fit = ltb-true p players fit
deed_in_range players (Pause p) named fit = ltb-true p players fit
deed_in_range players (Leave p) named fit = ltb-true p players fit
deed_in_range players (Act p game a) named fit = let parts = and_parts (ltb p players) (ltb game 200000) fit in (ltb-true p players parts.0, ltb-true game 200000 parts.1, named)
deed_in_range players Tick named fit = tt
deed_in_range players (Wave n) named fit = leb-true n 8000000 fit

-- an entry that a line says, with the words of its pairs
pub record IsEntryIn (version players entries : ℕ) (words : List (List ℕ)) (e : Entry × List (List ℕ)) : Type 0 where
  pub deed : Deed
  pub did : e.0.what ≡ what_made deed
  pub words_are : words ≡ entry_words e.0 ++ e.1
  pub ends : ends_well version deed e.1 ≡ true
  pub range : IsEntryOf players e.0
  pub few : length e.1 ≤ 500
  pub pairs : list_all (λ w. is_some (pair_in players w)) e.1 ≡ true
  pub room : entries < 8000000

-- the entry that a line says has these words and is in range, and there was room for it
pub entry_takes : (version players entries : ℕ) (words : List (List ℕ)) (e : Entry × List (List ℕ)) → entry_in version players entries words ≡ Ok e → IsEntryIn version players entries words e
unfolding entry_in
entry_takes version players entries words e h =
    let j = judged_ok (entry_form version words) (entry_fits players entries) (λ (s : Said × List (List ℕ)). (entry_made s.0, s.1)) e h in
    let says = entry_form_takes version words j.0 j.1 in
    let a = and_parts _ (ltb entries 8000000) j.2 in
    let b = and_parts _ (pairs_fit players j.0.1) a.0 in
    let c = and_parts _ (deed_fits players j.0.0.deed) b.0 in
    let d = and_parts (leb j.0.0.stamp 1000000000) (leb j.0.0.pass 255) c.0 in
    let p = and_parts (leb (length j.0.1) 500) _ b.1 in
    subst (IsEntryIn version players entries words) j.3 (record {
      deed = j.0.0.deed;
      did = refl;
      words_are = says.words_are;
      ends = says.ends;
      range = record { stamp_most = leb-true j.0.0.stamp 1000000000 d.0; pass_most = leb-true j.0.0.pass 255 d.1; what = deed_in_range players j.0.0.deed says.named c.1 };
      few = leb-true (length j.0.1) 500 p.0;
      pairs = p.1;
      room = ltb-true entries 8000000 a.1;
    })

-- ---- what was written is read again

-- what a line says of what an entry did
abbrev pub deed_from : What → Deed
deed_from (what.Enter p) = Enter p
deed_from (what.Pause p) = Pause p
deed_from (what.Leave p) = Leave p
deed_from (what.Act p game a) = Act p game a
deed_from what.Tick = Tick
deed_from (what.Wave n) = Wave n

-- it is made of it again
what_again : (did : What) → what_made (deed_from did) ≡ did
what_again (what.Enter p) = refl
what_again (what.Pause p) = refl
what_again (what.Leave p) = refl
what_again (what.Act p game a) = refl
what_again what.Tick = refl
what_again (what.Wave n) = refl

-- an action that was written is read again
action_again : (a : Action) (rest : List (List ℕ)) → IsAction a → action_form (action_words a ++ rest) ≡ Some (a, rest)
unfolding action_form action_of
action_again (action.Move m) rest h = rw (move_in-word m h) refl
action_again action.Resign rest h = refl
action_again action.Offer rest h = refl
action_again action.Accept rest h = refl
action_again action.Decline rest h = refl
action_again action.Claim rest h = refl
action_again action.Berserk rest h = refl

-- the kind of what an entry did, and the words behind that of the kind
abbrev kind_from : What → Kind
kind_from (what.Enter p) = kind.Enter
kind_from (what.Pause p) = kind.Pause
kind_from (what.Leave p) = kind.Leave
kind_from (what.Act p game a) = kind.Act
kind_from what.Tick = kind.Tick
kind_from (what.Wave n) = kind.Wave

-- what an entry did is read again
deed_again : {A : Type 0} (did : What) (players : ℕ) (rest : List (List ℕ)) (further : Deed × List (List ℕ) → Option A) → players ≤ 1000 → IsWhatOf players did → option_and_then (λ (w : List ℕ × List (List ℕ)). option_and_then (λ k. option_and_then further (deed_of k w.1)) (kind_of w.0)) (next_word (what_words did ++ rest)) ≡ further (deed_from did, rest)
unfolding kind_of deed_of
deed_again (what.Enter p) players rest further most h = rw (number_of-decimal p (omega (arith, h))) refl
deed_again (what.Pause p) players rest further most h = rw (number_of-decimal p (omega (arith, h))) refl
deed_again (what.Leave p) players rest further most h = rw (number_of-decimal p (omega (arith, h))) refl
deed_again (what.Act p game a) players rest further most h = rw (number_of-decimal p (omega (arith, h.0)), number_of-decimal game (omega (arith, h.1)), action_again a rest h.2) refl
deed_again what.Tick players rest further most h = refl
deed_again (what.Wave n) players rest further most h = rw (number_of-decimal n (omega (arith, h))) refl

-- what a line says of an entry
abbrev said_from : Entry → Said
said_from e = record { stamp = e.stamp; pass = e.pass; deed = deed_from e.what }

-- an entry with this stamp and pass
abbrev entry_with : ℕ → ℕ → What → Entry
entry_with stamp pass what = record { stamp = stamp; pass = pass; what = what }

-- what is in range passes the tests
deed_fits_again : (players : ℕ) (did : What) → IsWhatOf players did → deed_fits players (deed_from did) ≡ true
deed_fits_again players (what.Enter p) h = lt-ltb p players h
deed_fits_again players (what.Pause p) h = lt-ltb p players h
deed_fits_again players (what.Leave p) h = lt-ltb p players h
deed_fits_again players (what.Act p game a) h = and_from _ _ (lt-ltb p players h.0) (lt-ltb game 200000 h.1)
deed_fits_again players what.Tick h = refl
deed_fits_again players (what.Wave n) h = le-leb n 8000000 h

-- the words of an entry in range, and of games that it may list, say this entry
pub entry_again : (version players entries : ℕ) (e : Entry) (games : List Start) → players ≤ 1000 → entries < 8000000 → IsEntryOf players e → AreGames players entries games → length games ≤ 500 → ends_well version (deed_from e.what) (map pair_word games) ≡ true
    → entry_in version players entries (entry_words e ++ map pair_word games) ≡ Ok (e, map pair_word games)
unfolding entry_in entry_form
entry_again version players entries e games most room h good few ends =
    let rest = map pair_word games in
    let formed : entry_form version (entry_words e ++ rest) ≡ Some (said_from e, rest) = rw (number_of-decimal e.stamp (omega (arith, h.stamp_most)), number_of-decimal e.pass (omega (arith, h.pass_most)), deed_again {A = Said × List (List ℕ)} e.what players rest (λ (d : Deed × List (List ℕ)). cond (ends_well version d.0 d.1) (some (record { stamp = e.stamp; pass = e.pass; deed = d.0 }, d.1)) None) most h.what, ends) refl in
    let fit : entry_fits players entries (said_from e, rest) ≡ true =
    and_from _ _ (and_from _ _ (and_from _ _ (and_from _ _ (le-leb e.stamp 1000000000 h.stamp_most) (le-leb e.pass 255 h.pass_most)) (deed_fits_again players e.what h.what)) (and_from _ _ (le-leb (length rest) 500 (omega (arith, few, length-map games pair_word))) (pairs_fit_again players entries games most good))) (lt-ltb entries 8000000 room) in
    judged_again (entry_form version (entry_words e ++ rest)) (entry_fits players entries) (λ (s : Said × List (List ℕ)). (entry_made s.0, s.1)) (said_from e, rest) formed fit
    ∙ ap (λ (did : What). Ok (entry_with e.stamp e.pass did, rest)) (what_again e.what)
