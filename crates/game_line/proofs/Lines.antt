-- Lines of moves, one move at a time.
use Rattle.std.proofs.Common.{◌≡◌, ◌+◌, List, [], ◌∷◌, ◌++◌, length, map, refl, sym, ap, ◌∙◌, subst, Option, None, Some, arith, ◌↔◌}
use Rattle.std.specs.List.{last_or, All, fold}
use Rattle.std.proofs.lemmas.List.{map-append, length-map}
use Rattle.board.specs.declared.parts.Parts.{Parts}
use Rattle.board.specs.Moves.{MoveWord}
use Rattle.board.specs.Position.{IsPosition}
use Rattle.board.specs.Start.{start_parts}
use Rattle.board.proofs.Array.{start_is_position}
use Rattle.move_rules.specs.After.{after}
use Rattle.game_line.specs.Below.{LawsOfMoves}
use Rattle.game_line.specs.Line.{Ply, after_ply, plies_from, plies, position_after, line_from, line, IsLegalPly, IsLegalLine}
use Rattle.std.proofs.lemmas.List.Elements.{All-nil, All-cons, All-head}
use Rattle.game_line.proofs.Lists.{snoc_induction, All-push, All-append_left, All-append_right}

-- the ply of a move after other moves
abbrev pub ply_after : List MoveWord → MoveWord → Ply
ply_after ms m = record { before = position_after ms; move = m }

end_from-append : (p : Parts) (ms ns : List MoveWord) → fold after p (ms ++ ns) ≡ fold after (fold after p ms) ns
end_from-append p [] ns = refl
end_from-append p (m ∷ ms) ns = end_from-append (after p m) ms ns

plies_from-append : (p : Parts) (ms ns : List MoveWord) → plies_from p (ms ++ ns) ≡ plies_from p ms ++ plies_from (fold after p ms) ns
plies_from-append p [] ns = refl
plies_from-append p (m ∷ ms) ns = ap (λ l. record { before = p; move = m } ∷ l) (plies_from-append (after p m) ms ns)

length-plies_from : (p : Parts) (ms : List MoveWord) → length (plies_from p ms) ≡ length ms
length-plies_from p [] = refl
length-plies_from p (m ∷ ms) = let rest = length-plies_from (after p m) ms in omega arith

last_of_plies : (p : Parts) (o : Option Parts) (ms : List MoveWord) → last_or o (p ∷ map after_ply (plies_from p ms)) ≡ Some (fold after p ms)
last_of_plies p o [] = refl
last_of_plies p o (m ∷ ms) = last_of_plies (after p m) (Some p) ms

pub position_after-push : (ms : List MoveWord) (m : MoveWord) → position_after (ms ++ m ∷ []) ≡ after (position_after ms) m
unfolding position_after
position_after-push ms m = end_from-append start_parts ms (m ∷ [])

pub position_after-append : (ms ns : List MoveWord) → position_after (ms ++ ns) ≡ fold after (position_after ms) ns
unfolding position_after
position_after-append ms ns = end_from-append start_parts ms ns

pub plies-append : (ms ns : List MoveWord) → plies (ms ++ ns) ≡ plies ms ++ plies_from (position_after ms) ns
unfolding plies position_after
plies-append ms ns = plies_from-append start_parts ms ns

pub plies-push : (ms : List MoveWord) (m : MoveWord) → plies (ms ++ m ∷ []) ≡ plies ms ++ ply_after ms m ∷ []
plies-push ms m = plies-append ms (m ∷ [])

pub length-plies : (ms : List MoveWord) → length (plies ms) ≡ length ms
unfolding plies
length-plies ms = length-plies_from start_parts ms

pub line_is : (ms : List MoveWord) → line ms ≡ start_parts ∷ map after_ply (plies ms)
unfolding line line_from plies
line_is ms = refl

pub line-nil : line [] ≡ start_parts ∷ []
unfolding line line_from
line-nil = refl

pub position_after-nil : position_after [] ≡ start_parts
unfolding position_after
position_after-nil = refl

pub line-push : (ms : List MoveWord) (m : MoveWord) → line (ms ++ m ∷ []) ≡ line ms ++ position_after (ms ++ m ∷ []) ∷ []
line-push ms m =
    line_is (ms ++ m ∷ [])
    ∙ ap (λ l. start_parts ∷ map after_ply l) (plies-push ms m)
    ∙ ap (λ l. start_parts ∷ l) (map-append after_ply (plies ms) (ply_after ms m ∷ []))
    ∙ ap (λ p. (start_parts ∷ map after_ply (plies ms)) ++ p ∷ []) (sym (position_after-push ms m))
    ∙ ap (λ l. l ++ position_after (ms ++ m ∷ []) ∷ []) (sym (line_is ms))

pub length-line : (ms : List MoveWord) → length (line ms) ≡ length ms + 1
length-line ms =
    ap length (line_is ms)
    ∙ (let one : length (map after_ply (plies ms)) ≡ length (plies ms) = length-map (plies ms) after_ply in
    let two = length-plies ms in
    omega arith)

pub last_of_line : (ms : List MoveWord) → last_or None (line ms) ≡ Some (position_after ms)
unfolding line line_from position_after
last_of_line ms = last_of_plies start_parts None ms

pub no_moves_are_legal : IsLegalLine []
unfolding IsLegalLine plies
no_moves_are_legal = λ k d h. absurd (omega arith)

pub one_more_is_legal : (ms : List MoveWord) (m : MoveWord) → IsLegalLine (ms ++ m ∷ []) ↔ (IsLegalLine ms × IsLegalPly (ply_after ms m))
unfolding IsLegalLine
one_more_is_legal ms m = (
  λ h.
      let all : All IsLegalPly (plies ms ++ ply_after ms m ∷ []) = subst (All IsLegalPly) (plies-push ms m) h in (
        All-append_left IsLegalPly (plies ms) (ply_after ms m ∷ []) all,
        All-head IsLegalPly (ply_after ms m) [] (All-append_right IsLegalPly (plies ms) (ply_after ms m ∷ []) all),
      ),
  λ t. subst (All IsLegalPly) (sym (plies-push ms m)) (All-push IsLegalPly (plies ms) (ply_after ms m) t.0 t.1),
)

pub legal_beginning : (ms ns : List MoveWord) → IsLegalLine (ms ++ ns) → IsLegalLine ms
unfolding IsLegalLine
legal_beginning ms ns h = All-append_left IsLegalPly (plies ms) (plies_from (position_after ms) ns) (subst (All IsLegalPly) (plies-append ms ns) h)

pub legal_rest : (ms ns : List MoveWord) → IsLegalLine (ms ++ ns) → All IsLegalPly (plies_from (position_after ms) ns)
unfolding IsLegalLine
legal_rest ms ns h = All-append_right IsLegalPly (plies ms) (plies_from (position_after ms) ns) (subst (All IsLegalPly) (plies-append ms ns) h)

-- what holds at the start, and after each legal move if it held before, holds after each legal line
pub legal_induction : (P : List MoveWord → Type 0) → P [] → ((ms : List MoveWord) (m : MoveWord) → IsLegalLine ms → IsLegalPly (ply_after ms m) → P ms → P (ms ++ m ∷ [])) → (ms : List MoveWord) → IsLegalLine ms → P ms
legal_induction P start step ms =
    snoc_induction (λ (l : List MoveWord). IsLegalLine l → P l)
    (λ _. start)
    (λ l m now legal. let t = (one_more_is_legal l m).0 legal in step l m t.0 t.1 (now t.0)) ms

starts_at_a_position : IsPosition (position_after [])
unfolding position_after
starts_at_a_position = start_is_position

pub legal_position : (known : LawsOfMoves) (ms : List MoveWord) → IsLegalLine ms → IsPosition (position_after ms)
legal_position known ms legal =
    legal_induction (λ (l : List MoveWord). IsPosition (position_after l))
    starts_at_a_position
    (λ l m whole ply now. subst IsPosition (sym (position_after-push l m)) (known.positions (position_after l) m now ply.word ply.legal))
    ms legal

pub legal_positions : (known : LawsOfMoves) (ms : List MoveWord) → IsLegalLine ms → All IsPosition (line ms)
legal_positions known ms legal =
    legal_induction (λ (l : List MoveWord). All IsPosition (line l))
    (subst (All IsPosition) (sym line-nil) (All-cons IsPosition start_parts [] start_is_position (All-nil IsPosition)))
    (λ l m whole ply now.
    subst (All IsPosition) (sym (line-push l m))
    (All-push IsPosition (line l) (position_after (l ++ m ∷ [])) now (legal_position known (l ++ m ∷ []) ((one_more_is_legal l m).1 (whole, ply)))))
    ms legal
