-- No later move takes a pawn move or a capture back.
use Rattle.std.proofs.Common.{◌≡◌, ◌≢◌, ◌<◌, ◌≤◌, List, [], ◌∷◌, ◌++◌, refl, sym, ap, ◌∙◌, subst, true, false, inl, inr, arith}
use Rattle.std.specs.List.{All}
use Rattle.std.proofs.lemmas.Bool.{cases_Bool}
use Rattle.std.proofs.lemmas.List.Elements.{All-nil, All-cons, All-head, All-tail, All-append}
use Rattle.board.specs.declared.parts.Parts.{Parts}
use Rattle.board.specs.Moves.{MoveWord}
use Rattle.board.specs.Position.{IsPosition}
use Rattle.move_rules.specs.After.{after, is_quiet}
use Rattle.move_rules.specs.Weight.{weigh, weight_of}
use Rattle.game_line.specs.Below.{LawsOfMoves}
use Rattle.board.specs.Start.{start_parts}
use Rattle.game_line.specs.Line.{plies, plies_from, position_after, line_from, line, IsLegalPly, IsLegalLine}
use Rattle.game_line.specs.Quiet.{quiet, positions_before, positions_since}
use Rattle.game_line.specs.Repetition.{is_repetition}
use Rattle.game_line.proofs.Lists.{All-push, All-implies}
use Rattle.game_line.proofs.Lines.{ply_after, position_after-nil, position_after-push, legal_induction, legal_beginning, legal_rest, legal_position}
use Rattle.game_line.proofs.Quiets.{since_goes_on, since_begins_anew, before_stays, before_is_all, line_in_two}
use Rattle.game_line.proofs.Repetitions.{other_board}

-- no move makes the board heavier
never_heavier : (known : LawsOfMoves) (p : Parts) (m : MoveWord) → IsPosition p → IsLegalPly (record { before = p; move = m }) → weight_of (after p m) ≤ weight_of p
never_heavier known p m position ply =
    elim (cases_Bool (is_quiet p m)) [
      | inl quiet ↦ let same : weight_of (after p m) ≡ weight_of p = known.quiet p m position ply.word ply.legal quiet in omega arith
      | inr final ↦ let less : weight_of (after p m) < weight_of p = known.others p m position ply.word ply.legal final in omega arith
    ]

-- along legal moves no board is heavier than the first
first_is_heaviest : (known : LawsOfMoves) (p : Parts) (ms : List MoveWord) → IsPosition p → All IsLegalPly (plies_from p ms) → All (λ (q : Parts). weight_of q ≤ weight_of p) (line_from p ms)
unfolding line_from
first_is_heaviest known p [] position legal = All-cons (λ (q : Parts). weight_of q ≤ weight_of p) p [] (omega arith) (All-nil _)
first_is_heaviest known p (m ∷ ms) position legal =
    let ply = All-head IsLegalPly (record { before = p; move = m }) (plies_from (after p m) ms) legal in
    let rest = All-tail IsLegalPly (record { before = p; move = m }) (plies_from (after p m) ms) legal in
    let next = first_is_heaviest known (after p m) ms (known.positions p m position ply.word ply.legal) rest in
    let step : weight_of (after p m) ≤ weight_of p = never_heavier known p m position ply in
    All-cons (λ (q : Parts). weight_of q ≤ weight_of p) p (line_from (after p m) ms) (omega arith)
    (All-implies (λ (q : Parts). weight_of q ≤ weight_of (after p m)) (λ (q : Parts). weight_of q ≤ weight_of p) (line_from (after p m) ms) (λ q h. omega arith) next)

-- the boards before the last pawn move or capture are heavier than the last, and those since weigh as much
pub record Weighed (ms : List MoveWord) : Type 0 where
  pub before : All (λ (p : Parts). weight_of (position_after ms) < weight_of p) (positions_before ms)
  pub since : All (λ (q : Parts). weight_of q ≡ weight_of (position_after ms)) (positions_since ms)

before-nil : positions_before [] ≡ []
unfolding positions_before quiet plies
before-nil = refl

pub since-nil : positions_since [] ≡ start_parts ∷ []
unfolding positions_since quiet plies line line_from
since-nil = refl

weighed_start : Weighed []
weighed_start = record {
  before = subst (All (λ (p : Parts). weight_of (position_after []) < weight_of p)) (sym before-nil) (All-nil _);
  since =
      subst (All (λ (q : Parts). weight_of q ≡ weight_of (position_after []))) (sym since-nil)
      (All-cons (λ (q : Parts). weight_of q ≡ weight_of (position_after [])) start_parts [] (ap weight_of (sym position_after-nil)) (All-nil _));
}

weighed_quiet : (ms : List MoveWord) (m : MoveWord) → is_quiet (position_after ms) m ≡ true → weight_of (position_after (ms ++ m ∷ [])) ≡ weight_of (position_after ms) → Weighed ms → Weighed (ms ++ m ∷ [])
weighed_quiet ms m quiet same now =
    let new = position_after (ms ++ m ∷ []) in
    record {
      before =
          subst (All (λ (p : Parts). weight_of new < weight_of p)) (sym (before_stays ms m quiet))
          (All-implies (λ (p : Parts). weight_of (position_after ms) < weight_of p) (λ (p : Parts). weight_of new < weight_of p) (positions_before ms) (λ p h. omega arith) now.before);
      since =
          subst (All (λ (q : Parts). weight_of q ≡ weight_of new)) (sym (since_goes_on ms m quiet))
          (All-push (λ (q : Parts). weight_of q ≡ weight_of new) (positions_since ms) new
          (All-implies (λ (q : Parts). weight_of q ≡ weight_of (position_after ms)) (λ (q : Parts). weight_of q ≡ weight_of new) (positions_since ms) (λ q h. h ∙ sym same) now.since) refl);
    }

weighed_anew : (ms : List MoveWord) (m : MoveWord) → is_quiet (position_after ms) m ≡ false → weight_of (position_after (ms ++ m ∷ [])) < weight_of (position_after ms) → Weighed ms → Weighed (ms ++ m ∷ [])
weighed_anew ms m final less now =
    let new = position_after (ms ++ m ∷ []) in
    let Heavier : Parts → Type 0 = λ p. weight_of new < weight_of p in
    let older = All-implies (λ (p : Parts). weight_of (position_after ms) < weight_of p) Heavier (positions_before ms) (λ p h. omega arith) now.before in
    let newer = All-implies (λ (q : Parts). weight_of q ≡ weight_of (position_after ms)) Heavier (positions_since ms) (λ q h. omega arith) now.since in
    record {
      before = subst (All Heavier) (line_in_two ms ∙ sym (before_is_all ms m final)) (All-append Heavier (positions_before ms) (positions_since ms) older newer);
      since =
          subst (All (λ (q : Parts). weight_of q ≡ weight_of new)) (sym (since_begins_anew ms m final))
          (All-cons (λ (q : Parts). weight_of q ≡ weight_of new) new [] refl (All-nil _));
    }

weight_after : (ms : List MoveWord) (m : MoveWord) → weight_of (position_after (ms ++ m ∷ [])) ≡ weight_of (after (position_after ms) m)
weight_after ms m = ap weight_of (position_after-push ms m)

weighed_step : (known : LawsOfMoves) (ms : List MoveWord) (m : MoveWord) → IsPosition (position_after ms) → IsLegalPly (ply_after ms m) → Weighed ms → Weighed (ms ++ m ∷ [])
weighed_step known ms m position ply now =
    elim (cases_Bool (is_quiet (position_after ms) m)) [
      | inl quiet ↦ weighed_quiet ms m quiet (weight_after ms m ∙ known.quiet (position_after ms) m position ply.word ply.legal quiet) now
      | inr final ↦ weighed_anew ms m final (let same = weight_after ms m in let less : weight_of (after (position_after ms) m) < weight_of (position_after ms) = known.others (position_after ms) m position ply.word ply.legal final in omega arith) now
    ]

pub weighed : (known : LawsOfMoves) (ms : List MoveWord) → IsLegalLine ms → Weighed ms
weighed known ms legal =
    legal_induction Weighed weighed_start
    (λ l m whole ply now. weighed_step known l m (legal_position known l whole) ply now) ms legal

-- so nothing before repeats anything since
pub none_before_is_repeated : (known : LawsOfMoves) (ms : List MoveWord) → IsLegalLine ms → All (λ (p : Parts). All (λ (q : Parts). is_repetition p q ≡ false) (positions_since ms)) (positions_before ms)
none_before_is_repeated known ms legal =
    let w = weighed known ms legal in
    All-implies (λ (p : Parts). weight_of (position_after ms) < weight_of p) (λ (p : Parts). All (λ (q : Parts). is_repetition p q ≡ false) (positions_since ms)) (positions_before ms)
    (λ p heavier.
    All-implies (λ (q : Parts). weight_of q ≡ weight_of (position_after ms)) (λ (q : Parts). is_repetition p q ≡ false) (positions_since ms)
    (λ q same. other_board p q (λ e. let equal : weight_of p ≡ weight_of q = ap (weigh 0) e in omega arith)) w.since)
    w.before

-- the last board of a line is the lightest
last_is_lightest : (known : LawsOfMoves) (ms : List MoveWord) → IsLegalLine ms → All (λ (p : Parts). weight_of (position_after ms) ≤ weight_of p) (line ms)
last_is_lightest known ms legal =
    let w = weighed known ms legal in
    let NoLighter : Parts → Type 0 = λ p. weight_of (position_after ms) ≤ weight_of p in
    subst (All NoLighter) (line_in_two ms)
    (All-append NoLighter (positions_before ms) (positions_since ms)
    (All-implies (λ (p : Parts). weight_of (position_after ms) < weight_of p) NoLighter (positions_before ms) (λ p h. omega arith) w.before)
    (All-implies (λ (q : Parts). weight_of q ≡ weight_of (position_after ms)) NoLighter (positions_since ms) (λ q h. omega arith) w.since))

pub nothing_is_undone : (known : LawsOfMoves) (ms : List MoveWord) (m : MoveWord) (ns : List MoveWord) → IsLegalLine (ms ++ m ∷ ns) → is_quiet (position_after ms) m ≡ false → All (λ (p : Parts). All (λ (q : Parts). p.cells ≢ q.cells) (line_from (after (position_after ms) m) ns)) (line ms)
nothing_is_undone known ms m ns legal final =
    let whole = legal_beginning ms (m ∷ ns) legal in
    let at = position_after ms in
    let position = legal_position known ms whole in
    let rest = legal_rest ms (m ∷ ns) legal in
    let ply = All-head IsLegalPly (ply_after ms m) (plies_from (after at m) ns) rest in
    let later = first_is_heaviest known (after at m) ns (known.positions at m position ply.word ply.legal) (All-tail IsLegalPly (ply_after ms m) (plies_from (after at m) ns) rest) in
    let less : weight_of (after at m) < weight_of at = known.others at m position ply.word ply.legal final in
    All-implies (λ (p : Parts). weight_of at ≤ weight_of p) (λ (p : Parts). All (λ (q : Parts). p.cells ≢ q.cells) (line_from (after at m) ns)) (line ms)
    (λ p no_lighter.
    All-implies (λ (q : Parts). weight_of q ≤ weight_of (after at m)) (λ (q : Parts). p.cells ≢ q.cells) (line_from (after at m) ns)
    (λ q no_heavier e. let equal : weight_of p ≡ weight_of q = ap (weigh 0) e in omega arith) later)
    (last_is_lightest known ms whole)
