-- What a repetition is.
use Rattle.std.proofs.Common.{◌≡◌, ◌≢◌, ℕ, refl, sym, ap, ◌∙◌, Bool, true, false, Option, None, Some, if◌then◌else◌, ◌↔◌, IsTrue, ◌&&◌, ◌==◌, not}
use Rattle.std.proofs.lemmas.Bool.{and_parts, false_from_ne_true, eqb-true}
use Rattle.board.specs.declared.parts.Parts.{Parts}
use Rattle.board.specs.Square.{file_of}
use Rattle.board.specs.Moves.{MoveWord}
use Rattle.board.specs.Position.{without_ep}
use Rattle.board.proofs.Equal.{same-means}
use Rattle.board.specs.Pawns.{is_ep}
use Rattle.move_rules.specs.After.{is_pawn_move, is_en_passant}
use Rattle.move_rules.specs.Legal.{legal}
use Rattle.move_rules.specs.Lists.{SomeMove}
use Rattle.move_rules.specs.EnPassant.{ep_legal, canonical}
use Rattle.game_line.specs.Below.{LawsOfMoves}
use Rattle.game_line.specs.Repetition.{capture_square, IsRepetition, is_repetition}

-- what dropping an unused en passant square leaves
pub record Keeps (p q : Parts) : Type 0 where
  pub cells : q.cells ≡ p.cells
  pub turn : q.turn ≡ p.turn
  pub rights : q.rights ≡ p.rights
  pub half : q.half ≡ p.half

keeps_by : (used : Bool) (p : Parts) → Keeps p (if used then p else without_ep p)
keeps_by true p = record { cells = refl; turn = refl; rights = refl; half = refl }
keeps_by false p = record { cells = refl; turn = refl; rights = refl; half = refl }

pub canonical_keeps : (p : Parts) → Keeps p (canonical p)
canonical_keeps p = keeps_by (ep_legal p) p

ep_by : (used : Bool) (p : Parts) → (if used then p else without_ep p).ep ≡ (if used then p.ep else None)
ep_by true p = refl
ep_by false p = refl

canonical_ep : (p : Parts) → (canonical p).ep ≡ capture_square p
canonical_ep p = ep_by (ep_legal p) p

pub repetition_means : (p q : Parts) → IsTrue (is_repetition p q) ↔ IsRepetition p q
unfolding is_repetition
repetition_means p q =
    let one = canonical_keeps p in
    let two = canonical_keeps q in
    let means = same-means (canonical p) (canonical q) in (
      λ h.
          let s = means.0 h in
          record {
            turn = sym one.turn ∙ s.turn ∙ two.turn;
            cells = sym one.cells ∙ s.cells ∙ two.cells;
            rights = sym one.rights ∙ s.rights ∙ two.rights;
            capture = sym (canonical_ep p) ∙ s.ep ∙ canonical_ep q;
          },
      λ r.
          means.1
          (record {
            cells = one.cells ∙ r.cells ∙ sym two.cells;
            turn = one.turn ∙ r.turn ∙ sym two.turn;
            rights = one.rights ∙ r.rights ∙ sym two.rights;
            ep = canonical_ep p ∙ r.capture ∙ sym (canonical_ep q);
          }),
    )

pub repeats_itself : (p : Parts) → is_repetition p p ≡ true
repeats_itself p = (repetition_means p p).1 (record { turn = refl; cells = refl; rights = refl; capture = refl })

-- other boards are no repetition
pub other_board : (p q : Parts) → p.cells ≢ q.cells → is_repetition p q ≡ false
other_board p q ne = false_from_ne_true (is_repetition p q) (λ h. ne ((repetition_means p q).0 h).cells)

pub lost_right : (p q : Parts) → p.rights ≢ q.rights → is_repetition p q ≡ false
lost_right p q ne = false_from_ne_true (is_repetition p q) (λ h. ne ((repetition_means p q).0 h).rights)

pub other_capture : (p q : Parts) → capture_square p ≢ capture_square q → is_repetition p q ≡ false
other_capture p q ne = false_from_ne_true (is_repetition p q) (λ h. ne ((repetition_means p q).0 h).capture)

is_ep_tells : (s : ℕ) (ep : Option ℕ) → is_ep s ep ≡ true → ep ≡ Some s
is_ep_tells s None h = cc
is_ep_tells s (Some e) h = ap Some (sym (eqb-true s e h))

captured_on : (p : Parts) (m : MoveWord) → is_en_passant p m ≡ true → p.ep ≡ Some m.to
captured_on p m h =
    let aside = and_parts (is_pawn_move p m && is_ep m.to p.ep) (not (file_of m.from == file_of m.to)) h in
    is_ep_tells m.to p.ep (and_parts (is_pawn_move p m) (is_ep m.to p.ep) aside.0).1

capture_if : (used : Bool) (ep : Option ℕ) (s : ℕ) → (if used then ep else None) ≡ Some s → (used ≡ true) × (ep ≡ Some s)
capture_if true ep s h = (refl, h)
capture_if false ep s h = cc

pub capture_square_means : (known : LawsOfMoves) (p : Parts) (s : ℕ) → (capture_square p ≡ Some s) ↔ SomeMove (λ m. IsTrue (is_en_passant p m) × IsTrue (legal p m) × (m.to ≡ s))
capture_square_means known p s = (
  λ h.
      let t = capture_if (ep_legal p) p.ep s h in
      let m = (known.en_passant p).0 t.0 in
      let on : ◌≡◌ {A = Option ℕ} (Some m.0.to) (Some s) = sym (captured_on p m.0 m.2.0) ∙ t.1 in
      let at : m.0.to ≡ s = cc in
      (m.0, m.1, (m.2.0, m.2.1, at)),
  λ t.
      let used : ep_legal p ≡ true = (known.en_passant p).1 (t.0, t.1, (t.2.0, t.2.1)) in
      ap (λ b. if b then p.ep else None) used ∙ captured_on p t.0 t.2.0 ∙ ap Some t.2.2,
)
