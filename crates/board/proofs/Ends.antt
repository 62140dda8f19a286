-- Where the six fields begin, and where they end.
use Rattle.std.proofs.Common.{◌≡◌, ℕ, zero, suc, ◌+◌, ◌-◌, ◌<◌, ◌≤◌, ◌==◌, List, [], length, None, arith, ap, sym, ◌∙◌, refl, length-take, length-drop}
use Rattle.std.specs.List.{join_with_byte, after_first}
use Rattle.std.proofs.lemmas.List.{take_all}
use Rattle.std.proofs.lemmas.List.Splits.{join_with_byte-slice_split}
use Rattle.board.specs.declared.piece.Colour.TheVariants.{White}
use Rattle.board.specs.declared.parts.Parts.{Parts}
use Rattle.board.specs.Position.{IsPosition}
use Rattle.board.specs.Fen.{fields_of, fen_of}
use Rattle.board.specs.FenFaults.{fields, Meets, Begins, CanStand, behind, beginning, place}
use Rattle.board.specs.Reading.{no_rights}
use Rattle.board.proofs.Splits.{space_in, part, fields_go_on, fields_end}
use Rattle.board.proofs.Stages.{Settles}

-- no component at all
abbrev pub blank : Parts
blank = record { cells = []; turn = White; rights = no_rights; ep = None; half = 0; number = 0 }

-- before the first field nothing is settled
pub settled : (text : List ℕ) → Settles text 0 blank
settled text = record {
  begins = record {
    spelled = refl;
    meets = record {
      board = λ h. absurd (omega arith);
      safe = λ h. absurd (omega arith);
      rights = λ h. absurd (omega arith);
      ep = λ h. absurd (omega arith);
      half_most = λ h. absurd (omega arith);
      number_least = λ h. absurd (omega arith);
      number_most = λ h. absurd (omega arith);
    };
  };
  only = λ q b. refl;
}

behind_len : (n : ℕ) (text : List ℕ) → length (behind n text) ≤ length text
behind_len zero text = omega arith
behind_len (suc n) text =
    let rest = after_first (λ b. b == 32) text in
    omega (arith, behind_len n rest, length-drop (space_in text + 1) text)

-- the sixth field goes to the end exactly where no space stands behind it
pub ends_early : (text : List ℕ) (at : ℕ) (field : List ℕ) → at ≡ beginning text 6 → field ≡ part text 5 → at + length field < length text → space_in (behind 5 text) < length (behind 5 text)
ends_early text at field begins is h =
    let long = ap length is ∙ length-take (space_in (behind 5 text)) (behind 5 text) in
    omega (arith, behind_len 5 text)

pub ends_late : (text : List ℕ) (at : ℕ) (field : List ℕ) → at ≡ beginning text 6 → field ≡ part text 5 → length text ≤ at + length field → length (behind 5 text) ≤ space_in (behind 5 text)
ends_late text at field begins is h =
    let long = ap length is ∙ length-take (space_in (behind 5 text)) (behind 5 text) in
    omega (arith, behind_len 5 text)

-- and there the first byte behind it stands
pub end_place : (text : List ℕ) (at : ℕ) (field : List ℕ) → at ≡ beginning text 6 → field ≡ part text 5 → space_in (behind 5 text) < length (behind 5 text) → at + length field ≡ place text 7
end_place text at field begins is h =
    let long = ap length is ∙ length-take (space_in (behind 5 text)) (behind 5 text) in
    let next : length (behind 6 text) ≡ length (behind 5 text) - (space_in (behind 5 text) + 1) = length-drop (space_in (behind 5 text) + 1) (behind 5 text) in
    omega (arith, behind_len 5 text, next)

six_fields : (text : List ℕ) (p : Parts) → Begins text 6 p → 5 < length (fields text)
six_fields text p b = let e = ap length b.spelled in omega (arith, length-take 6 (fields text))

-- a seventh field is none of any parts
pub too_many : (text : List ℕ) (p : Parts) → Begins text 6 p → space_in (behind 5 text) < length (behind 5 text) → ¬ (CanStand text 7)
too_many text p b h = λ (q, more).
    let seven = fields_go_on 5 text (six_fields text p b) h in
    let e = ap length more.spelled in
    absurd (omega (arith, length-take 7 (fields text)))

-- six good fields and nothing behind them are the whole text
pub whole_text : (text : List ℕ) (p : Parts) → Begins text 6 p → length (behind 5 text) ≤ space_in (behind 5 text) → fen_of p ≡ text
whole_text text p b h =
    let six = fields_end 5 text (six_fields text p b) h in
    let all : fields_of p ≡ fields text = sym b.spelled ∙ take_all 6 (fields text) (omega arith) in
    ap (join_with_byte 32) all ∙ join_with_byte-slice_split 32 text

-- parts whose fields are good are those of a position
pub position_of : (p : Parts) → Meets 6 p → IsPosition p
position_of p m = record {
  board = m.board (omega arith);
  safe = m.safe (omega arith);
  rights = m.rights (omega arith);
  ep = m.ep (omega arith);
  half_most = m.half_most (omega arith);
  number_least = m.number_least (omega arith);
  number_most = m.number_most (omega arith);
}
