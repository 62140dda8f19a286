-- Where a text that spells no position goes wrong first.
use Rattle.std.specs.Prelude.{ℕ, ◌≡◌, ◌≤◌, ◌-◌, ◌==◌, zero, suc, false, List, length, take, if◌then◌else◌, IsTrue}
use Rattle.std.specs.List.{slice_split, after_first}
use Rattle.board.specs.declared.parts.Parts.{Parts}
use Rattle.board.specs.declared.fen.fault.FenFault.{FenFault}
use Rattle.board.specs.Piece.{other}
use Rattle.board.specs.Attack.{king_attacked}
use Rattle.board.specs.Position.{IsBoard, HoldsRights, ep_holds}
use Rattle.board.specs.Fen.{fields_of}

-- a field ends at the next space or at the end of the text
abbrev pub fields : List ℕ → List (List ℕ)
fields text = slice_split (λ b. b == 32) text

-- what is asked of the first n fields beside their form
pub record Meets (n : ℕ) (p : Parts) : Type 0 where
  pub board : 1 ≤ n → IsBoard p.cells
  pub safe : 2 ≤ n → king_attacked p.cells (other p.turn) ≡ false
  pub rights : 3 ≤ n → HoldsRights p.cells p.rights
  pub ep : 4 ≤ n → IsTrue (ep_holds p.cells p.turn p.ep)
  pub half_most : 5 ≤ n → p.half ≤ 65535
  pub number_least : 6 ≤ n → 1 ≤ p.number
  pub number_most : 6 ≤ n → p.number ≤ 65535

-- the text's first n fields are those of the parts and meet what is asked of them. Where n is 7, these are all fields
pub record Begins (text : List ℕ) (n : ℕ) (p : Parts) : Type 0 where
  pub spelled : take n (fields text) ≡ take n (fields_of p)
  pub meets : Meets n p

-- the text's first n fields are good: some parts have them
abbrev pub CanStand : List ℕ → ℕ → Type 0
CanStand text n = (p : Parts) × Begins text n p

-- what stands behind the first n spaces, or nothing where there are fewer
abbrev pub behind : ℕ → List ℕ → List ℕ
behind zero text = text
behind (suc n) text = behind n (after_first (λ b. b == 32) text)

-- where field n begins, counted from 1, or the text's length where it is missing
abbrev pub beginning : List ℕ → ℕ → ℕ
beginning text n = length text - length (behind (n - 1) text)

-- where a fault lies: at its field's first byte, and for bytes behind the sixth field at the first of them, which is a space
abbrev pub place : List ℕ → ℕ → ℕ
place text n = if n == 7 then beginning text 7 - 1 else beginning text n

-- the fields before this one can stand, and with it they cannot
pub record IsFirstFault (text : List ℕ) (f : FenFault) : Type 0 where
  pub before : CanStand text (f.field - 1)
  pub refused : ¬ (CanStand text f.field)
  pub at : f.at ≡ place text f.field
